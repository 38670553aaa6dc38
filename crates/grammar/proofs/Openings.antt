-- The tests of a record by itself, a law for each answer of the code.
use mathlib.Core.Path.{◌≡◌, refl, sym, ap, ◌∙◌}
use mathlib.Core.List.{List, [], ◌∷◌}
use mathlib.Core.Bool.{Bool, true, false, cond}
use Prim.Native.Nat.{ℕ, suc, ◌+◌, ◌-◌, ◌<◌, ◌≤◌}
use native.Mathlib.Nat.{le_of_suc-le-suc, not-suc-le-zero}
use native.Mathlib.Omega.{arith}
use borrow.Author.Tests.{lt-ltb, le-ltb, le-leb, lt-leb, eqb-true}
use lib.Dec.{eqb}
use lib.ListN.{length, get_or, take, drop}
use Rattle.definition.specs.Tree.{head_size, mark_at, length_at, count_at, flags_at, start_at, last_at, text_at}
use Rattle.definition.specs.Grammar.{Part, Form, known, forms, slots, place, least, allowed, after}
use Rattle.definition.specs.Check.{has_form, form_of, slots_of, inside, Opening, Opening.opened, Opening.stopped, open_body, open_at}
use Rattle.records.specs.Fields.{fields_at}
use Rattle.records.specs.declared.Head.{Head}
use Rattle.grammar.specs.Slots.{parts_from, form_at}
use Rattle.grammar.proofs.Printed.{rows}
use Rattle.grammar.proofs.Lookups.{known-long}

-- the mark at a place that was found is the mark that was looked for
place_at : (xs : List ℕ) (m : ℕ) → place xs m < length xs → get_or xs (place xs m) 0 ≡ m
unfolding place
place_at [] m h = absurd (not-suc-le-zero h)
place_at (x ∷ xs) m h = go (eqb x m) refl h (place_at xs m)
  where
    go : (b : Bool) → eqb x m ≡ b → cond b 0 (suc (place xs m)) < suc (length xs) →
        (place xs m < length xs → get_or xs (place xs m) 0 ≡ m) → get_or (x ∷ xs) (cond b 0 (suc (place xs m))) 0 ≡ m
    go true e l f = eqb-true x m e
    go false e l f = f (le_of_suc-le-suc l)

pub mark-back : (code m : ℕ) → code ≡ place known m → code < rows → get_or known code 0 ≡ m
mark-back code m e h = ap (λ (k : ℕ). get_or known k 0) e ∙ place_at known m (omega (arith, known-long))

pub cut_head : (s : List ℕ) (at : ℕ) (ps : List Part) → length s - at < head_size → stopped 3 ≡ open_at s at ps
unfolding open_at
cut_head s at ps a = rw (lt-ltb (length s - at) head_size a)

-- h is the head that was read, and `code` the number of its mark
module _ (s : List ℕ) (at : ℕ) (ps : List Part) (h : Head) (code : ℕ) (is : h ≡ fields_at s at) (num : code ≡ place known h.mark) where
  mark-is : h.mark ≡ mark_at s at
  mark-is = ap (λ (x : Head). x.mark) is

  -- ---- "3 (head), 4, 5 (slot; root must be Mo), 6"

  module _ (a : head_size ≤ length s - at) where
    number_is : place known (mark_at s at) ≡ code
    number_is = ap (place known) (sym mark-is) ∙ sym num

    pub unknown_mark : rows ≤ code → stopped 4 ≡ open_at s at ps
    unfolding open_at
    unknown_mark b =
        rw (le-ltb (length s - at) head_size a, le-leb (length known) (place known (mark_at s at)) (omega (arith, number_is, known-long)))

    module _ (b : code < rows) where
      known-mark : place known (mark_at s at) < length known
      known-mark = omega (arith, number_is, known-long)

      same-mark : get_or known code 0 ≡ mark_at s at
      same-mark = mark-back code h.mark num b ∙ mark-is

      -- the slots that come after the record
      pub slots-after : (qs : List Part) → qs ≡ after ps (get_or known code 0) → qs ≡ after ps (mark_at s at)
      slots-after qs q = q ∙ ap (after ps) same-mark

      pub wrong_slot : allowed ps (get_or known code 0) ≡ false → stopped 5 ≡ open_at s at ps
      unfolding open_at
      wrong_slot d = rw (le-ltb (length s - at) head_size a, lt-leb _ _ known-mark, sym (ap (allowed ps) same-mark) ∙ d)

      module _ (d : allowed ps (get_or known code 0) ≡ true) where
        start_is : h.start ≡ start_at s at
        start_is = ap (λ (x : Head). x.start) is

        end_is : h.end ≡ last_at s at
        end_is = ap (λ (x : Head). x.end) is

        pub backward : h.end < h.start → stopped 6 ≡ open_at s at ps
        unfolding open_at
        backward e =
            rw (le-ltb (length s - at) head_size a, lt-leb _ _ known-mark, sym (ap (allowed ps) same-mark) ∙ d, lt-ltb (last_at s at) (start_at s at) (omega (arith, start_is, end_is)))

        -- o is what the rest of the tests finds
        pub head_fine : h.start ≤ h.end → (o : Opening) → o ≡ open_body s at ps h.mark → o ≡ open_at s at ps
        unfolding open_at
        head_fine e o q =
            q ∙ rw (mark-is, le-ltb (length s - at) head_size a, lt-leb _ _ known-mark, sym (ap (allowed ps) same-mark) ∙ d, le-ltb (last_at s at) (start_at s at) (omega (arith, start_is, end_is)))

  -- ---- "3 (text), 5 (text, count)"

  length-is : h.text ≡ length_at s at
  length-is = ap (λ (x : Head). x.text) is

  count-is : h.count ≡ count_at s at
  count-is = ap (λ (x : Head). x.count) is

  pub cut_text : length s - (at + head_size) < h.text → stopped 3 ≡ open_body s at ps h.mark
  unfolding open_body
  cut_text a = rw (lt-ltb (length s - (at + head_size)) (length_at s at) (omega (arith, length-is)))

  module _ (form : Form) (f : form ≡ get_or forms code (form_at 0)) (a : h.text ≤ length s - (at + head_size)) where
    -- what the code asks of the part of the tree that the text fills
    abbrev Asked : Bool → Type 0
    Asked b = has_form form h.flags (take (at + head_size + h.text - (at + head_size)) (drop (at + head_size) s)) ≡ b

    asked : (b : Bool) → Asked b → has_form (form_of h.mark) (flags_at s at) (text_at s at) ≡ b
    unfolding form_at
    asked b e =
        let g : h.flags ≡ flags_at s at = ap (λ (x : Head). x.flags) is in
        let d : at + head_size + h.text - (at + head_size) ≡ length_at s at = omega (arith, length-is) in
        rw (f, num, g, d) at e

    room : length_at s at ≤ length s - (at + head_size)
    room = omega (arith, length-is)

    pub wrong_text : Asked false → stopped 5 ≡ open_body s at ps h.mark
    unfolding open_body
    wrong_text e = rw (le-ltb (length s - (at + head_size)) (length_at s at) room, asked false e)

    module _ (e : Asked true) (low : ℕ) (l : low ≡ least (get_or slots code [])) where
      low-is : low ≡ least (slots_of h.mark)
      low-is = l ∙ ap (λ (k : ℕ). least (get_or slots k [])) num

      pub too_few : h.count < low → stopped 5 ≡ open_body s at ps h.mark
      unfolding open_body
      too_few d =
          rw (le-ltb (length s - (at + head_size)) (length_at s at) room, asked true e, lt-ltb (count_at s at) (least (slots_of h.mark)) (omega (arith, count-is, low-is)))

      pub body-fine : low ≤ h.count → (slot : ℕ) → parts_from slot ≡ inside ps h.mark →
          opened (at + head_size + h.text) h.count (parts_from slot) ≡ open_body s at ps h.mark
      unfolding open_body
      body-fine d slot q =
          rw (le-ltb (length s - (at + head_size)) (length_at s at) room, asked true e, le-ltb (count_at s at) (least (slots_of h.mark)) (omega (arith, count-is, low-is)), q, length-is, count-is)
