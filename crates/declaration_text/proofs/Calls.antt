-- The call: a dry run, and the run into exactly the room that it takes; what the check found decides.
use mathlib.Core.Path.{◌≡◌, refl, sym, ap, ◌∙◌, subst}
use mathlib.Core.List.{List, [], ◌∷◌, ◌++◌}
use mathlib.Core.Bool.{Bool, true, false, cond, ◌||◌}
use Prim.Native.Nat.{ℕ, ◌*◌, ◌<◌, ◌≤◌, ◌^◌}
use native.Mathlib.Omega.{arith}
use lib.Dec.{leb, ltb}
use mir.Syntax.{w8}
use mir.Val
use lib.ListN.{length, get_or, take, drop, length-append}
use lib.Seq.{length-sets, length-take-le}
use borrow.Author.Tests.{le-leb, lt-leb, lt-ltb, le-ltb}
use Rattle.std.specs.declared.result.Result.{Result}
use Rattle.std.specs.declared.result.Result.TheVariants.{Ok, Err}
use Rattle.definition.specs.Tree.{Rec, rec, tree_at}
use Rattle.definition.specs.Check.{fine, refused, longest_tree, deepest, check_tree}
use Rattle.definition.specs.Check as Check
use Rattle.definition.specs.Children.{AcceptedAt}
use Rattle.definition.specs.Transform.{done, over}
use Rattle.definition.specs.Transform as Transform
use Rattle.definition.specs.Text.{Token, Line, tokens, any_written, first_line, items_lines, lines_of, lines_bytes, body_of, first_outside, nowhere, Written, written_text, text_by, call_text, text_of}
use Rattle.definition.specs.TextNumbers.{numbers_fit}
use Rattle.definition.proofs.Accepted.{accepted-tree}
use Rattle.definition.proofs.TextBound.{accepted-text, text-succeeds}
use Rattle.definition.specs.Record.{head_of, kids_of}
use Rattle.definition.proofs.Children.{root-accepted}
use Rattle.records.specs.declared.tree.Record.{Record}
use Rattle.records.specs.declared.tree.Records.{Records}
use Rattle.records.specs.Views.{rec_of, recs_of, ChildrenOf}
use Rattle.declaration_text.proofs.Parts.{body_here}
use Rattle.grammar.specs.Answers.{number, checked}
use Rattle.grammar.specs.declared.Refusal.TheVariants.{OutputFull, NumberOutside}
use Rattle.grammar.specs.declared.Refused.{Refused}
use Rattle.records.specs.Wrote.{sat}
use Rattle.records.proofs.Stores.{copy-all, part_sets}
use Rattle.records.proofs.Whole.{slice_bytes}
use Rattle.text_tokens.specs.declared.State.{State}
use Rattle.text_tokens.specs.Writes.{Writes}
use Rattle.declaration_text.specs.Lines.{WritesLines, lines_seen}
use Rattle.declaration_text.specs.Answers.{start, Accepted, answered, Gives}
use Rattle.declaration_text.proofs.LinesWritten.{lines_none}
use Rattle.declaration_text.proofs.Places.{seen-none, seen-place}
use Rattle.std.specs.Prelude.{Some, None}
use Rattle.definition.proofs.Converse.{read-accepted}

-- ---- a module

-- its lines: those of its own Ops, then those of its items
pub module_lines : {r : Record} → r.at ≡ 0 → {k : Records} → ChildrenOf r k → first_line (tokens (rec_of r) false 0) ++ items_lines (recs_of k) 0 k.at ≡ lines_of (rec_of r)
unfolding lines_of
module_lines {r} z c = rw (c.are, c.place, ← body_here r) (go (rec_of r) r.at z)
  where
    go : (y : Rec) (at : ℕ) → at ≡ 0 → first_line (tokens y false 0) ++ items_lines (kids_of y) 0 (body_of at (head_of y)) ≡ lines_of y
    go (rec h ks) at e = rw e

-- a run begins where all is empty
pub started : (s : State) → (s.written ≡ 0) × ((s.last ≡ None) × ((s.some ≡ false) × (s.place ≡ None))) → s ≡ start
started s h = λ i. record { written = h.0 i; last = h.1.0 i; some = h.1.1.0 i; place = h.1.1.1 i }

-- it stands at the root's offset
pub first_at : (r : Record) → r.at ≡ 0 → first_line (tokens (rec_of r) false r.at) ≡ first_line (tokens (rec_of r) false 0)
first_at r e = ap (λ (k : ℕ). first_line (tokens (rec_of r) false k)) e

-- the line of its own Ops, if a dry run from where a run begins has written some
module _ {a b : List ℕ} {s d : State} {ts : List Token} (e : s ≡ start) (w : Writes a b s d ts) where
  some_is : d.some ≡ any_written ts
  some_is = w.some ∙ ap (λ (x : State). x.some || any_written ts) e

  pub first_some : d.some ≡ true → {o o' : List ℕ} {r : State} → WritesLines o o' s r (record { spaces = 0; tokens = ts } ∷ []) → WritesLines o o' start r (first_line ts)
  first_some t {o} {o'} {r} v = rw (← some_is, t) (subst (λ (x : State). WritesLines o o' x r (record { spaces = 0; tokens = ts } ∷ [])) e v)

  pub first-none : d.some ≡ false → (o : List ℕ) → WritesLines o o start s (first_line ts)
  first-none f o = rw (← some_is, f, e) (lines_none o start (omega arith))

-- ---- a dry run and the run

-- nothing is written where there is no room: the whole is as it was
front-none : (a b : List ℕ) → length a ≡ 0 → a ++ b ≡ b
front-none [] b h = refl
front-none (x ∷ a) b h = absurd (omega arith)

-- the first p bytes of a buffer are that many
pub part_length : (p : ℕ) (a b : List ℕ) → p ≤ length b → p ≡ length (take p (a ++ b))
part_length p a b h = sym (length-take-le p (a ++ b) (omega (arith, length-append a b)))

module _ {o1 : List ℕ} {r : State} {ls : List Line} (dry : WritesLines [] o1 start r ls) (out : List ℕ) where
  -- it says how long the text is and where the first number outside the forms stands; it has no room to write in
  size : r.written ≡ sat 0 (length (lines_bytes ls))
  size = dry.put.position

  nothing : length o1 ≡ 0
  nothing = ap length dry.put.bytes ∙ length-sets [] 0 (lines_bytes ls)

  kept : o1 ++ out ≡ out
  kept = front-none o1 out nothing

  pub number-outside : {p : ℕ} → (first_outside nowhere ls ≡ p) × (p < nowhere) → Gives (written_text ls out) (Err (record { refusal = NumberOutside; place = p })) (o1 ++ out)
  unfolding written_text
  number-outside {p} h = rw (h.0, lt-ltb p nowhere h.1) (record { answer = refl; output = kept })

  module _ (l : r.place ≡ None) where
    fit : ltb (first_outside nowhere ls) nowhere ≡ false
    fit = le-ltb (first_outside nowhere ls) nowhere (omega (arith, seen-none ls (sym l ∙ dry.place)))

    pub text_too_long : length out < r.written → Gives (written_text ls out) (Err (record { refusal = OutputFull; place = 0 })) (o1 ++ out)
    unfolding written_text
    text_too_long h =
        rw (fit, lt-leb (length (lines_bytes ls)) (length out) (omega (arith, size)))
        (record { answer = refl; output = kept })

    pub text-done : r.written ≤ length out → length out < 2 ^ 63 → {o2 : List ℕ} {s : State} → WritesLines (take r.written (o1 ++ out)) o2 start s ls
        → Gives (written_text ls out) (Ok r.written) (o2 ++ drop r.written (o1 ++ out))
    unfolding written_text
    text-done h m {o2} w =
        let n : r.written ≡ length (lines_bytes ls) = omega (arith, size) in
        let x : o2 ≡ lines_bytes ls =
        w.put.bytes ∙ copy-all (take r.written (o1 ++ out)) (lines_bytes ls) (sym (part_length r.written o1 out h) ∙ n) in
        rw (fit, le-leb (length (lines_bytes ls)) (length out) (omega arith))
        (record { answer = λ i. done (n i) 0; output = rw (kept, x, n) })

-- ---- a run that is sure to succeed

module _ {tree : List ℕ} (a : Accepted tree) where
  pub accepted-root : AcceptedAt deepest tree 0
  accepted-root = root-accepted tree [] a.end a.checked

  pub accepted-short : length tree ≤ longest_tree
  accepted-short = (accepted-tree tree [] a.end a.checked).0.short

  -- a place that the code saw lies in the tree
  pub place_seen : ((i : ℕ) → mir.Val.Fits w8 (get_or tree i 0)) → {p : ℕ} → Some p ≡ lines_seen None (lines_of (tree_at deepest tree 0))
      → (first_outside nowhere (lines_of (tree_at deepest tree 0)) ≡ p) × (p < nowhere)
  place_seen known {p} e =
      let t = read-accepted tree [] a.end (slice_bytes tree known) a.checked in
      seen-place (tree_at deepest tree 0) (omega (arith, accepted-short, ap length t.same)) p e

  pub certain_done : ((i : ℕ) → mir.Val.Fits w8 (get_or tree i 0)) → (out : List ℕ) → length out < 2 ^ 63
      → (6 * length tree ≤ length out) × (numbers_fit (tree_at deepest tree 0) ≡ true) → {o : List ℕ} {r : State} → WritesLines out o start r (lines_of (tree_at deepest tree 0))
      → Gives (written_text (lines_of (tree_at deepest tree 0)) out) (Ok r.written) o
  unfolding call_text text_by text_of
  certain_done known out m h {o} {r} w =
      let bytes = slice_bytes tree known in
      let E : List ℕ = lines_bytes (lines_of (tree_at deepest tree 0)) in
      let l : length E ≤ 6 * length tree = accepted-text tree [] a.end bytes a.checked in
      let s : written_text (lines_of (tree_at deepest tree 0)) out ≡ record { answer = done (length E) 0; out = over E out } =
      rw a.checked at (text-succeeds tree out a.end bytes a.checked h.1 h.0) in
      let n : r.written ≡ length E = omega (arith, w.put.position, h.0, l) in
      rw s (record { answer = λ i. done (n i) 0; output = w.put.bytes ∙ sym (part_sets out 0 E (omega (arith, h.0, l))) })

-- ---- the call

module _ (tree out : List ℕ) {f : Result ℕ Refused} (c : checked f ≡ check_tree tree []) where
  -- refusals 1 and 3 to 8
  pub call-refused : {r : Refused} → f ≡ Err r → Gives (call_text tree out) (Err r) out
  unfolding call_text text_by
  call-refused {r} q =
      let e : check_tree tree [] ≡ refused (number r.refusal) r.place = sym c ∙ ap checked q in
      rw e (record { answer = refl; output = refl })

  -- an accepted tree
  module _ {e : ℕ} (q : f ≡ Ok e) where
    tree-fine : check_tree tree [] ≡ fine e
    tree-fine = sym c ∙ ap checked q

    pub call-root : Accepted tree
    call-root = record { end = e; checked = tree-fine }

    pub call-accepted : {r : Result ℕ Refused} {o : List ℕ} → Gives (written_text (lines_of (tree_at deepest tree 0)) out) r o → Gives (call_text tree out) r o
    unfolding call_text text_by
    call-accepted w = rw tree-fine w

-- ---- a success: what was written is a part of the buffer

never_done : (k p n m : ℕ) → Transform.refused k p ≡ done n m → ⊥
never_done k p n m e = let z : ◌≡◌ {A = ℕ} 0 1 = cc in omega arith

-- what is written of lines, by the two tests
abbrev either : List Line → List ℕ → Bool → Bool → Written
either ls out a b =
    cond a (record { answer = Transform.refused 11 (first_outside nowhere ls); out = out })
    (cond b (record { answer = done (length (lines_bytes ls)) 0; out = over (lines_bytes ls) out }) (record { answer = Transform.refused 9 0; out = out }))

written-inside : (ls : List Line) (out : List ℕ) (n : ℕ) → (written_text ls out).answer ≡ done n 0 → n ≤ length (written_text ls out).out
unfolding written_text
written-inside ls out n = go (ltb (first_outside nowhere ls) nowhere) (leb (length (lines_bytes ls)) (length out))
  where
    go : (a b : Bool) → (either ls out a b).answer ≡ done n 0 → n ≤ length (either ls out a b).out
    go true b e = absurd (never_done 11 (first_outside nowhere ls) n 0 e)
    go false true e = let z : length (lines_bytes ls) ≡ n = cc in omega (arith, z, length-append (lines_bytes ls) (drop (length (lines_bytes ls)) out))
    go false false e = absurd (never_done 9 0 n 0 e)

inside : (f : Check.Checked) (tree out : List ℕ) (n : ℕ) → (text_by f tree out).answer ≡ done n 0 → n ≤ length (text_by f tree out).out
unfolding text_by
inside (fine e) tree out n q = written-inside (lines_of (tree_at deepest tree 0)) out n q
inside (refused k p) tree out n q = absurd (never_done k p n 0 q)

module _ (tree out : List ℕ) {a : Result ℕ Refused} {o : List ℕ} (w : Gives (call_text tree out) a o) {n : ℕ} (q : a ≡ Ok n) where
  pub text-inside : n ≤ length o
  unfolding call_text
  text-inside = omega (arith, inside (check_tree tree []) tree out n (sym w.answer ∙ ap answered q), ap length w.output)

  pub text-length : n ≡ length (take n o)
  text-length = sym (length-take-le n o text-inside)
