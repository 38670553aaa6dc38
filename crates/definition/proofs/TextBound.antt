-- Request §3: how long a text can be. The text of an accepted tree has at most six bytes for each of the tree (`text-short`, `accepted-text`), and no
-- smaller number would do (`five_too_few`). A byte of a string can become six, and the 90 for a head of 15 bytes pay for the words of a row, for what
-- parts a record from its neighbours, and for a line with an indent of at most 62 bytes. So the call succeeds if the buffer is six times as long as
-- the tree and each number fits (`text-succeeds`).
use Prim.Native.Nat.{ℕ, zero, suc, ◌+◌, ◌*◌, ◌≤◌}
use mathlib.Core.Path.{◌≡◌, refl, ap, sym, ◌∙◌, subst}
use mathlib.Core.Logic.{◌⊎◌, inl, inr}
use mathlib.Core.List.{List, [], ◌∷◌, ◌++◌, map}
use mathlib.Core.Bool.{Bool, true, false, cond, not, ◌&&◌, ◌||◌}
use native.Mathlib.Omega.{arith}
use lib.ListN.{length, replicate, length-append}
use lib.Dec.{eqb}
use borrow.Author.Tests.{eqb-true, eqb-false, le-leb}
use Rattle.definition.specs.Tree.{Head, Rec, Recs, rec, nil, cons, depth, depths, head_bytes, encode, encodes, Bytes, tree_at}
use Rattle.definition.specs.Grammar.{mark, marks, member, Part, grammar, known, forms, slots, place, allowed, after, least, is_property, root}
use Rattle.definition.specs.Check.{slots_of, inside, has_form, open_body, open_at, fine, check_all, check_at, list_fine, entries_fine, deepest, check_tree}
use Rattle.definition.specs.Record.{mark_of, is, one}
use Rattle.definition.specs.Formed.{Formed, FormedAll}
use Rattle.definition.specs.Text.{
  Token,
  escaped_byte,
  escaped,
  any_written,
  text_rows,
  row_in,
  holds,
  each_of,
  what_tokens,
  pieces_tokens,
  size_of,
  body_of,
  tokens,
  Line,
  items_lines,
  first_line,
  lines_of,
  tokens_bytes,
  indent,
  line_bytes,
  lines_bytes,
  text_of,
  written_text,
  text_by,
  call_text,
}
use Rattle.definition.specs.TextNumbers.{numbers_fit}
use Rattle.definition.specs.Transform.{done, over}
use Rattle.definition.specs.TextLines.{lists_items, is_item, depth_in, Entry, item, end, entries, all_entries, entries_of, line_of}
use Rattle.definition.proofs.Tests.{never}
use Rattle.definition.proofs.TextOutside.{size_is, sizes_are}
use Rattle.definition.proofs.Converse.{read-accepted}
use Rattle.definition.proofs.Kids.{inside-plain}
use Rattle.definition.proofs.SmallTrees.{leaf, node, module_of}
use Rattle.definition.proofs.Formed.{formed}
use Rattle.definition.proofs.Spaces.{bodies, lacks, lacks-allowed, lacks-after, not-one, slot_of}
use Rattle.definition.proofs.TextLeftOut.{root-mark}
use Rattle.definition.proofs.TextLines.{lines_are}
use Rattle.definition.proofs.TextNumbers.{numbers_fit_lem}
use Rattle.definition.proofs.TextWeights.{weight, tokens-short, cost, costs, cost-is, tokens-weight}

-- ---- lines

indent-length : (d : ℕ) → length (indent d) ≡ 2 * d
unfolding indent
indent-length zero = refl
indent-length (suc d) = omega (arith, indent-length d)

-- a line, with its line feed
abbrev line_weight : Line → ℕ
line_weight l = 2 * l.spaces + weight l.tokens + 1

line_short : (l : Line) → length (line_bytes l) ≤ line_weight l
line_short l =
    omega (
      arith,
      length-append (indent l.spaces) (tokens_bytes false l.tokens ++ (10 ∷ [])),
      length-append (tokens_bytes false l.tokens) (10 ∷ []),
      indent-length l.spaces,
      tokens-short l.tokens false,
    )

abbrev entries_weight : List Entry → ℕ
entries_weight [] = 0
entries_weight (e ∷ es) = line_weight (line_of e) + entries_weight es

entries-join : (xs ys : List Entry) → entries_weight (xs ++ ys) ≡ entries_weight xs + entries_weight ys
entries-join [] ys = omega arith
entries-join (x ∷ xs) ys = omega (arith, entries-join xs ys)

lines-short : (es : List Entry) → length (lines_bytes (map line_of es)) ≤ entries_weight es
unfolding lines_bytes
lines-short [] = omega arith
lines-short (e ∷ es) = omega (arith, length-append (line_bytes (line_of e)) (lines_bytes (map line_of es)), line_short (line_of e), lines-short es)

lines_append : (xs ys : List Line) → length (lines_bytes (xs ++ ys)) ≡ length (lines_bytes xs) + length (lines_bytes ys)
unfolding lines_bytes
lines_append [] ys = omega arith
lines_append (x ∷ xs) ys =
    omega (arith, length-append (line_bytes x) (lines_bytes (xs ++ ys)), length-append (line_bytes x) (lines_bytes xs), lines_append xs ys)

-- a record's line, if it is an item, and the end of its block, if it is an Nb. What stands on another's line is weighed there
module _ (h : Head) (ks : Recs) (d at : ℕ) (es : List Entry) where
  abbrev Short : Bool → Type 0
  Short listed =
      entries_weight (cond (is_item listed h.mark) (item (record { itself = rec h ks; depth = d; at = at }) ∷ []) [] ++ (es ++ cond (eqb h.mark (mark "Nb")) (end d ∷ []) []))
      + cond (listed && not (eqb h.mark (mark "Op"))) 0 (4 + cost (rec h ks)) ≤ 6 * size_of (rec h ks)

  entry-short : (listed : Bool) → (listed ≡ true → eqb h.mark (mark "Nb") ≡ false) → (listed ≡ true → 2 * d ≤ 62) → 2 * d ≤ 63 →
      entries_weight es + costs ks (lists_items h.mark) ≤ 6 * length (encodes ks) → Short listed
  entry-short listed nb low lower ih = go listed (eqb h.mark (mark "St")) (eqb h.mark (mark "Op")) (eqb h.mark (mark "Nb")) nb low (cost-is h ks)
    where
      x : Entry
      x = item (record { itself = rec h ks; depth = d; at = at })

      go : (i s o b : Bool) → (i ≡ true → b ≡ false) → (i ≡ true → 2 * d ≤ 62) →
          cost (rec h ks) ≡ cond b 2 27 + 6 * length h.text + costs ks (lists_items h.mark) →
          entries_weight (cond (i && not (s || o)) (x ∷ []) [] ++ (es ++ cond b (end d ∷ []) [])) + cond (i && not o) 0 (4 + cost (rec h ks)) ≤ 6 * size_of (rec h ks)
      go true s o true f l c = absurd (never (sym (f refl)))
      go true true true false f l c = omega (arith, size_is h ks, entries-join es [])
      go true true false false f l c = omega (arith, size_is h ks, entries-join es [])
      go true false true false f l c = omega (arith, size_is h ks, entries-join es [])
      go true false false false f l c = omega (arith, size_is h ks, entries-join es [], tokens-weight (rec h ks) false at, l refl)
      go false s o true f l c = omega (arith, size_is h ks, entries-join es (end d ∷ []))
      go false s o false f l c = omega (arith, size_is h ks, entries-join es [])

-- ---- how far a line is indented

-- an Ns holds no Ns but through an Nb, so that two levels of the tree stand for an indent
abbrev space : List ℕ
space = mark "Ns" ∷ []

-- the children in the slots ps, held by d Ns records: those of an Ns can be one level lower than others, but are neither Ns nor items
abbrev Low : List Part → Recs → Bool → ℕ → Type 0
Low ps ks listed d = (2 * d + depths ks ≤ 63) ⊎ ((lacks space ps ≡ true) × (listed ≡ false) × (2 * d + depths ks ≤ 64))

-- the slots of a mark's children
inside-slots : (xs : List ℕ) (ps : List Part) (m k : ℕ) → m ≡ k → eqb k (mark "Ag") ≡ false → lacks xs (slots_of k) ≡ true → lacks xs (inside ps m) ≡ true
inside-slots xs ps m k e n l = subst (λ (qs : List Part). lacks xs qs ≡ true) (sym (ap (inside ps) e ∙ inside-plain ps k (eqb-false k (mark "Ag") n))) l

-- items are no bodies
items_lack : (ps : List Part) (m : ℕ) → lists_items m ≡ true → lacks bodies (inside ps m) ≡ true
unfolding grammar known slots place marks member
items_lack ps m = go (eqb m (mark "Mo")) (eqb m (mark "Nb")) refl refl
  where
    go : (a b : Bool) → eqb m (mark "Mo") ≡ a → eqb m (mark "Nb") ≡ b → (a || b) ≡ true → lacks bodies (inside ps m) ≡ true
    go true b p q e = inside-slots bodies ps m (mark "Mo") (eqb-true m (mark "Mo") p) refl refl
    go false true p q e = inside-slots bodies ps m (mark "Nb") (eqb-true m (mark "Nb") q) refl refl
    go false false p q e = absurd (never e)

low-inside : (ps : List Part) (h : Head) (ks : Recs) (d : ℕ) → 2 * d + suc (depths ks) ≤ 64 → (eqb h.mark (mark "Ns") ≡ true → 2 * d + suc (depths ks) ≤ 63) →
    Low (inside ps h.mark) ks (lists_items h.mark) (depth_in d h.mark)
unfolding grammar known slots place marks member
low-inside ps h ks d l n = go (eqb h.mark (mark "Ns")) refl n
  where
    lists-not : (m : ℕ) → m ≡ mark "Ns" → lists_items m ≡ false
    lists-not m e = rw e refl

    go : (b : Bool) → eqb h.mark (mark "Ns") ≡ b → (b ≡ true → 2 * d + suc (depths ks) ≤ 63) → Low (inside ps h.mark) ks (lists_items h.mark) (cond b (suc d) d)
    go true e m =
        let k = eqb-true h.mark (mark "Ns") e in
        let z = m refl in
        inr (inside-slots space ps h.mark (mark "Ns") k refl refl, lists-not h.mark k, omega arith)
    go false e m = inl (omega arith)

-- the lines of a record, and of records one after the other
mutual
  unfolding entries Formed depth costs member

  record_short : (r : Rec) (ps : List Part) (listed : Bool) (d at : ℕ) → Formed ps r → (listed ≡ true → eqb (mark_of r) (mark "Nb") ≡ false) →
      (listed ≡ true → 2 * d + depth r ≤ 63) → (eqb (mark_of r) (mark "Ns") ≡ true → 2 * d + depth r ≤ 63) → 2 * d + depth r ≤ 64 →
      entries_weight (entries r listed d at) + cond (listed && not (is "Op" r)) 0 (4 + cost r) ≤ 6 * size_of r
  record_short (rec h ks) ps listed d at f nb low ns l =
      entry-short h ks d at (all_entries ks (lists_items h.mark) (depth_in d h.mark) (body_of at h)) listed nb (λ e. let z = low e in omega arith) (omega arith)
      (records-short ks (inside ps h.mark) (lists_items h.mark) (depth_in d h.mark) (body_of at h) f.2 (items_lack ps h.mark) (low-inside ps h ks d l ns))

  records-short : (ks : Recs) (ps : List Part) (listed : Bool) (d at : ℕ) → FormedAll ps ks → (listed ≡ true → lacks bodies ps ≡ true) → Low ps ks listed d →
      entries_weight (all_entries ks listed d at) + costs ks listed ≤ 6 * length (encodes ks)
  records-short nil ps listed d at f b l = omega arith
  records-short (cons r rs) ps listed d at f b (inl l) =
      omega (
        arith,
        entries-join (entries r listed d at) (all_entries rs listed d (at + size_of r)),
        sizes_are r rs,
        record_short r ps listed d at f.0 (λ e. not-one bodies (mark "Nb") refl (mark_of r) (lacks-allowed bodies ps (b e) (mark_of r) (slot_of ps r f.0)))
            (λ e. omega arith) (λ e. omega arith) (omega arith),
        records-short rs (after ps (mark_of r)) listed d (at + size_of r) f.1 (λ e. lacks-after bodies ps (b e) (mark_of r)) (inl (omega arith)),
      )
  records-short (cons r rs) ps listed d at f b (inr l) =
      omega (
        arith,
        entries-join (entries r listed d at) (all_entries rs listed d (at + size_of r)),
        sizes_are r rs,
        record_short r ps listed d at f.0 (λ e. absurd (never (sym l.1 ∙ e))) (λ e. absurd (never (sym l.1 ∙ e)))
            (λ e. absurd (never (sym (not-one space (mark "Ns") refl (mark_of r) (lacks-allowed space ps l.0 (mark_of r) (slot_of ps r f.0))) ∙ e))) (omega arith),
        records-short rs (after ps (mark_of r)) listed d (at + size_of r) f.1 (λ e. lacks-after bodies ps (b e) (mark_of r)) (inr (lacks-after space ps l.0 (mark_of r), l.1, omega arith)),
      )

-- ---- the law

first_short : (ts : List Token) → length (lines_bytes (first_line ts)) ≤ weight ts + 1
unfolding lines_bytes
first_short ts = go (any_written ts)
  where
    go : (b : Bool) → length (lines_bytes (cond b (record { spaces = 0; tokens = ts } ∷ []) [])) ≤ weight ts + 1
    go true = omega (arith, length-append (line_bytes (record { spaces = 0; tokens = ts })) [], line_short (record { spaces = 0; tokens = ts }))
    go false = omega arith

-- the text of a tree after the grammar, of at most 64 levels
pub text-short : (r : Rec) → Formed root r → depth r ≤ deepest → length (text_of r) ≤ 6 * length (encode r)
unfolding text_of entries_of
text-short r f l =
    let m = root-mark r f in
    let ns : eqb (mark_of r) (mark "Ns") ≡ false = rw m refl in
    rw (lines_are r f) (omega (
      arith,
      lines_append (first_line (tokens r false 0)) (map line_of (entries_of r)),
      first_short (tokens r false 0),
      tokens-weight r false 0,
      lines-short (entries_of r),
      record_short r root false 0 0 f (λ e. absurd (never e)) (λ e. absurd (never e)) (λ e. absurd (never (sym ns ∙ e))) (omega arith),
    ))

-- the text of an accepted tree
pub accepted-text : (tree list : List ℕ) (e : ℕ) → Bytes tree → check_tree tree list ≡ fine e → length (text_of (tree_at deepest tree 0)) ≤ 6 * length tree
accepted-text tree list e bytes f =
    let t = read-accepted tree list e bytes f in
    omega (arith, text-short (tree_at deepest tree 0) (formed tree list e f) t.depth, ap length t.same)

-- the call writes it if there is room for six bytes for each of the tree's, and no number is outside the forms
pub text-succeeds : (tree out : List ℕ) (e : ℕ) → Bytes tree → check_tree tree [] ≡ fine e → numbers_fit (tree_at deepest tree 0) ≡ true → 6 * length tree ≤ length out →
    call_text tree out ≡ record { answer = done (length (text_of (tree_at deepest tree 0))) 0; out = over (text_of (tree_at deepest tree 0)) out }
unfolding call_text text_by written_text text_of
text-succeeds tree out e bytes f n room =
    let b : List ℕ = lines_bytes (lines_of (tree_at deepest tree 0)) in
    rw (f, numbers_fit_lem (tree_at deepest tree 0) n, le-leb (length b) (length out) (omega (arith, accepted-text tree [] e bytes f))) refl

-- ---- an example

-- a string of 208 quotes
abbrev quotes : Rec
quotes = module_of (node "Xe" (one (leaf "Ss" (replicate 208 34))))

-- five bytes for each would be too few: an accepted tree of 253 bytes has a text of 1,266
pub five_too_few : (check_tree (encode quotes) [] ≡ fine 253) × (length (text_of quotes) ≡ 1266)
unfolding
    head_bytes encode marks member grammar known forms slots place allowed after least is_property has_form open_body open_at check_all check_at entries_fine list_fine check_tree
    escaped_byte escaped text_rows row_in holds each_of what_tokens pieces_tokens any_written tokens items_lines lines_of tokens_bytes indent lines_bytes text_of
five_too_few = (refl, refl)
