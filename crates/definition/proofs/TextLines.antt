-- Request §3: "with two spaces of indent per Ns and one item to a line." The lines of an accepted tree are one for each of its items, in order, with that
-- item's tokens at the number of Ns records that hold it, and one `}` for each block (`lines_are`, `entries_are`), whichever records lie between; a
-- Mo's own Ops can be one more (`line_count`).
use Prim.Native.Nat.{ℕ, zero, suc, ◌+◌, ◌-◌, ◌*◌}
use Prim.Native.String.{String}
use mathlib.Core.Path.{◌≡◌, refl, ap, ap₂, sym, ◌∙◌, subst}
use mathlib.Core.List.{List, [], ◌∷◌, ◌++◌, map, append-nil}
use mathlib.Core.Bool.{Bool, true, false, cond, not, ◌&&◌, ◌||◌}
use native.Mathlib.Omega.{arith}
use lib.ListN.{length, length-append, length-map, replicate}
use lib.Dec.{eqb}
use borrow.Author.Tests.{eqb-true, eqb-false, ne_eqb}
use Rattle.definition.specs.Tree.{Head, Rec, Recs, rec, nil, cons, tree_at}
use Rattle.definition.specs.Grammar.{mark, marks, member, Part, one, many, grammar, known, slots, place, allowed, after, root, optional}
use Rattle.definition.specs.Check.{slots_of, inside, fine, deepest, check_tree}
use Rattle.definition.specs.Record.{mark_of, text}
use Rattle.definition.specs.Formed.{Formed, FormedAll}
use Rattle.definition.specs.Text.{token, size_of, body_of, tokens, Line, item_line, items_lines, block_lines, first_block, second_block, first_line, lines_of, indent}
use Rattle.definition.specs.TextLines.{ItemAt, is_item, lists_items, depth_in, items, all_items, items_of, blocks, all_blocks, Entry, item, end, entries, all_entries, entries_of, items_among, ends_among, line_of}
use Rattle.definition.proofs.Tests.{by_eq}
use Rattle.definition.proofs.Kids.{inside-plain}
use Rattle.definition.proofs.Formed.{formed}
use Rattle.definition.proofs.TextLeftOut.{root-mark}
use Rattle.definition.proofs.Spaces.{holders, bodies, lacks, lacks-allowed, lacks-after, not-one, inside-lacks, slot_of}

-- ---- the lines of entries

abbrev lines_for : List Entry → List Line
lines_for es = map line_of es

lines_join : (xs ys : List Entry) → lines_for (xs ++ ys) ≡ lines_for xs ++ lines_for ys
lines_join [] ys = refl
lines_join (x ∷ xs) ys = ap (λ (l : List Line). line_of x ∷ l) (lines_join xs ys)

-- ---- records that hold no items

-- one that is no Ns and can hold none
mutual
  unfolding entries Formed member

  other_none : (r : Rec) (ps : List Part) (d at : ℕ) → Formed ps r → member (mark_of r) holders ≡ false → entries r false d at ≡ []
  other_none (rec h ks) ps d at f n =
      rw (
        not-one holders (mark "Mo") refl h.mark n,
        not-one holders (mark "Nb") refl h.mark n,
        all_none ks (inside ps h.mark) (depth_in d h.mark) (body_of at h) f.2 (inside-lacks ps h.mark n),
      ) refl

  all_none : (rs : Recs) (ps : List Part) (d at : ℕ) → FormedAll ps rs → lacks holders ps ≡ true → all_entries rs false d at ≡ []
  all_none nil ps d at f c = refl
  all_none (cons r rs) ps d at f c =
      ap₂ ◌++◌ (other_none r ps d at f.0 (lacks-allowed holders ps c (mark_of r) (slot_of ps r f.0)))
      (all_none rs (after ps (mark_of r)) d (at + size_of r) f.1 (lacks-after holders ps c (mark_of r)))

other_block : (h : Head) (ks : Recs) (d at : ℕ) → member h.mark holders ≡ false → block_lines (rec h ks) d at ≡ []
unfolding items_lines member
other_block h ks d at n =
    rw (
      not-one holders (mark "Nb") refl h.mark n,
      not-one holders (mark "Ed") refl h.mark n,
      not-one holders (mark "Ns") refl h.mark n,
      not-one holders (mark "Nd") refl h.mark n,
    ) refl

-- ---- the block in a record

-- slots by the mark of the record that has them
slots_of_lem : (ps : List Part) (ks : Recs) (m k : ℕ) → m ≡ k → eqb k (mark "Ag") ≡ false → FormedAll (inside ps m) ks → FormedAll (slots_of k) ks
slots_of_lem ps ks m k e n f = subst (λ (qs : List Part). FormedAll qs ks) (ap (inside ps) e ∙ inside-plain ps k (eqb-false k (mark "Ag") n)) f

-- the children of an Ns or an Nd: its name, its body, Ops
abbrev space_slots : String → List Part
space_slots S = one "Op" ∷ one S ∷ many "Op" ∷ []

-- marks that no body of a namespace has
abbrev outers : List ℕ
outers = mark "Ns" ∷ mark "Ed" ∷ mark "Mo" ∷ []

-- an item's line, and the lines of its block
item-lines : (r : Rec) (d at : ℕ) → block_lines r d at ≡ lines_for (entries r false d at) → item_line r d at (block_lines r d at) ≡ lines_for (entries r true d at)
unfolding entries member
item-lines (rec h ks) d at q = go (eqb h.mark (mark "St")) (eqb h.mark (mark "Op")) refl refl
  where
    none : member h.mark holders ≡ false → [] ≡ lines_for (entries (rec h ks) false d at)
    none n = sym (other_block h ks d at n) ∙ q

    go : (a b : Bool) → eqb h.mark (mark "St") ≡ a → eqb h.mark (mark "Op") ≡ b →
        cond (a || b) [] (record { spaces = d; tokens = tokens (rec h ks) false at } ∷ block_lines (rec h ks) d at) ≡
        lines_for (cond (true && not (a || b)) (item (record { itself = rec h ks; depth = d; at = at }) ∷ []) [] ++ entries (rec h ks) false d at)
    go true b s o = none (rw (eqb-true h.mark (mark "St") s) refl)
    go false true s o = none (rw (eqb-true h.mark (mark "Op") o) refl)
    go false false s o = ap (λ (ls : List Line). record { spaces = d; tokens = tokens (rec h ks) false at } ∷ ls) q

-- the line behind a block, which has the indent of the Ns
end-lines : (ls : List Line) (es : List Entry) (d : ℕ) → ls ≡ lines_for es → ls ++ (record { spaces = d; tokens = token (text "}") ∷ [] } ∷ []) ≡ lines_for (es ++ (end (suc d) ∷ []))
end-lines ls es d q =
    let e : d ≡ suc d - 1 = omega arith in
    ap₂ (λ (xs : List Line) (n : ℕ). xs ++ (record { spaces = n; tokens = token (text "}") ∷ [] } ∷ [])) q e ∙ sym (lines_join es (end (suc d) ∷ []))

mutual
  unfolding entries items_lines Formed member allowed marks after grammar known slots place

  -- items that d Ns records hold
  items-lines : (ks : Recs) (ps : List Part) (d at : ℕ) → FormedAll ps ks → lacks bodies ps ≡ true → items_lines ks d at ≡ lines_for (all_entries ks true d at)
  items-lines nil ps d at f l = refl
  items-lines (cons r rs) ps d at f l =
      ap₂ ◌++◌ (item-lines r d at (outer_lines r ps d at f.0 (lacks-allowed bodies ps l (mark_of r) (slot_of ps r f.0))))
      (items-lines rs (after ps (mark_of r)) d (at + size_of r) f.1 (lacks-after bodies ps l (mark_of r)))
      ∙ sym (lines_join (entries r true d at) (all_entries rs true d (at + size_of r)))

  -- an item, and what is exported by an Ed
  outer_lines : (r : Rec) (ps : List Part) (d at : ℕ) → Formed ps r → member (mark_of r) bodies ≡ false → block_lines r d at ≡ lines_for (entries r false d at)
  outer_lines (rec h ks) ps d at f b =
      by_eq h.mark (mark "Ed") (λ e. rw (e, append-nil) (first-lines ks d (body_of at h) (slots_of_lem ps ks h.mark (mark "Ed") e refl f.2))) λ x.
      by_eq h.mark (mark "Ns") (λ e. rw (e, append-nil) (second-lines ks (optional "Nb Nd") d (body_of at h) (slots_of_lem ps ks h.mark (mark "Ns") e refl f.2) refl)) λ n.
      let o : member h.mark holders ≡ false = rw (ne_eqb h.mark (mark "Ed") x, ne_eqb h.mark (mark "Ns") n) b in
      other_block h ks d at o ∙ ap lines_for (sym (other_none (rec h ks) ps d at f o))

  first-lines : (ks : Recs) (d at : ℕ) → FormedAll (slots_of (mark "Ed")) ks → first_block ks d at ≡ lines_for (all_entries ks false d at)
  first-lines nil d at f = refl
  first-lines (cons r ops) d at f =
      rw (all_none ops (many "Op" ∷ []) d (at + size_of r) f.1 refl, append-nil)
      (outer_lines r (slots_of (mark "Ed")) d at f.0 (lacks-allowed bodies (slots_of (mark "Ed")) refl (mark_of r) (slot_of (slots_of (mark "Ed")) r f.0)))

  -- the children of an Ns that d Ns records hold
  second-lines : (ks : Recs) (S : String) (d at : ℕ) → FormedAll (space_slots S) ks → lacks outers (one S ∷ []) ≡ true → second_block ks d at ≡ lines_for (all_entries ks false (suc d) at)
  second-lines nil S d at f l = refl
  second-lines (cons name rs) S d at f l =
      rw (other_none name (space_slots S) (suc d) at f.0 (lacks-allowed holders (one "Op" ∷ []) refl (mark_of name) (slot_of (space_slots S) name f.0)))
      (body-first rs S d (at + size_of name) f.1 l)

  body-first : (ks : Recs) (S : String) (d at : ℕ) → FormedAll (one S ∷ many "Op" ∷ []) ks → lacks outers (one S ∷ []) ≡ true → first_block ks d at ≡ lines_for (all_entries ks false (suc d) at)
  body-first nil S d at f l = refl
  body-first (cons b ops) S d at f l =
      rw (all_none ops (many "Op" ∷ []) (suc d) (at + size_of b) f.1 refl, append-nil)
      (body-lines b (one S ∷ many "Op" ∷ []) d at f.0 (lacks-allowed outers (one S ∷ []) l (mark_of b) (slot_of (one S ∷ many "Op" ∷ []) b f.0)))

  body-lines : (r : Rec) (ps : List Part) (d at : ℕ) → Formed ps r → member (mark_of r) outers ≡ false → block_lines r d at ≡ lines_for (entries r false (suc d) at)
  body-lines (rec h ks) ps d at f b =
      by_eq h.mark (mark "Nb")
      (λ e. rw e (end-lines (items_lines ks (suc d) (body_of at h)) (all_entries ks true (suc d) (body_of at h)) d
      (items-lines ks (slots_of (mark "Nb")) (suc d) (body_of at h) (slots_of_lem ps ks h.mark (mark "Nb") e refl f.2) refl))) λ x.
      by_eq h.mark (mark "Nd") (λ e. rw (e, append-nil) (second-lines ks "Nb Nd" d (body_of at h) (slots_of_lem ps ks h.mark (mark "Nd") e refl f.2) refl)) λ n.
      let o : member h.mark holders ≡ false = rw (ne_eqb h.mark (mark "Nb") x, ne_eqb h.mark (mark "Nd") n) b in
      other_block h ks d at o ∙ ap lines_for (sym (other_none (rec h ks) ps (suc d) at f o))

-- ---- a module

-- behind the Mo's own first line, if it has one, the text has a line for each entry and no other
pub lines_are : (r : Rec) → Formed root r → lines_of r ≡ first_line (tokens r false 0) ++ map line_of (entries_of r)
unfolding lines_of entries_of entries Formed grammar known slots place marks member
lines_are (rec h ks) f =
    let e = root-mark (rec h ks) f in
    ap (λ (ls : List Line). first_line (tokens (rec h ks) false 0) ++ ls)
    (rw (e, append-nil) (items-lines ks (slots_of (mark "Mo")) 0 (body_of 0 h) (slots_of_lem root ks h.mark (mark "Mo") e refl f.2) refl))

-- ---- the items and the ends among the entries

among-join : (xs ys : List Entry) → items_among (xs ++ ys) ≡ items_among xs ++ items_among ys
unfolding items_among
among-join [] ys = refl
among-join (item x ∷ xs) ys = ap (λ (l : List ItemAt). x ∷ l) (among-join xs ys)
among-join (end d ∷ xs) ys = among-join xs ys

ends_join : (xs ys : List Entry) → ends_among (xs ++ ys) ≡ ends_among xs + ends_among ys
unfolding ends_among
ends_join [] ys = omega arith
ends_join (item x ∷ xs) ys = ends_join xs ys
ends_join (end d ∷ xs) ys = omega (arith, ends_join xs ys)

-- an item, what it holds, and the end of a block
among-step : (a b : Bool) (x : ItemAt) (d : ℕ) (es : List Entry) →
    items_among (cond a (item x ∷ []) [] ++ (es ++ cond b (end d ∷ []) [])) ≡ cond a (x ∷ []) [] ++ items_among es
unfolding items_among
among-step a b x d es = go a
  where
    behind : (c : Bool) → items_among (es ++ cond c (end d ∷ []) []) ≡ items_among es
    behind true = among-join es (end d ∷ []) ∙ append-nil (items_among es)
    behind false = ap items_among (append-nil es)

    go : (c : Bool) → items_among (cond c (item x ∷ []) [] ++ (es ++ cond b (end d ∷ []) [])) ≡ cond c (x ∷ []) [] ++ items_among es
    go true = ap (λ (l : List ItemAt). x ∷ l) (behind b)
    go false = behind b

ends-step : (a b : Bool) (x : ItemAt) (d : ℕ) (es : List Entry) → ends_among (cond a (item x ∷ []) [] ++ (es ++ cond b (end d ∷ []) [])) ≡ cond b 1 0 + ends_among es
unfolding ends_among
ends-step a b x d es = go a
  where
    behind : (c : Bool) → ends_among (es ++ cond c (end d ∷ []) []) ≡ cond c 1 0 + ends_among es
    behind true = omega (arith, ends_join es (end d ∷ []))
    behind false = omega (arith, ap ends_among (append-nil es))

    go : (c : Bool) → ends_among (cond c (item x ∷ []) [] ++ (es ++ cond b (end d ∷ []) [])) ≡ cond b 1 0 + ends_among es
    go true = behind b
    go false = behind b

mutual
  unfolding entries items items_among

  among_are : (r : Rec) (listed : Bool) (d at : ℕ) → items_among (entries r listed d at) ≡ items r listed d at
  among_are (rec h ks) listed d at =
      among-step (is_item listed h.mark) (eqb h.mark (mark "Nb")) (record { itself = rec h ks; depth = d; at = at }) d
      (all_entries ks (lists_items h.mark) (depth_in d h.mark) (body_of at h))
      ∙ ap (λ (xs : List ItemAt). cond (is_item listed h.mark) (record { itself = rec h ks; depth = d; at = at } ∷ []) [] ++ xs)
      (all_among_are ks (lists_items h.mark) (depth_in d h.mark) (body_of at h))

  all_among_are : (ks : Recs) (listed : Bool) (d at : ℕ) → items_among (all_entries ks listed d at) ≡ all_items ks listed d at
  all_among_are nil listed d at = refl
  all_among_are (cons r rs) listed d at =
      among-join (entries r listed d at) (all_entries rs listed d (at + size_of r)) ∙ ap₂ ◌++◌ (among_are r listed d at) (all_among_are rs listed d (at + size_of r))

mutual
  unfolding entries blocks ends_among

  ends_are : (r : Rec) (listed : Bool) (d at : ℕ) → ends_among (entries r listed d at) ≡ blocks r
  ends_are (rec h ks) listed d at =
      ends-step (is_item listed h.mark) (eqb h.mark (mark "Nb")) (record { itself = rec h ks; depth = d; at = at }) d
      (all_entries ks (lists_items h.mark) (depth_in d h.mark) (body_of at h))
      ∙ ap (λ (n : ℕ). cond (eqb h.mark (mark "Nb")) 1 0 + n) (all_ends_are ks (lists_items h.mark) (depth_in d h.mark) (body_of at h))

  all_ends_are : (ks : Recs) (listed : Bool) (d at : ℕ) → ends_among (all_entries ks listed d at) ≡ all_blocks ks
  all_ends_are nil listed d at = refl
  all_ends_are (cons r rs) listed d at =
      ends_join (entries r listed d at) (all_entries rs listed d (at + size_of r)) ∙ ap₂ ◌+◌ (ends_are r listed d at) (all_ends_are rs listed d (at + size_of r))

-- the entries are the items, in order, and between them one end for each block; in any tree
pub entries_are : (r : Rec) → (items_among (entries_of r) ≡ items_of r) × (ends_among (entries_of r) ≡ blocks r)
unfolding entries_of items_of
entries_are r = (among_are r false 0 0, ends_are r false 0 0)

entries-length : (es : List Entry) → length es ≡ length (items_among es) + ends_among es
unfolding items_among ends_among
entries-length [] = refl
entries-length (item x ∷ es) = omega (arith, entries-length es)
entries-length (end d ∷ es) = omega (arith, entries-length es)

-- so many lines there are
pub line_count : (r : Rec) → Formed root r → length (lines_of r) ≡ length (first_line (tokens r false 0)) + length (items_of r) + blocks r
line_count r f = rw (lines_are r f) (simp (length-append, length-map) (omega (arith, entries-length (entries_of r), ap length (entries_are r).0, (entries_are r).1)))

-- ---- accepted trees

module _ (tree list : List ℕ) (e : ℕ) (f : check_tree tree list ≡ fine e) where
  pub accepted-lines : lines_of (tree_at deepest tree 0) ≡ first_line (tokens (tree_at deepest tree 0) false 0) ++ map line_of (entries_of (tree_at deepest tree 0))
  accepted-lines = lines_are (tree_at deepest tree 0) (formed tree list e f)

  pub accepted-count : length (lines_of (tree_at deepest tree 0)) ≡
      length (first_line (tokens (tree_at deepest tree 0) false 0)) + length (items_of (tree_at deepest tree 0)) + blocks (tree_at deepest tree 0)
  accepted-count = line_count (tree_at deepest tree 0) (formed tree list e f)

-- ---- "two spaces of indent per Ns"

pub indent-is : (d : ℕ) → indent d ≡ replicate (2 * d) 32
unfolding indent
indent-is zero = refl
indent-is (suc d) =
    let e : suc (suc (2 * d)) ≡ 2 * suc d = omega arith in
    ap (λ (l : List ℕ). 32 ∷ 32 ∷ l) (indent-is d) ∙ ap (λ (n : ℕ). replicate n 32) e
