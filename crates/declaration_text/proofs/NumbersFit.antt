-- The walk of `numbers_fit`: the records that are pending stand in a row, and where all numbers of the row fit, all numbers of the tree fit.
use mathlib.Core.Path.{◌≡◌, refl, sym, ◌∙◌, ap, subst}
use mathlib.Core.Bool.{Bool, true, false, not, ◌||◌}
use mathlib.Core.List.{List}
use Prim.Native.Nat.{ℕ, zero, suc, ◌+◌, ◌-◌, ◌<◌, ◌≤◌}
use native.Mathlib.Omega.{arith}
use lib.Dec.{eqb}
use borrow.Author.Tests.{eqb-true}
use Rattle.definition.specs.Tree.{Head, Rec, Recs, rec, mark_at, count_at, body_at, text_at, head_at, read_all, end_of_all, end_at, tree_at}
use Rattle.definition.specs.Grammar.{mark}
use Rattle.definition.specs.Numerals.{bits_of, whole_of}
use Rattle.definition.specs.TextNumbers.{is_some, number_fits, numbers_fit, all_numbers_fit}
use Rattle.definition.proofs.Tests.{and-true}
use Rattle.records.specs.declared.tree.Record.{Record}
use Rattle.records.specs.Whole.{Each, Whole}
use Rattle.records.proofs.Accepted.{lies}
use Rattle.records.proofs.Views.{accepted}
use Rattle.records.proofs.Whole.{Pending, pending_start, pending_turn}

-- ---- one level more

row_end_same : (P : ℕ → Type 0) (f g : ℕ → ℕ) → ((a : ℕ) → P a → g a ≡ f a) → (n at : ℕ) → Each P f n at → end_of_all g n at ≡ end_of_all f n at
unfolding Each end_of_all
row_end_same P f g h zero at e = refl
row_end_same P f g h (suc n) at e = ap (end_of_all g n) (h at e.0) ∙ row_end_same P f g h n (f at) e.1

row_same : (P : ℕ → Type 0) (f g : ℕ → ℕ) (t u : ℕ → Rec) → ((a : ℕ) → P a → g a ≡ f a) → ((a : ℕ) → P a → u a ≡ t a) → (n at : ℕ) → Each P f n at
    → read_all u g n at ≡ read_all t f n at
unfolding Each read_all
row_same P f g t u h i zero at e = refl
row_same P f g t u h i (suc n) at e = rw (h at e.0, i at e.0, row_same P f g t u h i n (f at) e.1)

-- a whole record ends at the same place, and is the same tree, with one level more
end_more : (levels : ℕ) (s : List ℕ) (at : ℕ) → Whole levels s at → end_at (suc levels) s at ≡ end_at levels s at
unfolding Whole end_at
end_more zero s at w = absurd w
end_more (suc levels) s at w =
    row_end_same (Whole levels s) (end_at levels s) (end_at (suc levels) s) (λ a v. end_more levels s a v) (count_at s at) (body_at s at) w.1

tree-more : (levels : ℕ) (s : List ℕ) (at : ℕ) → Whole levels s at → tree_at (suc levels) s at ≡ tree_at levels s at
unfolding Whole tree_at
tree-more zero s at w = absurd w
tree-more (suc levels) s at w =
    ap (rec (head_at s at))
    (row_same (Whole levels s) (end_at levels s) (end_at (suc levels) s) (tree_at levels s) (tree_at (suc levels) s) (λ a v. end_more levels s a v) (λ a v. tree-more levels s a v) (count_at s at) (body_at s at) w.1)

-- ---- a row in two parts

row-parts : (t : ℕ → Rec) (f : ℕ → ℕ) (m n at : ℕ) → all_numbers_fit (read_all t f (m + n) at) ≡ true
    → (all_numbers_fit (read_all t f m at) ≡ true) × (all_numbers_fit (read_all t f n (end_of_all f m at)) ≡ true)
unfolding read_all end_of_all all_numbers_fit
row-parts t f zero n at h = let e : zero + n ≡ n = omega arith in (refl, subst (λ (k : ℕ). all_numbers_fit (read_all t f k at) ≡ true) e h)
row-parts t f (suc m) n at h =
    let e : suc m + n ≡ suc (m + n) = omega arith in
    let p = and-true (numbers_fit (t at)) (all_numbers_fit (read_all t f (m + n) (f at))) (subst (λ (k : ℕ). all_numbers_fit (read_all t f k at) ≡ true) e h) in
    let q = row-parts t f m n (f at) p.1 in
    (rw (p.0, q.0) refl, q.1)

-- ---- a record by itself

-- what `number_fits` says of the record at c
abbrev pub ItselfFits : List ℕ → ℕ → Type 0
ItselfFits s c = mark_at s c ≡ mark "Nu" → count_at s c ≡ 0 → is_some (whole_of (bits_of (text_at s c))) ≡ true

by-mark : (m n : ℕ) (b : Bool) → (m ≡ n → b ≡ true) → (not (eqb m n) || b) ≡ true
by-mark m n b h = go (eqb m n) refl
  where
    go : (t : Bool) → eqb m n ≡ t → (not t || b) ≡ true
    go true e = h (eqb-true m n e)
    go false e = refl

itself-fits : (h : Head) (t : ℕ → Rec) (f : ℕ → ℕ) (n at : ℕ) → (h.mark ≡ mark "Nu" → n ≡ 0 → is_some (whole_of (bits_of h.text)) ≡ true)
    → number_fits h (read_all t f n at) ≡ true
unfolding read_all
itself-fits h t f zero at g = by-mark h.mark (mark "Nu") (is_some (whole_of (bits_of h.text))) (λ e. g e refl)
itself-fits h t f (suc n) at g = refl

-- ---- the walk

-- all numbers of the n records from c on fit
abbrev RowFits : ℕ → List ℕ → ℕ → ℕ → Type 0
RowFits levels s n c = all_numbers_fit (read_all (tree_at levels s) (end_at levels s) n c) ≡ true

-- the children of the first one take its place
turn : (levels : ℕ) (s : List ℕ) (n c : ℕ) → Each (Whole levels s) (end_at levels s) (suc n) c → ItselfFits s c → RowFits levels s (n + count_at s c) (body_at s c)
    → RowFits levels s (suc n) c
unfolding Each Whole end_at head_at read_all tree_at all_numbers_fit
turn zero s n c a i h = absurd a.0
turn (suc k) s n c a i h =
    let t = tree_at (suc k) s in
    let f = end_at (suc k) s in
    let kids = a.0.1 in
    let m = count_at s c in
    let q : n + m ≡ m + n = omega arith in
    let p = row-parts t f m n (body_at s c) (subst (λ (x : ℕ). RowFits (suc k) s x (body_at s c)) q h) in
    let same = row_same (Whole k s) (end_at k s) f (tree_at k s) t (λ a v. end_more k s a v) (λ a v. tree-more k s a v) m (body_at s c) kids in
    let ends = row_end_same (Whole k s) (end_at k s) f (λ a v. end_more k s a v) m (body_at s c) kids in
    let below : all_numbers_fit (read_all (tree_at k s) (end_at k s) m (body_at s c)) ≡ true = subst (λ (x : Recs). all_numbers_fit x ≡ true) same p.0 in
    let others : all_numbers_fit (read_all t f n (f c)) ≡ true = subst (λ (x : ℕ). all_numbers_fit (read_all t f n x) ≡ true) ends p.1 in
    rw (itself-fits (head_at s c) (tree_at k s) (end_at k s) m (body_at s c) i, below, others) refl

-- n records of the one at `at` are pending, the first of them at c: where all their numbers fit, all numbers of the record fit
pub record Walks (levels : ℕ) (s : List ℕ) (at n c : ℕ) : Type 0 where
  pub row : Pending levels s n c (end_at levels s at)
  pub fit : RowFits levels s n c → numbers_fit (tree_at levels s at) ≡ true

pub walks_start : (r : Record) → Walks r.levels r.tree.now r.at 1 r.at
unfolding read_all all_numbers_fit
walks_start r = record {
  row = pending_start r.levels r.tree.now r.at (lies (accepted r));
  fit = λ h. (and-true (numbers_fit (tree_at r.levels r.tree.now r.at)) true h).0;
}

module _ (levels : ℕ) (s : List ℕ) (at n c : ℕ) (l : Walks levels s at n c) where
  pub walks_turn : 0 < n → ItselfFits s c → Walks levels s at (n - 1 + count_at s c) (body_at s c)
  walks_turn h i =
      let one_more : n ≡ suc (n - 1) = omega arith in
      record {
        row = pending_turn levels s n c (end_at levels s at) l.row h;
        fit = λ g. l.fit (subst (λ (k : ℕ). RowFits levels s k c) (sym one_more)
            (turn levels s (n - 1) c (subst (λ (k : ℕ). Each (Whole levels s) (end_at levels s) k c) one_more l.row.all) i g));
      }

  pub walks_done : n ≤ 0 → numbers_fit (tree_at levels s at) ≡ true
  unfolding read_all all_numbers_fit
  walks_done h =
      let e : n ≡ 0 = omega arith in
      l.fit (subst (λ (k : ℕ). RowFits levels s k c) (sym e) refl)
