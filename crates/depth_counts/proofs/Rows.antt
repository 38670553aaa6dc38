-- The table row by row in one list.
use mathlib.Core.Path.{◌≡◌, refl, sym, ap, ◌∙◌}
use mathlib.Core.List.{List, [], ◌∷◌, ◌++◌}
use Prim.Native.Nat.{ℕ, zero, suc, ◌+◌, ◌*◌, ◌/◌, ◌%◌, ◌<◌, ◌≤◌}
use native.Mathlib.Omega.{arith}
use lib.ListN.{length, get_or, set, length-set, length-append, get_or-append}
use lib.Seq.{ext_get_or, get_or-append-add, get_or-set_same, get_or-set_other}
use Rattle.std.specs.List as Std
use Rattle.std.specs.List.{fold, flat_map}
use Rattle.definition.specs.Depths.{columns, sum, total, in_one}
use Rattle.depth_counts.specs.Tables.{rows, Shape, cell}
use Rattle.definition.proofs.Tests.{by_eq}

-- ---- a count is no more than the total

sum_most : (l : List ℕ) (i : ℕ) → get_or l i 0 ≤ sum l
unfolding sum
sum_most [] i = omega arith
sum_most (x ∷ l) zero = omega arith
sum_most (x ∷ l) (suc i) = omega (arith, sum_most l i)

total_most : (t : List (List ℕ)) (r : ℕ) → sum (get_or t r []) ≤ total t
unfolding sum total
total_most [] r = omega arith
total_most (x ∷ t) zero = omega arith
total_most (x ∷ t) (suc r) = omega (arith, total_most t r)

pub cell_most : (t : List (List ℕ)) (r d : ℕ) → cell t r d ≤ total t
cell_most t r d = omega (arith, sum_most (get_or t r []) d, total_most t r)

-- ---- the total

pub sum-join : (a b : List ℕ) → sum (a ++ b) ≡ sum a + sum b
unfolding sum
sum-join [] b = omega arith
sum-join (x ∷ a) b = omega (arith, sum-join a b)

fold-sum : (a : ℕ) (l : List ℕ) → fold (λ a x. a + x) a l ≡ a + sum l
unfolding sum
fold-sum a [] = omega arith
fold-sum a (x ∷ l) = omega (arith, fold-sum (a + x) l)

flat_sum : (t : List (List ℕ)) → sum (flat_map (λ x. x) t) ≡ total t
unfolding sum total
flat_sum [] = refl
flat_sum (x ∷ t) = omega (arith, sum-join x (flat_map (λ x. x) t), flat_sum t)

-- is the sum of the counts row after row
pub flat_total : (t : List (List ℕ)) → Std.sum (flat_map (λ x. x) t) ≡ total t
flat_total t = omega (arith, fold-sum 0 (flat_map (λ x. x) t), flat_sum t)

-- ---- where the counts stand

pub row-cell : (t : List (List ℕ)) → ((r : ℕ) → r < length t → length (get_or t r []) ≡ columns) → (r d : ℕ) → r < length t → d < columns → get_or (in_one t) (columns * r + d) 0 ≡ cell t r d
unfolding in_one
row-cell [] f r d h k = absurd (omega arith)
row-cell (x ∷ t) f zero d h k =
    let e : columns * 0 + d ≡ d = omega arith in
    ap (λ (j : ℕ). get_or (x ++ in_one t) j 0) e ∙ get_or-append x (in_one t) 0 d (omega (arith, f 0 (omega arith)))
row-cell (x ∷ t) f (suc r) d h k =
    let e : columns * suc r + d ≡ length x + (columns * r + d) = omega (arith, f 0 (omega arith)) in
    ap (λ (j : ℕ). get_or (x ++ in_one t) j 0) e ∙ (get_or-append-add x (in_one t) (columns * r + d) 0 ∙ row-cell t (λ r h. f (suc r) (omega arith)) r d (omega arith) k)

one-length : (t : List (List ℕ)) → ((r : ℕ) → r < length t → length (get_or t r []) ≡ columns) → length (in_one t) ≡ columns * length t
unfolding in_one
one-length [] f = omega arith
one-length (x ∷ t) f = omega (arith, length-append x (in_one t), f 0 (omega arith), one-length t (λ r h. f (suc r) (omega arith)))

module _ (t : List (List ℕ)) (s : Shape t) where
  pub wide : (r : ℕ) → r < length t → length (get_or t r []) ≡ columns
  wide r h = s.wide r (omega (arith, s.tall))

  one_at : (j : ℕ) → j < rows * columns → get_or (in_one t) j 0 ≡ cell t (j / columns) (j % columns)
  one_at j h =
      let e : j ≡ columns * (j / columns) + j % columns = omega arith in
      ap (λ (k : ℕ). get_or (in_one t) k 0) e ∙ row-cell t wide (j / columns) (j % columns) (omega (arith, s.tall)) (omega arith)

  -- ---- counts that are copied one after the other

  pub record Copying (counts : List ℕ) (i : ℕ) : Type 0 where
    pub size : length counts ≡ rows * columns
    pub within : i ≤ rows * columns
    pub same : (j : ℕ) → j < i → get_or counts j 0 ≡ cell t (j / columns) (j % columns)

  pub copying_turn : {counts : List ℕ} {i : ℕ} → Copying counts i → i < rows * columns → {v : ℕ} → v ≡ cell t (i / columns) (i % columns) → Copying (set counts i v) (i + 1)
  copying_turn {counts} {i} l h {v} e = record {
    size = length-set counts i v ∙ l.size;
    within = omega arith;
    same = λ j k. by_eq j i
        (λ z. rw z (get_or-set_same counts i v 0 (omega (arith, l.size)) ∙ e))
        (λ n. get_or-set_other counts i j v 0 n ∙ l.same j (let z = n in omega arith));
  }

  pub copying_done : {counts : List ℕ} {i : ℕ} → Copying counts i → rows * columns ≤ i → counts ≡ in_one t
  copying_done {counts} l h =
      ext_get_or 0 counts (in_one t) (omega (arith, l.size, one-length t wide, s.tall))
      (λ j k. l.same j (omega (arith, l.size)) ∙ sym (one_at j (omega (arith, l.size))))
