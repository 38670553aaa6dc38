-- What the counts of a success say, as they are written for C: row by row, d1 first and depth 0 first.
use mathlib.Core.Path.{◌≡◌, refl, sym, ◌∙◌}
use mathlib.Core.List.{List, [], ◌∷◌}
use Prim.Native.Nat.{ℕ, ◌+◌, ◌*◌, ◌<◌}
use native.Mathlib.Omega.{arith}
use lib.ListN.{get_or}
use Rattle.definition.specs.Tree.{tree_at, Bytes}
use Rattle.definition.specs.Check.{deepest}
use Rattle.definition.specs.Record.{diagnostic_marks}
use Rattle.definition.specs.Transform.{done, call}
use Rattle.definition.specs.Depths.{Placed, columns, count_of, table_of, sum, total, in_one, placed}
use Rattle.definition.proofs.Calls.{call-done}
use Rattle.definition.proofs.Depths.{total-is}
use Rattle.depth_counts.specs.Tables.{rows}
use Rattle.depth_counts.proofs.Whole.{table-shape, table-cell}
use Rattle.depth_counts.proofs.Rows.{sum-join, wide, row-cell}

-- each is "the number of diagnostic records of that row and depth"
pub count_at_lem : (xs : List Placed) (r d : ℕ) → r < rows → d < columns → get_or (in_one (table_of xs)) (columns * r + d) 0 ≡ count_of (get_or diagnostic_marks r 0) d xs
count_at_lem xs r d hr hd =
    let s = table-shape xs in
    row-cell (table_of xs) (wide (table_of xs) s) r d (omega (arith, s.tall)) hd ∙ table-cell xs r d hr hd

sum_in_one : (t : List (List ℕ)) → sum (in_one t) ≡ total t
unfolding in_one total sum
sum_in_one [] = refl
sum_in_one (r ∷ t) = omega (arith, sum-join r (in_one t), sum_in_one t)

-- and their sum is "the number of records written"
pub counts-sum : (tree list : List ℕ) (ctx : ℕ) (out diags : List ℕ) (n k : ℕ) → Bytes tree → (call tree list ctx out diags).answer ≡ done n k →
    sum (in_one (table_of (placed list ctx (tree_at deepest tree 0)))) ≡ k
counts-sum tree list ctx out diags n k b p =
    let z = call-done tree list ctx out diags n k p in
    sum_in_one (table_of (placed list ctx (tree_at deepest tree 0))) ∙ (total-is tree list ctx z.0 b z.1 ∙ sym z.2.count)
