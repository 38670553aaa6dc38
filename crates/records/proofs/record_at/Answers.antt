-- `records::record_at` meets its contract: a whole record ends behind its start, within the tree.
use mathlib.Core.Path.{ap}
use Prim.Native.Nat.{ℕ, ◌-◌}
use native.Mathlib.Omega.{arith}
use lib.ListN.{take, drop}
use Rattle.records.proofs.Whole.{whole-span}
use Rattle.records.proofs.record_at.Goals as goal

pub slice_bounds-result-count : goal.slice_bounds-result-count
slice_bounds-result-count c =
    let a = c.args in
    omega (arith, c.record_end-end.ensures, whole-span a.levels a.tree.now a.at c.requires)

pub slice_bounds-result-start : goal.slice_bounds-result-start
slice_bounds-result-start c =
    let a = c.args in
    omega (arith, c.record_end-end.ensures, whole-span a.levels a.tree.now a.at c.requires)

pub slice_bounds-result-end : goal.slice_bounds-result-end
slice_bounds-result-end c =
    let a = c.args in
    omega (arith, c.record_end-end.ensures, whole-span a.levels a.tree.now a.at c.requires)

pub returns : goal.returns
returns c =
    let a = c.args in
    ap (λ (e : ℕ). take (e - a.at) (drop a.at a.tree.now)) c.record_end-end.ensures
