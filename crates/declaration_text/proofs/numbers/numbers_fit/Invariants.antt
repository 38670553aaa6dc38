-- `numbers_fit` meets its contract: each turn puts a record's children in its place among the records that are pending.
use Prim.Native.Nat.{◌-◌}
use lib.ListN.{length}
use Rattle.declaration_text.proofs.NumbersFit.{Walks}
use Rattle.declaration_text.proofs.numbers.numbers_fit.Given as goal

abbrev pub invariant-loop-pending : goal.invariant-loop-pending
invariant-loop-pending l = Walks l.r.levels l.tree l.r.at l.pending l.at

abbrev pub decreases-loop-pending : goal.decreases-loop-pending
decreases-loop-pending l = length l.tree - l.at
