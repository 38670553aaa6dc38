-- `records::record_end` meets its contract: the records that are pending stand in a row, and each turn puts a record's children in its place. The
-- measure is what is left of the tree.
use Prim.Native.Nat.{◌-◌}
use lib.ListN.{length}
use Rattle.definition.specs.Tree.{end_at}
use Rattle.records.proofs.Whole.{Pending}
use Rattle.records.proofs.record_end.Given as goal

abbrev pub invariant-loop-pending : goal.invariant-loop-pending
invariant-loop-pending l = Pending l.levels l.tree l.pending l.end (end_at l.levels l.tree l.at)

abbrev pub decreases-loop-pending : goal.decreases-loop-pending
decreases-loop-pending l = length l.tree - l.end
