-- `overload_list::is_impl_with_overloads` meets its contract: the entries before `entry` have another range.
use Rattle.definition.specs.Record.{head_of}
use Rattle.records.specs.Views.{rec_of}
use Rattle.classes.proofs.Listed.{Looking}
use Rattle.classes.proofs.overload_list.is_impl_with_overloads.Given as goal

abbrev pub invariant-loop-left : goal.invariant-loop-left
invariant-loop-left l = Looking l.list (head_of (rec_of l.r)) l.left l.entry

abbrev pub decreases-loop-left : goal.decreases-loop-left
decreases-loop-left l = l.left
