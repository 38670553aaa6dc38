-- `test_leaves::show_all` ends: the children of a record have one level less.
use Rattle.std.proofs.Common.{◌≡◌, ◌+◌}
use Rattle.test_leaves.proofs.+show_all.Given as goal

abbrev pub decreases-show_all : goal.decreases-show_all
decreases-show_all g l = l.record.levels

abbrev pub invariant-loop-kid : goal.invariant-loop-kid
invariant-loop-kid g l =
    (goal.iterator-loop-kid g).can_next l.kid-iterator ×
    (goal.iterator-loop-kid g).is_finite l.kid-iterator × (l.kid-iterator.levels + 1 ≡ l.record.levels)
