-- `test_types::show_module` is safe: the items stand in the tree whose names the scope has.
use Rattle.std.proofs.Common.{◌≡◌}
use Rattle.test_types.proofs.show_module.Given as goal

abbrev pub invariant-loop-item : goal.invariant-loop-item
invariant-loop-item g l =
    (goal.iterator-loop-item g).can_next l.item-iterator ×
    (goal.iterator-loop-item g).is_finite l.item-iterator × (l.item-iterator.tree ≡ l.scope.names.tree)
