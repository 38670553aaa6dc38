-- `test_leaves::show_tree`: the root of an accepted tree is accepted.
use Rattle.std.proofs.Common.{rules}
use Rattle.definition.proofs.Anywhere.{is_accepted}
use Rattle.test_leaves.proofs.show_tree.Goals as goal

pub invariant_of-root : goal.invariant_of-root
invariant_of-root g c = record { accepted = is_accepted (search rules) }
