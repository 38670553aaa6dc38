-- `test_leaves::show_large_names` is safe: a power of ten is 1 at least.
use Rattle.std.proofs.Common.{rules}
use Rattle.std.proofs.Math.Nat.{one-le-pow}
use Rattle.test_leaves.proofs.show_large_names.Goals as goal

pub overflow_sub-power : goal.overflow_sub-power
overflow_sub-power g c = search (rules, one-le-pow)
