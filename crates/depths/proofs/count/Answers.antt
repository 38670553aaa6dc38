-- `depths::count` is safe: the sum of the counts is the number of diagnostics.
use Rattle.std.proofs.Common.{arith, rules}
use Rattle.depth_counts.proofs.Whole.{counted_small}
use Rattle.depths.proofs.count.Goals as goal

pub total-requires : goal.total-requires
total-requires g c = omega (arith, counted_small _ _ _ _ _ _ (search rules) c.depths.ensures c.in_ok-depths.was)
