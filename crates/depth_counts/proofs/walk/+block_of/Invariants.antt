-- `depth_counts::walk::block_of` meets its contract: an Nd leads to its body. The measure is the depth left.
use Rattle.depth_counts.proofs.walk.+block_of.Given as goal

abbrev pub decreases-block_of : goal.decreases-block_of
decreases-block_of l = l.body.levels
