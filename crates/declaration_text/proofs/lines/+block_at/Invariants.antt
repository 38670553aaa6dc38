-- `block_at` meets its contract: an Ed leads to its first child, an Ns or an Nd to its second, each with a level less. The measure is the levels left.
use Rattle.declaration_text.proofs.lines.+block_at.Given as goal

abbrev pub decreases-block_at : goal.decreases-block_at
decreases-block_at l = l.item.levels
