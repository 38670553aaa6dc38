-- `prescan::is_array_lit_init`: the measure is the depth left.
use Rattle.prescan.proofs.+is_array_lit_init.Given as goal

abbrev pub decreases-is_array_lit_init : goal.decreases-is_array_lit_init
decreases-is_array_lit_init l = l.init.levels
