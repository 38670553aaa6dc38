-- `prescan::is_array_type`: the measure is the depth left.
use Rattle.prescan.proofs.+is_array_type.Given as goal

abbrev pub decreases-is_array_type : goal.decreases-is_array_type
decreases-is_array_type l = l.ty.levels
