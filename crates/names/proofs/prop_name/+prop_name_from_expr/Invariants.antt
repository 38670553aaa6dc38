-- `names::prop_name::prop_name_from_expr` meets its contract: in each arm the mark picks the definition's case. The measure is the depth left.
use Rattle.names.proofs.prop_name.+prop_name_from_expr.Given as goal

abbrev pub decreases-prop_name_from_expr : goal.decreases-prop_name_from_expr
decreases-prop_name_from_expr l = l.expr.levels
