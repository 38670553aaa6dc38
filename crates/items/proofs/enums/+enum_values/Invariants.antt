-- The cycle of `valid_enum_init_expr`: the remaining depth falls.
use Rattle.std.proofs.Common.{◌≡◌, ◌+◌, ◌*◌, ◌<◌}
use Rattle.definition.specs.Record.{kids_of}
use Rattle.definition.specs.Enums.{valid_all}
use Rattle.records.specs.Views.{rec_of, recs_of}
use Rattle.items.proofs.enums.+enum_values.Given as goal

abbrev pub decreases-valid_part : goal.decreases-valid_part
decreases-valid_part l = 3 * l.kid.levels + 2

abbrev pub decreases-valid_exprs : goal.decreases-valid_exprs
decreases-valid_exprs l = 3 * l.te.levels + 0

abbrev pub decreases-valid_enum_init_expr : goal.decreases-valid_enum_init_expr
decreases-valid_enum_init_expr l = 3 * l.expr.levels + 1

-- those that are left decide, and each has fewer levels than the template
abbrev pub invariant-valid_exprs-loop-kids : goal.invariant-valid_exprs-loop-kids
invariant-valid_exprs-loop-kids l = (valid_all (recs_of l.kids) ≡ valid_all (kids_of (rec_of l.te))) × (l.kids.levels < l.te.levels)

abbrev pub decreases-valid_exprs-loop-kids : goal.decreases-valid_exprs-loop-kids
decreases-valid_exprs-loop-kids l = l.kids.count
