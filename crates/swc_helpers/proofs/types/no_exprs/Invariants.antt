-- The loop of `types::no_exprs`: the children that are left decide.
use Rattle.std.proofs.Common.{◌≡◌}
use Rattle.definition.specs.Record.{kids_of}
use Rattle.definition.specs.Helpers.{no_exprs}
use Rattle.records.specs.Views.{rec_of, recs_of}
use Rattle.swc_helpers.proofs.types.no_exprs.Given as goal

abbrev pub invariant-loop-kids : goal.invariant-loop-kids
invariant-loop-kids l = no_exprs (recs_of l.kids) ≡ no_exprs (kids_of (rec_of l.te))

abbrev pub decreases-loop-kids : goal.decreases-loop-kids
decreases-loop-kids l = l.kids.count
