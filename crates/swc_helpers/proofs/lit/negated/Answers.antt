-- `lit::negated` meets its contract.
use Rattle.std.proofs.Common.{sym, ◌∙◌}
use Rattle.swc_helpers.proofs.TurnedSign.{turned-is}
use Rattle.swc_helpers.proofs.lit.negated.Goals as goal

pub returns : goal.returns
returns c = turned-is _ _ c.requires c.ranges.bits.fits (sym c.is_nan.ensures.value ∙ c.if-is_nan.false)
