-- `lit::number_of` meets its contract.
use Rattle.swc_helpers.proofs.TurnedSign.{nan-read, no_nan}
use Rattle.swc_helpers.proofs.lit.number_of.Goals as goal

pub returns-then-bits-gt-INFINITY : goal.returns-then-bits-gt-INFINITY
returns-then-bits-gt-INFINITY c = nan-read _ c.if-bits-gt-INFINITY.true

pub float_from_bits-result : goal.float_from_bits-result
float_from_bits-result c = no_nan _ c.if-bits-gt-INFINITY.false
