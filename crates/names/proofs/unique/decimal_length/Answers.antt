-- `names::unique::decimal_length` meets its contract: a number has one digit more than its decimal logarithm says, and 0 has one.
use Rattle.std.proofs.Common.{sym, arith}
use Rattle.names.proofs.Decimals.{length-one, length-log}
use Rattle.names.proofs.unique.decimal_length.Goals as goal

pub returns-then-n-eq0 : goal.returns-then-n-eq0
returns-then-n-eq0 c = (sym (length-one c.args.n (omega arith)), omega arith)

pub returns-else-n-eq0 : goal.returns-else-n-eq0
returns-else-n-eq0 c = (sym (length-log c.ilog10.result c.args.n c.ilog10.ensures.power_le c.ilog10.ensures.next_power_gt), omega arith)
