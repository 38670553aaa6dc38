-- `names::generated::put_decimal` meets its contract: the last digit stands behind the others. The measure is the number.
use Rattle.std.proofs.Common.{arith, sym}
use Rattle.records.proofs.Writers.{writes_then, writes_as}
use Rattle.names.proofs.Decimals.{decimal-one, decimal-more}
use Rattle.names.proofs.generated.+put_decimal.Goals as goal

pub returns-then-n-lt10 : goal.returns-then-n-lt10
returns-then-n-lt10 t c = writes_as c.put_byte.ensures (sym (decimal-one c.args.n c.if-n-lt10.true))

pub returns : goal.returns
returns t c = writes_as (writes_then (omega arith) c.put_decimal.ensures c.put_byte-2.ensures) (sym (decimal-more c.args.n c.if-n-lt10.false))
