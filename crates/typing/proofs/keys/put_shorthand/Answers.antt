-- `keys::put_shorthand` meets its contract.
use Rattle.std.proofs.Common.{arith}
use Rattle.records.specs.Views.{rec_of}
use Rattle.records.proofs.Writers.{writes_then, writes_as}
use Rattle.typing.proofs.KeyFronts.{unkeyed, ident-here}
use Rattle.typing.proofs.keys.put_shorthand.Goals as goal

pub returns : goal.returns
returns c =
    writes_then (omega arith) (writes_as c.put_made_front.ensures (unkeyed c.args.readonly)) (writes_as c.put_ident.ensures (ident-here (rec_of c.args.ident) c.range.ensures c.symbol.ensures))
