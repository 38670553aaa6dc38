-- `exports::put_const_front` meets its contract.
use Rattle.std.proofs.Common.{arith}
use Rattle.records.proofs.Writers.{writes_then, writes_three}
use Rattle.items.proofs.exports.put_const_front.Goals as goal

pub returns-clause-written : goal.returns-clause-written
returns-clause-written c =
    writes_then (omega arith) c.put_made_front.ensures (writes_three (omega arith) c.put_made_front-2.ensures c.put_made_front-3.ensures c.make_unique_ident.ensures.written)
