use native.Mathlib.Omega.{arith}
use Rattle.records.proofs.Writers.{writes_then}
use Rattle.records.proofs.writer.Writer.put_ident_front.Goals as goal

pub returns : goal.returns
returns c = writes_then (omega arith) c.put_made.ensures c.put.ensures
