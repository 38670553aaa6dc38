-- `bindings::put_unique_binding` meets its contract.
use Rattle.std.proofs.Common.{arith}
use Rattle.records.proofs.Writers.{writes_then}
use Rattle.typing.proofs.bindings.put_unique_binding.Goals as goal

pub returns-clause-written : goal.returns-clause-written
returns-clause-written c = writes_then (omega arith) c.put_made_front.ensures c.make_unique_ident.ensures.written
