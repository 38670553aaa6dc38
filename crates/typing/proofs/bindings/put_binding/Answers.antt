-- `bindings::put_binding` meets its contract.
use Rattle.std.proofs.Common.{arith}
use Rattle.records.proofs.Writers.{writes_then}
use Rattle.typing.proofs.bindings.put_binding.Goals as goal

pub returns : goal.returns
returns c = writes_then (omega arith) c.put_made_front.ensures c.put_ident.ensures
