-- `names::generated::put_unique_ident` meets its contract.
use Rattle.std.proofs.Common.{arith}
use Rattle.names.proofs.Idents.{writes_ident}
use Rattle.names.proofs.generated.put_unique_ident.Goals as goal

pub returns : goal.returns
returns c = writes_ident c.args.range _ c.unique_name_length.ensures.0 (omega arith) c.put_ident_front.ensures c.put_unique_name.ensures
