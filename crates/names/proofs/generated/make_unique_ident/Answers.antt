-- `names::generated::make_unique_ident` meets its contract.
use Rattle.std.proofs.Common.{arith}
use Rattle.names.proofs.Idents.{writes_ident}
use Rattle.names.proofs.generated.make_unique_ident.Goals as goal

pub returns-clause-written : goal.returns-clause-written
returns-clause-written c = writes_ident c.args.range _ c.unique_name_length.ensures.0 (omega arith) c.put_ident_front.ensures c.gen_unique_name.ensures.written
