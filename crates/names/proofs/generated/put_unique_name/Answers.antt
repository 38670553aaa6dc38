-- `names::generated::put_unique_name` meets its contract.
use Rattle.std.proofs.Common.{arith}
use Rattle.definition.specs.Names.{gen_unique_name}
use Rattle.records.proofs.Writers.{writes_then}
use Rattle.names.proofs.generated.put_unique_name.Goals as goal

pub returns : goal.returns
unfolding gen_unique_name
returns c = writes_then (omega arith) c.put.ensures c.put_decimal.ensures
