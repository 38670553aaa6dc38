use native.Mathlib.Omega.{arith}
use Rattle.definition.specs.Tree.{head_bytes}
use Rattle.records.specs.Fields.{field_bytes}
use Rattle.records.proofs.Puts.{encode-leaf}
use Rattle.records.proofs.Writers.{writes_then, writes_as}
use Rattle.records.proofs.writer.Writer.put_made_leaf.Goals as goal

pub returns : goal.returns
unfolding field_bytes head_bytes
returns c = writes_as (writes_then (omega arith) c.put_made.ensures c.put.ensures) (encode-leaf _)
