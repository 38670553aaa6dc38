use Rattle.definition.specs.Tree.{head_bytes}
use Rattle.records.specs.Fields.{field_bytes}
use Rattle.records.proofs.writer.Writer.put_made_front.Goals as goal

pub returns : goal.returns
unfolding field_bytes head_bytes
returns c = c.put_made.ensures
