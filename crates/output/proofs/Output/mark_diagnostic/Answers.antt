-- `output::Output::mark_diagnostic` meets its contract.
use Rattle.std.proofs.Common.{refl}
use Rattle.definition.specs.Record.{head_of}
use Rattle.records.specs.Views.{rec_of}
use Rattle.output.proofs.Marked.{marks}
use Rattle.output.proofs.Output.mark_diagnostic.Goals as goal

pub returns : goal.returns
returns c = marks c.args.kind (head_of (rec_of c.args.r)) c.range.ensures c.put_diagnostic.ensures refl refl refl refl
