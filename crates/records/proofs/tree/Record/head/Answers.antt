use mathlib.Core.Path.{◌∙◌}
use Rattle.records.proofs.Accepted.{room}
use Rattle.records.proofs.Views.{accepted, fields_here}
use Rattle.records.proofs.tree.Record.head.Goals as goal

pub read_head-requires : goal.read_head-requires
read_head-requires c = room (accepted c.args.self)

pub returns : goal.returns
returns c = c.read_head.ensures ∙ fields_here c.args.self
