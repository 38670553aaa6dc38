use mathlib.Core.Path.{◌∙◌}
use Rattle.records.proofs.Accepted.{room}
use Rattle.records.proofs.Views.{accepted, range_here}
use Rattle.records.proofs.tree.Record.range.Goals as goal

pub range_at-requires : goal.range_at-requires
range_at-requires c = room (accepted c.args.self)

pub returns : goal.returns
returns c = c.range_at.ensures ∙ range_here c.args.self
