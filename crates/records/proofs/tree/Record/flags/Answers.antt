use mathlib.Core.Path.{◌∙◌}
use Rattle.records.proofs.Accepted.{room}
use Rattle.records.proofs.Views.{accepted, flags_here}
use Rattle.records.proofs.tree.Record.flags.Goals as goal

pub flags_at-requires : goal.flags_at-requires
flags_at-requires c = room (accepted c.args.self)

pub returns : goal.returns
returns c = c.flags_at.ensures ∙ flags_here c.args.self
