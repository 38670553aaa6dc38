use mathlib.Core.Path.{◌∙◌}
use Rattle.records.proofs.Accepted.{room}
use Rattle.records.proofs.Views.{accepted, count_here}
use Rattle.records.proofs.tree.Record.count.Goals as goal

pub count_at-requires : goal.count_at-requires
count_at-requires c = room (accepted c.args.self)

pub returns : goal.returns
returns c = c.count_at.ensures.0 ∙ count_here c.args.self
