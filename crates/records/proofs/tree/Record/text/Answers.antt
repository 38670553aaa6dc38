use mathlib.Core.Path.{ap, ◌∙◌}
use Rattle.std.proofs.Common.{arith}
use lib.ListN.{length}
use Rattle.records.proofs.Accepted.{fits}
use Rattle.records.proofs.Views.{accepted, text_here}
use Rattle.records.proofs.tree.Record.text.Goals as goal

pub short_text_at-requires : goal.short_text_at-requires
short_text_at-requires c = fits (accepted c.args.self)

pub returns-clause-text : goal.returns-clause-text
returns-clause-text c = c.short_text_at.ensures.text ∙ text_here c.args.self

pub returns-clause-short : goal.returns-clause-short
returns-clause-short c = omega (arith, c.short_text_at.ensures.short, ap length (text_here c.args.self))
