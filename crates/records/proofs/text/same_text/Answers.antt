-- `records::text::same_text` meets its contract.
use mathlib.Core.Path.{◌∙◌}
use Rattle.records.proofs.Texts.{compared}
use Rattle.records.proofs.text.same_text.Goals as goal

pub returns : goal.returns
returns c = c.eq.ensures ∙ compared c.args.a.now c.args.b.now
