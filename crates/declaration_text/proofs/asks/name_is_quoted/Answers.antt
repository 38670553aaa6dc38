-- `name_is_quoted` meets its contract: the text of the first child, if there is one.
use mathlib.Core.Path.{◌∙◌, ap, sym}
use Rattle.definition.specs.Record.{text_of}
use Rattle.definition.specs.Text.{Child, is_quoted}
use Rattle.declaration_text.proofs.Parts.{part_is, no_part}
use Rattle.declaration_text.proofs.asks.name_is_quoted.Goals as goal

pub returns-in-Some : goal.returns-in-Some
returns-in-Some c = c.is_quoted.ensures ∙ ap is_quoted c.text.ensures.text ∙ ap (λ (k : Child). is_quoted (text_of k.itself)) (sym (part_is c.in-Some.ensures))

pub returns-in-None : goal.returns-in-None
returns-in-None c = rw (no_part c.args.r c.in-None.ensures)
