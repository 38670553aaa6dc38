-- `text_tokens::last_escaped` meets its contract.
use mathlib.Core.Path.{sym, ◌∙◌}
use Rattle.definition.specs.Text.{escaped_byte}
use Rattle.text_tokens.proofs.last_escaped.Goals as goal

pub returns-then-is_escaped : goal.returns-then-is_escaped
unfolding escaped_byte
returns-then-is_escaped c = rw (sym c.is_escaped.ensures ∙ c.if-is_escaped.true) c.hex_digit.ensures

pub returns-else-is_escaped : goal.returns-else-is_escaped
unfolding escaped_byte
returns-else-is_escaped c = rw (sym c.is_escaped.ensures ∙ c.if-is_escaped.false)
