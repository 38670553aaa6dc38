-- `grammar::text::has_form` meets its contract, form by form.
use mathlib.Core.Path.{sym, ◌∙◌}
use mathlib.Core.Bool.{true, false}
use Rattle.definition.specs.Check.{has_form}
use Rattle.grammar.proofs.Forms.{cooked-told}
use Rattle.grammar.proofs.text.has_form.Goals as goal

pub returns-in-Empty : goal.returns-in-Empty
unfolding has_form
returns-in-Empty c = rw c.in-Empty.is c.is_empty.ensures

pub returns-in-Anything : goal.returns-in-Anything
unfolding has_form
returns-in-Anything c = rw c.in-Anything.is

pub returns-in-Eight : goal.returns-in-Eight
unfolding has_form
returns-in-Eight c = rw c.in-Eight.is

pub returns-in-Integer : goal.returns-in-Integer
unfolding has_form
returns-in-Integer c = rw c.in-Integer.is c.is_integer.ensures

pub returns-in-Identifier : goal.returns-in-Identifier
unfolding has_form
returns-in-Identifier c = rw c.in-Identifier.is

pub returns-then-has_flag : goal.returns-then-has_flag
unfolding has_form
returns-then-has_flag c = rw (c.in-Cooked.is, cooked-told c.args.flags true (sym c.has_flag.ensures ∙ c.if-has_flag.true)) c.if-has_flag.true

pub returns-else-has_flag : goal.returns-else-has_flag
unfolding has_form
returns-else-has_flag c = rw (c.in-Cooked.is, cooked-told c.args.flags false (sym c.has_flag.ensures ∙ c.if-has_flag.false)) c.is_empty-else-has_flag.ensures
