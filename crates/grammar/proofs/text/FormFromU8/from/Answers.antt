-- `grammar::text::Form::from` meets its contract, form by form.
use mathlib.Core.Path.{sym}
use native.Mathlib.Omega.{arith}
use Rattle.grammar.specs.Slots.{form_at}
use Rattle.grammar.proofs.Forms.{form_empty}
use Rattle.grammar.proofs.text.FormFromU8.from.Goals as goal

pub returns-in-1 : goal.returns-in-1
unfolding form_at
returns-in-1 c = rw c.in-1.is

pub returns-in-2 : goal.returns-in-2
unfolding form_at
returns-in-2 c = rw c.in-2.is

pub returns-in-3 : goal.returns-in-3
unfolding form_at
returns-in-3 c = rw c.in-3.is

pub returns-in-4 : goal.returns-in-4
unfolding form_at
returns-in-4 c = rw c.in-4.is

pub returns-in-5 : goal.returns-in-5
unfolding form_at
returns-in-5 c = rw c.in-5.is

pub returns-in_default : goal.returns-in_default
returns-in_default c = sym (form_empty _ (λ e. omega arith) (λ e. omega arith) (λ e. omega arith) (λ e. omega arith) (λ e. omega arith))
