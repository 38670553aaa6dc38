-- `text_tokens::numerals::halve` meets its contract. The loop's invariant: what is left to halve has the same halves.
use mathlib.Core.Path.{sym, ◌∙◌}
use native.Mathlib.Omega.{arith}
use Rattle.text_tokens.proofs.Wholes.{halve_odd, halve_even, halve_done}
use Rattle.text_tokens.proofs.numerals.halve.Goals as goal

pub returns-then-n-eq1 : goal.returns-then-n-eq1
returns-then-n-eq1 c = sym (halve_odd _ _ (omega arith) c.if-n-eq1.true) ∙ c.loop.invariant

pub loop-preserved : goal.loop-preserved
loop-preserved c = halve_even _ _ (omega arith) c.if-n-eq1.false ∙ c.loop.invariant

pub returns : goal.returns
returns c = sym (halve_done _ _ (λ h. omega arith)) ∙ c.loop.invariant
