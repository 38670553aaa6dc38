-- `put_quasi` meets its contract: nothing, or the text.
use native.Mathlib.Omega.{arith}
use mathlib.Core.Path.{ap}
use mathlib.Core.List.{List, [], ◌∷◌}
use Prim.Native.Nat.{ℕ}
use Rattle.definition.specs.Text.{own, escaped}
use Rattle.text_tokens.proofs.Writes.{writes-none, writes_as}
use Rattle.declaration_text.proofs.leaves.put_quasi.Goals as goal

pub returns-in-None : goal.returns-in-None
returns-in-None c = rw c.in-None.is (writes-none _ _ (omega (arith, c.well_formed)))

pub returns-in-Some : goal.returns-in-Some
returns-in-Some c = rw c.in-Some.is (writes_as c.put_own_escaped.ensures (ap (λ (t : List ℕ). own (escaped t) ∷ []) c.text.ensures.text))
