-- `behind_first` meets its contract: each turn passes one record.
use native.Mathlib.Numerals.{unary_clauses}
use native.Mathlib.Omega.{arith}
use Rattle.declaration_text.proofs.Parts.{behind_start, behind_turn}
use Rattle.declaration_text.proofs.asks.behind_first.Goals as goal

pub loop-init : goal.loop-init
loop-init c = behind_start _

pub rest-rest-requires : goal.rest-rest-requires
rest-rest-requires c = omega (arith, c.loop.invariant.many, c.requires)

pub loop-preserved : goal.loop-preserved
loop-preserved c = simp unary_clauses (behind_turn c.loop.invariant (omega (arith, c.loop.invariant.many, c.requires)) c.rest-rest.ensures)
