-- `split` meets its contract: the loop passes the records that are counted.
use mathlib.Core.Path.{refl}
use native.Mathlib.Omega.{arith}
use Rattle.definition.proofs.Anywhere.{are_accepted}
use Rattle.records.proofs.Views.{all_here}
use Rattle.declaration_text.proofs.Templates.{all_front, splitting_start, splitting_turn, splitting_stop, splitting_done}
use Rattle.declaration_text.proofs.leaves.split.Goals as goal
use Rattle.declaration_text.proofs.leaves.split.Goals.{else-loop-rest-test, then-loop-rest-test+then-not-counted}

pub loop-rest-init : goal.loop-rest-init
loop-rest-init g c = splitting_start _ _

pub loop-rest-preserved : goal.loop-rest-preserved
loop-rest-preserved g c = splitting_turn c.loop-rest.invariant c.loop-rest-test.true c.first.ensures _ c.mark.ensures (rw (← c.if-not-counted.false) c.counted.ensures) c.rest-rest.ensures

pub invariant_of-front : goal.invariant_of-front
invariant_of-front g c = record { accepted = are_accepted (all_front _ _ _ _ (all_here c.args.records) (omega arith)) }

pub returns : goal.returns
returns g c = elim c.loop-rest-test.branch [
  | else-loop-rest-test w ↦ splitting_done c.loop-rest.invariant refl refl refl refl w.loop-rest-test.false
  | then-loop-rest-test+then-not-counted w ↦ splitting_stop c.loop-rest.invariant refl refl refl refl w.loop-rest-test.true w.first.ensures _ w.mark.ensures (rw (← w.if-not-counted.true) w.counted.ensures)
]
