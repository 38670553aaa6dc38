-- `declarators::declarators` meets its contract: each turn of the loop makes one declarator.
use Rattle.std.proofs.Common.{refl, ◌∙◌}
use Rattle.definition.specs.Items.{declarator}
use Rattle.definition.proofs.Counting.{expr_to_ts_type-within}
use Rattle.definition.proofs.CountingItems.{declarator-within}
use Rattle.definition.specs.Record.{single}
use Rattle.output.proofs.Each.{eaching_start, eaching_turn, making_done}
use Rattle.typing.specs.Values.{typing_in, ids_in}
use Rattle.items.proofs.Framed.{loop_ready}
use Rattle.items.proofs.declarators.declarators.Goals as goal

pub loop-var-init : goal.loop-var-init
loop-var-init c = rw c.into_iter-var-iterator.ensures.into_iter_gives (eaching_start (declarator (typing_in c.args.scope)) 0 c.args.o.now c.args.vars c.requires.low, refl)

pub declarator-requires : goal.declarator-requires
declarator-requires c = loop_ready c.requires c.loop-var.invariant.1 c.loop-var.invariant.0.low c.in-Some.ensures.steps.1

pub loop-var-preserved : goal.loop-var-preserved
loop-var-preserved c = (
  eaching_turn (declarator (typing_in c.args.scope)) c.loop-var.invariant.0 c.in-Some.ensures.steps
      (declarator-within (typing_in c.args.scope) (expr_to_ts_type-within (ids_in c.args.scope) c.args.scope.unresolved) _ _).high c.declarator.ensures,
  c.in-Some.ensures.steps.2.tree ∙ c.loop-var.invariant.1,
)

pub returns : goal.returns
returns c = making_done (λ r m. single (declarator (typing_in c.args.scope) r m)) c.loop-var.invariant.0 c.in-None.ensures.steps.0
