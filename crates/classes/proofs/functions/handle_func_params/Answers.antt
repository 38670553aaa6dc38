-- `functions::handle_func_params` meets its contract: each turn of the loop handles one parameter.
use Rattle.std.proofs.Common.{ap, sym, subst, ◌∙◌}
use Rattle.definition.specs.Record.{each}
use Rattle.definition.specs.Classes.{handle_func_param}
use Rattle.records.specs.declared.tree.Records.{Records}
use Rattle.records.specs.Views.{recs_of}
use Rattle.output.proofs.Each.{Eaching, eaching_start, making_done}
use Rattle.typing.specs.Values.{typing_in}
use Rattle.classes.proofs.Handling.{ready_turn, params_turn}
use Rattle.classes.proofs.functions.handle_func_params.Goals as goal

pub loop-param-init : goal.loop-param-init
loop-param-init c =
    let e = c.into_iter-param-iterator.ensures.into_iter_gives in (
      subst (λ (k : Records). Eaching (handle_func_param (typing_in c.args.scope)) (each (λ _. handle_func_param (typing_in c.args.scope)) 0 (recs_of c.args.params) c.args.o.now.names.id_counter) c.args.o.now c.args.o.now k) (sym e)
          (eaching_start (handle_func_param (typing_in c.args.scope)) 0 c.args.o.now c.args.params c.requires.low),
      ap (λ (k : Records). k.tree) e,
    )

pub handle_func_param-requires : goal.handle_func_param-requires
handle_func_param-requires c = ready_turn c.requires c.loop-param.invariant.1 c.loop-param.invariant.0.low c.in-Some.ensures.steps.1

pub loop-param-preserved : goal.loop-param-preserved
loop-param-preserved c =
    let s = c.in-Some.ensures.steps in
    (params_turn c.args.scope c.loop-param.invariant.0 s c.handle_func_param.ensures, s.2.tree ∙ c.loop-param.invariant.1)

pub returns : goal.returns
returns c = making_done _ c.loop-param.invariant.0 c.in-None.ensures.steps.0
