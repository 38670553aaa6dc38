-- `functions::handle_func_params` meets its contract: each turn of the loop handles one parameter.
use Rattle.std.specs.Prelude.{◌≡◌}
use Rattle.definition.specs.Classes.{handle_func_param}
use Rattle.definition.specs.Record.{each}
use Rattle.records.specs.Views.{recs_of}
use Rattle.typing.specs.Values.{typing_in}
use Rattle.output.proofs.Each.{Eaching}
use Rattle.classes.proofs.functions.handle_func_params.Given as goal

abbrev pub invariant-loop-param : goal.invariant-loop-param
invariant-loop-param l =
    Eaching (handle_func_param (typing_in l.scope)) (each (λ _. handle_func_param (typing_in l.scope)) 0 (recs_of l.params) l.initial.o.names.id_counter) l.initial.o l.o l.param-iterator
    × (l.param-iterator.tree ≡ l.params.tree)
