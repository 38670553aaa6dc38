-- `declarators::declarators` meets its contract: each turn of the loop makes one declarator.
use Rattle.std.proofs.Common.{◌≡◌}
use Rattle.definition.specs.Record.{each}
use Rattle.definition.specs.Items.{declarator}
use Rattle.records.specs.Views.{recs_of}
use Rattle.output.proofs.Each.{Eaching}
use Rattle.typing.specs.Values.{typing_in}
use Rattle.items.proofs.declarators.declarators.Given as goal

abbrev pub invariant-loop-var : goal.invariant-loop-var
invariant-loop-var l =
    Eaching (declarator (typing_in l.scope)) (each (λ i. declarator (typing_in l.scope)) 0 (recs_of l.vars) l.initial.o.names.id_counter) l.initial.o l.o l.var-iterator
    × (l.var-iterator.tree ≡ l.vars.tree)
