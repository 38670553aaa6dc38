-- `behind_first` meets its contract: each turn passes one record.
use Rattle.declaration_text.specs.Steps.{BehindFirst}
use Rattle.declaration_text.proofs.asks.behind_first.Given as goal

abbrev pub invariant-loop : goal.invariant-loop
invariant-loop l = BehindFirst l.records l.counter l.rest
