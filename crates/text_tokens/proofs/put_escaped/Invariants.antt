-- `text_tokens::put_escaped` meets its contract. The loop's invariant: the bytes passed were written, escaped.
use lib.ListN.{take}
use Rattle.definition.specs.Text.{escaped}
use Rattle.records.specs.Wrote.{Put}
use Rattle.text_tokens.proofs.put_escaped.Given as goal

abbrev pub invariant-loop-b : goal.invariant-loop-b
invariant-loop-b l = Put l.initial.out l.out l.p (escaped (take l.b-index l.text)) l.end
