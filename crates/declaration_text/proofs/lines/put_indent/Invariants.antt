-- `put_indent` meets its contract: two spaces for each turn of the loop.
use Rattle.definition.specs.Text.{indent}
use Rattle.records.specs.Wrote.{Put}
use Rattle.declaration_text.proofs.lines.put_indent.Given as goal

abbrev pub invariant-loop : goal.invariant-loop
invariant-loop l = Put l.initial.out l.out l.p (indent l.counter) l.end
