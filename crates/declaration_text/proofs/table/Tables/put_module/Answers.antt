-- `put_module` meets its contract: the line of its own Ops, then those of its items.
use native.Mathlib.Omega.{arith}
use Rattle.declaration_text.proofs.LinesWritten.{lines_then, lines-as}
use Rattle.declaration_text.proofs.Calls.{module_lines}
use Rattle.declaration_text.proofs.table.Tables.put_module.Goals as goal

pub returns : goal.returns
returns c = lines-as (lines_then (omega (arith, c.well_formed)) c.put_first_line-first.ensures c.put_items.ensures) (module_lines c.requires.place c.children.ensures)
