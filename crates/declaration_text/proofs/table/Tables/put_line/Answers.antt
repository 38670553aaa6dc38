-- `put_line` meets its contract: the indent, the tokens of the record, and a line feed.
use native.Mathlib.Omega.{arith}
use Rattle.declaration_text.proofs.LinesWritten.{line_put}
use Rattle.declaration_text.proofs.table.Tables.put_line.Goals as goal

pub returns : goal.returns
returns c = line_put _ (omega (arith, c.well_formed)) c.put_indent-p.ensures c.begun.ensures c.write-next.ensures c.put_end.ensures.0 c.put_end.ensures.1
