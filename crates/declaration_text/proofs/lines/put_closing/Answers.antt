-- `put_closing` meets its contract: the indent, `}`, and a line feed.
use native.Mathlib.Omega.{arith}
use Rattle.declaration_text.proofs.LinesWritten.{line_put}
use Rattle.declaration_text.proofs.lines.put_closing.Goals as goal

pub returns : goal.returns
returns c = line_put _ (omega (arith, c.well_formed)) c.put_indent-p.ensures c.begun.ensures c.put_token-next.ensures c.put_end.ensures.0 c.put_end.ensures.1
