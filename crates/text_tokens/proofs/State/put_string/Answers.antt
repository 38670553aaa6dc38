-- `text_tokens::State::put_string` meets its contract: the text, escaped, between quotes.
use native.Mathlib.Omega.{arith}
use Rattle.text_tokens.proofs.Leaves.{writes_string}
use Rattle.text_tokens.proofs.State.put_string.Goals as goal

pub returns : goal.returns
returns c = writes_string _ (omega (arith, c.well_formed)) c.put_space-p.ensures c.put.ensures c.advance.ensures c.put_escaped-end.ensures c.put-2.ensures c.advance-2.ensures c.behind.ensures
