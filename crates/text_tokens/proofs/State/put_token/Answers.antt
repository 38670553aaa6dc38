-- `text_tokens::State::put_token` meets its contract: nothing of an empty text, or the text, behind its space.
use native.Mathlib.Omega.{arith}
use Rattle.text_tokens.specs.Writes.{last_of}
use Rattle.text_tokens.proofs.Leaves.{no_last, full-text, last-text, no_token, writes-token}
use Rattle.text_tokens.proofs.State.put_token.Goals as goal

pub returns-in_default : goal.returns-in_default
returns-in_default c = no_token _ _ (omega (arith, c.well_formed)) (no_last c.in_default.ensures.value)

pub returns : goal.returns
returns c = writes-token (omega (arith, c.well_formed)) c.put_space-p.ensures c.put_text-end.ensures (full-text c.args.text.now c.in-Some.ensures.value) (last-text c.args.text.now c.in-Some.ensures.value (last_of c.args.self)) c.behind.ensures
