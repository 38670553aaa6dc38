-- `text_tokens::State::put_own` meets its contract: nothing of an empty text, or the text, with no space before it.
use native.Mathlib.Omega.{arith}
use Rattle.text_tokens.specs.Writes.{last_of}
use Rattle.text_tokens.proofs.Leaves.{no_last, full-text, last-text, no_own, writes-own}
use Rattle.text_tokens.proofs.State.put_own.Goals as goal

pub returns-in_default : goal.returns-in_default
returns-in_default c = no_own _ _ (omega (arith, c.well_formed)) (no_last c.in_default.ensures.value)

pub returns : goal.returns
returns c = writes-own c.put_text-end.ensures (full-text c.args.text.now c.in-Some.ensures.value) (last-text c.args.text.now c.in-Some.ensures.value (last_of c.args.self)) c.behind.ensures
