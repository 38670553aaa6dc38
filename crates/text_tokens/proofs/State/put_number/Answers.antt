-- `text_tokens::State::put_number` meets its contract: a whole number in decimal, or the place of another.
use native.Mathlib.Omega.{arith}
use Rattle.text_tokens.proofs.Leaves.{number-decimal, number-outside}
use Rattle.text_tokens.proofs.State.put_number.Goals as goal

pub returns-in-Some : goal.returns-in-Some
returns-in-Some c = number-decimal (omega (arith, c.well_formed)) c.args.at c.args.text.now c.bits_of-bits.ensures c.in-Some.ensures c.put_space-p.ensures c.is_negative.ensures c.put_minus-q.ensures c.put_digits-e.ensures c.behind.ensures

pub returns-in-None : goal.returns-in-None
returns-in-None c = number-outside _ c.args.self (omega (arith, c.well_formed)) c.args.at c.args.text.now c.bits_of-bits.ensures c.in-None.ensures c.first_place.ensures
