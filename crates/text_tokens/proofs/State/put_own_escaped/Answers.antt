-- `text_tokens::State::put_own_escaped` meets its contract: the text, escaped, with no space before it.
use mathlib.Core.Path.{◌∙◌}
use native.Mathlib.Omega.{arith}
use Rattle.text_tokens.specs.Writes.{last_of}
use Rattle.text_tokens.proofs.Leaves.{no_last, full-escaped, ends-escaped, no_escaped, writes-own}
use Rattle.text_tokens.proofs.State.put_own_escaped.Goals as goal

pub returns-in_default : goal.returns-in_default
returns-in_default c = no_escaped _ _ (omega (arith, c.well_formed)) (no_last c.in_default.ensures.value)

pub returns : goal.returns
returns c =
    writes-own c.put_escaped-end.ensures (full-escaped c.args.text.now c.in-Some.ensures.value)
    (c.last_escaped.ensures ∙ ends-escaped c.args.text.now c.in-Some.ensures.value (last_of c.args.self)) c.behind.ensures
