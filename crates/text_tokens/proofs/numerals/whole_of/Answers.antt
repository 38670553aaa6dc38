-- `text_tokens::numerals::whole_of` meets its contract, by the cases of `whole_of`.
use mathlib.Core.Path.{sym, ◌∙◌}
use Rattle.text_tokens.proofs.Wholes.{whole-zero, whole-small, whole_large, whole-halved}
use Rattle.text_tokens.proofs.numerals.whole_of.Goals as goal
use Rattle.text_tokens.proofs.numerals.whole_of.Goals.{then-exponent-lt1023-via-then-exponent-lt1023, then-exponent-lt1023-via-else-exponent-lt1023+then-exponent-gt1075}

pub returns-then-bits-eq0 : goal.returns-then-bits-eq0
returns-then-bits-eq0 c = sym (whole-zero _ c.if-bits-eq0.true)

pub returns-then-exponent-lt1023 : goal.returns-then-exponent-lt1023
returns-then-exponent-lt1023 c =
    elim c.then-exponent-lt1023.branch [
      | then-exponent-lt1023-via-then-exponent-lt1023 w ↦ sym (whole-small _ c.if-bits-eq0.false w.if-exponent-lt1023.true)
      | then-exponent-lt1023-via-else-exponent-lt1023+then-exponent-gt1075 w ↦ sym (whole_large _ c.if-bits-eq0.false w.if-exponent-lt1023.false w.if-exponent-gt1075.true)
    ]

pub returns : goal.returns
returns c = c.halve.ensures ∙ sym (whole-halved _ c.if-bits-eq0.false c.if-exponent-lt1023.false c.if-exponent-gt1075.false)
