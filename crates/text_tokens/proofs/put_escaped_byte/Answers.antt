-- `text_tokens::put_escaped_byte` meets its contract: `\u00` and two hex digits, or the byte.
use mathlib.Core.Path.{◌≡◌, sym, ap, ◌∙◌}
use native.Mathlib.Omega.{arith}
use Rattle.definition.specs.Text.{escaped_byte}
use Rattle.records.proofs.Puts.{put_byte, put-put}
use Rattle.records.proofs.Wrote.{put-wrote}
use Rattle.text_tokens.proofs.put_escaped_byte.Goals as goal

pub returns-then-is_escaped : goal.returns-then-is_escaped
unfolding escaped_byte
returns-then-is_escaped c =
    let front = c.put_text-first.ensures in
    let high = put_byte _ _ c.put.ensures c.advance-second.ensures in
    let low = put_byte _ _ c.put-then-is_escaped.ensures c.advance.ensures in
    rw (sym c.is_escaped.ensures ∙ c.if-is_escaped.true, ← c.hex_digit-high.ensures, ← c.hex_digit-low.ensures)
    (put-put (omega (arith, c.well_formed)) front (put-put (omega (arith, c.well_formed, (put-wrote front).same)) high low))

pub returns : goal.returns
unfolding escaped_byte
returns c = rw (sym c.is_escaped.ensures ∙ c.if-is_escaped.false) (put_byte c.args.p c.args.b c.put-2.ensures c.advance-2.ensures)
