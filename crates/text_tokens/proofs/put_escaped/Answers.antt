-- `text_tokens::put_escaped` meets its contract. The loop's invariant: the bytes passed were written, escaped.
use native.Mathlib.Omega.{arith}
use Rattle.definition.specs.Text.{escaped}
use Rattle.records.proofs.Puts.{put-put, put_as}
use Rattle.text_tokens.proofs.Leaves.{put-none, escaped-more}
use Rattle.text_tokens.proofs.put_escaped.Goals as goal

pub loop-b-init : goal.loop-b-init
unfolding escaped
loop-b-init c = put-none _ (omega (arith, c.ranges.p))

pub loop-b-preserved : goal.loop-b-preserved
loop-b-preserved c =
    put_as (put-put (omega (arith, c.well_formed)) c.loop-b.invariant c.put_escaped_byte-end.ensures)
    (escaped-more c.args.text.now c.loop-b.b-index c.loop-b-test.true)
