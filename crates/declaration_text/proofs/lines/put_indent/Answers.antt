-- `put_indent` meets its contract: two spaces for each turn of the loop.
use mathlib.Core.Path.{refl}
use native.Mathlib.Omega.{arith}
use Rattle.definition.specs.Text.{indent}
use Rattle.records.proofs.Puts.{put-put, put_as}
use Rattle.declaration_text.proofs.LinesWritten.{indent-more}
use Rattle.declaration_text.proofs.lines.put_indent.Goals as goal

pub loop-init : goal.loop-init
unfolding indent
loop-init c = record { bytes = refl; position = omega (arith, c.ranges.p) }

pub loop-preserved : goal.loop-preserved
loop-preserved c = put_as (put-put (omega (arith, c.well_formed)) c.loop.invariant c.put_text-end.ensures) (indent-more c.loop.counter)
