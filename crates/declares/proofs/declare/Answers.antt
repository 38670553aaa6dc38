-- `declares::declare` is safe: the diagnostics lie in their buffer.
use native.Mathlib.Omega.{arith}
use lib.Seq.{length-take-le}
use Rattle.transform_dts.proofs.Calls.{marked-inside}
use Rattle.declares.proofs.declare.Goals as goal

pub slice_bounds-diagnostic-items-end : goal.slice_bounds-diagnostic-items-end
slice_bounds-diagnostic-items-end g c =
    omega (arith, length-take-le c.in_ok-length.field-0.count c.as_chunks.result.0.now (omega (arith, marked-inside _ _ _ _ _ c.transform.ensures _ c.in_ok-length.was, c.as_chunks.ensures.front_len)))
