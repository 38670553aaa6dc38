-- `declarations::declare` is safe: what was written lies in its buffer.
use Rattle.transform_dts.proofs.Calls.{wrote-inside, wrote-length}
use Rattle.declarations.proofs.declare.Goals as goal

pub slice_bounds-out-end : goal.slice_bounds-out-end
slice_bounds-out-end g c = wrote-inside _ _ _ _ _ c.transform.ensures _ c.in_ok-done.was

pub slice_bounds-write_all-end : goal.slice_bounds-write_all-end
slice_bounds-write_all-end g c = wrote-length _ _ _ _ _ c.transform.ensures _ c.in_ok-done.was
