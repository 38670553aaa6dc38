-- `text::show` is safe: what was written lies in its buffer.
use Rattle.declaration_text.proofs.Calls.{text-inside, text-length}
use Rattle.text.proofs.show.Goals as goal

pub slice_bounds-out-end : goal.slice_bounds-out-end
slice_bounds-out-end g c = text-inside _ _ c.text.ensures c.in_ok-length.was

pub slice_bounds-write_all-end : goal.slice_bounds-write_all-end
slice_bounds-write_all-end g c = text-length _ _ c.text.ensures c.in_ok-length.was
