-- `depth_counts::table::count_marks` meets its contract: the diagnostics that the iterator gave are counted.
use Rattle.std.specs.Slice.Iter.{chunks_exact_rest, chunks_exact_size}
use Rattle.depth_counts.proofs.Cells.{Marking}
use Rattle.depth_counts.proofs.table.count_marks.Given as goal

abbrev pub invariant-loop-diagnostic : goal.invariant-loop-diagnostic
invariant-loop-diagnostic l = Marking l.diagnostics l.at l.n l.depth l.initial.table l.table (chunks_exact_size l.diagnostic-iterator) (chunks_exact_rest l.diagnostic-iterator)
