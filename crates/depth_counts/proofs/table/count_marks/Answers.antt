-- `depth_counts::table::count_marks` meets its contract: the diagnostics that the iterator gave are counted.
use Rattle.std.proofs.Common.{refl, arith, ap, ◌∙◌, take, drop}
use Rattle.std.specs.Slice.Iter.{chunks_exact_rest, chunks_exact_size}
use Rattle.depth_counts.proofs.Cells.{added, marking_start, marking_mark, marking_turn, marking_done}
use Rattle.depth_counts.proofs.table.count_marks.Goals as goal

pub loop-diagnostic-init : goal.loop-diagnostic-init
loop-diagnostic-init c =
    let i = c.into_iter-diagnostic-iterator.ensures.into_iter_gives in
    marking_start _ _ _ _ c.requires.n_in_bounds.0 c.requires.small.0 c.requires.small.1 (ap chunks_exact_size i ∙ c.chunks_exact-diagnostic-items.ensures.size) (ap chunks_exact_rest i ∙ (c.chunks_exact-diagnostic-items.ensures.rest ∙ ap (λ k. take k (drop c.args.at c.args.diagnostics.now)) (omega arith)))

pub row_of-requires : goal.row_of-requires
row_of-requires c =
    let s = c.in-Some.ensures.steps in
    rw c.u16_at.ensures.0 (marking_mark _ _ _ _ c.loop-diagnostic.invariant _ _ s.1.0 s.1.1)

pub loop-diagnostic-preserved : goal.loop-diagnostic-preserved
loop-diagnostic-preserved c =
    let s = c.in-Some.ensures.steps in
    let r = c.row_of.ensures in
    marking_turn _ _ _ _ c.loop-diagnostic.invariant _ _ s.1.0 s.1.1 r.0 (r.1 ∙ c.u16_at.ensures.0) (added _ _ _ c.loop-diagnostic.invariant.small.shape r.0 c.requires.n_in_bounds.1 refl) s.0

pub returns : goal.returns
returns c = let s = c.in-None.ensures.steps in marking_done _ _ _ _ c.loop-diagnostic.invariant s.1.0
