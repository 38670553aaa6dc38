-- `output::Output::keep_all` meets its contract: each turn of the loop writes one record.
use Rattle.std.proofs.Common.{subst, sym}
use Rattle.records.specs.declared.tree.Records.{Records}
use Rattle.records.specs.Views.{recs_of}
use Rattle.output.proofs.Kept.{Keeping, keeping_start, keeping_turn, keeping_done}
use Rattle.output.proofs.Output.keep_all.Goals as goal

pub loop-r-init : goal.loop-r-init
loop-r-init c = subst (λ (k : Records). Keeping (recs_of c.args.rs) c.args.self.now c.args.self.now k) (sym c.into_iter-r-iterator.ensures.into_iter_gives) (keeping_start c.args.self.now c.args.rs)

pub loop-r-preserved : goal.loop-r-preserved
loop-r-preserved c = keeping_turn c.loop-r.invariant c.in-Some.ensures.steps c.keep.ensures

pub returns : goal.returns
returns c = keeping_done c.loop-r.invariant c.in-None.ensures.steps.0
