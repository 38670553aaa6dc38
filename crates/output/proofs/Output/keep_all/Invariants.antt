-- `output::Output::keep_all` meets its contract: each turn of the loop writes one record.
use Rattle.records.specs.Views.{recs_of}
use Rattle.output.proofs.Kept.{Keeping}
use Rattle.output.proofs.Output.keep_all.Given as goal

abbrev pub invariant-loop-r : goal.invariant-loop-r
invariant-loop-r l = Keeping (recs_of l.rs) l.initial.self l.self l.r-iterator
