-- `split` meets its contract: the loop passes the records that are counted.
use Rattle.declaration_text.proofs.Templates.{Splitting}
use Rattle.declaration_text.proofs.leaves.split.Given as goal

abbrev pub invariant-loop-rest : goal.invariant-loop-rest
invariant-loop-rest g l = Splitting (goal.F-post g l.counted) l.records l.rest

abbrev pub decreases-loop-rest : goal.decreases-loop-rest
decreases-loop-rest g l = l.rest.count
