-- `depth_counts::table::in_one` meets its contract: the counts below i are copied.
use Rattle.depth_counts.specs.Tables.{Shape}
use Rattle.depth_counts.proofs.Rows.{Copying}
use Rattle.depth_counts.proofs.table.in_one.Given as goal

abbrev pub invariant-loop-i : goal.invariant-loop-i
invariant-loop-i l = (s : Shape l.table) → Copying l.table s l.counts l.i
