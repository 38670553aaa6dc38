-- `index::find` meets its contract: the names below `low` are before the name, those from `high` on are behind it.
use Prim.Native.Nat.{◌-◌}
use lib.ListN.{length}
use Rattle.index.proofs.Laws.{Halving}
use Rattle.index.proofs.find.Given as goal

abbrev pub invariant-loop-low : goal.invariant-loop-low
invariant-loop-low l = Halving l.tree l.entries (length l.entries) l.name l.low l.high

abbrev pub decreases-loop-low : goal.decreases-loop-low
decreases-loop-low l = l.high - l.low
