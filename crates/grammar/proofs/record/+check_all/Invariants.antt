-- The proof of the cycle of calls {check_all}: the measure is what is left of the levels, and the loop's invariant that the records before the next
-- one are accepted.
use Prim.Native.Nat.{◌-◌}
use Rattle.definition.specs.Check.{check_all, check_at}
use Rattle.grammar.specs.Slots.{parts_from}
use Rattle.grammar.proofs.Children.{Passed}
use Rattle.grammar.proofs.record.+check_all.Given as goal

abbrev pub decreases-check_all : goal.decreases-check_all
decreases-check_all l = l.levels

abbrev pub invariant-loop : goal.invariant-loop
invariant-loop l = Passed l.levels l.tree (check_all (check_at l.levels l.tree) l.tree l.count l.at (parts_from l.k)) (l.count - l.counter) l.p (parts_from l.slot)
