-- `console::replay::replay` counts no more cases than it has read.
use Prim.Native.Nat.{◌≤◌}
use Rattle.console.proofs.replay.replay.Given as goal

abbrev pub invariant-loop-number : goal.invariant-loop-number
invariant-loop-number g l = goal.F-IsAlwaysCallable g l.next × (l.differ ≤ l.number-counter)
