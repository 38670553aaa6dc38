-- `console::read_full` ends, and what it read is at the start of the buffer: each turn reads at least one byte.
use mathlib.Core.Path.{◌≡◌}
use Prim.Native.Nat.{◌≤◌, ◌-◌}
use lib.ListN.{length}
use Rattle.console.proofs.read_full.Given as goal

abbrev pub invariant-loop-done : goal.invariant-loop-done
invariant-loop-done g l = (l.done ≤ length l.buffer) × (length l.buffer ≡ length l.initial.buffer)

abbrev pub decreases-loop-done : goal.decreases-loop-done
decreases-loop-done g l = length l.initial.buffer - l.done
