-- `console::replay::fill` meets its contract: each turn fills one byte more, and knows the next one.
use Prim.Native.Nat.{ℕ, ◌<◌}
use mathlib.Core.Path.{◌≡◌}
use lib.ListN.{get_or}
use Rattle.console.specs.Replay.{noise}
use Rattle.console.proofs.replay.fill.Given as goal

abbrev pub invariant-loop-b : goal.invariant-loop-b
invariant-loop-b l = ((k : ℕ) → k < l.b-index → get_or l.buffer k 0 ≡ noise k) × (l.byte ≡ noise l.b-index)
