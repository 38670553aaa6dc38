-- `depth_counts::table::in_one` meets its contract: the counts below i are copied.
use mathlib.Core.Path.{refl}
use Prim.Native.Nat.{◌/◌, ◌%◌}
use native.Mathlib.Omega.{arith}
use Rattle.depth_counts.proofs.Rows.{cell_most, copying_turn, copying_done}
use Rattle.depth_counts.proofs.table.in_one.Goals as goal

pub loop-i-init : goal.loop-i-init
loop-i-init c = λ s. record { size = refl; within = omega arith; same = λ j h. absurd (omega arith) }

pub overflow_cast-counts : goal.overflow_cast-counts
overflow_cast-counts c = omega (arith, cell_most c.args.table (c.loop-i.i / 32) (c.loop-i.i % 32), c.requires.1)

pub loop-i-preserved : goal.loop-i-preserved
loop-i-preserved c = λ s. copying_turn _ s (c.loop-i.invariant s) c.loop-i-test.true refl

pub returns : goal.returns
returns c = copying_done _ c.requires.0 (c.loop-i.invariant c.requires.0) c.loop-i-test.false
