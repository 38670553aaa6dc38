-- `dts_depths` meets its contract: the numbers and both buffers are those of the call, the counts those of the table.
use native.Mathlib.Omega.{arith}
use Rattle.depth_counts.proofs.Whole.{counted_shape, counted_small}
use Rattle.dts.proofs.Codes.{depths-done, depths-refused}
use Rattle.dts.proofs.dts_depths.Goals as goal
use Rattle.dts.proofs.dts_depths.Goals.{in-Ok, in_default}

pub in_one-requires : goal.in_one-requires
in_one-requires c = (counted_shape _ _ _ _ _ _ c.shared_slice_known-1.given c.depths-counted.ensures c.in-Ok.is, omega (arith, counted_small _ _ _ _ _ _ c.shared_slice_known-1.given c.depths-counted.ensures c.in-Ok.is))

pub returns : goal.returns
returns c = elim c.match-counted.branch [
  | in-Ok w ↦
      let z = depths-done _ _ _ _ _ _ c.depths-counted.ensures c.shared_slice_known-1.given w.in-Ok.is c.tell.ensures c.args.counts.now w.in_one.ensures in
      rw w.counts-is (record { number = z.0; pair = z.1.0; output = z.1.1.0; diagnostics = z.1.1.1.0; counts = z.1.1.1.1 })
  | in_default w ↦
      let z = depths-refused _ _ _ _ _ _ c.depths-counted.ensures w.in_default.not-Ok c.tell.ensures c.args.counts.now in
      rw w.counts-is (record { number = z.0; pair = z.1.0; output = z.1.1.0; diagnostics = z.1.1.1.0; counts = z.1.1.1.1 })
]
