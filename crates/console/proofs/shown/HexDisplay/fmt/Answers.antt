-- `{}` of `Hex` writes two digits for each byte.
use Rattle.std.proofs.Common.{arith, rules}
use Rattle.std.proofs.Output.{has_written_of_eq, has_written_append}
use Rattle.console.proofs.Laws.{more_digits}
use Rattle.console.proofs.shown.HexDisplay.fmt.Goals as goal

pub loop-b-preserved : goal.loop-b-preserved
loop-b-preserved g c p =
    has_written_of_eq _ _ _ _ _ (more_digits _ _ (omega (arith, c.loop-b-test.true, c.loop-b.auto.b-index-end))) (has_written_append _ _ _ _ _ _ (c.loop-b.invariant p) (search rules))
