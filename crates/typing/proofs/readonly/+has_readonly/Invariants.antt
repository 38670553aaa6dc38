-- `readonly::has_readonly` meets its contract, and the levels fall.
use Rattle.typing.proofs.readonly.+has_readonly.Given as goal

abbrev pub decreases-has_readonly : goal.decreases-has_readonly
decreases-has_readonly l = l.expr.levels
