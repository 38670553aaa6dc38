-- `names::generated::put_decimal` meets its contract: the last digit stands behind the others. The measure is the number.
use Rattle.names.proofs.generated.+put_decimal.Given as goal

abbrev pub decreases-put_decimal : goal.decreases-put_decimal
decreases-put_decimal l = l.n
