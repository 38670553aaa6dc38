-- `names::unique::unique_name_length` meets its contract.
use native.Mathlib.Omega.{arith}
use Rattle.names.proofs.Decimals.{length_unique}
use Rattle.names.proofs.unique.unique_name_length.Goals as goal

pub returns : goal.returns
returns c = omega (arith, length_unique c.args.id_counter)
