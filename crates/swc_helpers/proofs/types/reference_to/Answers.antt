use native.Mathlib.Omega.{arith}
use mathlib.Core.Path.{refl}
use Rattle.records.proofs.Puts.{encode-two}
use Rattle.records.proofs.Writers.{writes_three, writes_as}
use Rattle.swc_helpers.proofs.types.reference_to.Goals as goal

pub returns : goal.returns
returns c = writes_as (writes_three (omega arith) c.put_made_front.ensures c.put_record.ensures c.put_absent.ensures) (encode-two _ _ _ refl)
