use native.Mathlib.Omega.{arith}
use mathlib.Core.Path.{refl}
use Rattle.records.proofs.Puts.{encode_one}
use Rattle.records.proofs.Writers.{writes_then, writes_as}
use Rattle.swc_helpers.proofs.types.ts_lit_type.Goals as goal

pub returns : goal.returns
returns c = writes_as (writes_then (omega arith) c.put_made_front.ensures c.put_record.ensures) (encode_one _ _ refl)
