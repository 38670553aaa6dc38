use native.Mathlib.Omega.{arith}
use Rattle.records.proofs.Writers.{writes_then}
use Rattle.swc_helpers.proofs.types.ts_tuple_element.Goals as goal

pub returns : goal.returns
returns c = writes_then (omega arith) c.put_made_front.ensures c.put_absent.ensures
