-- `records::body_at` meets its contract: the head, and behind it the text.
use native.Mathlib.Omega.{arith}
use Rattle.records.proofs.body_at.Goals as goal

pub overflow_add-result : goal.overflow_add-result
overflow_add-result c = omega arith

pub overflow_add-at : goal.overflow_add-at
overflow_add-at c = omega arith

pub u16_at-requires : goal.u16_at-requires
u16_at-requires c = omega arith

pub overflow_add-result-2 : goal.overflow_add-result-2
overflow_add-result-2 c = omega arith

pub returns : goal.returns
returns c = omega arith
