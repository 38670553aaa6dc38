-- `child_at` meets its contract: the first of the children from its number on.
use native.Mathlib.Omega.{arith}
use Rattle.records.proofs.Records.{child_is}
use Rattle.declaration_text.proofs.asks.child_at.Goals as goal

pub returns : goal.returns
returns c = child_is c.children_from.ensures (omega (arith, c.children_from.ensures.many, c.count.ensures, c.if-count-i.false)) c.first.ensures
