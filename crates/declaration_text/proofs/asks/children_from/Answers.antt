-- `children_from` meets its contract: of the children, those behind the first i.
use native.Mathlib.Omega.{arith}
use Rattle.declaration_text.proofs.Parts.{behind-from}
use Rattle.declaration_text.proofs.asks.children_from.Goals as goal

pub behind_first-requires : goal.behind_first-requires
behind_first-requires c = omega (arith, c.children.ensures.many, c.requires)

pub returns : goal.returns
returns c = behind-from c.children.ensures c.behind_first.ensures
