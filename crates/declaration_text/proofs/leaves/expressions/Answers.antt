-- `expressions` meets its contract: what was counted by the mark.
use Rattle.std.proofs.Common.{rules}
use Rattle.declaration_text.proofs.Templates.{expressions_are}
use Rattle.declaration_text.proofs.leaves.expressions.Goals as goal

pub returns : goal.returns
returns c = expressions_are c.split.ensures (λ m p. search rules) (λ m p. search rules)
