-- `split_quasis` meets its contract: what was counted by the mark.
use Rattle.std.proofs.Common.{rules}
use Rattle.declaration_text.proofs.Templates.{quasis_are}
use Rattle.declaration_text.proofs.leaves.split_quasis.Goals as goal

pub returns : goal.returns
returns c = quasis_are c.split.ensures (λ m p. search rules) (λ m p. search rules)
