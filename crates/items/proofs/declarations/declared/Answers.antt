-- `declarations::declared` meets its contract.
use Rattle.std.proofs.Common.{refl, inl, ◌∙◌}
use Rattle.items.proofs.DeclParts.{flag_set, flag_cleared}
use Rattle.items.proofs.declarations.declared.Goals as goal

pub with_flag-requires : goal.with_flag-requires
with_flag-requires c = inl refl

pub returns-then-top : goal.returns-then-top
returns-then-top c = c.with_flag.ensures ∙ flag_set _ _ c.if-top.true

pub without_flag-requires : goal.without_flag-requires
without_flag-requires c = inl refl

pub returns : goal.returns
returns c = c.without_flag.ensures ∙ flag_cleared _ _ c.if-top.false
