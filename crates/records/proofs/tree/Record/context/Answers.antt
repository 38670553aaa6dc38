use mathlib.Core.Path.{ap, ◌∙◌}
use mathlib.Core.List.{List}
use Prim.Native.Nat.{ℕ}
use Rattle.definition.specs.Tree.{u32_at}
use Rattle.definition.proofs.Children.{itself}
use Rattle.definition.proofs.Kids.{id-text}
use Rattle.records.proofs.Views.{accepted, mark_here, text_here}
use Rattle.records.proofs.tree.Record.context.Goals as goal

pub context_at-requires : goal.context_at-requires
context_at-requires c = ((itself _ _ _ (accepted c.args.self)).fits, id-text _ _ _ (accepted c.args.self) (mark_here c.args.self ∙ c.requires))

pub returns : goal.returns
returns c = c.context_at.ensures ∙ ap (λ (t : List ℕ). u32_at t 0) (text_here c.args.self)
