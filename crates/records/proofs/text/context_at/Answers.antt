-- `records::text::context_at` meets its contract: an Id's text has the four bytes of its context.
use mathlib.Core.Path.{ap, ◌∙◌}
use mathlib.Core.List.{List}
use Prim.Native.Nat.{ℕ, ◌+◌}
use native.Mathlib.Omega.{arith}
use lib.ListN.{length}
use Rattle.definition.specs.Tree.{head_size, length_at, u32_at}
use Rattle.definition.proofs.Places.{part_length}
use Rattle.records.proofs.text.context_at.Goals as goal

pub u32_at-requires : goal.u32_at-requires
u32_at-requires c = omega (arith, ap length c.text_at.ensures, c.requires, part_length c.args.tree.now (c.args.at + head_size) (length_at c.args.tree.now c.args.at) c.requires.0)

pub returns : goal.returns
returns c = c.u32_at.ensures.0 ∙ ap (λ (t : List ℕ). u32_at t 0) c.text_at.ensures
