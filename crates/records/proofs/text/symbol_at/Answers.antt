-- `records::text::symbol_at` meets its contract: an Id's text has the four bytes of its context.
use mathlib.Core.Path.{ap, ◌∙◌}
use Prim.Native.Nat.{ℕ, ◌+◌, ◌-◌, ◌≤◌}
use mathlib.Core.List.{List}
use native.Mathlib.Omega.{arith}
use lib.ListN.{length, drop, length-drop}
use lib.Seq.{take_all}
use Rattle.definition.specs.Tree.{head_size, length_at}
use Rattle.definition.proofs.Places.{part_length}
use Rattle.records.proofs.text.symbol_at.Goals as goal

-- the text that was read has at least four bytes
long : (c : goal.After-text_at-text) → 4 ≤ length c.text_at-text.result.now
long c =
    omega (arith, ap length c.text_at-text.ensures, c.requires, part_length c.args.tree.now (c.args.at + head_size) (length_at c.args.tree.now c.args.at) c.requires.0)

pub slice_bounds-result-count : goal.slice_bounds-result-count
slice_bounds-result-count c = omega (arith, long c)

pub slice_bounds-result-start : goal.slice_bounds-result-start
slice_bounds-result-start c = omega (arith, long c)

pub returns : goal.returns
returns c =
    let t : List ℕ = c.text_at-text.result.now in
    take_all (length t - 4) (drop 4 t) (simp length-drop (omega arith)) ∙ ap (drop 4) c.text_at-text.ensures
