-- `index::find` meets its contract: the names below `low` are before the name, those from `high` on are behind it.
use native.Mathlib.Omega.{arith}
use mathlib.Core.Path.{ap, ◌∙◌}
use Rattle.std.proofs.Common.{Less, Equal, Greater}
use Rattle.std.specs.Ordering.{nat_cmp}
use Rattle.std.specs.Cmp.Lexicographic.{slice_cmp}
use Rattle.index.proofs.Laws.{ordered, halving_here, halving_up, halving_down, halving_done}
use Rattle.index.proofs.find.Goals as goal

pub loop-low-preserved-in-Less : goal.loop-low-preserved-in-Less
loop-low-preserved-in-Less c = halving_up c.loop-low.invariant c.requires (omega arith) (omega (arith, c.loop-low-test.true)) (ordered _ _ Less (c.in-Less.ensures ∙ ap (λ e. slice_cmp nat_cmp e c.args.name.now) c.name_at.ensures))

pub returns-in-Equal : goal.returns-in-Equal
returns-in-Equal c = halving_here c.loop-low.invariant c.requires (omega arith) (omega (arith, c.loop-low-test.true)) (ordered _ _ Equal (c.in-Equal.ensures ∙ ap (λ e. slice_cmp nat_cmp e c.args.name.now) c.name_at.ensures))

pub loop-low-preserved : goal.loop-low-preserved
loop-low-preserved c = halving_down c.loop-low.invariant c.requires (omega arith) (omega (arith, c.loop-low-test.true)) (ordered _ _ Greater (c.in-Greater.ensures ∙ ap (λ e. slice_cmp nat_cmp e c.args.name.now) c.name_at.ensures))

pub returns : goal.returns
returns c = halving_done c.loop-low.invariant c.loop-low-test.false
