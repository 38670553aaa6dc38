-- `overload_list::is_impl_with_overloads` meets its contract: the entries before `entry` have another range.
use mathlib.Core.Path.{ap, ◌∙◌}
use mathlib.Core.Bool.{◌&&◌}
use Prim.Native.Nat.{◌+◌}
use native.Mathlib.Omega.{arith}
use lib.Dec.{eqb}
use Rattle.definition.specs.Tree.{u32_at}
use Rattle.records.specs.declared.Range.{Range}
use Rattle.classes.proofs.Listed.{looking_start, looking_done, looking_found, looking_other}
use Rattle.classes.proofs.overload_list.is_impl_with_overloads.Goals as goal

pub loop-left-init : goal.loop-left-init
loop-left-init c = looking_start _ _

pub returns-then-has_range : goal.returns-then-has_range
returns-then-has_range c =
    looking_found c.loop-left.invariant c.loop-left-test.true (c.has_range.ensures ∙ ap (λ (r : Range). eqb (u32_at c.args.list.now (c.loop-left.entry + 2)) r.start && eqb (u32_at c.args.list.now (c.loop-left.entry + 6)) r.end) c.range-range.ensures) c.if-has_range.true

pub loop-left-preserved : goal.loop-left-preserved
loop-left-preserved c =
    looking_other c.loop-left.invariant c.loop-left-test.true (c.has_range.ensures ∙ ap (λ (r : Range). eqb (u32_at c.args.list.now (c.loop-left.entry + 2)) r.start && eqb (u32_at c.args.list.now (c.loop-left.entry + 6)) r.end) c.range-range.ensures) c.if-has_range.false

pub returns : goal.returns
returns c = looking_done c.loop-left.invariant (omega arith)
