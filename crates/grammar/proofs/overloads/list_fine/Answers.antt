-- `grammar::overloads::list_fine` meets its contract: the entries before i are in order.
use mathlib.Core.Path.{sym, ◌∙◌}
use native.Mathlib.Omega.{arith}
use Rattle.grammar.proofs.Entries.{list-long, list-parts, passed_start, wrong_mark, backward, passed-turn, passed-all}
use Rattle.grammar.proofs.overloads.list_fine.Goals as goal

pub returns-then-list-gt-LONGEST_LIST : goal.returns-then-list-gt-LONGEST_LIST
returns-then-list-gt-LONGEST_LIST c = list-long _ c.if-list-gt-LONGEST_LIST.true

pub returns-then-list-ne0 : goal.returns-then-list-ne0
returns-then-list-ne0 c = list-parts _ c.if-list-gt-LONGEST_LIST.false c.if-list-ne0.true

pub loop-i-init : goal.loop-i-init
loop-i-init c = passed_start _ c.if-list-gt-LONGEST_LIST.false c.if-list-ne0.false

pub overflow_mul-i : goal.overflow_mul-i
overflow_mul-i c = omega arith

pub u16_at-requires : goal.u16_at-requires
u16_at-requires c = omega arith

pub returns-then-u16_at-ne-OV : goal.returns-then-u16_at-ne-OV
returns-then-u16_at-ne-OV c = wrong_mark _ _ _ c.loop-i.invariant c.loop-i-test.true (λ e. c.if-u16_at-ne-OV.true (c.u16_at.ensures.0 ∙ e))

pub overflow_mul-i-in-loop-i : goal.overflow_mul-i-in-loop-i
overflow_mul-i-in-loop-i c = omega arith

pub overflow_add-i : goal.overflow_add-i
overflow_add-i c = omega arith

pub u32_at-requires : goal.u32_at-requires
u32_at-requires c = omega arith

pub overflow_mul-i-in-loop-i-2 : goal.overflow_mul-i-in-loop-i-2
overflow_mul-i-in-loop-i-2 c = omega arith

pub overflow_add-i-in-loop-i : goal.overflow_add-i-in-loop-i
overflow_add-i-in-loop-i c = omega arith

pub u32_at-requires-in-loop-i : goal.u32_at-requires-in-loop-i
u32_at-requires-in-loop-i c = omega arith

pub returns-then-u32_at : goal.returns-then-u32_at
returns-then-u32_at c = backward _ _ _ c.loop-i.invariant c.loop-i-test.true (sym c.u16_at.ensures.0 ∙ c.if-u16_at-ne-OV.false) (omega (arith, c.u32_at.ensures.0, c.u32_at-in-loop-i.ensures.0, c.if-u32_at.true))

pub loop-i-preserved : goal.loop-i-preserved
loop-i-preserved c = passed-turn _ _ _ c.loop-i.invariant c.loop-i-test.true (sym c.u16_at.ensures.0 ∙ c.if-u16_at-ne-OV.false) (omega (arith, c.u32_at.ensures.0, c.u32_at-in-loop-i.ensures.0, c.if-u32_at.false))

pub returns : goal.returns
returns c = passed-all _ _ _ c.loop-i.invariant c.loop-i-test.false
