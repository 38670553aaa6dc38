-- `prescan::enter_var` meets its contract: each turn of the loop enters one declarator.
use mathlib.Core.Path.{sym, ◌∙◌}
use native.Mathlib.Omega.{arith}
use Rattle.definition.specs.Prescan.{add_declarator}
use Rattle.prescan.proofs.Tables.{Vars, vars_step, vars_none, filled_none, filled_eq, filling_start, filling_turn, filling_done}
use Rattle.prescan.proofs.enter_var.Goals as goal

pub returns-then-not-has_flag : goal.returns-then-not-has_flag
returns-then-not-has_flag c = filled_none c.args.var c.requires (λ q t. rw (sym c.flags.ensures, sym c.has_flag.ensures ∙ c.if-not-has_flag.true))

pub loop-declarator-init : goal.loop-declarator-init
loop-declarator-init c = rw c.into_iter-declarator-iterator.ensures.into_iter_gives (filling_start Vars c.children-declarator-items.ensures c.requires)

pub loop-declarator-preserved : goal.loop-declarator-preserved
loop-declarator-preserved c = filling_turn c.loop-declarator.invariant add_declarator vars_step c.in-Some.ensures.steps c.enter_declarator.ensures

pub returns : goal.returns
returns c = filled_eq (omega arith) (λ q t. rw (sym c.flags.ensures, sym c.has_flag.ensures ∙ c.if-not-has_flag.false)) (filling_done c.loop-declarator.invariant vars_none c.in-None.ensures.steps.0)
