-- `prescan::is_array_lit_init` meets its contract: in each arm the mark picks the definition's case.
use mathlib.Core.Path.{sym, ◌∙◌}
use native.Mathlib.Omega.{arith}
use Rattle.prescan.proofs.Laws.{first_child, second_child, init_array, init_other, through_kid, init_through, as_kids, init_as}
use Rattle.prescan.proofs.+is_array_lit_init.Goals as goal

pub first-requires : goal.first-requires
first-requires t c = omega (arith, c.children.ensures.many, through_kid c.args.init c.mark.ensures c.in-Pr.is)

pub rest-requires : goal.rest-requires
rest-requires t c = omega (arith, c.children-in-As.ensures.many, as_kids c.args.init c.mark.ensures c.in-As.is)

pub first-requires-in-As : goal.first-requires-in-As
first-requires-in-As t c = omega (arith, c.children-in-As.ensures.many, c.rest.ensures.many, as_kids c.args.init c.mark.ensures c.in-As.is)

pub returns-in-Ar : goal.returns-in-Ar
returns-in-Ar t c = sym (init_array c.args.init c.mark.ensures c.in-Ar.is)

pub returns-in-Pr : goal.returns-in-Pr
returns-in-Pr t c =
    c.is_array_lit_init.ensures ∙ init_through c.args.init c.mark.ensures c.in-Pr.is (first_child c.children.ensures (through_kid c.args.init c.mark.ensures c.in-Pr.is) c.first.ensures)

pub returns-in-As : goal.returns-in-As
returns-in-As t c =
    c.is_array_type.ensures ∙ init_as c.args.init c.mark.ensures c.in-As.is (second_child c.children-in-As.ensures (as_kids c.args.init c.mark.ensures c.in-As.is) c.rest.ensures c.first-in-As.ensures)

pub returns-in_default : goal.returns-in_default
returns-in_default t c =
    sym (init_other c.args.init c.mark.ensures c.in_default.not-Ar c.in_default.not-Pr c.in_default.not-Tc c.in_default.not-Ts c.in_default.not-As)
