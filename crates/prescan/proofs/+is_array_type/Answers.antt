-- `prescan::is_array_type` meets its contract: in each arm the mark picks the definition's case.
use mathlib.Core.Path.{sym, ◌∙◌}
use native.Mathlib.Omega.{arith}
use Rattle.prescan.proofs.Laws.{first_child, type_array, type_other, readonly_kid, type_readonly, ref_kid, type_ref}
use Rattle.prescan.proofs.+is_array_type.Goals as goal

pub first-requires : goal.first-requires
first-requires t c = omega (arith, c.children.ensures.many, readonly_kid c.args.ty c.mark.ensures c.in-Ro.is)

pub first-requires-in-Rf : goal.first-requires-in-Rf
first-requires-in-Rf t c = omega (arith, c.children-in-Rf.ensures.many, ref_kid c.args.ty c.mark.ensures c.in-Rf.is)

pub returns-in-Ay : goal.returns-in-Ay
returns-in-Ay t c = sym (type_array c.args.ty c.mark.ensures c.in-Ay.is)

pub returns-in-Ro : goal.returns-in-Ro
returns-in-Ro t c =
    c.is_array_type.ensures ∙ type_readonly c.args.ty c.mark.ensures c.in-Ro.is (first_child c.children.ensures (readonly_kid c.args.ty c.mark.ensures c.in-Ro.is) c.first.ensures)

pub returns-in-Rf : goal.returns-in-Rf
returns-in-Rf t c =
    c.refers_to_array.ensures ∙ type_ref c.args.ty c.mark.ensures c.in-Rf.is (first_child c.children-in-Rf.ensures (ref_kid c.args.ty c.mark.ensures c.in-Rf.is) c.first-in-Rf.ensures)

pub returns-in_default : goal.returns-in_default
returns-in_default t c = sym (type_other c.args.ty c.mark.ensures c.in_default.not-Ay c.in_default.not-Tu c.in_default.not-Ro c.in_default.not-Rf)
