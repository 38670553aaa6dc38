-- `prescan::enter_decl` meets its contract: in each arm the mark picks the definition's case.
use native.Mathlib.Omega.{arith}
use Rattle.prescan.proofs.Laws.{second_child, named_kids, class_mark, cl_mark, decl_fn, decl_class, decl_var, decl_other}
use Rattle.prescan.proofs.Tables.{filled_none, filled_eq}
use Rattle.prescan.proofs.enter_decl.Goals as goal

pub rest-requires : goal.rest-requires
rest-requires c = omega (arith, c.children.ensures.many, named_kids c.args.decl (class_mark c.args.decl c.mark.ensures c.in-Cd.is))

pub first-class-requires : goal.first-class-requires
first-class-requires c = omega (arith, c.rest.ensures.many, c.children.ensures.many, named_kids c.args.decl (class_mark c.args.decl c.mark.ensures c.in-Cd.is))

pub add_class-requires : goal.add_class-requires
add_class-requires c =
    cl_mark c.args.decl c.mark.ensures c.in-Cd.is
    (second_child c.children.ensures (named_kids c.args.decl (class_mark c.args.decl c.mark.ensures c.in-Cd.is)) c.rest.ensures c.first-class.ensures)

pub returns-in-Fd : goal.returns-in-Fd
returns-in-Fd c = filled_eq (omega arith) (decl_fn c.args.decl c.mark.ensures c.in-Fd.is) c.enter_named.ensures

pub returns-in-Cd : goal.returns-in-Cd
returns-in-Cd c =
    let x = second_child c.children.ensures (named_kids c.args.decl (class_mark c.args.decl c.mark.ensures c.in-Cd.is)) c.rest.ensures c.first-class.ensures in
    filled_eq (omega arith) (decl_class c.args.decl c.mark.ensures c.in-Cd.is x c.add_class.ensures) c.enter_named-in-Cd.ensures

pub returns-in-Vd : goal.returns-in-Vd
returns-in-Vd c = filled_eq (omega arith) (decl_var c.args.decl c.mark.ensures c.in-Vd.is) c.enter_var.ensures

pub returns-in_default : goal.returns-in_default
returns-in_default c =
    filled_none c.args.decl c.requires
    (decl_other c.args.decl c.mark.ensures c.in_default.not-Fd c.in_default.not-Fx c.in_default.not-Cd c.in_default.not-Cx c.in_default.not-Vd)
