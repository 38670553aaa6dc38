-- `exports::export_default_decl` meets its contract.
use Rattle.std.proofs.Common.{arith, ap, sym, ◌∙◌}
use Rattle.definition.specs.Record.{mark_of}
use Rattle.records.specs.declared.marks.Mark.TheVariants.{Cx, Fx}
use Rattle.records.proofs.Records.{from_children, child_is}
use Rattle.records.proofs.SameMarks.{marked, not_marked}
use Rattle.items.proofs.DefaultParts.{xd_one, default_class, default_gone, default_bare, default_other}
use Rattle.items.proofs.exports.export_default_decl.Goals as goal

pub first-requires : goal.first-requires
first-requires c = omega (arith, c.children.ensures.many, xd_one c.args.export c.requires.1)

pub default_class-requires : goal.default_class-requires
default_class-requires c =
    let x = child_is (from_children c.children.ensures) (omega (arith, c.children.ensures.many, xd_one c.args.export c.requires.1)) c.first.ensures in
    record { ready = c.requires; class = ap mark_of (sym x.is) ∙ marked _ c.mark.ensures c.in-Cx.is }

pub default_fn-requires : goal.default_fn-requires
default_fn-requires c =
    let x = child_is (from_children c.children.ensures) (omega (arith, c.children.ensures.many, xd_one c.args.export c.requires.1)) c.first.ensures in
    record { xd = c.requires.1; function = ap mark_of (sym x.is) ∙ marked _ c.mark.ensures c.in-Fx.is }

pub returns-in-Cx : goal.returns-in-Cx
returns-in-Cx c =
    let x = child_is (from_children c.children.ensures) (omega (arith, c.children.ensures.many, xd_one c.args.export c.requires.1)) c.first.ensures in
    default_class c.args.list.now c.args.scope c.args.export x (marked _ c.mark.ensures c.in-Cx.is) c.default_class.ensures

pub returns-then-is_impl_with_overloads : goal.returns-then-is_impl_with_overloads
returns-then-is_impl_with_overloads c =
    let x = child_is (from_children c.children.ensures) (omega (arith, c.children.ensures.many, xd_one c.args.export c.requires.1)) c.first.ensures in
    default_gone c.args.list.now c.args.scope c.args.export x (marked _ c.mark.ensures c.in-Fx.is) (sym c.is_impl_with_overloads.ensures ∙ c.if-is_impl_with_overloads.true) c.args.o.now

pub returns-else-is_impl_with_overloads : goal.returns-else-is_impl_with_overloads
returns-else-is_impl_with_overloads c =
    let x = child_is (from_children c.children.ensures) (omega (arith, c.children.ensures.many, xd_one c.args.export c.requires.1)) c.first.ensures in
    default_bare c.args.list.now c.args.scope c.args.export x (marked _ c.mark.ensures c.in-Fx.is) (sym c.is_impl_with_overloads.ensures ∙ c.if-is_impl_with_overloads.false) c.default_fn.ensures

pub returns-in_default : goal.returns-in_default
returns-in_default c =
    let x = child_is (from_children c.children.ensures) (omega (arith, c.children.ensures.many, xd_one c.args.export c.requires.1)) c.first.ensures in
    default_other c.args.list.now c.args.scope c.args.export x (not_marked _ c.mark.ensures Cx c.in_default.not-Cx) (not_marked _ c.mark.ensures Fx c.in_default.not-Fx) c.keep.ensures
