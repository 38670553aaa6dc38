-- `class_body::class_member` meets its contract.
use Rattle.std.proofs.Common.{sym}
use Rattle.records.specs.declared.marks.Mark.TheVariants.{Co, Me, Cp, Dm}
use Rattle.records.specs.Views.{rec_of}
use Rattle.records.proofs.SameMarks.{marked, not_marked}
use Rattle.output.proofs.Framing.{makes-keeps}
use Rattle.typing.specs.Values.{typing_in}
use Rattle.classes.proofs.MemberLaws.{counted_as, counted_one, counted_none, constructor_listed, constructor_stands, method_listed, method_stands, prop_stands, dropped_goes, other_stands}
use Rattle.classes.proofs.class_body.class_member.Goals as goal

pub returns-in-Co : goal.returns-in-Co
returns-in-Co c =
    counted_none c.args.o.now
    (constructor_listed c.args.list.now c.args.scope.unresolved (typing_in c.args.scope) (rec_of c.args.r) c.args.o.now.names.id_counter (marked _ c.mark.ensures c.in-Co.is) (sym c.if-is_impl_with_overloads.ensures))

pub returns-in-Co-2 : goal.returns-in-Co-2
returns-in-Co-2 c =
    counted_as c.constructor.ensures
    (constructor_stands c.args.list.now c.args.scope.unresolved (typing_in c.args.scope) (rec_of c.args.r) c.args.o.now.names.id_counter (marked _ c.mark.ensures c.in-Co.is) (sym c.if-is_impl_with_overloads.ensures))

pub returns-in-Me : goal.returns-in-Me
returns-in-Me c =
    counted_none c.args.o.now
    (method_listed c.args.list.now c.args.scope.unresolved (typing_in c.args.scope) (rec_of c.args.r) c.args.o.now.names.id_counter (marked _ c.mark.ensures c.in-Me.is) (sym c.if-is_impl_with_overloads-2.ensures))

pub returns-in-Me-2 : goal.returns-in-Me-2
returns-in-Me-2 c =
    counted_as c.method.ensures
    (method_stands c.args.list.now c.args.scope.unresolved (typing_in c.args.scope) (rec_of c.args.r) c.args.o.now.names.id_counter (marked _ c.mark.ensures c.in-Me.is) (sym c.if-is_impl_with_overloads-2.ensures))

pub returns-in-Cp : goal.returns-in-Cp
returns-in-Cp c =
    counted_as c.class_prop.ensures (prop_stands c.args.list.now c.args.scope.unresolved (typing_in c.args.scope) (rec_of c.args.r) c.args.o.now.names.id_counter (marked _ c.mark.ensures c.in-Cp.is))

pub returns-in-Dm : goal.returns-in-Dm
returns-in-Dm c = counted_none c.args.o.now (dropped_goes c.args.list.now c.args.scope.unresolved (typing_in c.args.scope) (rec_of c.args.r) c.args.o.now.names.id_counter (marked _ c.mark.ensures c.in-Dm.is))

pub returns-in_default : goal.returns-in_default
returns-in_default c =
    counted_as (counted_one (makes-keeps (rec_of c.args.r) c.keep.ensures))
    (other_stands c.args.list.now c.args.scope.unresolved (typing_in c.args.scope) (rec_of c.args.r) c.args.o.now.names.id_counter
    (not_marked _ c.mark.ensures Co c.in_default.not-Co) (not_marked _ c.mark.ensures Me c.in_default.not-Me) (not_marked _ c.mark.ensures Cp c.in_default.not-Cp) (not_marked _ c.mark.ensures Dm c.in_default.not-Dm))
