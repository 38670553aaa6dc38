-- `types::object_freeze_call_arg` meets its contract.
use Rattle.std.proofs.Common.{sym, ap, ◌∙◌, arith, inl, inr, eq-eqb}
use Rattle.records.specs.declared.marks.Mark.TheVariants.{Op, Sp}
use Rattle.records.proofs.Records.{from_children, from_rest, child_is}
use Rattle.records.proofs.Fronts.{ends_none, ends_at}
use Rattle.records.proofs.SameMarks.{marked, not_marked, same, other}
use Rattle.swc_helpers.specs.Found.{is_object_freeze}
use Rattle.swc_helpers.proofs.Freeze.{has_callee, another_callee, no_argument, op_argument, spread_argument, more_arguments, one_argument}
use Rattle.swc_helpers.proofs.types.object_freeze_call_arg.Goals as goal

pub first-requires : goal.first-requires
first-requires c = omega (arith, c.children-kids.ensures.many, has_callee c.args.call c.requires)

pub returns-then-not-is_object_freeze : goal.returns-then-not-is_object_freeze
returns-then-not-is_object_freeze c =
    let x = child_is (from_children c.children-kids.ensures) (omega (arith, c.children-kids.ensures.many, has_callee c.args.call c.requires)) c.first.ensures in
    another_callee _ _ (ap (is_object_freeze c.args.unresolved) (sym x.is) ∙ (sym c.is_object_freeze.ensures ∙ c.if-not-is_object_freeze.true))

pub returns-then-kids-lt2 : goal.returns-then-kids-lt2
returns-then-kids-lt2 c = no_argument _ _ (omega (arith, c.children-kids.ensures.many, c.if-kids-lt2.true))

pub returns-in-Op : goal.returns-in-Op
returns-in-Op c =
    let f = from_children c.children-kids.ensures in
    let x = child_is f (omega arith) c.first.ensures in
    let g = from_rest f (omega arith) c.rest-args.ensures in
    let y = child_is g (omega (arith, c.rest-args.ensures.many)) c.first-arg.ensures in
    let o = sym c.is_object_freeze.ensures ∙ c.if-not-is_object_freeze.false in
    elim c.in-Op.is [
      | inl e ↦ op_argument c.args.unresolved x y o (eq-eqb _ _ (marked _ c.mark.ensures e))
      | inr e ↦ spread_argument c.args.unresolved x y o (eq-eqb _ _ (marked _ c.mark.ensures e))
    ]

pub returns-then-args-eq1 : goal.returns-then-args-eq1
returns-then-args-eq1 c =
    let f = from_children c.children-kids.ensures in
    let x = child_is f (omega arith) c.first.ensures in
    let g = from_rest f (omega arith) c.rest-args.ensures in
    let y = child_is g (omega (arith, c.rest-args.ensures.many)) c.first-arg.ensures in
    let o = sym c.is_object_freeze.ensures ∙ c.if-not-is_object_freeze.false in
    (one_argument c.args.unresolved x y o (not_marked _ c.mark.ensures Op c.in_default.not-Op) (not_marked _ c.mark.ensures Sp c.in_default.not-Sp) (ends_none 2 _ (omega (arith, g.many, c.if-args-eq1.true))), y)

pub returns-then-ne : goal.returns-then-ne
returns-then-ne c =
    let f = from_children c.children-kids.ensures in
    let x = child_is f (omega arith) c.first.ensures in
    let g = from_rest f (omega arith) c.rest-args.ensures in
    let y = child_is g (omega (arith, c.rest-args.ensures.many)) c.first-arg.ensures in
    let o = sym c.is_object_freeze.ensures ∙ c.if-not-is_object_freeze.false in
    let z = child_is (from_rest g (omega (arith, c.rest-args.ensures.many)) c.rest.ensures) (omega (arith, c.rest-args.ensures.many, c.rest.ensures.many, c.if-args-eq1.false)) c.first-2.ensures in
    more_arguments c.args.unresolved x y o (ends_at 2 z ∙ other _ c.mark-2.ensures Op c.ne.ensures c.if-ne.true)

pub returns : goal.returns
returns c =
    let f = from_children c.children-kids.ensures in
    let x = child_is f (omega arith) c.first.ensures in
    let g = from_rest f (omega arith) c.rest-args.ensures in
    let y = child_is g (omega (arith, c.rest-args.ensures.many)) c.first-arg.ensures in
    let o = sym c.is_object_freeze.ensures ∙ c.if-not-is_object_freeze.false in
    let z = child_is (from_rest g (omega (arith, c.rest-args.ensures.many)) c.rest.ensures) (omega (arith, c.rest-args.ensures.many, c.rest.ensures.many, c.if-args-eq1.false)) c.first-2.ensures in
    (one_argument c.args.unresolved x y o (not_marked _ c.mark.ensures Op c.in_default.not-Op) (not_marked _ c.mark.ensures Sp c.in_default.not-Sp) (ends_at 2 z ∙ same _ c.mark-2.ensures Op c.ne.ensures c.if-ne.false), y)
