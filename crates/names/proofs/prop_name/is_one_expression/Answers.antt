-- `names::prop_name::is_one_expression` meets its contract.
use Rattle.std.proofs.Common.{sym, ◌∙◌, arith, inl, inr, eq-eqb}
use Rattle.records.specs.declared.marks.Mark.TheVariants.{Op, Qu}
use Rattle.records.proofs.Records.{from_children, from_rest, child_is}
use Rattle.records.proofs.SameMarks.{tested, marked, not_marked}
use Rattle.names.proofs.KeyLaws.{only_none, only_quasi, only_op, only_one, only_before}
use Rattle.names.proofs.prop_name.is_one_expression.Goals as goal

pub returns-then-kids-eq0 : goal.returns-then-kids-eq0
returns-then-kids-eq0 c = sym (only_none c.children-kids.ensures c.if-kids-eq0.true)

pub returns-in-Qu : goal.returns-in-Qu
returns-in-Qu c =
    let x = child_is (from_children c.children-kids.ensures) (omega (arith, c.if-kids-eq0.false)) c.first.ensures in
    sym (elim c.in-Qu.is [
      | inl e ↦ only_quasi x (eq-eqb _ _ (marked _ c.mark.ensures e))
      | inr e ↦ only_op x (eq-eqb _ _ (marked _ c.mark.ensures e))
    ])

pub returns-then-kids-eq1 : goal.returns-then-kids-eq1
returns-then-kids-eq1 c =
    let x = child_is (from_children c.children-kids.ensures) (omega (arith, c.if-kids-eq0.false)) c.first.ensures in
    sym (only_one x (not_marked _ c.mark.ensures Qu c.in_default.not-Qu) (not_marked _ c.mark.ensures Op c.in_default.not-Op) (omega (arith, c.children-kids.ensures.many, c.if-kids-eq1.true)))

pub returns : goal.returns
returns c =
    let f = from_children c.children-kids.ensures in
    let x = child_is f (omega (arith, c.if-kids-eq0.false)) c.first.ensures in
    let g = from_rest f (omega (arith, c.if-kids-eq0.false)) c.rest.ensures in
    let y = child_is g (omega (arith, c.rest.ensures.many, c.if-kids-eq0.false, c.if-kids-eq1.false)) c.first-2.ensures in
    c.eq.ensures
    ∙ (tested _ c.mark-2.ensures Op
    ∙ sym (only_before x (not_marked _ c.mark.ensures Qu c.in_default.not-Qu) (not_marked _ c.mark.ensures Op c.in_default.not-Op) y))
