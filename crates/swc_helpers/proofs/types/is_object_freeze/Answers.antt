-- `types::is_object_freeze` meets its contract.
use Rattle.std.proofs.Common.{sym, ◌∙◌, arith, eqb-true}
use Rattle.records.specs.declared.marks.Mark.TheVariants.{Mb, Ki}
use Rattle.records.proofs.Records.{from_children, from_rest, child_is}
use Rattle.records.proofs.SameMarks.{tested, same, other}
use Rattle.swc_helpers.proofs.Freeze.{two_parts, no_member, another_object, member_by}
use Rattle.swc_helpers.proofs.types.is_object_freeze.Goals as goal

pub returns-then-ne : goal.returns-then-ne
returns-then-ne c = sym (no_member c.args.unresolved c.args.callee (other _ c.mark.ensures Mb c.ne.ensures c.if-ne.true))

pub first-requires : goal.first-requires
first-requires c = omega (arith, c.children-parts.ensures.many, two_parts c.args.callee (eqb-true _ _ (same _ c.mark.ensures Mb c.ne.ensures c.if-ne.false)))

pub rest-requires : goal.rest-requires
rest-requires c = omega (arith, c.children-parts.ensures.many, two_parts c.args.callee (eqb-true _ _ (same _ c.mark.ensures Mb c.ne.ensures c.if-ne.false)))

pub first-prop-requires : goal.first-prop-requires
first-prop-requires c = omega (arith, c.children-parts.ensures.many, c.rest.ensures.many, two_parts c.args.callee (eqb-true _ _ (same _ c.mark.ensures Mb c.ne.ensures c.if-ne.false)))

pub returns-then-not-is_global : goal.returns-then-not-is_global
returns-then-not-is_global c =
    let e = same _ c.mark.ensures Mb c.ne.ensures c.if-ne.false in
    let n = two_parts c.args.callee (eqb-true _ _ e) in
    let x = child_is (from_children c.children-parts.ensures) (omega (arith, c.children-parts.ensures.many, n)) c.first.ensures in
    sym (another_object c.args.unresolved c.args.callee x (sym c.is_global.ensures ∙ c.if-not-is_global.true))

pub returns-then-eq : goal.returns-then-eq
returns-then-eq c =
    let e = same _ c.mark.ensures Mb c.ne.ensures c.if-ne.false in
    let n = two_parts c.args.callee (eqb-true _ _ e) in
    let f = from_children c.children-parts.ensures in
    let x = child_is f (omega (arith, c.children-parts.ensures.many, n)) c.first.ensures in
    let g = from_rest f (omega (arith, c.children-parts.ensures.many, n)) c.rest.ensures in
    let y = child_is g (omega (arith, c.children-parts.ensures.many, c.rest.ensures.many, n)) c.first-prop.ensures in
    c.same_text.ensures
    ∙ rw (c.text.ensures.text) (sym (member_by c.args.unresolved c.args.callee e x y
    ∙ rw (sym c.is_global.ensures ∙ c.if-not-is_global.false, sym (tested _ c.mark-2.ensures Ki) ∙ (sym c.eq.ensures ∙ c.if-eq.true))))

pub returns-else-eq : goal.returns-else-eq
returns-else-eq c =
    let e = same _ c.mark.ensures Mb c.ne.ensures c.if-ne.false in
    let n = two_parts c.args.callee (eqb-true _ _ e) in
    let f = from_children c.children-parts.ensures in
    let x = child_is f (omega (arith, c.children-parts.ensures.many, n)) c.first.ensures in
    let g = from_rest f (omega (arith, c.children-parts.ensures.many, n)) c.rest.ensures in
    let y = child_is g (omega (arith, c.children-parts.ensures.many, c.rest.ensures.many, n)) c.first-prop.ensures in
    c.if-eq.false ∙ sym (member_by c.args.unresolved c.args.callee e x y
    ∙ rw (sym c.is_global.ensures ∙ c.if-not-is_global.false, sym (tested _ c.mark-2.ensures Ki) ∙ (sym c.eq.ensures ∙ c.if-eq.false)))
