-- `declarators::declarator_pattern` meets its contract.
use Rattle.std.proofs.Common.{arith, refl, eqb-true}
use Rattle.records.specs.declared.marks.Mark.TheVariants.{Bd}
use Rattle.records.proofs.Records.{from_children, from_rest, child_is}
use Rattle.records.proofs.SameMarks.{same, other}
use Rattle.typing.proofs.ReadyFor.{ready_child}
use Rattle.items.proofs.VarTypes.{vr_two, pattern_other, pattern_ident}
use Rattle.items.proofs.declarators.declarator_pattern.Goals as goal

pub first-pattern-requires : goal.first-pattern-requires
first-pattern-requires c = omega (arith, c.children-parts.ensures.many, vr_two c.args.var c.requires.1)

pub rest-requires : goal.rest-requires
rest-requires c = omega (arith, c.children-parts.ensures.many, vr_two c.args.var c.requires.1)

pub first-requires : goal.first-requires
first-requires c = omega (arith, c.children-parts.ensures.many, c.rest.ensures.many, vr_two c.args.var c.requires.1)

pub declarator_ident-requires : goal.declarator_ident-requires
declarator_ident-requires c =
    let n = vr_two c.args.var c.requires.1 in
    let g = from_rest (from_children c.children-parts.ensures) (omega (arith, c.children-parts.ensures.many, n)) c.rest.ensures in (
      ready_child c.requires.0 (child_is g (omega (arith, c.children-parts.ensures.many, c.rest.ensures.many, n)) c.first.ensures) refl,
      eqb-true _ _ (same _ c.mark.ensures Bd c.ne.ensures c.if-ne.false),
    )

pub returns-then-ne : goal.returns-then-ne
returns-then-ne c =
    let x = child_is (from_children c.children-parts.ensures) (omega (arith, c.children-parts.ensures.many, vr_two c.args.var c.requires.1)) c.first-pattern.ensures in
    pattern_other c.args.scope x (other _ c.mark.ensures Bd c.ne.ensures c.if-ne.true) c.keep.ensures c.mark_diagnostic.ensures

pub returns : goal.returns
returns c =
    let n = vr_two c.args.var c.requires.1 in
    let f = from_children c.children-parts.ensures in
    let x = child_is f (omega (arith, c.children-parts.ensures.many, n)) c.first-pattern.ensures in
    let g = from_rest f (omega (arith, c.children-parts.ensures.many, n)) c.rest.ensures in
    let y = child_is g (omega (arith, c.children-parts.ensures.many, c.rest.ensures.many, n)) c.first.ensures in
    pattern_ident c.args.scope x y (same _ c.mark.ensures Bd c.ne.ensures c.if-ne.false) c.declarator_ident.ensures
