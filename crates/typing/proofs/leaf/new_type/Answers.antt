-- `leaf::new_type` meets its contract.
use Rattle.std.proofs.Common.{arith}
use Rattle.definition.specs.Prescan.{Question.non_generic_class}
use Rattle.definition.specs.Record.{text_of}
use Rattle.records.specs.declared.marks.Mark.TheVariants.{Id, No}
use Rattle.records.specs.Views.{rec_of}
use Rattle.records.proofs.Records.{from_children, from_rest, child_is}
use Rattle.records.proofs.SameMarks.{same, other}
use Rattle.swc_helpers.proofs.Maybe.{makes-type, makes_none, makes_as}
use Rattle.typing.specs.Values.{ids_in}
use Rattle.typing.proofs.LeafCases.{class-there, constructs, other-constructed, generic-constructed, class-constructed, no-class}
use Rattle.typing.proofs.leaf.new_type.Goals as goal

pub first-callee-requires : goal.first-callee-requires
first-callee-requires c = omega (arith, c.children-parts.ensures.many, constructs c.args.new c.requires)

pub returns-then-ne : goal.returns-then-ne
returns-then-ne c =
    let x = child_is (from_children c.children-parts.ensures) (omega (arith, c.children-parts.ensures.many, constructs c.args.new c.requires)) c.first-callee.ensures in
    makes_as (makes_none _) (other-constructed (ids_in c.args.scope) x (other _ c.mark.ensures Id c.ne.ensures c.if-ne.true))

pub rest-requires : goal.rest-requires
rest-requires c = omega (arith, c.children-parts.ensures.many, constructs c.args.new c.requires)

pub first-requires : goal.first-requires
first-requires c = omega (arith, c.children-parts.ensures.many, c.rest.ensures.many, constructs c.args.new c.requires)

pub returns-then-ne-2 : goal.returns-then-ne-2
returns-then-ne-2 c =
    let n = constructs c.args.new c.requires in
    let f = from_children c.children-parts.ensures in
    let x = child_is f (omega (arith, c.children-parts.ensures.many, n)) c.first-callee.ensures in
    let g = from_rest f (omega (arith, c.children-parts.ensures.many, n)) c.rest.ensures in
    let y = child_is g (omega (arith, c.children-parts.ensures.many, c.rest.ensures.many, n)) c.first.ensures in
    makes_as (makes_none _)
    (generic-constructed (ids_in c.args.scope) x (same _ c.mark.ensures Id c.ne.ensures c.if-ne.false) y (other _ c.mark-2.ensures No c.ne-2.ensures c.if-ne-2.true))

pub returns-then-look_up : goal.returns-then-look_up
returns-then-look_up c =
    let n = constructs c.args.new c.requires in
    let f = from_children c.children-parts.ensures in
    let x = child_is f (omega (arith, c.children-parts.ensures.many, n)) c.first-callee.ensures in
    let g = from_rest f (omega (arith, c.children-parts.ensures.many, n)) c.rest.ensures in
    let y = child_is g (omega (arith, c.children-parts.ensures.many, c.rest.ensures.many, n)) c.first.ensures in
    makes_as (makes-type c.reference_to.ensures)
    (class-constructed (ids_in c.args.scope) x (same _ c.mark.ensures Id c.ne.ensures c.if-ne.false) y (same _ c.mark-2.ensures No c.ne-2.ensures c.if-ne-2.false)
    (class-there c.args.scope (text_of (rec_of c.first-callee.result)) (c.look_up.ensures non_generic_class) c.if-look_up.true))

pub returns : goal.returns
returns c =
    let n = constructs c.args.new c.requires in
    let f = from_children c.children-parts.ensures in
    let x = child_is f (omega (arith, c.children-parts.ensures.many, n)) c.first-callee.ensures in
    let g = from_rest f (omega (arith, c.children-parts.ensures.many, n)) c.rest.ensures in
    let y = child_is g (omega (arith, c.children-parts.ensures.many, c.rest.ensures.many, n)) c.first.ensures in
    makes_as (makes_none _)
    (no-class (ids_in c.args.scope) x (same _ c.mark.ensures Id c.ne.ensures c.if-ne.false) y (same _ c.mark-2.ensures No c.ne-2.ensures c.if-ne-2.false)
    (class-there c.args.scope (text_of (rec_of c.first-callee.result)) (c.look_up.ensures non_generic_class) c.if-look_up.false))
