-- `class_body::class_prop` meets its contract.
use Rattle.std.proofs.Common.{refl, ap, ◌∙◌, arith}
use Rattle.definition.specs.Record.{gone, without_flag}
use Rattle.definition.specs.Classes.{prop_flags}
use Rattle.records.proofs.Records.{from_children, child_is}
use Rattle.output.proofs.Steps.{keeps-as}
use Rattle.typing.specs.Values.{typing_in}
use Rattle.classes.proofs.Framed.{first_too, same_first}
use Rattle.classes.proofs.MemberLaws.{cp_three, counted_none, prop_gone, prop_made}
use Rattle.classes.proofs.class_body.class_prop.Goals as goal

pub first-requires : goal.first-requires
first-requires c = omega (arith, cp_three c.args.r c.requires.1, c.children.ensures.many)

pub returns-in_default : goal.returns-in_default
returns-in_default c =
    let x = child_is (from_children c.children.ensures) (omega (arith, cp_three c.args.r c.requires.1, c.children.ensures.many)) c.first.ensures in
    counted_none c.args.o.now (prop_gone (typing_in c.args.scope) c.args.scope.unresolved x c.in_default.ensures c.args.o.now.names.id_counter)

pub rest-type_ann-requires : goal.rest-type_ann-requires
rest-type_ann-requires c = omega (arith, cp_three c.args.r c.requires.1, c.begin_with.ensures.kids.many)

pub rest-value-requires : goal.rest-value-requires
rest-value-requires c = omega (arith, cp_three c.args.r c.requires.1, c.begin_with.ensures.kids.many, c.rest-type_ann.ensures.many)

pub first-requires-2 : goal.first-requires-2
first-requires-2 c = omega (arith, cp_three c.args.r c.requires.1, c.begin_with.ensures.kids.many, c.rest-type_ann.ensures.many)

pub first-requires-3 : goal.first-requires-3
first-requires-3 c = omega (arith, cp_three c.args.r c.requires.1, c.begin_with.ensures.kids.many, c.rest-type_ann.ensures.many, c.rest-value.ensures.many)

pub drop_next-rest-requires : goal.drop_next-rest-requires
drop_next-rest-requires c = omega (arith, cp_three c.args.r c.requires.1, c.begin_with.ensures.kids.many, c.rest-type_ann.ensures.many, c.rest-value.ensures.many)

pub returns : goal.returns
returns c =
    let n = cp_three c.args.r c.requires.1 in
    let x = child_is (from_children c.children.ensures) (omega (arith, n, c.children.ensures.many)) c.first.ensures in
    let g = c.begin_with.ensures in
    let d = c.drop_next-rest.ensures in
    prop_made (typing_in c.args.scope) c.args.scope.unresolved x c.in-Some.ensures g
    (omega (arith, n, g.kids.many), first_too (from_children c.children.ensures) (from_children g.kids) c.first.ensures, c.rest-type_ann.ensures)
    (omega (arith, n, g.kids.many, c.rest-type_ann.ensures.many), c.first-2.ensures, c.rest-value.ensures)
    refl (c.without_flag.ensures ∙ ap (without_flag 2) c.without_flag-undeclared.ensures ∙ ap prop_flags c.flags.ensures)
    (omega (arith, n, g.kids.many, c.rest-type_ann.ensures.many, c.rest-value.ensures.many), c.first-3.ensures, d.rest)
    c.put_prop_name.ensures c.prop_type.ensures (keeps-as d.put (ap (λ r. gone r) (same_first d.is c.first-3.ensures))) c.keep_all.ensures
