-- `class_body::method` meets its contract.
use Rattle.std.proofs.Common.{refl, ap, ◌∙◌, arith}
use Rattle.definition.specs.Record.{has_flag}
use Rattle.records.proofs.Records.{from_children, from_rest, child_is}
use Rattle.output.proofs.Framing.{keeps-counter}
use Rattle.typing.specs.Values.{typing_in}
use Rattle.typing.proofs.ReadyFor.{ready_child}
use Rattle.classes.proofs.Framed.{first_too}
use Rattle.classes.proofs.MemberLaws.{me_two, me_function_is, counted_none, method_gone, method_made}
use Rattle.classes.proofs.class_body.method.Goals as goal

pub first-requires : goal.first-requires
first-requires c = omega (arith, me_two c.args.r c.requires.1, c.children.ensures.many)

pub returns-in_default : goal.returns-in_default
returns-in_default c =
    let x = child_is (from_children c.children.ensures) (omega (arith, me_two c.args.r c.requires.1, c.children.ensures.many)) c.first.ensures in
    counted_none c.args.o.now (method_gone (typing_in c.args.scope) c.args.scope.unresolved x c.in_default.ensures c.args.o.now.names.id_counter)

pub rest-function-requires : goal.rest-function-requires
rest-function-requires c = omega (arith, me_two c.args.r c.requires.1, c.begin.ensures.kids.many)

pub first-requires-2 : goal.first-requires-2
first-requires-2 c = omega (arith, me_two c.args.r c.requires.1, c.begin.ensures.kids.many, c.rest-function.ensures.many)

pub handle_function-requires : goal.handle_function-requires
handle_function-requires c =
    let n = me_two c.args.r c.requires.1 in
    let f = from_rest (from_children c.begin.ensures.kids) (omega (arith, n, c.begin.ensures.kids.many)) c.rest-function.ensures in
    let y = child_is f (omega (arith, n, c.begin.ensures.kids.many, c.rest-function.ensures.many)) c.first-2.ensures in
    (ready_child c.requires.0 y (keeps-counter c.put_prop_name.ensures ∙ keeps-counter c.begin.ensures.front), me_function_is c.args.r c.requires.1 y)

pub rest-requires : goal.rest-requires
rest-requires c = omega (arith, me_two c.args.r c.requires.1, c.begin.ensures.kids.many, c.rest-function.ensures.many)

pub returns : goal.returns
returns c =
    let n = me_two c.args.r c.requires.1 in
    let x = child_is (from_children c.children.ensures) (omega (arith, n, c.children.ensures.many)) c.first.ensures in
    method_made (typing_in c.args.scope) c.args.scope.unresolved x c.in-Some.ensures c.begin.ensures (omega (arith, n, c.begin.ensures.kids.many), first_too (from_children c.children.ensures) (from_children c.begin.ensures.kids) c.first.ensures, c.rest-function.ensures) (omega (arith, n, c.begin.ensures.kids.many, c.rest-function.ensures.many), c.first-2.ensures, c.rest.ensures)
    refl (c.has_flag.ensures ∙ ap (has_flag 1) c.flags.ensures) c.put_prop_name.ensures c.handle_function.ensures c.keep_all.ensures
