-- `class_body::class_body_to_type` meets its contract: each turn of the loop makes one member.
use Rattle.std.proofs.Common.{ap, ◌∙◌, arith}
use Rattle.records.specs.declared.tree.Records.{Records}
use Rattle.output.proofs.Framing.{keeps-counter}
use Rattle.typing.specs.Values.{ReadyAll}
use Rattle.classes.proofs.Handling.{ready_turn}
use Rattle.classes.proofs.MemberLaws.{cl_one, members_ready, body_start, body_turn, body_more, class_made}
use Rattle.classes.proofs.class_body.class_body_to_type.Goals as goal

pub keep_next-members-requires : goal.keep_next-members-requires
keep_next-members-requires c = omega (arith, cl_one c.args.class_body c.requires.1, c.children.ensures.many)

pub loop-member-init : goal.loop-member-init
loop-member-init c =
    let e = c.into_iter-member-iterator.ensures.into_iter_gives in
    let n = keeps-counter c.keep_next-members.ensures.put ∙ ap (λ x. x.id_counter) c.skip_front.ensures.names in
    body_start c.args.list.now c.args.scope c.keep_next-members.new.self _ (omega (arith, c.requires.0.low, c.children.ensures.behind, c.keep_next-members.ensures.rest.behind, ap (λ (k : Records). k.at) e, n))

pub class_member-count-requires : goal.class_member-count-requires
class_member-count-requires c =
    let e = c.into_iter-member-iterator.ensures.into_iter_gives in
    let z : ReadyAll c.args.o.now c.keep_next-members.result c.args.scope = members_ready c.requires.0 c.children.ensures c.keep_next-members.ensures.rest in
    ready_turn z (c.loop-member.invariant.1 ∙ ap (λ (k : Records). k.tree) e) c.loop-member.invariant.0.making.low c.in-Some.ensures.steps.1

pub overflow_add-count : goal.overflow_add-count
overflow_add-count c =
    let e = c.into_iter-member-iterator.ensures.into_iter_gives in
    let m = body_more c.args.list.now c.args.scope _ c.loop-member.invariant c.in-Some.ensures.steps c.class_member-count.ensures in
    omega (arith, m, ap (λ (k : Records). k.count) e, c.keep_next-members.ensures.rest.many)

pub loop-member-preserved : goal.loop-member-preserved
loop-member-preserved c = body_turn c.args.list.now c.args.scope _ c.loop-member.invariant c.in-Some.ensures.steps c.class_member-count.ensures

pub returns : goal.returns
returns c =
    class_made c.args.list.now c.args.scope c.children.ensures (omega (arith, cl_one c.args.class_body c.requires.1, c.children.ensures.many)) c.skip_front.ensures c.keep_next-members.ensures
    c.into_iter-member-iterator.ensures.into_iter_gives c.loop-member.invariant c.in-None.ensures.steps.0 (rw (← c.start-start.ensures) c.put_front_at.ensures.front) c.put_front_at.ensures.short
