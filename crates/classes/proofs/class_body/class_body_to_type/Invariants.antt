-- `class_body::class_body_to_type` meets its contract: each turn of the loop makes one member.
use Rattle.classes.proofs.MemberLaws.{Body}
use Rattle.classes.proofs.class_body.class_body_to_type.Given as goal

abbrev pub invariant-loop-member : goal.invariant-loop-member
invariant-loop-member l = Body l.list l.scope l.initial.o l.o l.initial.member-iterator l.member-iterator l.count
