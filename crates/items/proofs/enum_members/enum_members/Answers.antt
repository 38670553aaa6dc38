-- `enum_members::enum_members` meets its contract: each turn of the loop writes one record.
use Rattle.std.proofs.Common.{refl}
use Rattle.definition.specs.Record.{each}
use Rattle.output.proofs.Framing.{keeps-counter}
use Rattle.items.proofs.Mapped.{mapping_start, mapping_turn, mapping_done}
use Rattle.items.proofs.MemberInits.{each_member, first_member}
use Rattle.items.proofs.enum_members.enum_members.Goals as goal

pub loop-member-init : goal.loop-member-init
loop-member-init c = rw c.into_iter-member-iterator.ensures.into_iter_gives (mapping_start (each_member c.args.o.now.names.id_counter) c.args.o.now c.args.members)

pub loop-member-preserved : goal.loop-member-preserved
loop-member-preserved c =
    mapping_turn (each_member c.args.o.now.names.id_counter) c.loop-member.invariant c.in-Some.ensures.steps (first_member (keeps-counter c.loop-member.invariant.put) _ _) c.enum_member.ensures

pub returns : goal.returns
unfolding each
returns c = mapping_done (each_member c.args.o.now.names.id_counter) c.loop-member.invariant c.in-None.ensures.steps.0 refl
