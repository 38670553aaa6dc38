-- `enum_members::enum_members` meets its contract: each turn of the loop writes one record.
use Rattle.records.specs.Views.{recs_of}
use Rattle.items.proofs.Mapped.{Mapping}
use Rattle.items.proofs.MemberInits.{each_member}
use Rattle.items.proofs.enum_members.enum_members.Given as goal

abbrev pub invariant-loop-member : goal.invariant-loop-member
invariant-loop-member l = Mapping (each_member l.initial.o.names.id_counter) (each_member l.initial.o.names.id_counter (recs_of l.members)) l.initial.o l.o l.member-iterator
