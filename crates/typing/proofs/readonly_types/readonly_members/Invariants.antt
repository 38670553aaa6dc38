-- `readonly_types::readonly_members` meets its contract: each turn of the loop writes one member.
use Rattle.definition.specs.Record.{kids_of}
use Rattle.definition.specs.Typing.{readonly_members}
use Rattle.records.specs.Views.{rec_of}
use Rattle.typing.proofs.Frozens.{Flagging}
use Rattle.typing.proofs.readonly_types.readonly_members.Given as goal

abbrev pub invariant-loop-member : goal.invariant-loop-member
invariant-loop-member l = Flagging (readonly_members (kids_of (rec_of l.type_lit))) l.initial.w l.w l.member-iterator
