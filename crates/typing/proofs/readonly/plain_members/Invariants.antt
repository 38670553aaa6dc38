-- The loop of `readonly::plain_members`: the members that are left decide.
use Rattle.std.proofs.Common.{◌≡◌}
use Rattle.definition.specs.Record.{kids_of}
use Rattle.definition.specs.Typing.{plain_members}
use Rattle.records.specs.Views.{rec_of, recs_of}
use Rattle.typing.proofs.readonly.plain_members.Given as goal

abbrev pub invariant-loop-members : goal.invariant-loop-members
invariant-loop-members l = plain_members (recs_of l.members) ≡ plain_members (kids_of (rec_of l.type_lit))

abbrev pub decreases-loop-members : goal.decreases-loop-members
decreases-loop-members l = l.members.count
