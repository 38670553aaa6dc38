-- `is_plain` meets its contract: by the mark where the record stands.
use Rattle.records.proofs.Accepted.{room}
use Rattle.records.proofs.Views.{accepted}
use Rattle.declaration_text.proofs.Parts.{plain_here}
use Rattle.declaration_text.proofs.asks.is_plain.Goals as goal

pub mark_at-requires : goal.mark_at-requires
mark_at-requires c = room (accepted c.args.r)

pub is_plain_at-requires : goal.is_plain_at-requires
is_plain_at-requires c = room (accepted c.args.r)

pub returns : goal.returns
returns c = λ e. plain_here c.args.r c.mark_at.ensures.0 (c.is_plain_at.ensures e)
