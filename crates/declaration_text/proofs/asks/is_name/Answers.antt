-- `is_name` meets its contract: by the mark where the record stands.
use Rattle.records.proofs.Accepted.{room}
use Rattle.records.proofs.Views.{accepted}
use Rattle.declaration_text.proofs.Parts.{name_here}
use Rattle.declaration_text.proofs.asks.is_name.Goals as goal

pub mark_at-requires : goal.mark_at-requires
mark_at-requires c = room (accepted c.args.r)

pub is_name_at-requires : goal.is_name_at-requires
is_name_at-requires c = room (accepted c.args.r)

pub returns : goal.returns
returns c = λ e. name_here c.args.r c.mark_at.ensures.0 (c.is_name_at.ensures e)
