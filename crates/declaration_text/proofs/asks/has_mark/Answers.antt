-- `has_mark` meets its contract: the number of the record's mark, and that of the other.
use Rattle.records.proofs.Accepted.{room}
use Rattle.records.proofs.Views.{accepted, mark_here}
use Rattle.declaration_text.proofs.asks.has_mark.Goals as goal

pub mark_at-requires : goal.mark_at-requires
mark_at-requires c = room (accepted c.args.r)

pub returns : goal.returns
returns c = rw (c.mark_at.ensures.0, mark_here c.args.r, c.from.ensures)
