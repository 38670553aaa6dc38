-- `range_at` meets its contract.
use Rattle.records.proofs.range_at.Goals as goal

pub returns : goal.returns
returns c = cc (c.u32_at-start.ensures.0, c.u32_at-end.ensures.0)
