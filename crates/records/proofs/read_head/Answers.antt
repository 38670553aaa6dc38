-- `records::read_head` meets its contract: each field is what its reader ensures.
use Rattle.records.proofs.read_head.Goals as goal

pub returns : goal.returns
returns c = cc (c.u16_at-mark.ensures.0, c.flags_at-flags.ensures, c.u32_at-start.ensures.0, c.u32_at-end.ensures.0, c.u16_at-text.ensures.0, c.u16_at-count.ensures.0)
