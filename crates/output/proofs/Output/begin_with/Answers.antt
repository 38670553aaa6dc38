-- `output::Output::begin_with` meets its contract.
use Rattle.std.proofs.Common.{refl}
use Rattle.output.proofs.Output.begin_with.Goals as goal

pub returns : goal.returns
returns c = record { front = c.put_front.ensures.front; kids = c.children-kids.ensures; short = c.put_front.ensures.short }
