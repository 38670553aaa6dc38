-- `index::Sets::entry` meets its contract.
use Rattle.index.proofs.Laws.{entry_sum}
use Rattle.index.proofs.Sets.entry.Goals as goal

pub returns : goal.returns
returns c = entry_sum c.args.id _ _ _ c.from.ensures c.from-2.ensures c.from-3.ensures
