-- `records::put` meets its contract: a byte past the end is no store.
use mathlib.Core.Path.{sym}
use lib.Seq.{set_out}
use Rattle.records.proofs.put.Goals as goal

pub returns-else-p-out : goal.returns-else-p-out
returns-else-p-out c = sym (set_out _ _ _ c.if-p-out.false)
