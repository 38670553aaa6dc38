-- `Mark::try_from` meets its contract: in each arm the number is that of the mark; in the last it is none of them. Printed by tools/grammar-tables.
use Rattle.std.proofs.Common.{rules}
use Rattle.definition.specs.Grammar.{grammar, known, place}
use Rattle.records.proofs.Known.{place_none}
use Rattle.records.proofs.marks.MarkTryFromU16.try_from.Goals as goal

pub returns-in_default : goal.returns-in_default
unfolding grammar known place
returns-in_default c = place_none Unit known c.args.number (search rules)
