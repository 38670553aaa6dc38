-- `grammar::tables::Tables::least_of` meets its contract.
use mathlib.Core.Path.{ap, ◌∙◌}
use mathlib.Core.List.{List}
use Prim.Native.Nat.{ℕ}
use lib.ListN.{get_or}
use Rattle.grammar.proofs.Lookups.{rows_right, no_least}
use Rattle.grammar.proofs.tables.Tables.least_of.Goals as goal

pub returns-then-code-lt-KNOWN : goal.returns-then-code-lt-KNOWN
returns-then-code-lt-KNOWN c = c.wide.ensures.0 ∙ (ap (λ (t : List ℕ). get_or t c.args.code 0) c.args.self.now.leasts_right ∙ rows_right.leasts_right c.args.code)

pub returns-else-code-lt-KNOWN : goal.returns-else-code-lt-KNOWN
returns-else-code-lt-KNOWN c = no_least _ c.if-code-lt-KNOWN.false
