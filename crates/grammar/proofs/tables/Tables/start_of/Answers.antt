-- `grammar::tables::Tables::start_of` meets its contract.
use mathlib.Core.Path.{ap, ◌∙◌}
use mathlib.Core.List.{List}
use Prim.Native.Nat.{ℕ}
use lib.ListN.{get_or}
use Rattle.grammar.specs.Slots.{parts_from}
use Rattle.grammar.proofs.Lookups.{rows_right, no_start}
use Rattle.grammar.proofs.tables.Tables.start_of.Goals as goal

pub returns-then-code-lt-KNOWN : goal.returns-then-code-lt-KNOWN
returns-then-code-lt-KNOWN c = ap parts_from (c.wide.ensures.0 ∙ ap (λ (t : List ℕ). get_or t c.args.code 0) c.args.self.now.starts_right) ∙ rows_right.starts_right c.args.code

pub returns-else-code-lt-KNOWN : goal.returns-else-code-lt-KNOWN
returns-else-code-lt-KNOWN c = no_start _ c.if-code-lt-KNOWN.false
