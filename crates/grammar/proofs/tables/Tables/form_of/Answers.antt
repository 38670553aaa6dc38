-- `grammar::tables::Tables::form_of` meets its contract.
use mathlib.Core.Path.{ap, ◌∙◌}
use mathlib.Core.List.{List}
use Prim.Native.Nat.{ℕ}
use lib.ListN.{get_or}
use Rattle.grammar.specs.Slots.{form_at}
use Rattle.grammar.proofs.Lookups.{rows_right, no_form}
use Rattle.grammar.proofs.tables.Tables.form_of.Goals as goal

pub returns-then-code-lt-KNOWN : goal.returns-then-code-lt-KNOWN
returns-then-code-lt-KNOWN c = c.from.ensures ∙ (ap (λ (t : List ℕ). form_at (get_or t c.args.code 0)) c.args.self.now.forms_right ∙ rows_right.forms_right c.args.code)

pub returns-else-code-lt-KNOWN : goal.returns-else-code-lt-KNOWN
unfolding form_at
returns-else-code-lt-KNOWN c = no_form _ c.if-code-lt-KNOWN.false
