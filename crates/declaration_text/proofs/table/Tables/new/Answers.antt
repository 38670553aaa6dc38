-- `Tables::new` meets its contract: ROWS and WORDS are what was printed for the definition too.
use mathlib.Core.Path.{refl}
use Rattle.declaration_text.specs.Printed.{rows_table, words_table}
use Rattle.declaration_text.proofs.table.Tables.new.Goals as goal

pub invariant_of-result : goal.invariant_of-result
unfolding rows_table words_table
invariant_of-result c = record { rows_are = refl; words_are = refl }
