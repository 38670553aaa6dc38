-- `grammar::tables::Tables::new` gives the tables that are printed.
use mathlib.Core.Path.{refl}
use Rattle.definition.specs.Grammar.{slots, least}
use Rattle.grammar.specs.Printed.{parts_table, forms_table, starts_table, lows_table, highs_table, others_table}
use Rattle.grammar.proofs.tables.Tables.new.Goals as goal

pub invariant_of-result : goal.invariant_of-result
unfolding parts_table forms_table starts_table slots least lows_table highs_table others_table
invariant_of-result c = record { parts_right = refl; forms_right = refl; starts_right = refl; leasts_right = refl; lows_right = refl; highs_right = refl; others_right = refl }
