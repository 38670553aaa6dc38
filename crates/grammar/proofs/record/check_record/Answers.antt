-- `grammar::record::check_record` meets its contract: one record is a row of one.
use mathlib.Core.Path.{◌∙◌}
use Rattle.grammar.proofs.Children.{check_alone}
use Rattle.grammar.proofs.record.check_record.Goals as goal

pub returns : goal.returns
returns c = c.check_all.ensures ∙ check_alone _ _ _ _
