use mathlib.Core.Path.{ap, ◌∙◌}
use lib.ListN.{drop}
use Rattle.definition.proofs.Children.{itself}
use Rattle.definition.proofs.Kids.{id-text}
use Rattle.records.proofs.Views.{accepted, mark_here, text_here}
use Rattle.records.proofs.tree.Record.symbol.Goals as goal

pub symbol_at-requires : goal.symbol_at-requires
symbol_at-requires c = ((itself _ _ _ (accepted c.args.self)).fits, id-text _ _ _ (accepted c.args.self) (mark_here c.args.self ∙ c.requires))

pub returns : goal.returns
returns c = c.symbol_at.ensures ∙ ap (drop 4) (text_here c.args.self)
