use mathlib.Core.Path.{◌∙◌, ap}
use native.Mathlib.Omega.{arith}
use Rattle.definition.specs.Grammar.{place, known}
use Rattle.definition.proofs.Children.{itself}
use Rattle.records.proofs.Accepted.{room}
use Rattle.records.proofs.Views.{accepted, mark_here}
use Rattle.records.proofs.tree.Record.mark.Goals as goal

pub mark_at-requires : goal.mark_at-requires
mark_at-requires c = room (accepted c.args.self)

pub known-requires : goal.known-requires
known-requires c = omega (arith, (itself _ _ _ (accepted c.args.self)).known, ap (place known) c.mark_at.ensures.0)

pub returns : goal.returns
returns c = c.known.ensures ∙ (c.mark_at.ensures.0 ∙ mark_here c.args.self)
