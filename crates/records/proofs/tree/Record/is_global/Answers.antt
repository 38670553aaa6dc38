use mathlib.Core.Path.{ap, ◌∙◌, sym}
use Rattle.definition.specs.Tree.{Rec}
use Rattle.records.specs.Texts.{is_global_name}
use Rattle.records.proofs.Views.{accepted, rec_is}
use Rattle.records.proofs.tree.Record.is_global.Goals as goal

pub is_global-requires : goal.is_global-requires
is_global-requires c = accepted c.args.self

pub returns : goal.returns
returns c = c.is_global.ensures ∙ ap (λ (r : Rec). is_global_name c.args.unresolved c.args.name.now r) (sym (rec_is c.args.self))
