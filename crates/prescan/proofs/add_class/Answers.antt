-- `prescan::add_class` meets its contract.
use mathlib.Core.Path.{ap, ◌∙◌}
use native.Mathlib.Omega.{arith}
use Rattle.definition.specs.Tree.{Rec}
use Rattle.definition.specs.Record.{is_no}
use Rattle.records.specs.declared.marks.Mark.TheVariants.{No}
use Rattle.records.proofs.Records.{enough}
use Rattle.records.proofs.SameMarks.{tested}
use Rattle.prescan.proofs.Laws.{first_child, class_sets}
use Rattle.prescan.proofs.add_class.Goals as goal

pub first-requires : goal.first-requires
first-requires c = omega (arith, c.children.ensures.many, enough c.args.class c.requires)

pub returns : goal.returns
returns c =
    class_sets _ (c.eq.ensures ∙ (tested _ c.mark.ensures No ∙ ap (λ (r : Rec). is_no r) (first_child c.children.ensures (enough c.args.class c.requires) c.first.ensures).is))
