-- `child_is` meets its contract: a child that is missing is as a No.
use mathlib.Core.Path.{◌∙◌, ap, sym}
use lib.Dec.{eqb}
use Rattle.definition.specs.Record.{mark_of}
use Rattle.definition.specs.Text.{Child}
use Rattle.records.specs.declared.marks.Mark.TheVariants.{No}
use Rattle.records.specs.Marks.{number_of}
use Rattle.records.proofs.SameMarks.{same_mark}
use Rattle.declaration_text.proofs.Parts.{part_is, no_part}
use Rattle.declaration_text.proofs.asks.child_is.Goals as goal

pub returns-in-Some : goal.returns-in-Some
returns-in-Some c = c.has_mark.ensures ∙ ap (λ (k : Child). eqb (mark_of k.itself) (number_of c.args.mark)) (sym (part_is c.in-Some.ensures))

pub returns-in-None : goal.returns-in-None
returns-in-None c = c.eq.ensures ∙ same_mark No c.args.mark ∙ ap (λ (k : Child). eqb (mark_of k.itself) (number_of c.args.mark)) (sym (no_part c.args.r c.in-None.ensures))
