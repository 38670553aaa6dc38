-- `output::Output::put_gone` meets its contract.
use Rattle.std.proofs.Common.{refl, sym, ◌∙◌}
use Rattle.definition.specs.Record.{absent}
use Rattle.records.specs.declared.marks.Mark.TheVariants.{No}
use Rattle.records.specs.Views.{rec_of}
use Rattle.records.proofs.SameMarks.{tested}
use Rattle.output.proofs.Steps.{keeps-as}
use Rattle.output.proofs.Kept.{keeps_made, gone-kept, gone-absent, absent-fits}
use Rattle.output.proofs.Output.put_gone.Goals as goal

pub returns-then-eq : goal.returns-then-eq
returns-then-eq c = keeps-as c.keep.ensures (gone-kept (rec_of c.args.r) (sym (tested _ c.mark.ensures No) ∙ (sym c.eq.ensures ∙ c.if-eq.true)))

pub returns : goal.returns
returns c =
    keeps-as (keeps_made absent absent-fits c.put_absent.ensures refl refl refl refl)
    (gone-absent (rec_of c.args.r) (sym (tested _ c.mark.ensures No) ∙ (sym c.eq.ensures ∙ c.if-eq.false)))
