-- `enum_members::enum_init` meets its contract.
use Rattle.std.proofs.Common.{refl, sym, ◌∙◌}
use Rattle.definition.specs.Record.{absent}
use Rattle.records.specs.declared.marks.Mark.TheVariants.{No}
use Rattle.records.proofs.SameMarks.{tested}
use Rattle.output.proofs.Steps.{keeps-as}
use Rattle.output.proofs.Kept.{keeps_made, absent-fits}
use Rattle.items.proofs.Inits.{init_none, init_kept, init_gone}
use Rattle.items.proofs.enum_members.enum_init.Goals.{then-eq-via-then-eq, then-eq-via-else-eq+then-valid_enum_init_expr}
use Rattle.items.proofs.enum_members.enum_init.Goals as goal

pub returns-then-eq : goal.returns-then-eq
returns-then-eq c =
    keeps-as c.keep.ensures (elim c.then-eq.branch [
      | then-eq-via-then-eq w ↦ init_none _ c.args.o.now.names.id_counter (sym (tested _ c.mark.ensures No) ∙ (sym c.eq.ensures ∙ w.if-eq.true))
      | then-eq-via-else-eq+then-valid_enum_init_expr w ↦
          init_kept _ c.args.o.now.names.id_counter (sym (tested _ c.mark.ensures No) ∙ (sym c.eq.ensures ∙ w.if-eq.false)) (sym w.valid_enum_init_expr.ensures ∙ w.if-valid_enum_init_expr.true)
    ])

pub returns : goal.returns
returns c =
    keeps-as (keeps_made absent absent-fits c.put_absent.ensures refl refl refl refl)
    (init_gone _ c.args.o.now.names.id_counter (sym (tested _ c.mark.ensures No) ∙ (sym c.eq.ensures ∙ c.if-eq.false)) (sym c.valid_enum_init_expr.ensures ∙ c.if-valid_enum_init_expr.false))
