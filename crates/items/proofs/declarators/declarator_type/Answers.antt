-- `declarators::declarator_type` meets its contract.
use Rattle.std.proofs.Common.{sym, ◌∙◌}
use Rattle.records.specs.declared.marks.Mark.TheVariants.{No}
use Rattle.records.specs.Views.{rec_of}
use Rattle.records.proofs.SameMarks.{tested}
use Rattle.items.proofs.VarTypes.{type_any, type_made}
use Rattle.items.proofs.declarators.declarator_type.Goals as goal

pub returns-then-eq : goal.returns-then-eq
returns-then-eq c =
    type_any c.args.scope (rec_of c.args.pattern) (rec_of c.args.init) (sym (tested _ c.mark.ensures No) ∙ (sym c.eq.ensures ∙ c.if-eq.true)) c.put_any.ensures c.mark_diagnostic.ensures

pub returns : goal.returns
returns c =
    type_made c.args.scope (rec_of c.args.pattern) (rec_of c.args.init) (sym (tested _ c.mark.ensures No) ∙ (sym c.eq.ensures ∙ c.if-eq.false)) c.readonly.ensures c.expr_to_ts_type-t.ensures c.or_any.ensures
