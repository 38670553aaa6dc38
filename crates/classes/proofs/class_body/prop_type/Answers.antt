-- `class_body::prop_type` meets its contract.
use Rattle.std.proofs.Common.{sym, ◌∙◌}
use Rattle.records.specs.declared.marks.Mark.TheVariants.{No}
use Rattle.records.specs.Views.{rec_of}
use Rattle.records.proofs.SameMarks.{tested, same, other}
use Rattle.output.proofs.Framing.{makes-as, makes-keeps}
use Rattle.output.proofs.Steps.{maybe-as}
use Rattle.typing.specs.Values.{typing_in}
use Rattle.classes.proofs.Handling.{mutable_type}
use Rattle.classes.proofs.MemberLaws.{prop_bare, prop_typed, prop_inferred, made_typed, made_any}
use Rattle.classes.proofs.class_body.prop_type.Goals as goal

pub returns-then-eq : goal.returns-then-eq
returns-then-eq c =
    makes-as (makes-keeps (rec_of c.args.type_ann) c.keep.ensures)
    (prop_bare (typing_in c.args.scope) (rec_of c.args.value) (rec_of c.args.type_ann) c.args.o.now.names.id_counter (sym (tested _ c.mark.ensures No) ∙ (sym c.eq.ensures ∙ c.if-eq.true)))

pub returns-then-ne : goal.returns-then-ne
returns-then-ne c =
    makes-as (makes-keeps (rec_of c.args.type_ann) c.keep-then-ne.ensures)
    (prop_typed (typing_in c.args.scope) (rec_of c.args.value) (rec_of c.args.type_ann) c.args.o.now.names.id_counter (sym (tested _ c.mark.ensures No) ∙ (sym c.eq.ensures ∙ c.if-eq.false))
    (other _ c.mark-2.ensures No c.ne.ensures c.if-ne.true))

pub returns-in_default : goal.returns-in_default
returns-in_default c =
    makes-as (made_any (maybe-as c.expr_to_ts_type.ensures (mutable_type c.args.scope (rec_of c.args.value) c.args.o.now.names.id_counter c.mutable.ensures)) c.in_default.is c.put_any.ensures)
    (prop_inferred (typing_in c.args.scope) (rec_of c.args.value) (rec_of c.args.type_ann) c.args.o.now.names.id_counter (sym (tested _ c.mark.ensures No) ∙ (sym c.eq.ensures ∙ c.if-eq.false))
    (same _ c.mark-2.ensures No c.ne.ensures c.if-ne.false))

pub returns : goal.returns
returns c =
    makes-as (made_typed (maybe-as c.expr_to_ts_type.ensures (mutable_type c.args.scope (rec_of c.args.value) c.args.o.now.names.id_counter c.mutable.ensures)) c.in-Some.is)
    (prop_inferred (typing_in c.args.scope) (rec_of c.args.value) (rec_of c.args.type_ann) c.args.o.now.names.id_counter (sym (tested _ c.mark.ensures No) ∙ (sym c.eq.ensures ∙ c.if-eq.false))
    (same _ c.mark-2.ensures No c.ne.ensures c.if-ne.false))
