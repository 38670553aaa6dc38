-- `functions::type_or_infer` meets its contract.
use Rattle.records.specs.declared.marks.Mark.TheVariants.{No}
use Rattle.definition.specs.Classes.{infer_expr_fallback_any}
use Rattle.records.specs.Views.{rec_of}
use Rattle.records.proofs.SameMarks.{same, other}
use Rattle.output.proofs.Framing.{makes-as, makes-keeps}
use Rattle.typing.specs.Values.{typing_in}
use Rattle.classes.proofs.Handling.{type_given, type_made}
use Rattle.classes.proofs.functions.type_or_infer.Goals as goal

pub returns-then-ne : goal.returns-then-ne
returns-then-ne c =
    makes-as (makes-keeps (rec_of c.args.type_ann) c.keep.ensures)
    (type_given (infer_expr_fallback_any (typing_in c.args.scope) (rec_of c.args.right)) (rec_of c.args.type_ann) c.args.o.now.names.id_counter (other _ c.mark.ensures No c.ne.ensures c.if-ne.true))

pub returns : goal.returns
returns c =
    makes-as c.infer_expr_fallback_any.ensures
    (type_made (infer_expr_fallback_any (typing_in c.args.scope) (rec_of c.args.right)) (rec_of c.args.type_ann) c.args.o.now.names.id_counter (same _ c.mark.ensures No c.ne.ensures c.if-ne.false))
