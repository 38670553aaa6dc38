-- `functions::handle_func_param` meets its contract.
use Rattle.std.proofs.Common.{arith}
use Rattle.records.specs.declared.marks.Mark.TheVariants.{Pa, Pp}
use Rattle.records.specs.Views.{rec_of}
use Rattle.records.proofs.SameMarks.{not_marked}
use Rattle.output.proofs.Framing.{makes-as, makes-keeps}
use Rattle.typing.specs.Values.{typing_in}
use Rattle.classes.proofs.Handling.{pa_one, either, param_kept, param_made}
use Rattle.classes.proofs.functions.handle_func_param.Goals as goal

pub first-requires : goal.first-requires
first-requires c = omega (arith, pa_one c.args.param (either c.mark.ensures c.in-Pa.is), c.begin-pattern.ensures.kids.many)

pub rest-requires : goal.rest-requires
rest-requires c = omega (arith, pa_one c.args.param (either c.mark.ensures c.in-Pa.is), c.begin-pattern.ensures.kids.many)

pub returns-in-Pa : goal.returns-in-Pa
returns-in-Pa c =
    let e = either c.mark.ensures c.in-Pa.is in
    param_made c.begin-pattern.ensures (omega (arith, pa_one c.args.param e, c.begin-pattern.ensures.kids.many), c.first.ensures, c.rest.ensures) e (typing_in c.args.scope) c.handle_pattern.ensures c.keep_all.ensures

pub returns-in_default : goal.returns-in_default
returns-in_default c =
    makes-as (makes-keeps (rec_of c.args.param) c.keep.ensures)
    (param_kept (typing_in c.args.scope) (rec_of c.args.param) c.args.o.now.names.id_counter (not_marked _ c.mark.ensures Pa c.in_default.not-Pa) (not_marked _ c.mark.ensures Pp c.in_default.not-Pp))
