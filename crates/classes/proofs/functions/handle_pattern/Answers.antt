-- `functions::handle_pattern` meets its contract.
use Rattle.records.specs.declared.marks.Mark.TheVariants.{Bd, Ag}
use Rattle.records.specs.Views.{rec_of}
use Rattle.records.proofs.SameMarks.{marked, not_marked}
use Rattle.output.proofs.Framing.{makes-as, makes-keeps}
use Rattle.typing.specs.Values.{typing_in}
use Rattle.classes.proofs.Handling.{pattern_kept, pattern_ident, pattern_assign}
use Rattle.classes.proofs.functions.handle_pattern.Goals as goal

pub returns-in-Bd : goal.returns-in-Bd
returns-in-Bd c = makes-as c.handle_func_param_ident.ensures (pattern_ident (typing_in c.args.scope) (rec_of c.args.pattern) c.args.o.now.names.id_counter (marked _ c.mark.ensures c.in-Bd.is))

pub returns-in-Ag : goal.returns-in-Ag
returns-in-Ag c = makes-as c.handle_func_param_assign.ensures (pattern_assign (typing_in c.args.scope) (rec_of c.args.pattern) c.args.o.now.names.id_counter (marked _ c.mark.ensures c.in-Ag.is))

pub returns-in_default : goal.returns-in_default
returns-in_default c =
    makes-as (makes-keeps (rec_of c.args.pattern) c.keep.ensures)
    (pattern_kept (typing_in c.args.scope) (rec_of c.args.pattern) c.args.o.now.names.id_counter (not_marked _ c.mark.ensures Bd c.in_default.not-Bd) (not_marked _ c.mark.ensures Ag c.in_default.not-Ag))
