-- `readonly::type_has_readonly` meets its contract.
use Rattle.std.proofs.Common.{sym, ◌∙◌}
use Rattle.definition.specs.Typing.{frozen_kind}
use Rattle.records.specs.declared.marks.Mark.TheVariants.{Li, Ay, Tu, Ro, Ft, Ct}
use Rattle.records.specs.Views.{rec_of}
use Rattle.records.proofs.SameMarks.{marked, not_marked}
use Rattle.typing.proofs.HasReadonly.{has_lit, has_known, has_other}
use Rattle.typing.proofs.readonly.type_has_readonly.Goals as goal

pub returns-in-Li : goal.returns-in-Li
returns-in-Li c = c.plain_members.ensures ∙ sym (has_lit (rec_of c.args.ty) (marked _ c.mark.ensures c.in-Li.is))

pub returns-in-Ay : goal.returns-in-Ay
returns-in-Ay c = sym (has_known (rec_of c.args.ty) c.mark.ensures c.in-Ay.is)

pub returns-in_default : goal.returns-in_default
unfolding frozen_kind
returns-in_default c =
    let m = c.mark.ensures in
    sym (has_other (rec_of c.args.ty) (rw (not_marked _ m Li c.in_default.not-Li, not_marked _ m Ay c.in_default.not-Ay, not_marked _ m Tu c.in_default.not-Tu, not_marked _ m Ro c.in_default.not-Ro, not_marked _ m Ft c.in_default.not-Ft, not_marked _ m Ct c.in_default.not-Ct)))
