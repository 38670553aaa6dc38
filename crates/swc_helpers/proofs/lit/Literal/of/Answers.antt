-- `lit::Literal::of` meets its contract: the mark picks the definition's case.
use Rattle.definition.specs.Helpers.{lit_kind}
use Rattle.records.specs.declared.marks.Mark.TheVariants.{Ss, Bl, Nl, Nu, Bi, Re}
use Rattle.records.proofs.SameMarks.{marked, not_marked}
use Rattle.swc_helpers.specs.Lit.{lit_by}
use Rattle.swc_helpers.proofs.lit.Literal.of.Goals as goal

pub number-requires : goal.number-requires
number-requires c = marked _ c.mark.ensures c.in-Nu.is

pub returns-in-Ss : goal.returns-in-Ss
unfolding lit_kind lit_by
returns-in-Ss c = rw (marked _ c.mark.ensures c.in-Ss.is)

pub returns-in-Nl : goal.returns-in-Nl
unfolding lit_kind lit_by
returns-in-Nl c = rw (marked _ c.mark.ensures c.in-Nl.is)

pub returns-in-Bi : goal.returns-in-Bi
unfolding lit_kind lit_by
returns-in-Bi c = rw (marked _ c.mark.ensures c.in-Bi.is)

pub returns-in-Re : goal.returns-in-Re
unfolding lit_kind lit_by
returns-in-Re c = rw (marked _ c.mark.ensures c.in-Re.is)

pub returns-in-Bl : goal.returns-in-Bl
unfolding lit_kind lit_by
returns-in-Bl c = rw (marked _ c.mark.ensures c.in-Bl.is, c.has_flag.ensures, c.flags.ensures)

pub returns-in-Nu : goal.returns-in-Nu
unfolding lit_kind lit_by
returns-in-Nu c = rw (marked _ c.mark.ensures c.in-Nu.is, c.number.ensures)

pub returns-in_default : goal.returns-in_default
unfolding lit_kind lit_by
returns-in_default c =
    let m = c.mark.ensures in
    rw (not_marked _ m Ss c.in_default.not-Ss, not_marked _ m Bl c.in_default.not-Bl, not_marked _ m Nl c.in_default.not-Nl, not_marked _ m Nu c.in_default.not-Nu, not_marked _ m Bi c.in_default.not-Bi, not_marked _ m Re c.in_default.not-Re)
