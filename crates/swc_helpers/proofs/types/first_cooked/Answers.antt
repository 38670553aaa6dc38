-- `types::first_cooked` meets its contract.
use Rattle.std.proofs.Common.{sym, ◌∙◌, arith}
use Rattle.records.specs.declared.marks.Mark.TheVariants.{Qu}
use Rattle.records.proofs.Records.{from_children, child_is}
use Rattle.records.proofs.SameMarks.{tested}
use Rattle.swc_helpers.proofs.Freeze.{no_kids, cooked_by}
use Rattle.swc_helpers.proofs.types.first_cooked.Goals.{else-eq-via-then-eq+else-has_flag, else-eq-via-else-eq}
use Rattle.swc_helpers.proofs.types.first_cooked.Goals as goal

pub returns-then-kids-eq0 : goal.returns-then-kids-eq0
returns-then-kids-eq0 c = rw (no_kids c.children-kids.ensures c.if-kids-eq0.true)

pub returns-then-has_flag : goal.returns-then-has_flag
returns-then-has_flag c =
    let x = child_is (from_children c.children-kids.ensures) (omega (arith, c.if-kids-eq0.false)) c.first-quasi.ensures in
    (cooked_by c.args.te x ∙ rw (sym (tested _ c.mark.ensures Qu) ∙ (sym c.eq.ensures ∙ c.if-eq.true), sym c.flags.ensures, sym c.has_flag.ensures ∙ c.if-has_flag.true), x)

pub returns : goal.returns
returns c =
    let x = child_is (from_children c.children-kids.ensures) (omega (arith, c.if-kids-eq0.false)) c.first-quasi.ensures in
    cooked_by c.args.te x
    ∙ elim c.else-eq.branch [
      | else-eq-via-then-eq+else-has_flag w ↦ rw (sym (tested _ c.mark.ensures Qu) ∙ (sym c.eq.ensures ∙ w.if-eq.true), sym w.flags.ensures, sym w.has_flag.ensures ∙ w.if-has_flag.false)
      | else-eq-via-else-eq w ↦ rw (sym (tested _ c.mark.ensures Qu) ∙ (sym c.eq.ensures ∙ w.if-eq.false))
    ]
