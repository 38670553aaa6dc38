-- `depth_counts::walk::space_of` meets its contract: an Ns, an Ed that holds one, or another item.
use Rattle.std.proofs.Common.{arith, eqb-true}
use Rattle.std.proofs.lemmas.Bool.{eqb-false}
use Rattle.records.specs.declared.marks.Mark.TheVariants.{Ns, Ed}
use Rattle.records.proofs.Records.{from_children, child_is}
use Rattle.records.proofs.SameMarks.{marked, not_marked, same, other}
use Rattle.depth_counts.proofs.Spaces.{export_part, space-itself, space-exported, export-other, found-other}
use Rattle.depth_counts.proofs.walk.space_of.Goals as goal

pub first-decl-requires : goal.first-decl-requires
first-decl-requires c = omega (arith, c.children.ensures.many, export_part c.args.item (marked _ c.mark.ensures c.in-Ed.is))

pub returns-then-ne : goal.returns-then-ne
returns-then-ne c =
    let m = marked _ c.mark.ensures c.in-Ed.is in
    let n = export_part c.args.item m in
    let x = child_is (from_children c.children.ensures) (omega (arith, c.children.ensures.many, n)) c.first-decl.ensures in
    export-other m x (eqb-false _ _ (other _ c.mark-in-Ed.ensures Ns c.ne.ensures c.if-ne.true))

pub returns-in-Ns : goal.returns-in-Ns
returns-in-Ns c = space-itself c.args.item (marked _ c.mark.ensures c.in-Ns.is)

pub returns-else-ne : goal.returns-else-ne
returns-else-ne c =
    let m = marked _ c.mark.ensures c.in-Ed.is in
    let n = export_part c.args.item m in
    let x = child_is (from_children c.children.ensures) (omega (arith, c.children.ensures.many, n)) c.first-decl.ensures in
    space-exported m x (eqb-true _ _ (same _ c.mark-in-Ed.ensures Ns c.ne.ensures c.if-ne.false))

pub returns-in_default : goal.returns-in_default
returns-in_default c = found-other c.args.item (eqb-false _ _ (not_marked _ c.mark.ensures Ns c.in_default.not-Ns)) (eqb-false _ _ (not_marked _ c.mark.ensures Ed c.in_default.not-Ed))
