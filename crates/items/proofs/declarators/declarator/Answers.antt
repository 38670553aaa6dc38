-- `declarators::declarator` meets its contract.
use Rattle.std.proofs.Common.{arith, eqb-true}
use Rattle.records.specs.declared.marks.Mark.TheVariants.{Vr}
use Rattle.records.specs.Views.{rec_of}
use Rattle.records.proofs.SameMarks.{same, other}
use Rattle.output.proofs.Framing.{keeps-counter}
use Rattle.items.proofs.Framed.{some_left}
use Rattle.items.proofs.VarTypes.{vr_two, var_other, var_made}
use Rattle.items.proofs.declarators.declarator.Goals as goal

pub returns-then-ne : goal.returns-then-ne
returns-then-ne c = var_other c.args.scope (rec_of c.args.var) (other _ c.mark.ensures Vr c.ne.ensures c.if-ne.true) c.keep.ensures

pub declarator_pattern-requires : goal.declarator_pattern-requires
declarator_pattern-requires c =
    (record { low = omega (arith, c.requires.low, keeps-counter c.begin-pattern.ensures.front); same = c.requires.same }, eqb-true _ _ (same _ c.mark.ensures Vr c.ne.ensures c.if-ne.false))

pub rest-requires : goal.rest-requires
rest-requires c = omega (arith, some_left c.begin-pattern.ensures (vr_two c.args.var (eqb-true _ _ (same _ c.mark.ensures Vr c.ne.ensures c.if-ne.false))))

pub drop_next-rest-requires : goal.drop_next-rest-requires
drop_next-rest-requires c = omega (arith, c.rest.ensures.many, some_left c.begin-pattern.ensures (vr_two c.args.var (eqb-true _ _ (same _ c.mark.ensures Vr c.ne.ensures c.if-ne.false))))

pub returns : goal.returns
returns c =
    let e = same _ c.mark.ensures Vr c.ne.ensures c.if-ne.false in
    let n = some_left c.begin-pattern.ensures (vr_two c.args.var (eqb-true _ _ e)) in
    var_made c.args.scope e c.begin-pattern.ensures c.declarator_pattern.ensures (omega (arith, n)) c.rest.ensures (omega (arith, n, c.rest.ensures.many)) c.drop_next-rest.ensures c.keep_all.ensures
