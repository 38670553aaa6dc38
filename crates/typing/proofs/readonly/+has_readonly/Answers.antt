-- `readonly::has_readonly` meets its contract, and the levels fall.
use Rattle.std.proofs.Common.{sym, ◌∙◌, arith}
use Rattle.records.specs.declared.marks.Mark.TheVariants.{Ar, Ob, Fx, Aw, Ca, Tc, Ts, As}
use Rattle.records.proofs.Records.{from_children, from_rest, child_is}
use Rattle.records.proofs.SameMarks.{marked, not_marked}
use Rattle.typing.proofs.LeafSteps.{leaf_but}
use Rattle.typing.proofs.HasReadonly.{has_made, asserted, has_first, typed, has_as, has_none}
use Rattle.typing.proofs.readonly.+has_readonly.Goals as goal

pub first-requires : goal.first-requires
first-requires t c = omega (arith, c.children.ensures.many, asserted c.args.expr c.mark.ensures c.in-Tc.is)

pub rest-requires : goal.rest-requires
rest-requires t c = omega (arith, c.children-in-As.ensures.many, typed c.args.expr (marked _ c.mark.ensures c.in-As.is))

pub first-requires-in-As : goal.first-requires-in-As
first-requires-in-As t c = omega (arith, c.children-in-As.ensures.many, c.rest.ensures.many, typed c.args.expr (marked _ c.mark.ensures c.in-As.is))

pub returns-in-Ar : goal.returns-in-Ar
returns-in-Ar t c = sym (has_made c.args.expr c.mark.ensures c.in-Ar.is)

pub returns-in-Tc : goal.returns-in-Tc
returns-in-Tc t c =
    let x = child_is (from_children c.children.ensures) (omega (arith, c.children.ensures.many, asserted c.args.expr c.mark.ensures c.in-Tc.is)) c.first.ensures in
    c.has_readonly.ensures ∙ sym (has_first c.args.expr c.mark.ensures c.in-Tc.is x)

pub returns-in-As : goal.returns-in-As
returns-in-As t c =
    let e = marked _ c.mark.ensures c.in-As.is in
    let n = typed c.args.expr e in
    let g = from_rest (from_children c.children-in-As.ensures) (omega (arith, c.children-in-As.ensures.many, n)) c.rest.ensures in
    let y = child_is g (omega (arith, c.children-in-As.ensures.many, c.rest.ensures.many, n)) c.first-in-As.ensures in
    c.type_has_readonly.ensures ∙ sym (has_as c.args.expr e y)

pub returns-in_default : goal.returns-in_default
returns-in_default t c =
    let m = c.mark.ensures in
    sym (has_none c.args.expr
    (leaf_but _ (not_marked _ m Ar c.in_default.not-Ar) (not_marked _ m Ob c.in_default.not-Ob) (not_marked _ m Tc c.in_default.not-Tc) (not_marked _ m Ts c.in_default.not-Ts) (not_marked _ m As c.in_default.not-As) (not_marked _ m Fx c.in_default.not-Fx) (not_marked _ m Aw c.in_default.not-Aw) (not_marked _ m Ca c.in_default.not-Ca)))
