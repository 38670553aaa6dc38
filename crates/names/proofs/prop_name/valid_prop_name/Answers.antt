-- `names::prop_name::valid_prop_name` meets its contract.
use Rattle.std.proofs.Common.{sym, ◌∙◌, arith, eqb-true}
use Rattle.records.specs.declared.marks.Mark.TheVariants.{Kc}
use Rattle.records.proofs.Records.{from_children, child_is}
use Rattle.records.proofs.SameMarks.{tested}
use Rattle.names.specs.declared.prop_name.Key.TheVariants.{Stands}
use Rattle.names.proofs.KeyLaws.{computed_some, key_of_child, key_here, valid_stands, valid_computed}
use Rattle.names.proofs.prop_name.valid_prop_name.Goals as goal

pub first-requires : goal.first-requires
first-requires c =
    let e = sym (tested _ c.mark.ensures Kc) ∙ (sym c.eq.ensures ∙ c.if-eq.true) in
    omega (arith, c.children.ensures.many, computed_some c.args.key (eqb-true _ _ e))

pub returns-then-eq : goal.returns-then-eq
returns-then-eq c =
    let e = sym (tested _ c.mark.ensures Kc) ∙ (sym c.eq.ensures ∙ c.if-eq.true) in
    let h = computed_some c.args.key (eqb-true _ _ e) in
    let x = child_is (from_children c.children.ensures) (omega (arith, c.children.ensures.many)) c.first.ensures in
    key_of_child c.args.unresolved x c.prop_name_from_expr.result c.prop_name_from_expr.ensures (valid_computed c.args.key c.args.unresolved e)

pub returns : goal.returns
returns c = key_here (Stands c.args.key) (valid_stands c.args.key c.args.unresolved (sym (tested _ c.mark.ensures Kc) ∙ (sym c.eq.ensures ∙ c.if-eq.false)))
