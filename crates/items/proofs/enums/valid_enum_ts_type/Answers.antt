-- `valid_enum_ts_type` meets its contract.
use Rattle.std.proofs.Common.{sym, ◌∙◌, arith, eqb-true}
use Rattle.records.specs.declared.marks.Mark.TheVariants.{Tl, Nu}
use Rattle.records.proofs.Records.{from_children, child_is}
use Rattle.records.proofs.SameMarks.{tested}
use Rattle.items.proofs.Inits.{literal, literal_by}
use Rattle.items.proofs.enums.valid_enum_ts_type.Goals as goal

pub first-requires : goal.first-requires
first-requires c =
    let e = sym (tested _ c.mark.ensures Tl) ∙ (sym c.eq.ensures ∙ c.if-eq.true) in
    omega (arith, c.children.ensures.many, literal c.args.ty (eqb-true _ _ e))

pub returns-then-eq : goal.returns-then-eq
returns-then-eq c =
    let e = sym (tested _ c.mark.ensures Tl) ∙ (sym c.eq.ensures ∙ c.if-eq.true) in
    let x = child_is (from_children c.children.ensures) (omega (arith, c.children.ensures.many, literal c.args.ty (eqb-true _ _ e))) c.first.ensures in
    c.eq-then-eq.ensures ∙ (tested _ c.mark-then-eq.ensures Nu ∙ sym (literal_by c.args.ty e x))
