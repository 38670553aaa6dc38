-- `prescan::enter_declarator` meets its contract: the children that it reads are where the definition has them.
use mathlib.Core.Path.{◌∙◌}
use native.Mathlib.Omega.{arith}
use borrow.Author.Tests.{eqb-true}
use Rattle.records.specs.declared.marks.Mark.TheVariants.{Vr, Bd}
use Rattle.records.proofs.Accepted.{fits}
use Rattle.records.proofs.Records.{enough}
use Rattle.records.proofs.SameMarks.{same, other}
use Rattle.records.proofs.Views.{accepted}
use Rattle.prescan.proofs.Laws.{first_child, second_child, declarator_other, pattern_other, declarator_by, ident_mark}
use Rattle.prescan.proofs.Tables.{room_free, filled_none, filled_one, declarator_long}
use Rattle.prescan.proofs.enter_declarator.Goals as goal

pub returns-then-ne : goal.returns-then-ne
returns-then-ne c = filled_none c.args.declarator c.requires (declarator_other c.args.declarator (other _ c.mark.ensures Vr c.ne.ensures c.if-ne.true))

pub first-pattern-requires : goal.first-pattern-requires
first-pattern-requires c = omega (arith, c.children-parts.ensures.many, enough c.args.declarator (eqb-true _ _ (same _ c.mark.ensures Vr c.ne.ensures c.if-ne.false)))

pub returns-then-ne-2 : goal.returns-then-ne-2
returns-then-ne-2 c =
    let e = same _ c.mark.ensures Vr c.ne.ensures c.if-ne.false in
    let x = first_child c.children-parts.ensures (omega (arith, enough c.args.declarator (eqb-true _ _ e))) c.first-pattern.ensures in
    filled_none c.args.declarator c.requires (pattern_other c.args.declarator e x (other _ c.mark-2.ensures Bd c.ne-2.ensures c.if-ne-2.true))

pub first-ident-requires : goal.first-ident-requires
first-ident-requires c = omega (arith, c.children-binding.ensures.many, enough c.first-pattern.result (eqb-true _ _ (same _ c.mark-2.ensures Bd c.ne-2.ensures c.if-ne-2.false)))

pub rest-requires : goal.rest-requires
rest-requires c = omega (arith, c.children-binding.ensures.many, enough c.first-pattern.result (eqb-true _ _ (same _ c.mark-2.ensures Bd c.ne-2.ensures c.if-ne-2.false)))

pub first-ty-requires : goal.first-ty-requires
first-ty-requires c = omega (arith, c.rest.ensures.many, c.children-binding.ensures.many, enough c.first-pattern.result (eqb-true _ _ (same _ c.mark-2.ensures Bd c.ne-2.ensures c.if-ne-2.false)))

pub rest-requires-2 : goal.rest-requires-2
rest-requires-2 c = omega (arith, c.children-parts.ensures.many, enough c.args.declarator (eqb-true _ _ (same _ c.mark.ensures Vr c.ne.ensures c.if-ne.false)))

pub first-init-requires : goal.first-init-requires
first-init-requires c = omega (arith, c.rest-2.ensures.many, c.children-parts.ensures.many, enough c.args.declarator (eqb-true _ _ (same _ c.mark.ensures Vr c.ne.ensures c.if-ne.false)))

pub insert-requires-clause-from_nonzero : goal.insert-requires-clause-from_nonzero
insert-requires-clause-from_nonzero c = room_free c.args.declarator c.requires

pub insert-requires-clause-id_in_bounds : goal.insert-requires-clause-id_in_bounds
insert-requires-clause-id_in_bounds c = fits (accepted c.first-ident.result)

pub returns : goal.returns
returns c =
    let e = same _ c.mark.ensures Vr c.ne.ensures c.if-ne.false in
    let f = same _ c.mark-2.ensures Bd c.ne-2.ensures c.if-ne-2.false in
    let n = enough c.args.declarator (eqb-true _ _ e) in
    let m = enough c.first-pattern.result (eqb-true _ _ f) in
    let x = first_child c.children-parts.ensures (omega (arith, n)) c.first-pattern.ensures in
    let v = second_child c.children-parts.ensures n c.rest-2.ensures c.first-init.ensures in
    let i = first_child c.children-binding.ensures (omega (arith, m)) c.first-ident.ensures in
    let t = second_child c.children-binding.ensures m c.rest.ensures c.first-ty.ensures in
    let d = ident_mark c.first-pattern.result f i in
    filled_one c.args.declarator c.requires c.first-ident.result c.add_const-sets.result (i.tree ∙ x.tree) d c.insert.ensures.enters c.insert.ensures.grown
    (declarator_long c.children-parts.ensures c.first-pattern.ensures c.rest-2.ensures (omega (arith, c.rest-2.ensures.many, c.children-parts.ensures.many, n)) c.first-init.ensures c.children-binding.ensures c.first-ident.ensures c.rest.ensures (omega (arith, c.rest.ensures.many, c.children-binding.ensures.many, m)) c.first-ty.ensures d)
    (declarator_by c.args.declarator e x f i t v c.add_const-sets.ensures)
