-- `prescan::enter_named` meets its contract: the name stands first.
use mathlib.Core.Path.{sym, ◌∙◌}
use borrow.Author.Tests.{eqb-true}
use native.Mathlib.Omega.{arith}
use Rattle.records.specs.declared.marks.Mark.TheVariants.{Id}
use Rattle.records.proofs.Accepted.{fits}
use Rattle.records.proofs.SameMarks.{tested}
use Rattle.records.proofs.Views.{accepted}
use Rattle.prescan.proofs.Laws.{first_child, named_kids}
use Rattle.prescan.proofs.Tables.{room_free, filled_none, filled_one, named_long}
use Rattle.prescan.proofs.enter_named.Goals as goal

pub first-ident-requires : goal.first-ident-requires
first-ident-requires c = omega (arith, c.children.ensures.many, named_kids c.args.decl c.requires.named)

pub insert-requires-clause-from_nonzero : goal.insert-requires-clause-from_nonzero
insert-requires-clause-from_nonzero c = room_free c.args.decl c.requires.room

pub insert-requires-clause-id_in_bounds : goal.insert-requires-clause-id_in_bounds
insert-requires-clause-id_in_bounds c = fits (accepted c.first-ident.result)

pub returns-then-eq : goal.returns-then-eq
returns-then-eq c =
    let x = first_child c.children.ensures (omega (arith, named_kids c.args.decl c.requires.named)) c.first-ident.ensures in
    let e = eqb-true _ _ (sym (tested _ c.mark.ensures Id) ∙ (sym c.eq.ensures ∙ c.if-eq.true)) in
    filled_one c.args.decl c.requires.room c.first-ident.result c.args.sets x.tree e c.insert.ensures.enters c.insert.ensures.grown
    (named_long c.args.decl c.requires.named c.children.ensures c.first-ident.ensures e)
    (λ q t. rw (sym x.is))

pub returns-else-eq : goal.returns-else-eq
returns-else-eq c =
    let x = first_child c.children.ensures (omega (arith, named_kids c.args.decl c.requires.named)) c.first-ident.ensures in
    filled_none c.args.decl c.requires.room (λ q t. rw (sym x.is, sym (tested _ c.mark.ensures Id) ∙ (sym c.eq.ensures ∙ c.if-eq.false)))
