-- `prescan::add_const` meets its contract: without a type, the init's mark says whether the name is safe.
use mathlib.Core.Path.{sym, ◌∙◌}
use mathlib.Core.Logic.{inl, inr}
use Rattle.records.specs.declared.marks.Mark.TheVariants.{No, Fx, Aw}
use Rattle.records.proofs.SameMarks.{same, marked, not_marked}
use Rattle.prescan.proofs.Laws.{const_sets}
use Rattle.prescan.proofs.add_const.Goals as goal
use Rattle.prescan.proofs.add_const.Goals.{then-typed, else-typed+in-Fx, else-typed+in_default}

pub returns-else-typed-2 : goal.returns-else-typed-2
returns-else-typed-2 c =
    let n = same _ c.mark.ensures No c.ne-typed.ensures c.if-typed-2.false in
    const_sets _ _
    (elim c.if-typed.branch [
      | then-typed w ↦ absurd (cc (sym w.if-typed.true ∙ c.if-typed-2.false))
      | else-typed+in-Fx w ↦ w.typeof_safe-is ∙ elim w.in-Fx.is [
        | inl e ↦ rw (n, marked _ w.mark-else-typed.ensures e)
        | inr e ↦ rw (n, marked _ w.mark-else-typed.ensures e)
      ]
      | else-typed+in_default w ↦ w.typeof_safe-is ∙ rw (n, not_marked _ w.mark-else-typed.ensures Fx w.in_default.not-Fx, not_marked _ w.mark-else-typed.ensures Aw w.in_default.not-Aw)
    ])
    (rw (n, c.is_array_lit_init-array_typed.ensures))
