-- `grammar::tables::Tables::take_slot` meets its contract: what is allowed from the place i on, and what comes after it, is so from k on.
use mathlib.Core.Path.{refl, sym, ◌∙◌}
use native.Mathlib.Omega.{arith}
use Rattle.grammar.proofs.Places.{parts_none, takes-none, takes-one, takes-property, takes-many, passes-allowed, passes-after}
use Rattle.grammar.proofs.tables.Tables.take_slot.Goals as goal

pub returns-in-End : goal.returns-in-End
returns-in-End c = c.loop-i.invariant.same_allowed ∙ takes-none _ _ c.in-End.ensures

pub returns-in-One : goal.returns-in-One
returns-in-One c =
    let v = c.loop-i.invariant in
    rw (v.same_allowed, v.same_after, c.then_some.ensures) (takes-one _ _ _ _ c.in-One.ensures _ c.in_set.ensures)

pub returns-in-Property : goal.returns-in-Property
returns-in-Property c =
    let v = c.loop-i.invariant in
    rw (v.same_allowed, v.same_after, c.then_some-in-Property.ensures) (takes-property _ _ _ c.in-Property.ensures _ c.in_set-in-Property.ensures)

pub returns-then-in_set : goal.returns-then-in_set
returns-then-in_set c =
    let v = c.loop-i.invariant in
    rw (v.same_allowed, v.same_after) (takes-many _ _ _ _ c.in-Many.ensures refl (sym c.if-in_set.true ∙ c.in_set-in-Many.ensures))

pub loop-i-preserved : goal.loop-i-preserved
loop-i-preserved c =
    let v = c.loop-i.invariant in
    let out = sym c.if-in_set.false ∙ c.in_set-in-Many.ensures in
    record {
      same_allowed = v.same_allowed ∙ passes-allowed _ _ _ _ c.in-Many.ensures out;
      same_after = v.same_after ∙ passes-after _ _ _ _ c.in-Many.ensures out;
    }

pub returns : goal.returns
returns c = c.loop-i.invariant.same_allowed ∙ takes-none _ _ (parts_none _ (omega arith))
