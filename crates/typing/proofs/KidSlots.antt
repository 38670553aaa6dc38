-- The children that the grammar fixes, of the records whose children are typed: so many are there, and some have one mark.
use mathlib.Core.Path.{◌≡◌, refl, ◌∙◌, subst}
use mathlib.Core.Bool.{Bool, true, false}
use Prim.Native.Nat.{ℕ, ◌≤◌}
use native.Mathlib.Omega.{arith}
use borrow.Author.Tests.{ne_eqb}
use Rattle.definition.specs.Tree.{count}
use Rattle.definition.specs.Grammar.{mark, marks, member, type, expression, grammar, known, slots, place}
use Rattle.definition.specs.Record.{kids_of, mark_of, is_no, kid}
use Rattle.definition.proofs.Kids.{fixed, first_in, second_in, member-one, member-not}
use Rattle.records.specs.declared.tree.Record.{Record}
use Rattle.records.specs.declared.tree.Records.{Records}
use Rattle.records.specs.Views.{rec_of, ChildrenOf, FirstOf, RestOf, From, ChildIs}
use Rattle.records.proofs.Records.{from_children, from_rest, child_is, enough, kid_marks}
use Rattle.records.proofs.Views.{accepted, mark_here, count_here}
use Rattle.typing.specs.Steps.{params_from, function_mark}

module _ (r : Record) where
  abbrev n : ℕ
  n = count (kids_of (rec_of r))

  pub asserts_const : mark_of (rec_of r) ≡ mark "Tc" → 1 ≤ n
  unfolding grammar known slots place fixed
  asserts_const e = omega (arith, (first_in _ _ _ (accepted r) (mark "Tc") (mark_here r ∙ e) refl expression refl).there, count_here r)

  pub satisfies : mark_of (rec_of r) ≡ mark "Ts" → 1 ≤ n
  unfolding grammar known slots place fixed
  satisfies e = omega (arith, (first_in _ _ _ (accepted r) (mark "Ts") (mark_here r ∙ e) refl expression refl).there, count_here r)

  pub asserts : mark_of (rec_of r) ≡ mark "As" → 2 ≤ n
  asserts e = enough r e

  pub asserted : mark_of (rec_of r) ≡ mark "As" → is_no (kid 1 (kids_of (rec_of r))) ≡ false
  unfolding grammar known slots place fixed marks member
  asserted e = ne_eqb _ _ (member-not _ (mark "No") (marks type) refl (kid_marks r e refl 1 type refl))

  pub named_function : mark_of (rec_of r) ≡ mark "Fx" → 2 ≤ n
  named_function e = enough r e

  pub its_function : mark_of (rec_of r) ≡ mark "Fx" → mark_of (kid 1 (kids_of (rec_of r))) ≡ mark "Fu"
  unfolding grammar known slots place fixed marks
  its_function e = member-one _ _ (kid_marks r e refl 1 "Fu" refl)

  pub spreads : mark_of (rec_of r) ≡ mark "Sp" → 1 ≤ n
  unfolding grammar known slots place fixed
  spreads e = omega (arith, (first_in _ _ _ (accepted r) (mark "Sp") (mark_here r ∙ e) refl expression refl).there, count_here r)

  pub keyed : mark_of (rec_of r) ≡ mark "Kv" → 2 ≤ n
  unfolding grammar known slots place fixed
  keyed e = omega (arith, (second_in _ _ _ (accepted r) (mark "Kv") (mark_here r ∙ e) refl expression refl).there, count_here r)

  pub shortened : mark_of (rec_of r) ≡ mark "Sh" → 1 ≤ n
  unfolding grammar known slots place fixed
  shortened e = omega (arith, (first_in _ _ _ (accepted r) (mark "Sh") (mark_here r ∙ e) refl "Id" refl).there, count_here r)

  pub its_name : mark_of (rec_of r) ≡ mark "Sh" → mark_of (kid 0 (kids_of (rec_of r))) ≡ mark "Id"
  unfolding grammar known slots place fixed marks
  its_name e = member-one _ _ (kid_marks r e refl 0 "Id" refl)

  pub decorated : mark_of (rec_of r) ≡ mark "Pa" → 1 ≤ n
  decorated e = enough r e

  pub evaluated : mark_of (rec_of r) ≡ mark "Pe" → 1 ≤ n
  unfolding grammar known slots place fixed
  evaluated e = omega (arith, (first_in _ _ _ (accepted r) (mark "Pe") (mark_here r ∙ e) refl expression refl).there, count_here r)

  pub assigned : mark_of (rec_of r) ≡ mark "Ag" → 2 ≤ n
  assigned e = enough r e

  pub parameters : (fn : Bool) → mark_of (rec_of r) ≡ function_mark fn → params_from fn ≤ n
  parameters true e = enough r e
  parameters false e = enough r e

-- those of a function, by the flag
pub three_of : (r : Record) {fn : Bool} → fn ≡ true → mark_of (rec_of r) ≡ function_mark fn → 3 ≤ count (kids_of (rec_of r))
three_of r {fn = true} e m = enough r m
three_of r {fn = false} e m = absurd (let z : ◌≡◌ {A = ℕ} 0 1 = cc in omega arith)

pub params_of : {r : Record} (fn : Bool) {i : ℕ} {k : Records} → i ≡ params_from fn → From r i k → From r (params_from fn) k
params_of {r} fn {i} {k} e f = subst (λ (j : ℕ). From r j k) e f

pub two_at_least : (fn : Bool) → 2 ≤ params_from fn
two_at_least true = omega arith
two_at_least false = omega arith

-- ---- the first two children, as the code comes to them

pub first_kid : {r x : Record} {k : Records} → ChildrenOf r k → 1 ≤ count (kids_of (rec_of r)) → FirstOf k x → ChildIs r 0 x
first_kid c h f = child_is (from_children c) (omega (arith, c.many, h)) f

pub second_kid : {r x : Record} {k l : Records} → ChildrenOf r k → 2 ≤ count (kids_of (rec_of r)) → RestOf k l → FirstOf l x → ChildIs r 1 x
second_kid c h q f = child_is (from_rest (from_children c) (omega (arith, c.many, h)) q) (omega (arith, c.many, q.many, h)) f

pub from_third : {r : Record} {k l m : Records} → ChildrenOf r k → 2 ≤ count (kids_of (rec_of r)) → RestOf k l → RestOf l m → From r 2 m
from_third c h q s = from_rest (from_rest (from_children c) (omega (arith, c.many, h)) q) (omega (arith, c.many, q.many, h)) s
