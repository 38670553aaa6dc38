-- The arms of `expr_to_ts_type` that type nothing below, of a record and a scope, by the tests that the code makes.
use mathlib.Core.Path.{◌≡◌, refl, sym, ap, ◌∙◌}
use mathlib.Core.List.{List}
use mathlib.Core.Bool.{Bool, true, false, cond}
use mathlib.Core.Logic.{◌⊎◌, inl, inr}
use mathlib.Core.Option.{none, some}
use Prim.Native.Nat.{ℕ, ◌≤◌, ◌<◌}
use native.Mathlib.Omega.{arith}
use lib.Dec.{eqb}
use borrow.Author.Tests.{eq-eqb, ne_eqb}
use Rattle.definition.specs.Tree.{Rec, count, tree_at}
use Rattle.definition.specs.Grammar.{mark, marks, member, expression, optional, grammar, known, slots, place}
use Rattle.definition.specs.Check.{deepest}
use Rattle.definition.specs.Record.{kids_of, mark_of, text_of, is, is_no, context_of, symbol_of, dummy_sp, kid}
use Rattle.definition.specs.Helpers.{tpl_to_ts_type, ts_type_query, reference_to, lit_kind, maybe_lit_to_ts_type}
use Rattle.definition.specs.Prescan.{PrescannedModuleIds, asked, Question.typeof_safe, Question.non_generic_class, Question.array_typed}
use Rattle.definition.specs.Typing.{
  minus_by,
  global_type,
  ident_to_ts_type,
  new_type,
  Expr,
  x_array,
  x_object,
  x_lit,
  x_const,
  x_satisfies,
  x_as,
  x_fn,
  x_arrow,
  x_tpl,
  x_ident,
  x_unary,
  x_call,
  x_new,
  x_other,
  expr_kind,
}
use Rattle.definition.proofs.Kids.{fixed, first_in, second_in}
use Rattle.prescan.specs.declared.module_names.Scope.{Scope}
use Rattle.records.specs.declared.marks.Mark.{Mark}
use Rattle.records.specs.declared.marks.Mark.TheVariants.{Ss, Bl, Nl, Nu, Bi, Re, Jt, Te, Id, Mi, Ne}
use Rattle.records.specs.declared.tree.Record.{Record}
use Rattle.records.specs.Marks.{number_of}
use Rattle.records.specs.Views.{rec_of, ChildIs}
use Rattle.records.proofs.SameMarks.{marked, not_marked}
use Rattle.records.proofs.Views.{accepted, mark_here, count_here}
use Rattle.typing.specs.declared.exprs.Mode.{Mode}
use Rattle.typing.specs.Values.{ids_in}
use Rattle.typing.specs.Parts.{name_type, class_type}
use Rattle.typing.specs.Leaves.{leaf_by, leaf_of}

-- ---- the three sets

module _ (scope : Scope) (t : List ℕ) {r b : Bool} where
  pub safe-there : r ≡ asked typeof_safe (kids_of (tree_at deepest scope.names.tree.now 0)) t → r ≡ b → (ids_in scope).typeof_safe t ≡ b
  unfolding ids_in
  safe-there e f = sym e ∙ f

  pub class-there : r ≡ asked non_generic_class (kids_of (tree_at deepest scope.names.tree.now 0)) t → r ≡ b → (ids_in scope).non_generic_classes t ≡ b
  unfolding ids_in
  class-there e f = sym e ∙ f

  pub array-there : r ≡ asked array_typed (kids_of (tree_at deepest scope.names.tree.now 0)) t → r ≡ b → (ids_in scope).array_typed t ≡ b
  unfolding ids_in
  array-there e f = sym e ∙ f

module _ (ids : PrescannedModuleIds) (i : Rec) where
  pub array-named : ids.array_typed (text_of i) ≡ true → some (ts_type_query dummy_sp i) ≡ cond (ids.array_typed (text_of i)) (some (ts_type_query dummy_sp i)) none
  array-named e = rw e

  pub array-missing : ids.array_typed (text_of i) ≡ false → none ≡ cond (ids.array_typed (text_of i)) (some (ts_type_query dummy_sp i)) none
  array-missing e = rw e

-- ---- `ident_to_ts_type`

module _ (ids : PrescannedModuleIds) {ctx : ℕ} (i : Rec) (c : Bool) {x : ℕ} (e : x ≡ context_of i) where
  pub global-named : x ≡ ctx → name_type (symbol_of i) c ≡ ident_to_ts_type ids ctx i c
  unfolding ident_to_ts_type global_type
  global-named f = rw (eq-eqb _ _ (sym e ∙ f))

  pub safe-named : (x ≡ ctx → ⊥) → ids.typeof_safe (text_of i) ≡ true → some (ts_type_query dummy_sp i) ≡ ident_to_ts_type ids ctx i c
  unfolding ident_to_ts_type
  safe-named n f = rw (ne_eqb (context_of i) ctx (λ q. n (e ∙ q)), f)

  pub unsafe-named : (x ≡ ctx → ⊥) → ids.typeof_safe (text_of i) ≡ false → none ≡ ident_to_ts_type ids ctx i c
  unfolding ident_to_ts_type
  unsafe-named n f = rw (ne_eqb (context_of i) ctx (λ q. n (e ∙ q)), f)

-- ---- `Expr::New`

pub constructs : (r : Record) → mark_of (rec_of r) ≡ mark "Ne" → 2 ≤ count (kids_of (rec_of r))
unfolding grammar known slots place fixed
constructs r e = omega (arith, (second_in _ _ _ (accepted r) (mark "Ne") (mark_here r ∙ e) refl (optional "Op") refl).there, count_here r)

module _ (ids : PrescannedModuleIds) {r x : Record} (f : ChildIs r 0 x) where
  pub other-constructed : eqb (mark_of (rec_of x)) (mark "Id") ≡ false → none ≡ class_type ids (kids_of (rec_of r))
  other-constructed n = let z : is "Id" (kid 0 (kids_of (rec_of r))) ≡ false = ap (is "Id") (sym f.is) ∙ n in rw z

  module _ (i : eqb (mark_of (rec_of x)) (mark "Id") ≡ true) {y : Record} (g : ChildIs r 1 y) where
    callee : is "Id" (kid 0 (kids_of (rec_of r))) ≡ true
    callee = ap (is "Id") (sym f.is) ∙ i

    pub generic-constructed : eqb (mark_of (rec_of y)) (mark "No") ≡ false → none ≡ class_type ids (kids_of (rec_of r))
    generic-constructed n = let z : is_no (kid 1 (kids_of (rec_of r))) ≡ false = ap is_no (sym g.is) ∙ n in rw (callee, z)

    module _ (n : eqb (mark_of (rec_of y)) (mark "No") ≡ true) where
      plain : is_no (kid 1 (kids_of (rec_of r))) ≡ true
      plain = ap is_no (sym g.is) ∙ n

      pub class-constructed : ids.non_generic_classes (text_of (rec_of x)) ≡ true → some (reference_to dummy_sp (rec_of x)) ≡ class_type ids (kids_of (rec_of r))
      class-constructed h = rw (callee, plain, ← f.is, h)

      pub no-class : ids.non_generic_classes (text_of (rec_of x)) ≡ false → none ≡ class_type ids (kids_of (rec_of r))
      no-class h = rw (callee, plain, ← f.is, h)

-- ---- the arms, as the code picks them

-- the marks of literals
abbrev pub Literally : Mark → Type 0
Literally m = (m ≡ Ss) ⊎ ((m ≡ Bl) ⊎ ((m ≡ Nl) ⊎ ((m ≡ Nu) ⊎ ((m ≡ Bi) ⊎ ((m ≡ Re) ⊎ (m ≡ Jt))))))

-- the operand of a Mi
pub negates : (r : Record) → mark_of (rec_of r) ≡ mark "Mi" → 0 < count (kids_of (rec_of r))
unfolding grammar known slots place fixed
negates r e = omega (arith, (first_in _ _ _ (accepted r) (mark "Mi") (mark_here r ∙ e) refl expression refl).there, count_here r)

-- the other kinds have no type here
below_none : (ids : PrescannedModuleIds) (ctx : ℕ) (t : Rec) (c u1 u2 u3 u4 u5 u6 u7 u8 : Bool)
    → leaf_by ids ctx (cond u1 x_array (cond u2 x_object (cond u3 x_const (cond u4 x_satisfies (cond u5 x_as (cond u6 x_fn (cond u7 x_arrow (cond u8 x_call x_other)))))))) t c ≡ none
unfolding leaf_by
below_none ids ctx t c true u2 u3 u4 u5 u6 u7 u8 = refl
below_none ids ctx t c false true u3 u4 u5 u6 u7 u8 = refl
below_none ids ctx t c false false true u4 u5 u6 u7 u8 = refl
below_none ids ctx t c false false false true u5 u6 u7 u8 = refl
below_none ids ctx t c false false false false true u6 u7 u8 = refl
below_none ids ctx t c false false false false false true u7 u8 = refl
below_none ids ctx t c false false false false false false true u8 = refl
below_none ids ctx t c false false false false false false false true = refl
below_none ids ctx t c false false false false false false false false = refl

module _ (m : Mode) (r : Record) where
  leaf-at : (k : Expr) → expr_kind (mark_of (rec_of r)) ≡ k → leaf_by (ids_in m.scope) m.scope.unresolved k (rec_of r) m.as_const ≡ leaf_of m (rec_of r)
  unfolding leaf_of
  leaf-at k e = rw (← e) refl

  module _ {k : Mark} (n : number_of k ≡ mark_of (rec_of r)) where
    lit-kind : Literally k → expr_kind (mark_of (rec_of r)) ≡ x_lit
    unfolding expr_kind marks member
    lit-kind (inl e) = rw (marked k n e)
    lit-kind (inr (inl e)) = rw (marked k n e)
    lit-kind (inr (inr (inl e))) = rw (marked k n e)
    lit-kind (inr (inr (inr (inl e)))) = rw (marked k n e)
    lit-kind (inr (inr (inr (inr (inl e))))) = rw (marked k n e)
    lit-kind (inr (inr (inr (inr (inr (inl e)))))) = rw (marked k n e)
    lit-kind (inr (inr (inr (inr (inr (inr e)))))) = rw (marked k n e)

    pub leaf-literal : {c : Bool} → Literally k → c ≡ m.as_const → maybe_lit_to_ts_type (lit_kind (mark_of (rec_of r))) (rec_of r) c ≡ leaf_of m (rec_of r)
    unfolding leaf_by
    leaf-literal e q = ap (maybe_lit_to_ts_type (lit_kind (mark_of (rec_of r))) (rec_of r)) q ∙ leaf-at x_lit (lit-kind e)

    pub leaf-template : {c : Bool} → k ≡ Te → c ≡ m.as_const → some (tpl_to_ts_type (kids_of (rec_of r)) c) ≡ leaf_of m (rec_of r)
    unfolding leaf_by expr_kind marks member
    leaf-template e q = ap (λ (b : Bool). some (tpl_to_ts_type (kids_of (rec_of r)) b)) q ∙ leaf-at x_tpl (rw (marked k n e))

    pub leaf-name : k ≡ Id → ident_to_ts_type (ids_in m.scope) m.scope.unresolved (rec_of r) m.as_const ≡ leaf_of m (rec_of r)
    unfolding leaf_by expr_kind marks member
    leaf-name e = leaf-at x_ident (rw (marked k n e))

    pub leaf-negated : {x : Record} {c : Bool} → k ≡ Mi → ChildIs r 0 x → c ≡ m.as_const → minus_by (lit_kind (mark_of (rec_of x))) (rec_of x) c ≡ leaf_of m (rec_of r)
    unfolding leaf_by expr_kind marks member
    leaf-negated e f q = rw (q, f.is) (leaf-at x_unary (rw (marked k n e)))

    pub leaf-constructed : k ≡ Ne → class_type (ids_in m.scope) (kids_of (rec_of r)) ≡ leaf_of m (rec_of r)
    unfolding leaf_by expr_kind marks member new_type
    leaf-constructed e = leaf-at x_new (rw (marked k n e))

  pub leaf-other : {k : Mark} → number_of k ≡ mark_of (rec_of r) → (k ≡ Ss → ⊥) → (k ≡ Bl → ⊥) → (k ≡ Nl → ⊥) → (k ≡ Nu → ⊥) → (k ≡ Bi → ⊥) → (k ≡ Re → ⊥) → (k ≡ Jt → ⊥)
      → (k ≡ Te → ⊥) → (k ≡ Id → ⊥) → (k ≡ Mi → ⊥) → (k ≡ Ne → ⊥) → none ≡ leaf_of m (rec_of r)
  unfolding leaf_by expr_kind marks member
  leaf-other {k} n a1 a2 a3 a4 a5 a6 a7 a b c d =
      sym (sym (leaf-at (expr_kind (mark_of (rec_of r))) refl)
      ∙ rw (
        not_marked k n Ss a1,
        not_marked k n Bl a2,
        not_marked k n Nl a3,
        not_marked k n Nu a4,
        not_marked k n Bi a5,
        not_marked k n Re a6,
        not_marked k n Jt a7,
        not_marked k n Te a,
        not_marked k n Id b,
        not_marked k n Mi c,
        not_marked k n Ne d,
      )
      (below_none (ids_in m.scope) m.scope.unresolved (rec_of r) m.as_const (eqb (mark_of (rec_of r)) (mark "Ar")) (eqb (mark_of (rec_of r)) (mark "Ob")) (eqb (mark_of (rec_of r)) (mark "Tc")) (eqb (mark_of (rec_of r)) (mark "Ts")) (eqb (mark_of (rec_of r)) (mark "As")) (eqb (mark_of (rec_of r)) (mark "Fx")) (eqb (mark_of (rec_of r)) (mark "Aw")) (eqb (mark_of (rec_of r)) (mark "Ca"))))
