-- The arms of `expr_to_ts_type` that type nothing below are those of the definition.
use mathlib.Core.Path.{◌≡◌, refl, sym, ap, ◌∙◌}
use mathlib.Core.List.{[]}
use mathlib.Core.Bool.{Bool, true, false, cond}
use mathlib.Core.Option.{none}
use Prim.Native.Nat.{ℕ}
use native.Mathlib.Omega.{arith}
use lib.Dec.{eqb}
use Rattle.definition.specs.Tree.{Head, Rec, Recs, rec}
use Rattle.definition.specs.Grammar.{mark}
use Rattle.definition.specs.Record.{kids_of, mark_of, among, kid, given}
use Rattle.definition.specs.Helpers.{lit_kind}
use Rattle.definition.specs.Prescan.{PrescannedModuleIds}
use Rattle.definition.specs.Typing.{
  readonly_of,
  Expr,
  x_array,
  x_object,
  x_lit,
  x_const,
  x_satisfies,
  x_as,
  x_fn,
  x_arrow,
  x_tpl,
  x_ident,
  x_unary,
  x_call,
  x_new,
  x_other,
  expr_kind,
  expr_by,
  Below,
  expr_to_ts_type,
}
use Rattle.records.specs.declared.marks.Mark.{Mark}
use Rattle.records.specs.declared.marks.Mark.TheVariants.{Ar, Ob, Tc, Ts, As, Fx, Aw, Ca}
use Rattle.records.specs.Marks.{number_of}
use Rattle.records.proofs.SameMarks.{not_marked}
use Rattle.typing.specs.declared.exprs.Mode.{Mode}
use Rattle.typing.specs.Values.{ids_in, readonly_if, type_of}
use Rattle.typing.specs.Leaves.{leaf_by, leaf_of}
use Rattle.typing.proofs.ReadonlyLaws.{frozen-none, lit-none, tpl_none, ident-none, minus-none, new_none}

false-true : ◌≡◌ {A = Bool} false true → ⊥
false-true e = let z : ◌≡◌ {A = ℕ} 0 1 = cc in omega arith

-- the kinds of which nothing below is typed
abbrev pub is_leaf : Expr → Bool
is_leaf x_array = false
is_leaf x_object = false
is_leaf x_lit = true
is_leaf x_const = false
is_leaf x_satisfies = false
is_leaf x_as = false
is_leaf x_fn = false
is_leaf x_arrow = false
is_leaf x_tpl = true
is_leaf x_ident = true
is_leaf x_unary = true
is_leaf x_call = false
is_leaf x_new = true
is_leaf x_other = true

leaf-kind : (u1 u2 l u3 u4 u5 u6 u7 v1 v2 v3 u8 v4 : Bool) → u1 ≡ false → u2 ≡ false → u3 ≡ false → u4 ≡ false → u5 ≡ false → u6 ≡ false → u7 ≡ false → u8 ≡ false →
    is_leaf (cond u1 x_array (cond u2 x_object (cond l x_lit (cond u3 x_const (cond u4 x_satisfies (cond u5 x_as (cond u6 x_fn (cond u7 x_arrow
    (cond v1 x_tpl (cond v2 x_ident (cond v3 x_unary (cond u8 x_call (cond v4 x_new x_other))))))))))))) ≡ true
leaf-kind u1 u2 l u3 u4 u5 u6 u7 v1 v2 v3 u8 v4 e1 e2 e3 e4 e5 e6 e7 e8 = rw (e1, e2, e3, e4, e5, e6, e7, e8) (go l v1 v2 v3 v4)
  where
    go : (l v1 v2 v3 v4 : Bool) → is_leaf (cond l x_lit (cond v1 x_tpl (cond v2 x_ident (cond v3 x_unary (cond v4 x_new x_other))))) ≡ true
    go true v1 v2 v3 v4 = refl
    go false true v2 v3 v4 = refl
    go false false true v3 v4 = refl
    go false false false true v4 = refl
    go false false false false true = refl
    go false false false false false = refl

module _ (ids : PrescannedModuleIds) (ctx : ℕ) where
  leaf-by : (k : Expr) → is_leaf k ≡ true → (h : Head) (ks : Recs) (c r : Bool) (below : Below) (n : ℕ) → expr_by ids ctx k h ks c r below n ≡ (leaf_by ids ctx k (rec h ks) c, [], n)
  unfolding expr_by leaf_by
  leaf-by x_array e h ks c r below n = absurd (false-true e)
  leaf-by x_object e h ks c r below n = absurd (false-true e)
  leaf-by x_lit e h ks c r below n = refl
  leaf-by x_const e h ks c r below n = absurd (false-true e)
  leaf-by x_satisfies e h ks c r below n = absurd (false-true e)
  leaf-by x_as e h ks c r below n = absurd (false-true e)
  leaf-by x_fn e h ks c r below n = absurd (false-true e)
  leaf-by x_arrow e h ks c r below n = absurd (false-true e)
  leaf-by x_tpl e h ks c r below n = refl
  leaf-by x_ident e h ks c r below n = refl
  leaf-by x_unary e h ks c r below n = refl
  leaf-by x_call e h ks c r below n = absurd (false-true e)
  leaf-by x_new e h ks c r below n = refl
  leaf-by x_other e h ks c r below n = refl

  frozen-leaf : (k : Expr) (t : Rec) (c : Bool) → given (leaf_by ids ctx k t c) none readonly_of ≡ none
  unfolding leaf_by
  frozen-leaf x_array t c = refl
  frozen-leaf x_object t c = refl
  frozen-leaf x_lit t c = lit-none (lit_kind (mark_of t)) t c
  frozen-leaf x_const t c = refl
  frozen-leaf x_satisfies t c = refl
  frozen-leaf x_as t c = refl
  frozen-leaf x_fn t c = refl
  frozen-leaf x_arrow t c = refl
  frozen-leaf x_tpl t c = tpl_none (kids_of t) c
  frozen-leaf x_ident t c = ident-none ids ctx t c
  frozen-leaf x_unary t c = minus-none (lit_kind (mark_of (kid 0 (kids_of t)))) (kid 0 (kids_of t)) c
  frozen-leaf x_call t c = refl
  frozen-leaf x_new t c = new_none ids ctx (kids_of t)
  frozen-leaf x_other t c = refl

  expr_leaf : (t : Rec) (c r : Bool) (n : ℕ) → is_leaf (expr_kind (mark_of t)) ≡ true → expr_to_ts_type ids ctx t c r n ≡ (leaf_by ids ctx (expr_kind (mark_of t)) t c, [], n)
  unfolding expr_to_ts_type
  expr_leaf (rec h ks) c r n e = leaf-by (expr_kind h.mark) e h ks c r _ n

-- a kind by the marks that it is not
pub leaf_but : (m : ℕ) → eqb m (mark "Ar") ≡ false → eqb m (mark "Ob") ≡ false → eqb m (mark "Tc") ≡ false → eqb m (mark "Ts") ≡ false → eqb m (mark "As") ≡ false
    → eqb m (mark "Fx") ≡ false → eqb m (mark "Aw") ≡ false → eqb m (mark "Ca") ≡ false → is_leaf (expr_kind m) ≡ true
unfolding expr_kind
leaf_but m = leaf-kind _ _ (among "Ss Bl Nl Nu Bi Re Jt" m) _ _ _ _ _ (eqb m (mark "Te")) (eqb m (mark "Id")) (eqb m (mark "Mi")) _ (eqb m (mark "Ne"))

-- the other arms, as the code picks them
pub leaf_is : (m : Mode) (t : Rec) (n : ℕ) {k : Mark} → number_of k ≡ mark_of t → (k ≡ Ar → ⊥) → (k ≡ Ob → ⊥) → (k ≡ Tc → ⊥) → (k ≡ Ts → ⊥) → (k ≡ As → ⊥) → (k ≡ Fx → ⊥) → (k ≡ Aw → ⊥) → (k ≡ Ca → ⊥)
    → (leaf_of m t, [], n) ≡ type_of m t n
unfolding type_of leaf_of
leaf_is m t n {k} q a b c d e f g h =
    let x : Expr = expr_kind (mark_of t) in
    let y : is_leaf x ≡ true =
    leaf_but (mark_of t) (not_marked k q Ar a) (not_marked k q Ob b) (not_marked k q Tc c) (not_marked k q Ts d) (not_marked k q As e) (not_marked k q Fx f) (not_marked k q Aw g) (not_marked k q Ca h) in
    sym (ap (readonly_if m.frozen) (expr_leaf (ids_in m.scope) m.scope.unresolved t m.as_const m.as_readonly n y)
    ∙ frozen-none m.frozen (leaf_by (ids_in m.scope) m.scope.unresolved x t m.as_const) (frozen-leaf (ids_in m.scope) m.scope.unresolved x t m.as_const) [] n)
