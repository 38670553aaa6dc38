-- The arms of `expr_to_ts_type` that type something below, of a record and in a mode, and how their types are written where `readonly_of` them is
-- wanted.
use mathlib.Core.Path.{◌≡◌, refl, sym, ap, ◌∙◌}
use mathlib.Core.List.{[]}
use mathlib.Core.Bool.{Bool, true, false, ◌||◌}
use mathlib.Core.Option.{Option, none, some}
use Prim.Native.Nat.{ℕ, zero, suc, ◌<◌}
use native.Mathlib.Omega.{arith}
use Rattle.std.specs.Prelude.{Option as Answer, Some, None}
use Rattle.definition.specs.Tree.{Head, Rec, Recs, rec, nil, cons, count}
use Rattle.definition.specs.Grammar.{mark, marks, member}
use Rattle.definition.specs.Record.{head_of, kids_of, mark_of, is_no, dummy_sp, ranged, kid, given, present, Out, pure, if_m, on_value, flat}
use Rattle.definition.specs.Helpers.{ts_readonly, object_freeze_call_arg}
use Rattle.definition.specs.Prescan.{PrescannedModuleIds}
use Rattle.definition.specs.Typing.{
  readonly_of_by,
  frozen_kind,
  tuple_of,
  fn_type,
  frozen,
  Expr,
  x_array,
  x_object,
  x_const,
  x_satisfies,
  x_as,
  x_fn,
  x_arrow,
  x_call,
  expr_kind,
  expr_by,
  Below,
  expr_to_ts_type,
  type_first,
  type_second,
  elements,
  props,
  fn_second,
  fn_first,
  function_type,
  fn_params,
  fn_param,
  arrow_params,
  pat_to_ts_fn_param,
}
use Rattle.records.specs.declared.tree.Record.{Record}
use Rattle.records.specs.Views.{rec_of, behind, ChildIs}
use Rattle.swc_helpers.specs.Maybe.{FreezeArg}
use Rattle.prescan.specs.declared.module_names.Scope.{Scope}
use Rattle.typing.specs.declared.exprs.Mode.{Mode}
use Rattle.typing.specs.Values.{ids_in, readonly_if, type_of}
use Rattle.typing.specs.Parts.{as_type, has_readonly}
use Rattle.typing.specs.Steps
use Rattle.typing.specs.Steps.{tuple_type, object_type, param_type, params_from}
use Rattle.typing.proofs.ReadonlyLaws.{frozen-again, frozen-from, frozen-tuple, frozen-lit, frozen_same, plain-props}
use Rattle.typing.proofs.HasReadonly.{has_readonly_lem}
use Rattle.typing.proofs.Options.{wrapped, kept_if}

-- ---- the children that are typed

module _ (ids : PrescannedModuleIds) (ctx : ℕ) where
  first-is : (ks : Recs) (c r : Bool) (n : ℕ) → 0 < count ks → type_first ids ctx ks c r n ≡ expr_to_ts_type ids ctx (kid 0 ks) c r n
  unfolding type_first
  first-is nil c r n h = absurd (omega arith)
  first-is (cons e es) c r n h = refl

  pub second_is : (ks : Recs) (c r : Bool) (n : ℕ) → 1 < count ks → type_second ids ctx ks c r n ≡ expr_to_ts_type ids ctx (kid 1 ks) c r n
  unfolding type_second type_first
  second_is nil c r n h = absurd (omega arith)
  second_is (cons e nil) c r n h = absurd (omega arith)
  second_is (cons e (cons f es)) c r n h = refl

  fn_second_is : (ks : Recs) (n : ℕ) → 1 < count ks → fn_second ids ctx ks n ≡ function_type ids ctx (kid 1 ks) n
  unfolding fn_second fn_first
  fn_second_is nil n h = absurd (omega arith)
  fn_second_is (cons e nil) n h = absurd (omega arith)
  fn_second_is (cons e (cons f es)) n h = refl

-- what stands below an expression
abbrev below_of : PrescannedModuleIds → ℕ → Recs → Below
below_of ids ctx ks = record {
  first = λ c r n. type_first ids ctx ks c r n;
  second = λ c r n. type_second ids ctx ks c r n;
  elements = λ c r n. elements ids ctx ks c r n;
  props = λ c r n. props ids ctx ks c r n;
  fn = λ n. fn_second ids ctx ks n;
  params = λ n. arrow_params ids ctx ks 2 n;
}

expr_eta : (ids : PrescannedModuleIds) (ctx : ℕ) (t : Rec) (c r : Bool) (n : ℕ)
    → expr_to_ts_type ids ctx t c r n ≡ expr_by ids ctx (expr_kind (mark_of t)) (head_of t) (kids_of t) c r (below_of ids ctx (kids_of t)) n
unfolding expr_to_ts_type
expr_eta ids ctx (rec h ks) c r n = refl

-- the parameters behind the first children
module _ (scope : Scope) where
  fn-params : (ks : Recs) (skip n : ℕ) → fn_params (ids_in scope) scope.unresolved ks skip n ≡ flat (param_type scope true) (behind skip ks) n
  unfolding fn_params flat behind param_type
  fn-params nil zero n = refl
  fn-params nil (suc skip) n = refl
  fn-params (cons p ps) zero n = rw (fn-params ps zero (fn_param (ids_in scope) scope.unresolved p n).2)
  fn-params (cons p ps) (suc skip) n = fn-params ps skip n

  arrow-params : (ks : Recs) (skip n : ℕ) → arrow_params (ids_in scope) scope.unresolved ks skip n ≡ flat (param_type scope false) (behind skip ks) n
  unfolding arrow_params flat behind param_type
  arrow-params nil zero n = refl
  arrow-params nil (suc skip) n = refl
  arrow-params (cons p ps) zero n = rw (arrow-params ps zero (pat_to_ts_fn_param (ids_in scope) scope.unresolved p n).2)
  arrow-params (cons p ps) (suc skip) n = arrow-params ps skip n

function_eta : (ids : PrescannedModuleIds) (ctx : ℕ) (t : Rec) (n : ℕ)
    → function_type ids ctx t n ≡ on_value (λ (ps : Recs). some (fn_type (head_of t) (kids_of t) ps)) (fn_params ids ctx (kids_of t) 3 n)
unfolding function_type
function_eta ids ctx (rec h ks) n = refl

-- functions stay as they are
frozen-fn : (b : Bool) (h : Head) (ks : Recs) (o : Out Recs) → readonly_if b (on_value (λ (ps : Recs). some (fn_type h ks ps)) o) ≡ on_value (λ (ps : Recs). some (fn_type h ks ps)) o
unfolding readonly_of_by frozen_kind
frozen-fn b h ks o = frozen_same b (fn_type h ks o.0) refl o.1 o.2

wrap-tuple : (h : Head) (o : Out (Option Recs))
    → on_value (λ (ts : Option Recs). given ts none (λ ts. some (tuple_of h true ts))) o
    ≡ wrapped (ts_readonly dummy_sp) (on_value (λ (ts : Option Recs). given ts none (λ ts. some (rec (ranged "Tu" h []) ts))) o)
wrap-tuple h o = λ i. (go o.0 i, o.1, o.2)
  where
    go : (v : Option Recs) → given v none (λ ts. some (tuple_of h true ts)) ≡ given (given v none (λ ts. some (rec (ranged "Tu" h []) ts))) none (λ t. some (ts_readonly dummy_sp t))
    go none = refl
    go (some ts) = refl

module _ (m : Mode) (t : Rec) (n : ℕ) where
  abbrev ids : PrescannedModuleIds
  ids = ids_in m.scope

  abbrev ctx : ℕ
  ctx = m.scope.unresolved

  type-by : (k : Expr) → expr_kind (mark_of t) ≡ k
      → type_of m t n ≡ readonly_if m.frozen (expr_by ids ctx k (head_of t) (kids_of t) m.as_const m.as_readonly (below_of ids ctx (kids_of t)) n)
  unfolding type_of
  type-by k e =
      ap (readonly_if m.frozen) (expr_eta ids ctx t m.as_const m.as_readonly n
      ∙ ap (λ (x : Expr). expr_by ids ctx x (head_of t) (kids_of t) m.as_const m.as_readonly (below_of ids ctx (kids_of t)) n) e)

  -- ---- `Expr::Array`

  type-array : mark_of t ≡ mark "Ar"
      → type_of m t n ≡ on_value (λ (ts : Option Recs). given ts none (λ ts. some (tuple_of (head_of t) (m.as_readonly || m.frozen) ts))) (elements ids ctx (kids_of t) m.as_const m.as_readonly n)
  unfolding expr_kind expr_by
  type-array e = type-by x_array (rw e) ∙ frozen-tuple m.frozen m.as_readonly (head_of t) (elements ids ctx (kids_of t) m.as_const m.as_readonly n)

  pub array_plain : mark_of t ≡ mark "Ar" → (m.as_readonly || m.frozen) ≡ false → tuple_type m t n ≡ type_of m t n
  unfolding tuple_type
  array_plain e f = sym (type-array e ∙ rw f)

  pub array_readonly : mark_of t ≡ mark "Ar" → (m.as_readonly || m.frozen) ≡ true → wrapped (ts_readonly dummy_sp) (tuple_type m t n) ≡ type_of m t n
  unfolding tuple_type
  array_readonly e f = sym (type-array e ∙ rw f (wrap-tuple (head_of t) (elements ids ctx (kids_of t) m.as_const m.as_readonly n)))

  -- ---- `Expr::Object`

  pub type_object : mark_of t ≡ mark "Ob" → on_value some (object_type m t n) ≡ type_of m t n
  unfolding expr_kind expr_by object_type
  type_object e =
      sym (type-by x_object (rw e)
      ∙ frozen-lit m.frozen (head_of t) (props ids ctx (kids_of t) m.as_const m.as_readonly n) (plain-props ids ctx (kids_of t) m.as_const m.as_readonly n))

  -- ---- `Expr::TsConstAssertion`, `Expr::TsSatisfies`

  pub type_const : mark_of t ≡ mark "Tc" → 0 < count (kids_of t) → {x : Rec} → x ≡ kid 0 (kids_of t)
      → type_of (record { scope = m.scope; as_const = true; as_readonly = true; frozen = m.frozen }) x n ≡ type_of m t n
  unfolding expr_kind expr_by marks member type_of
  type_const e h k =
      sym (type-by x_const (rw e) ∙ ap (readonly_if m.frozen) (first-is ids ctx (kids_of t) true true n h ∙ ap (λ (x : Rec). expr_to_ts_type ids ctx x true true n) (sym k)))

  pub type_satisfies : mark_of t ≡ mark "Ts" → 0 < count (kids_of t) → {x : Rec} → x ≡ kid 0 (kids_of t) → type_of m x n ≡ type_of m t n
  unfolding expr_kind expr_by marks member type_of
  type_satisfies e h k =
      sym (type-by x_satisfies (rw e)
      ∙ ap (readonly_if m.frozen) (first-is ids ctx (kids_of t) m.as_const m.as_readonly n h ∙ ap (λ (x : Rec). expr_to_ts_type ids ctx x m.as_const m.as_readonly n) (sym k)))

  -- ---- `Expr::TsAs`

  as_by : (b : Bool) (x : Rec) → is_no x ≡ false → readonly_if b (present x, [], n) ≡ (some (as_type b x), [], n)
  as_by false x e = rw e
  as_by true x e = rw e

  pub type_as : mark_of t ≡ mark "As" → is_no (kid 1 (kids_of t)) ≡ false → (some (as_type m.frozen (kid 1 (kids_of t))), [], n) ≡ type_of m t n
  unfolding expr_kind expr_by marks member
  type_as e k = sym (type-by x_as (rw e) ∙ as_by m.frozen (kid 1 (kids_of t)) k)

  -- ---- `Expr::Fn`, `Expr::Arrow`

  pub type_fn : mark_of t ≡ mark "Fx" → 1 < count (kids_of t) → {f : Rec} → f ≡ kid 1 (kids_of t) → on_value some (Steps.function_type m.scope true f n) ≡ type_of m t n
  unfolding expr_kind expr_by marks member Steps.function_type
  type_fn e h {f} k =
      sym (type-by x_fn (rw e)
      ∙ (ap (readonly_if m.frozen) (fn_second_is ids ctx (kids_of t) n h ∙ (ap (λ (x : Rec). function_type ids ctx x n) (sym k) ∙ function_eta ids ctx f n))
      ∙ (frozen-fn m.frozen (head_of f) (kids_of f) (fn_params ids ctx (kids_of f) 3 n)
      ∙ ap (on_value (λ (ps : Recs). some (fn_type (head_of f) (kids_of f) ps))) (fn-params m.scope (kids_of f) 3 n))))

  pub type_arrow : mark_of t ≡ mark "Aw" → on_value some (Steps.function_type m.scope false t n) ≡ type_of m t n
  unfolding expr_kind expr_by marks member Steps.function_type
  type_arrow e =
      sym (type-by x_arrow (rw e)
      ∙ (frozen-fn m.frozen (head_of t) (kids_of t) (arrow_params ids ctx (kids_of t) 2 n)
      ∙ ap (on_value (λ (ps : Recs). some (fn_type (head_of t) (kids_of t) ps))) (arrow-params m.scope (kids_of t) 2 n)))

  -- ---- `Expr::Call`

  abbrev frozen_of : Out (Option Rec) → Out (Option Rec)
  frozen_of o = frozen ids ctx o

  call_none : (b : Bool) → readonly_if b (none, [], n) ≡ (none, [], n)
  call_none true = refl
  call_none false = refl

  pub type_call : mark_of t ≡ mark "Ca" → object_freeze_call_arg ctx (kids_of t) ≡ true → 1 < count (kids_of t) → {x : Rec} → x ≡ kid 1 (kids_of t)
      → kept_if (has_readonly x) (type_of (record { scope = m.scope; as_const = m.as_const; as_readonly = m.as_readonly; frozen = true }) x n) ≡ type_of m t n
  unfolding expr_kind expr_by marks member type_of kept_if
  type_call e f h {x} k =
      let o : Out (Option Rec) = expr_to_ts_type ids ctx x m.as_const m.as_readonly n in
      frozen-from (has_readonly x) o (has_readonly_lem ids ctx x m.as_const m.as_readonly n)
      ∙ sym (type-by x_call (rw e)
      ∙ (ap (λ (b : Bool). readonly_if m.frozen (if_m b (λ n. frozen_of (type_second ids ctx (kids_of t) m.as_const m.as_readonly n)) (pure none) n)) f
      ∙ (ap (λ (y : Out (Option Rec)). readonly_if m.frozen (frozen_of y)) (second_is ids ctx (kids_of t) m.as_const m.as_readonly n h
      ∙ ap (λ (y : Rec). expr_to_ts_type ids ctx y m.as_const m.as_readonly n) (sym k))
      ∙ frozen-again m.frozen o)))

  -- a call of `Object.freeze` has its argument
  freeze-two : (ks : Recs) → object_freeze_call_arg ctx ks ≡ true → 1 < count ks
  unfolding object_freeze_call_arg
  freeze-two nil e = absurd (let z : ◌≡◌ {A = ℕ} 0 1 = cc in omega arith)
  freeze-two (cons a nil) e = absurd (let z : ◌≡◌ {A = ℕ} 0 1 = cc in omega arith)
  freeze-two (cons a (cons b ks)) e = omega arith

  -- the wish says how the argument's type is written, and whether it is the call's type is asked behind that
  pub freeze-is : mark_of t ≡ mark "Ca" → object_freeze_call_arg ctx (kids_of t) ≡ true → {x : Rec} → x ≡ kid 1 (kids_of t)
      → kept_if (has_readonly x) (type_of (record { scope = m.scope; as_const = m.as_const; as_readonly = m.as_readonly; frozen = true }) x n) ≡ type_of m t n
  freeze-is e f k = type_call e f (freeze-two (kids_of t) f) k

  pub type_other_call : mark_of t ≡ mark "Ca" → object_freeze_call_arg ctx (kids_of t) ≡ false → (none, [], n) ≡ type_of m t n
  unfolding expr_kind expr_by marks member
  type_other_call e f =
      sym (type-by x_call (rw e) ∙ (ap (λ (b : Bool). readonly_if m.frozen (if_m b (λ n. frozen_of (type_second ids ctx (kids_of t) m.as_const m.as_readonly n)) (pure none) n)) f ∙ call_none m.frozen))

-- ---- the argument of `Object.freeze`, as it is found

pub no_freeze : (r : Record) (u : ℕ) {a : Answer Record} → FreezeArg r u a → a ≡ None → object_freeze_call_arg u (kids_of (rec_of r)) ≡ false
no_freeze r u w e = rw e at w

pub is_freeze : (r : Record) {x : Record} (u : ℕ) {a : Answer Record} → FreezeArg r u a → a ≡ Some x → (object_freeze_call_arg u (kids_of (rec_of r)) ≡ true) × ChildIs r 1 x
is_freeze r {x} u w e = rw e at w
