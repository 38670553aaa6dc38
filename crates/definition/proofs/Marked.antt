-- The diagnostics of a typing are marked at records of what is typed: what holds of the five at every record of an expression holds of all of its
-- diagnostics.
use mathlib.Core.Path.{◌≡◌, refl}
use mathlib.Core.List.{List, [], ◌∷◌, ◌++◌}
use mathlib.Core.Bool.{Bool, true, false, cond}
use mathlib.Core.Option.{Option, none, some}
use Prim.Native.Nat.{ℕ, zero, suc}
use lib.Dec.{eqb}
use Rattle.definition.specs.Tree.{Head, Rec, Recs, rec, nil, cons}
use Rattle.definition.specs.Grammar.{mark}
use Rattle.definition.specs.Record.{head_of, mark_of, is, dummy_sp, absent, kid, given, Diag, diag, Out, if_m}
use Rattle.definition.specs.Helpers.{object_freeze_call_arg}
use Rattle.definition.specs.ChildNames.{kv_value, pe_expression}
use Rattle.definition.specs.Prescan.{PrescannedModuleIds}
use Rattle.definition.specs.Marked.{All, At, Everywhere, AllEverywhere}
use Rattle.definition.specs.Typing.{
  element,
  or_any,
  ts_rest_type,
  Element,
  e_hole,
  e_spread,
  e_expr,
  e_op,
  element_kind,
  element_by,
  Spread,
  s_ident,
  s_array,
  s_other,
  spread_kind,
  spread_by,
  Prop,
  p_key_value,
  p_shorthand,
  p_spread,
  p_other,
  p_op,
  prop_kind,
  prop_by,
  shorthand,
  Param,
  q_keep,
  q_assign,
  q_expr,
  q_other,
  param_kind,
  param_by,
  default_param,
  Expr,
  x_array,
  x_object,
  x_lit,
  x_const,
  x_satisfies,
  x_as,
  x_fn,
  x_arrow,
  x_tpl,
  x_ident,
  x_unary,
  x_call,
  x_new,
  x_other,
  expr_kind,
  Below,
  ident_to_ts_type,
  expr_by,
  expr_to_ts_type,
  type_first,
  type_second,
  elements,
  spread_type,
  spread_first,
  props,
  prop,
  fn_second,
  fn_first,
  function_type,
  fn_params,
  fn_param,
  param_first,
  arrow_params,
  pat_to_ts_fn_param,
}

module _ (P : Diag → Type 0) where
  -- ---- steps

  pub all_append : (xs ys : List Diag) → All P xs → All P ys → All P (xs ++ ys)
  all_append [] ys p q = q
  all_append (x ∷ xs) ys p q = (p.0, all_append xs ys p.1 q)

  pub all_if : {A : Type 0} (b : Bool) (f g : ℕ → Out A) (n : ℕ) → All P (f n).1 → All P (g n).1 → All P (if_m b f g n).1
  all_if true f g n p q = p
  all_if false f g n p q = q

  -- a type, or any and more diagnostics
  pub all-or_any : (o : Out (Option Rec)) (ds : List Diag) → All P o.1 → All P ds → All P (or_any o ds).1
  all-or_any o ds p q = go o.0
    where
      go : (x : Option Rec) → All P (or_any (x, o.1, o.2) ds).1
      go none = all_append o.1 ds p q
      go (some t) = p

  -- the record itself
  pub own : (r : Rec) → Everywhere P r → At P (head_of r)
  unfolding Everywhere
  own (rec h ks) e = e.0

  -- a step on a child, there or not
  pub at-kid : {A : Type 0} (f : Rec → ℕ → Out A) → ((r : Rec) (n : ℕ) → Everywhere P r → All P (f r n).1) → ((n : ℕ) → All P (f absent n).1) →
      (i : ℕ) (ks : Recs) (n : ℕ) → AllEverywhere P ks → All P (f (kid i ks) n).1
  unfolding Everywhere
  at-kid f good gone i nil n e = gone n
  at-kid f good gone zero (cons r rs) n e = good r n e.0
  at-kid f good gone (suc i) (cons r rs) n e = at-kid f good gone i rs n e.1

  -- ---- elements, properties and parameters

  element_by-all : (k : Element) (h : Head) (typed spread : ℕ → Out (Option Rec)) (rest : ℕ → Out (Option Recs)) (n : ℕ) → At P h →
      ((n : ℕ) → All P (typed n).1) → ((n : ℕ) → All P (spread n).1) → ((n : ℕ) → All P (rest n).1) → All P (element_by k h typed spread rest n).1
  unfolding element_by
  element_by-all e_hole h typed spread rest n a p q s = s n
  element_by-all e_spread h typed spread rest n a p q s = go (spread n).0
    where
      go : (x : Option Rec) → All P (given x (none, (spread n).1 ++ (diag "d4" h ∷ []), (spread n).2) (λ t. element (ts_rest_type dummy_sp t) (spread n).1 (rest (spread n).2))).1
      go none = all_append (spread n).1 (diag "d4" h ∷ []) (q n) (a.3, tt)
      go (some t) = all_append (spread n).1 (rest (spread n).2).1 (q n) (s (spread n).2)
  element_by-all e_expr h typed spread rest n a p q s =
      let o : Out Rec = or_any (typed n) (diag "d1" h ∷ []) in
      all_append o.1 (rest o.2).1 (all-or_any (typed n) (diag "d1" h ∷ []) (p n) (a.0, tt)) (s o.2)
  element_by-all e_op h typed spread rest n a p q s = s n

  default_param-all : (h : Head) (left t : Rec) (ds : List Diag) (n : ℕ) → All P ds → All P (default_param h left t ds n).1
  unfolding default_param
  default_param-all h left t ds n p = go (is "Bd" left) _ _
    where
      go : (b : Bool) (x y : Recs) → All P (cond {A = Out Recs} b (x, ds, n) (y, ds, suc n)).1
      go true x y = p
      go false x y = p

  param_by-all : (k : Param) (h : Head) (ks : Recs) (right : ℕ → Out (Option Rec)) (n : ℕ) → (k ≡ q_expr → At P (head_of (kid pe_expression ks))) →
      All P (right n).1 → All P (param_by k h ks right n).1
  unfolding param_by
  param_by-all q_keep h ks right n a p = tt
  param_by-all q_assign h ks right n a p = go (right n).0
    where
      go : (x : Option Rec) → All P (given {B = Out Recs} x (nil, (right n).1, (right n).2) (λ t. default_param h (kid 0 ks) t (right n).1 (right n).2)).1
      go none = p
      go (some t) = default_param-all h (kid 0 ks) t (right n).1 (right n).2 p
  param_by-all q_expr h ks right n a p = ((a refl).0, tt)
  param_by-all q_other h ks right n a p = tt

  module _ (ids : PrescannedModuleIds) (ctx : ℕ) where
    spread_by-all : (k : Spread) (e : Rec) (typed : ℕ → Out (Option Rec)) (n : ℕ) → All P (typed n).1 → All P (spread_by ids ctx k e typed n).1
    unfolding spread_by
    spread_by-all s_ident e typed n p = tt
    spread_by-all s_array e typed n p = p
    spread_by-all s_other e typed n p = tt

    shorthand-all : (h : Head) (i : Rec) (r : Bool) (o : Option Rec) (n : ℕ) → At P h → All P (shorthand h i r o n).1
    shorthand-all h i r none n a = (a.2, tt)
    shorthand-all h i r (some t) n a = tt

    prop_by-all : (k : Prop) (h : Head) (ks : Recs) (c r : Bool) (value : ℕ → Out (Option Rec)) (n : ℕ) → At P h → (k ≡ p_key_value → At P (head_of (kid kv_value ks))) →
        All P (value n).1 → All P (prop_by ids ctx k h ks c r value n).1
    unfolding prop_by
    prop_by-all p_key_value h ks c r value n a v p = all-or_any (value n) (diag "d2" (head_of (kid kv_value ks)) ∷ []) p ((v refl).1, tt)
    prop_by-all p_shorthand h ks c r value n a v p = shorthand-all h (kid 0 ks) r (ident_to_ts_type ids ctx (kid 0 ks) c) n a
    prop_by-all p_spread h ks c r value n a v p = (a.3, tt)
    prop_by-all p_other h ks c r value n a v p = (a.2, tt)
    prop_by-all p_op h ks c r value n a v p = tt

    -- ---- expressions

    -- P holds of what stands below one
    record BelowAll (b : Below) : Type 0 where
      first : (c r : Bool) (n : ℕ) → All P (b.first c r n).1
      second : (c r : Bool) (n : ℕ) → All P (b.second c r n).1
      elements : (c r : Bool) (n : ℕ) → All P (b.elements c r n).1
      props : (c r : Bool) (n : ℕ) → All P (b.props c r n).1
      fn : (n : ℕ) → All P (b.fn n).1
      params : (n : ℕ) → All P (b.params n).1

    expr_by-all : (k : Expr) (h : Head) (ks : Recs) (c r : Bool) (b : Below) (n : ℕ) → BelowAll b → All P (expr_by ids ctx k h ks c r b n).1
    unfolding expr_by
    expr_by-all x_array h ks c r b n w = w.elements c r n
    expr_by-all x_object h ks c r b n w = w.props c r n
    expr_by-all x_lit h ks c r b n w = tt
    expr_by-all x_const h ks c r b n w = w.first true true n
    expr_by-all x_satisfies h ks c r b n w = w.first c r n
    expr_by-all x_as h ks c r b n w = tt
    expr_by-all x_fn h ks c r b n w = w.fn n
    expr_by-all x_arrow h ks c r b n w = w.params n
    expr_by-all x_tpl h ks c r b n w = tt
    expr_by-all x_ident h ks c r b n w = tt
    expr_by-all x_unary h ks c r b n w = tt
    expr_by-all x_call h ks c r b n w = all_if (object_freeze_call_arg ctx ks) _ _ n (w.second c r n) tt
    expr_by-all x_new h ks c r b n w = tt
    expr_by-all x_other h ks c r b n w = tt

    mutual
      unfolding expr_to_ts_type Everywhere

      pub expr_to_ts_type-all : (e : Rec) (c r : Bool) (n : ℕ) → Everywhere P e → All P (expr_to_ts_type ids ctx e c r n).1
      expr_to_ts_type-all (rec h ks) c r n w =
          expr_by-all (expr_kind h.mark) h ks c r _ n
          (record {
            first = λ c r n. type_first-all ks c r n w.2;
            second = λ c r n. type_second-all ks c r n w.2;
            elements = λ c r n. elements-all ks c r n w.2;
            props = λ c r n. props-all ks c r n w.2;
            fn = λ n. fn_second-all ks n w.2;
            params = λ n. arrow_params-all ks 2 n w.2;
          })

      type_first-all : (es : Recs) (c r : Bool) (n : ℕ) → AllEverywhere P es → All P (type_first ids ctx es c r n).1
      type_first-all nil c r n w = tt
      type_first-all (cons e es) c r n w = expr_to_ts_type-all e c r n w.0

      type_second-all : (es : Recs) (c r : Bool) (n : ℕ) → AllEverywhere P es → All P (type_second ids ctx es c r n).1
      type_second-all nil c r n w = tt
      type_second-all (cons e es) c r n w = type_first-all es c r n w.1

      elements-all : (es : Recs) (c r : Bool) (n : ℕ) → AllEverywhere P es → All P (elements ids ctx es c r n).1
      elements-all nil c r n w = tt
      elements-all (cons e es) c r n w =
          element_by-all (element_kind (mark_of e)) (head_of e) _ _ _ n (own e w.0)
          (λ n. expr_to_ts_type-all e c r n w.0) (λ n. spread_type-all e c n w.0) (λ n. elements-all es c r n w.1)

      spread_type-all : (e : Rec) (c : Bool) (n : ℕ) → Everywhere P e → All P (spread_type ids ctx e c n).1
      spread_type-all (rec h ks) c n w = spread_first-all ks c n w.2

      spread_first-all : (es : Recs) (c : Bool) (n : ℕ) → AllEverywhere P es → All P (spread_first ids ctx es c n).1
      spread_first-all nil c n w = tt
      spread_first-all (cons e es) c n w = spread_by-all (spread_kind (mark_of e)) e _ n (expr_to_ts_type-all e c false n w.0)

      props-all : (ps : Recs) (c r : Bool) (n : ℕ) → AllEverywhere P ps → All P (props ids ctx ps c r n).1
      props-all nil c r n w = tt
      props-all (cons p ps) c r n w = all_append (prop ids ctx p c r n).1 _ (prop-all p c r n w.0) (props-all ps c r (prop ids ctx p c r n).2 w.1)

      prop-all : (p : Rec) (c r : Bool) (n : ℕ) → Everywhere P p → All P (prop ids ctx p c r n).1
      prop-all (rec h ks) c r n w = prop_by-all (prop_kind h.mark) h ks c r _ n w.0 w.1.value (type_second-all ks c r n w.2)

      fn_second-all : (rs : Recs) (n : ℕ) → AllEverywhere P rs → All P (fn_second ids ctx rs n).1
      fn_second-all nil n w = tt
      fn_second-all (cons i rs) n w = fn_first-all rs n w.1

      fn_first-all : (rs : Recs) (n : ℕ) → AllEverywhere P rs → All P (fn_first ids ctx rs n).1
      fn_first-all nil n w = tt
      fn_first-all (cons f rs) n w = function_type-all f n w.0

      function_type-all : (f : Rec) (n : ℕ) → Everywhere P f → All P (function_type ids ctx f n).1
      function_type-all (rec h ks) n w = fn_params-all ks 3 n w.2

      fn_params-all : (ps : Recs) (skip n : ℕ) → AllEverywhere P ps → All P (fn_params ids ctx ps skip n).1
      fn_params-all nil skip n w = tt
      fn_params-all (cons p ps) (suc skip) n w = fn_params-all ps skip n w.1
      fn_params-all (cons p ps) zero n w = all_append (fn_param ids ctx p n).1 _ (fn_param-all p n w.0) (fn_params-all ps zero (fn_param ids ctx p n).2 w.1)

      fn_param-all : (p : Rec) (n : ℕ) → Everywhere P p → All P (fn_param ids ctx p n).1
      fn_param-all (rec h ks) n w = all_if (eqb h.mark (mark "Pa")) _ _ n (param_first-all ks n w.2) tt

      param_first-all : (ps : Recs) (n : ℕ) → AllEverywhere P ps → All P (param_first ids ctx ps n).1
      param_first-all nil n w = tt
      param_first-all (cons p ps) n w = pat_to_ts_fn_param-all p n w.0

      arrow_params-all : (ps : Recs) (skip n : ℕ) → AllEverywhere P ps → All P (arrow_params ids ctx ps skip n).1
      arrow_params-all nil skip n w = tt
      arrow_params-all (cons p ps) (suc skip) n w = arrow_params-all ps skip n w.1
      arrow_params-all (cons p ps) zero n w = all_append (pat_to_ts_fn_param ids ctx p n).1 _ (pat_to_ts_fn_param-all p n w.0) (arrow_params-all ps zero (pat_to_ts_fn_param ids ctx p n).2 w.1)

      pat_to_ts_fn_param-all : (p : Rec) (n : ℕ) → Everywhere P p → All P (pat_to_ts_fn_param ids ctx p n).1
      pat_to_ts_fn_param-all (rec h ks) n w = param_by-all (param_kind h.mark) h ks _ n w.1.expression (type_second-all ks false false n w.2)
