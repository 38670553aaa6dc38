-- The types that expressions get fit, and typing an expression asks for one name at most for each Ag in it.
use mathlib.Core.Path.{◌≡◌, refl}
use mathlib.Core.List.{List, [], ◌++◌}
use mathlib.Core.Bool.{Bool, true, false, cond, ◌&&◌, ◌||◌}
use mathlib.Core.Option.{Option, none, some}
use Prim.Native.Nat.{ℕ, zero, suc, ◌+◌, ◌-◌}
use native.Mathlib.Omega.{arith}
use lib.Dec.{eqb}
use borrow.Author.Tests.{eqb-true}
use Rattle.definition.specs.Tree.{Head, Rec, Recs, rec, nil, cons, count}
use Rattle.definition.specs.Grammar.{mark}
use Rattle.definition.specs.Record.{text, same_text, head_of, mark_of, text_of, is, is_no, context_of, symbol_of, dummy_sp, ranged, kid, join, given, present, Out, pure}
use Rattle.definition.specs.Helpers.{ts_keyword_type, reference_to, ts_type_query, object_freeze_call_arg, lit_kind}
use Rattle.definition.specs.Prescan.{PrescannedModuleIds}
use Rattle.definition.specs.Typing.{readonly_of, tuple_of, element_kind, Spread, s_ident, s_array, s_other, spread_kind, Prop, p_key_value, p_shorthand, p_spread, p_other, p_op, prop_kind, param_kind, fn_type, Expr, x_array, x_object, x_lit, x_const, x_satisfies, x_as, x_fn, x_arrow, x_tpl, x_ident, x_unary, x_call, x_new, x_other, expr_kind, Below, global_type, ident_to_ts_type, new_type, spread_by, prop_by, frozen, expr_by, expr_to_ts_type, type_first, type_second, elements, spread_type, spread_first, props, prop, fn_second, fn_first, function_type, fn_params, fn_param, param_first, arrow_params, pat_to_ts_fn_param}
use Rattle.definition.proofs.Fit.{names, all_names, Keys, AllKeys, Room, none_made, at_most, given-cond, Fit, FitAll, Few, Given, Makes, keyword-fits, over-one, kid-fits, join-fits, pure-makes, more, on_value-makes, if_m-makes}
use Rattle.definition.proofs.FitTypes.{reference-fits, lit-fits, minus-fits, template-fits, frozen-fits, ranged-fits, tuples_fit, element_by-makes, key_value-makes, shorthand-makes, param_by-makes, fn_type-fits}

kv-mark : (m : ℕ) → prop_kind m ≡ p_key_value → m ≡ mark "Kv"
unfolding prop_kind
kv-mark m e = eqb-true m (mark "Kv") (go (eqb m (mark "Kv")) (eqb m (mark "Sh")) (eqb m (mark "Sp")) (eqb m (mark "Op")) e)
  where
    go : (a b c d : Bool) → cond a p_key_value (cond b p_shorthand (cond c p_spread (cond d p_op p_other))) ≡ p_key_value → a ≡ true
    go true b c d e = refl
    go false true c d e = cc
    go false false true d e = cc
    go false false false true e = cc
    go false false false false e = cc

module _ (x : ℕ) (ids : PrescannedModuleIds) (ctx : ℕ) where
  -- ---- names

  global-fits : (name : List ℕ) (c : Bool) → Given (Fit x) (global_type ids ctx name c)
  unfolding global_type
  global-fits name c =
      given-cond x (same_text name (text "undefined") && c) (some (ts_keyword_type dummy_sp "undefined")) _ (keyword-fits x "undefined" refl)
      (given-cond x (same_text name (text "NaN") || same_text name (text "Infinity")) (some (ts_keyword_type dummy_sp "number")) none (keyword-fits x "number" refl) tt)

  ident-fits : (i : Rec) (c : Bool) → Fit x i → Given (Fit x) (ident_to_ts_type ids ctx i c)
  unfolding ident_to_ts_type
  ident-fits i c g =
      given-cond x (eqb (context_of i) ctx) _ _ (global-fits (symbol_of i) c)
      (given-cond x (ids.typeof_safe (text_of i)) (some (ts_type_query dummy_sp i)) none (over-one x "Tf" refl i g) tt)

  new-fits : (ks : Recs) → FitAll x ks → Given (Fit x) (new_type ids ctx ks)
  unfolding new_type
  new-fits ks g =
      given-cond x (is "Id" (kid 0 ks) && (is_no (kid 1 ks) && ids.non_generic_classes (text_of (kid 0 ks)))) (some (reference_to dummy_sp (kid 0 ks))) none
      (reference-fits x (kid 0 ks) (kid-fits x 0 ks g)) tt

  spread_by-makes : (k : Spread) (i : Rec) (typed : ℕ → Out (Option Rec)) (n w : ℕ) → Fit x i → Makes (Given (Fit x)) n w (typed n) →
      Makes (Given (Fit x)) n w (spread_by ids ctx k i typed n)
  unfolding spread_by
  spread_by-makes s_ident i typed n w g m = pure-makes (given-cond x (ids.array_typed (text_of i)) (some (ts_type_query dummy_sp i)) none (over-one x "Tf" refl i g) tt)
  spread_by-makes s_array i typed n w g m = m
  spread_by-makes s_other i typed n w g m = pure-makes tt

  prop_by-makes : (k : Prop) (h : Head) (ks : Recs) (c r : Bool) (value : ℕ → Out (Option Rec)) (n w : ℕ) → prop_kind h.mark ≡ k → Fit x (rec h ks) → Keys x (rec h ks) →
      Makes (Given (Fit x)) n w (value n) → Makes (Few x 1) n w (prop_by ids ctx k h ks c r value n)
  unfolding prop_by
  prop_by-makes p_key_value h ks c r value n w e g q m = key_value-makes x ks r n w (value n) g.1 (q.0 (kv-mark h.mark e)) m
  prop_by-makes p_shorthand h ks c r value n w e g q m =
      shorthand-makes x h (kid 0 ks) r (ident_to_ts_type ids ctx (kid 0 ks) c) n w (kid-fits x 0 ks g.1) (ident-fits (kid 0 ks) c (kid-fits x 0 ks g.1))
  prop_by-makes p_spread h ks c r value n w e g q m = record { value = (tt, omega arith); counter = omega arith }
  prop_by-makes p_other h ks c r value n w e g q m = record { value = (tt, omega arith); counter = omega arith }
  prop_by-makes p_op h ks c r value n w e g q m = record { value = (tt, omega arith); counter = omega arith }

  -- ---- the arms

  -- a step that costs w
  abbrev Makers : {A : Type 0} → (A → Type 0) → ℕ → (ℕ → Out A) → Type 0
  Makers P w f = (n : ℕ) → Room n w → Makes P n w (f n)

  -- what is known of the types below an expression with the children ks
  record BelowFits (ks : Recs) (below : Below) : Type 0 where
    first : (c r : Bool) → Makers (Given (Fit x)) (all_names ks) (below.first c r)
    second : (c r : Bool) → Makers (Given (Fit x)) (all_names ks) (below.second c r)
    elements : (c r : Bool) → Makers (Given (Few x (count ks))) (all_names ks) (below.elements c r)
    props : (c r : Bool) → Makers (Few x (count ks)) (all_names ks) (below.props c r)
    fn : Makers (Given (Fit x)) (all_names ks) below.fn
    params : Makers (Few x (count ks - 2)) (all_names ks) below.params

  present-fits : (t : Rec) → Fit x t → Given (Fit x) (present t)
  present-fits t g = given-cond x (is_no t) none (some t) tt g

  expr_by-makes : (k : Expr) (h : Head) (ks : Recs) (c r : Bool) (below : Below) (n : ℕ) → Fit x (rec h ks) → BelowFits ks below → Room n (all_names ks) →
      Makes (Given (Fit x)) n (all_names ks) (expr_by ids ctx k h ks c r below n)
  unfolding expr_by
  expr_by-makes x_array h ks c r below n g b l =
      on_value-makes (λ (ts : Option Recs). given ts none (λ ts. some (tuple_of h r ts))) (tuples_fit x h (count ks) r g.0) (b.elements c r n l)
  expr_by-makes x_object h ks c r below n g b l =
      on_value-makes (λ (ms : Recs). some (rec (ranged "Li" h []) ms)) (λ ms m. ranged-fits x "Li" refl h (count ks) ms g.0 m) (b.props c r n l)
  expr_by-makes x_lit h ks c r below n g b l = pure-makes (lit-fits x (lit_kind h.mark) (rec h ks) c g)
  expr_by-makes x_const h ks c r below n g b l = b.first true true n l
  expr_by-makes x_satisfies h ks c r below n g b l = b.first c r n l
  expr_by-makes x_as h ks c r below n g b l = pure-makes (present-fits (kid 1 ks) (kid-fits x 1 ks g.1))
  expr_by-makes x_fn h ks c r below n g b l = b.fn n l
  expr_by-makes x_arrow h ks c r below n g b l = on_value-makes (λ (ps : Recs). some (fn_type h ks ps)) (λ ps m. fn_type-fits x h ks ps g m) (b.params n l)
  expr_by-makes x_tpl h ks c r below n g b l = pure-makes (template-fits x ks c g.1)
  expr_by-makes x_ident h ks c r below n g b l = pure-makes (ident-fits (rec h ks) c g)
  expr_by-makes x_unary h ks c r below n g b l = pure-makes (minus-fits x (lit_kind (mark_of (kid 0 ks))) (kid 0 ks) c (kid-fits x 0 ks g.1))
  expr_by-makes x_call h ks c r below n g b l =
      if_m-makes (object_freeze_call_arg ctx ks) (λ n. frozen ids ctx (below.second c r n)) (pure none)
      (on_value-makes (λ (t : Option Rec). given t none readonly_of) (frozen-fits x) (b.second c r n l)) (pure-makes tt)
  expr_by-makes x_new h ks c r below n g b l = pure-makes (new-fits ks g.1)
  expr_by-makes x_other h ks c r below n g b l = pure-makes tt

  -- ---- all of it

  -- two lists, one after the other
  joined : (a b : ℕ) (n w v : ℕ) (o : Out Recs) (f : ℕ → Out Recs) → Makes (Few x a) n w o → Makes (Few x b) o.2 v (f o.2) →
      let p : Out Recs = f o.2 in Makes (Few x (a + b)) n (w + v) (join o.0 p.0, o.1 ++ p.1, p.2)
  joined a b n w v o f p q = record { value = join-fits x o.0 (f o.2).0 a b p.value q.value; counter = omega (arith, p.counter, q.counter) }

  mutual
    unfolding expr_to_ts_type

    pub expr_makes : (e : Rec) (c r : Bool) (n : ℕ) → Fit x e → Keys x e → Room n (names e) → Makes (Given (Fit x)) n (names e) (expr_to_ts_type ids ctx e c r n)
    expr_makes (rec h ks) c r n g q l =
        more
        (expr_by-makes (expr_kind h.mark) h ks c r _ n g
        (record {
          first = λ c r n l. first-makes ks c r n g.1 q.1 l;
          second = λ c r n l. second-makes ks c r n g.1 q.1 l;
          elements = λ c r n l. elements-makes ks c r n g.1 q.1 l;
          props = λ c r n l. props-makes ks c r n g.1 q.1 l;
          fn = λ n l. fn_second-makes ks n g.1 q.1 l;
          params = λ n l. arrow_params-makes ks 2 n g.1 q.1 l;
        }) (omega arith))
        (omega arith)

    first-makes : (es : Recs) (c r : Bool) (n : ℕ) → FitAll x es → AllKeys x es → Room n (all_names es) → Makes (Given (Fit x)) n (all_names es) (type_first ids ctx es c r n)
    first-makes nil c r n g q l = pure-makes tt
    first-makes (cons e es) c r n g q l = more (expr_makes e c r n g.0 q.0 (omega arith)) (omega arith)

    second-makes : (es : Recs) (c r : Bool) (n : ℕ) → FitAll x es → AllKeys x es → Room n (all_names es) → Makes (Given (Fit x)) n (all_names es) (type_second ids ctx es c r n)
    second-makes nil c r n g q l = pure-makes tt
    second-makes (cons e es) c r n g q l = more (first-makes es c r n g.1 q.1 (omega arith)) (omega arith)

    elements-makes : (es : Recs) (c r : Bool) (n : ℕ) → FitAll x es → AllKeys x es → Room n (all_names es) → Makes (Given (Few x (count es))) n (all_names es) (elements ids ctx es c r n)
    elements-makes nil c r n g q l = pure-makes (tt, omega arith)
    elements-makes (cons e es) c r n g q l =
        element_by-makes x (element_kind (mark_of e)) (head_of e) _ _ _ (count es) n (names e) (all_names es) (expr_makes e c r n g.0 q.0 (omega arith))
        (spread-makes e c n g.0 q.0 (omega arith)) (λ n l. elements-makes es c r n g.1 q.1 l) l

    spread-makes : (e : Rec) (c : Bool) (n : ℕ) → Fit x e → Keys x e → Room n (names e) → Makes (Given (Fit x)) n (names e) (spread_type ids ctx e c n)
    spread-makes (rec h ks) c n g q l = more (spread_first-makes ks c n g.1 q.1 (omega arith)) (omega arith)

    spread_first-makes : (es : Recs) (c : Bool) (n : ℕ) → FitAll x es → AllKeys x es → Room n (all_names es) → Makes (Given (Fit x)) n (all_names es) (spread_first ids ctx es c n)
    spread_first-makes nil c n g q l = pure-makes tt
    spread_first-makes (cons e es) c n g q l =
        spread_by-makes (spread_kind (mark_of e)) e _ n _ g.0 (more (expr_makes e c false n g.0 q.0 (omega arith)) (omega arith))

    props-makes : (ps : Recs) (c r : Bool) (n : ℕ) → FitAll x ps → AllKeys x ps → Room n (all_names ps) → Makes (Few x (count ps)) n (all_names ps) (props ids ctx ps c r n)
    props-makes nil c r n g q l = none_made x 0 n 0
    props-makes (cons p ps) c r n g q l =
        let a = prop-makes p c r n g.0 q.0 (omega arith) in
        at_most x
        (joined 1 (count ps) n (names p) (all_names ps) (prop ids ctx p c r n) (λ n. props ids ctx ps c r n) a (props-makes ps c r _ g.1 q.1 (omega (arith, a.counter))))
        (omega arith) (omega arith)

    prop-makes : (p : Rec) (c r : Bool) (n : ℕ) → Fit x p → Keys x p → Room n (names p) → Makes (Few x 1) n (names p) (prop ids ctx p c r n)
    prop-makes (rec h ks) c r n g q l =
        more (prop_by-makes (prop_kind h.mark) h ks c r _ n (all_names ks) refl g q (second-makes ks c r n g.1 q.1 (omega arith))) (omega arith)

    fn_second-makes : (es : Recs) (n : ℕ) → FitAll x es → AllKeys x es → Room n (all_names es) → Makes (Given (Fit x)) n (all_names es) (fn_second ids ctx es n)
    fn_second-makes nil n g q l = pure-makes tt
    fn_second-makes (cons e es) n g q l = more (fn_first-makes es n g.1 q.1 (omega arith)) (omega arith)

    fn_first-makes : (es : Recs) (n : ℕ) → FitAll x es → AllKeys x es → Room n (all_names es) → Makes (Given (Fit x)) n (all_names es) (fn_first ids ctx es n)
    fn_first-makes nil n g q l = pure-makes tt
    fn_first-makes (cons f es) n g q l = more (function-makes f n g.0 q.0 (omega arith)) (omega arith)

    function-makes : (f : Rec) (n : ℕ) → Fit x f → Keys x f → Room n (names f) → Makes (Given (Fit x)) n (names f) (function_type ids ctx f n)
    function-makes (rec h ks) n g q l =
        on_value-makes (λ (ps : Recs). some (fn_type h ks ps)) (λ ps m. fn_type-fits x h ks ps g (m.0, omega (arith, m.1)))
        (more (fn_params-makes ks 3 n g.1 q.1 (omega arith)) (omega arith))

    fn_params-makes : (ps : Recs) (skip n : ℕ) → FitAll x ps → AllKeys x ps → Room n (all_names ps) → Makes (Few x (count ps - skip)) n (all_names ps) (fn_params ids ctx ps skip n)
    fn_params-makes nil skip n g q l = none_made x (0 - skip) n 0
    fn_params-makes (cons p ps) (suc skip) n g q l = at_most x (fn_params-makes ps skip n g.1 q.1 (omega arith)) (omega arith) (omega arith)
    fn_params-makes (cons p ps) zero n g q l =
        let a = fn_param-makes p n g.0 q.0 (omega arith) in
        at_most x
        (joined 1 (count ps - 0) n (names p) (all_names ps) (fn_param ids ctx p n) (λ n. fn_params ids ctx ps 0 n) a (fn_params-makes ps 0 _ g.1 q.1 (omega (arith, a.counter))))
        (omega arith) (omega arith)

    fn_param-makes : (p : Rec) (n : ℕ) → Fit x p → Keys x p → Room n (names p) → Makes (Few x 1) n (names p) (fn_param ids ctx p n)
    fn_param-makes (rec h ks) n g q l =
        if_m-makes (eqb h.mark (mark "Pa")) (λ n. param_first ids ctx ks n) (pure nil) (more (param_first-makes ks n g.1 q.1 (omega arith)) (omega arith)) (none_made x 1 n _)

    param_first-makes : (ps : Recs) (n : ℕ) → FitAll x ps → AllKeys x ps → Room n (all_names ps) → Makes (Few x 1) n (all_names ps) (param_first ids ctx ps n)
    param_first-makes nil n g q l = none_made x 1 n 0
    param_first-makes (cons p ps) n g q l = more (pattern-makes p n g.0 q.0 (omega arith)) (omega arith)

    arrow_params-makes : (ps : Recs) (skip n : ℕ) → FitAll x ps → AllKeys x ps → Room n (all_names ps) → Makes (Few x (count ps - skip)) n (all_names ps) (arrow_params ids ctx ps skip n)
    arrow_params-makes nil skip n g q l = none_made x (0 - skip) n 0
    arrow_params-makes (cons p ps) (suc skip) n g q l = at_most x (arrow_params-makes ps skip n g.1 q.1 (omega arith)) (omega arith) (omega arith)
    arrow_params-makes (cons p ps) zero n g q l =
        let a = pattern-makes p n g.0 q.0 (omega arith) in
        at_most x
        (joined 1 (count ps - 0) n (names p) (all_names ps) (pat_to_ts_fn_param ids ctx p n) (λ n. arrow_params ids ctx ps 0 n) a (arrow_params-makes ps 0 _ g.1 q.1 (omega (arith, a.counter))))
        (omega arith) (omega arith)

    pattern-makes : (p : Rec) (n : ℕ) → Fit x p → Keys x p → Room n (names p) → Makes (Few x 1) n (names p) (pat_to_ts_fn_param ids ctx p n)
    pattern-makes (rec h ks) n g q l = param_by-makes x (param_kind h.mark) h ks _ n (all_names ks) refl g (second-makes ks false false n g.1 q.1 (omega arith)) l
