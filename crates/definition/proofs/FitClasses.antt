-- What is made of parameters, functions, class members and classes fits, for a typing whose types do.
use mathlib.Core.Path.{refl}
use mathlib.Core.List.{List, [], ◌∷◌}
use mathlib.Core.Bool.{Bool, true, false, not, ◌&&◌, ◌||◌}
use mathlib.Core.Option.{Option, none, some}
use Prim.Native.Nat.{ℕ, zero, suc, ◌≤◌, ◌<◌}
use native.Mathlib.Omega.{arith}
use Rattle.definition.specs.Tree.{flags_end, Head, Rec, Recs, rec, nil, cons, count}
use Rattle.definition.specs.Record.{head_of, kids_of, mark_of, is, is_no, dummy_sp, with_flags, flagged, has1, kid, set_kid, one, ends, gone, diag, listed, Out, Typing, pure, wrap, each, at_kid}
use Rattle.definition.specs.Helpers.{any_type_ann}
use Rattle.definition.specs.Names.{is_well_known_symbol_expr, KeyExpr, x_lit, x_tpl, x_through, x_ident, x_member, x_other, key_expr_kind, computed, prop_name_by, prop_name_from_expr, prop_name_from_first, prop_name_from_only, valid_prop_name}
use Rattle.definition.specs.Typing.{or_any}
use Rattle.definition.specs.Classes.{
  type_or,
  handle_func_param_ident,
  Pattern,
  p_ident,
  p_assign,
  p_box,
  p_other,
  pattern_kind,
  infer_expr_fallback_any,
  handle_func_param_assign,
  handle_pattern_by,
  handle_pattern,
  handle_func_param,
  function_part,
  handle_function,
  constructor_part,
  constructor,
  method,
  prop_type,
  prop_flags,
  class_prop,
  Member,
  m_constructor,
  m_method,
  m_prop,
  m_dropped,
  m_kept,
  member_kind,
  member_by,
  member,
  class_body_to_type,
  class,
}
use Rattle.definition.proofs.Texts.{bytes-none}
use Rattle.definition.proofs.Fit.{one-made, none_made, given-cond, kids-fit, names, all_names, kid-names, Keys, AllKeys, kid_keys, Room, Sound, Fit, FitAll, Few, Given, Makes, reflag, flagged-fits, any-fits, kid-fits, set_kid-fits, gone-fits, rehead, ranged-sound, pure-makes, more, on_value-makes, if_m-makes, or_any-makes, Step, Step1, each_makes, flat-makes, at_kid-makes, wrap-makes}

-- a typing whose types fit, and which asks for no more names than there are Xe and Ag
abbrev pub TypesFit : ℕ → Typing → Type 0
TypesFit x ty = (r : Rec) (a b : Bool) (n : ℕ) → Fit x r → Keys x r → Room n (names r) → Makes (Given (Fit x)) n (names r) (ty r a b n)

-- ---- keys

module _ (x : ℕ) where
  computed_fits : (r : Rec) → Fit x r → Fit x (computed r)
  computed_fits (rec h ks) g = (ranged-sound x "Kc" refl h (count ks) g.0 [] (omega arith) bytes-none 1 (omega arith), (g, tt))

  prop_name_by-fits : (k : KeyExpr) (ctx : ℕ) (r : Rec) (first only : ℕ → Option Rec) → Fit x r → Given (Fit x) (first ctx) → Given (Fit x) (only ctx) →
      Given (Fit x) (prop_name_by k ctx r first only)
  unfolding prop_name_by
  prop_name_by-fits x_lit ctx r first only g p q = g
  prop_name_by-fits x_tpl ctx r first only g p q = q
  prop_name_by-fits x_through ctx r first only g p q = p
  prop_name_by-fits x_ident ctx r first only g p q = computed_fits r g
  prop_name_by-fits x_member ctx r first only g p q = given-cond x (is_well_known_symbol_expr ctx (kids_of r)) (some (computed r)) none (computed_fits r g) tt
  prop_name_by-fits x_other ctx r first only g p q = tt

  mutual
    unfolding prop_name_from_expr

    expr_name_fits : (r : Rec) (ctx : ℕ) → Fit x r → Given (Fit x) (prop_name_from_expr r ctx)
    expr_name_fits (rec h ks) ctx g =
        prop_name_by-fits (key_expr_kind h.mark) ctx (rec h ks) (λ n. prop_name_from_first ks n) (λ n. prop_name_from_only ks n) g (first_name_fits ks ctx g.1) (only_name_fits ks ctx g.1)

    first_name_fits : (rs : Recs) (ctx : ℕ) → FitAll x rs → Given (Fit x) (prop_name_from_first rs ctx)
    first_name_fits nil ctx g = tt
    first_name_fits (cons r rs) ctx g = expr_name_fits r ctx g.0

    only_name_fits : (rs : Recs) (ctx : ℕ) → FitAll x rs → Given (Fit x) (prop_name_from_only rs ctx)
    only_name_fits nil ctx g = tt
    only_name_fits (cons r rs) ctx g =
        given-cond x ((not (is "Qu" r) && not (is "Op" r)) && ends rs) (prop_name_from_expr r ctx) none (expr_name_fits r ctx g.0) tt

  key_fits : (ctx : ℕ) (r : Rec) → Fit x r → Given (Fit x) (valid_prop_name ctx r)
  unfolding valid_prop_name
  key_fits ctx r g = given-cond x (is "Kc" r) (prop_name_from_first (kids_of r) ctx) (some r) (first_name_fits (kids_of r) ctx (kids-fit x r g)) g

  -- ---- parameters

  pub type_or-makes : (F : ℕ → Out Rec) (t : Rec) (n w : ℕ) → Fit x t → Makes (Fit x) n w (F n) → Makes (Fit x) n w (type_or F t n)
  type_or-makes F t n w g m = if_m-makes (is_no t) F (pure t) m (pure-makes g)

  ident-makes : Step x handle_func_param_ident
  unfolding handle_func_param_ident
  ident-makes (rec h ks) n g q l =
      wrap-makes x h (count ks) n _ (at_kid 1 (type_or F) ks n) g.0
      (at_kid-makes x 1 (type_or F) ks n _ g.1 (type_or-makes F (kid 1 ks) n _ (kid-fits x 1 ks g.1) (record { value = any-fits x; counter = omega arith })))
    where
      F : ℕ → Out Rec
      F n = (any_type_ann dummy_sp, diag "d2" h ∷ [], n)

module _ (x : ℕ) (ty : Typing) (fit : TypesFit x ty) where
  infer-makes : (e : Rec) (n : ℕ) → Fit x e → Keys x e → Room n (names e) → Makes (Fit x) n (names e) (infer_expr_fallback_any ty e n)
  infer-makes e n g q l = or_any-makes x (ty e false false n) (diag "d2" (head_of e) ∷ []) (fit e false false n g q l)

  assign_makes : (k : Pattern) (left right whole : Rec) (n : ℕ) → Fit x left → Fit x right → Keys x right → Fit x whole → Room n (names right) →
      Makes (Fit x) n (names right) (handle_func_param_assign ty k left right whole n)
  unfolding handle_func_param_assign
  assign_makes p_ident (rec h ks) right whole n g k q w l =
      on_value-makes (λ (ks : Recs). rec h (set_kid 0 (flagged (kid 0 ks)) ks))
      (λ ks m. rehead x h _ (set_kid 0 (flagged (kid 0 ks)) ks) g.0 (set_kid-fits x 0 (flagged (kid 0 ks)) ks _ (flagged-fits x (kid 0 ks) (kid-fits x 0 ks m.0)) m))
      (at_kid-makes x 1 (type_or F) ks n _ g.1 (type_or-makes x F (kid 1 ks) n _ (kid-fits x 1 ks g.1) (infer-makes right n k q l)))
    where
      F : ℕ → Out Rec
      F = infer_expr_fallback_any ty right
  assign_makes p_box (rec h ks) right whole n g k q w l =
      wrap-makes x (head_of (flagged (rec h ks))) (count ks) n _ (at_kid 0 (type_or F) ks n) (flagged-fits x (rec h ks) g).0
      (at_kid-makes x 0 (type_or F) ks n _ g.1 (type_or-makes x F (kid 0 ks) n _ (kid-fits x 0 ks g.1) (infer-makes right n k q l)))
    where
      F : ℕ → Out Rec
      F = infer_expr_fallback_any ty right
  assign_makes p_assign (rec h ks) right whole n g k q w l = pure-makes w
  assign_makes p_other (rec h ks) right whole n g k q w l = pure-makes w

  pattern_by_makes : (k : Pattern) → Step x (handle_pattern_by ty k)
  unfolding handle_pattern_by
  pattern_by_makes p_ident p n g q l = ident-makes x p n g q l
  pattern_by_makes p_assign (rec h ks) n g q l =
      let s : names (kid 1 ks) ≤ all_names ks = kid-names 1 ks in
      more
      (assign_makes (pattern_kind (mark_of (kid 0 ks))) (kid 0 ks) (kid 1 ks) (rec h ks) n (kid-fits x 0 ks g.1) (kid-fits x 1 ks g.1) (kid_keys x 1 ks q.1) g (omega arith))
      (omega arith)
  pattern_by_makes p_box p n g q l = pure-makes g
  pattern_by_makes p_other p n g q l = pure-makes g

  param-makes : Step x (handle_func_param ty)
  unfolding handle_func_param
  param-makes (rec h ks) n g q l =
      let s : names (kid 0 ks) ≤ all_names ks = kid-names 0 ks in
      let p : Rec = rec h ks in
      if_m-makes (is "Pa" p || is "Pp" p) (λ n. wrap h (at_kid 0 (handle_pattern ty) ks n)) (pure p)
      (wrap-makes x h (count ks) n _ (at_kid 0 (handle_pattern ty) ks n) g.0
      (at_kid-makes x 0 (handle_pattern ty) ks n _ g.1 (more (pattern_by_makes (pattern_kind (mark_of (kid 0 ks))) (kid 0 ks) n (kid-fits x 0 ks g.1) (kid_keys x 0 ks q.1) (omega arith)) (omega arith))))
      (pure-makes g)

  -- ---- functions and constructors

  function_part-makes : (setter : Bool) (i : ℕ) → Step x (function_part ty setter i)
  unfolding function_part
  function_part-makes setter zero r n g q l = pure-makes g
  function_part-makes true (suc zero) r n g q l = pure-makes (gone-fits x r g)
  function_part-makes false (suc zero) r n g q l = pure-makes g
  function_part-makes setter (suc (suc zero)) r n g q l = pure-makes (gone-fits x r g)
  function_part-makes setter (suc (suc (suc i))) r n g q l = param-makes r n g q l

  -- a record whose children go through a step each
  pub each_in_makes : (f : ℕ → Rec → ℕ → Out Rec) → ((i : ℕ) → Step x (f i)) → Step x (λ r n. wrap (head_of r) (each f 0 (kids_of r) n))
  each_in_makes f st (rec h ks) n g q l =
      wrap-makes x h (count ks) n _ (each f 0 ks n) g.0 (more (each_makes x f st 0 ks n g.1 q.1 (omega arith)) (omega arith))

  pub function-makes : (setter : Bool) → Step x (handle_function ty setter)
  unfolding handle_function
  function-makes setter r n g q l = each_in_makes (function_part ty setter) (function_part-makes setter) r n g q l

  constructor_part-makes : (i : ℕ) → Step x (constructor_part ty i)
  unfolding constructor_part
  constructor_part-makes zero r n g q l = pure-makes (gone-fits x r g)
  constructor_part-makes (suc i) r n g q l = param-makes r n g q l

  -- ---- members

  -- a record with other children, not more
  remade : (h : Head) (m : ℕ) (ks : Recs) → Sound x h m → Few x m ks → Few x 1 (one (rec h ks))
  remade h m ks g k = one-made x (rec h ks) (rehead x h m ks g k)

  constructor-makes : Step1 x (constructor ty)
  unfolding constructor
  constructor-makes r n g q l = on_value-makes one (λ r g. one-made x r g) (each_in_makes (constructor_part ty) constructor_part-makes r n g q l)

  method-makes : (o : Option Rec) → Given (Fit x) o → Step1 x (λ r. method ty r o)
  unfolding method
  method-makes none k r n g q l = none_made x 1 n _
  method-makes (some key) k (rec h ks) n g q l =
      let s : names (kid 1 ks) ≤ all_names ks = kid-names 1 ks in
      on_value-makes (λ (ks : Recs). one (rec h (set_kid 0 key ks)))
      (λ ks m. remade h _ (set_kid 0 key ks) g.0 (set_kid-fits x 0 key ks _ k m))
      (at_kid-makes x 1 (handle_function ty (has1 h)) ks n _ g.1 (more (function-makes (has1 h) (kid 1 ks) n (kid-fits x 1 ks g.1) (kid_keys x 1 ks q.1) (omega arith)) (omega arith)))

  prop_type-makes : (value t : Rec) (n : ℕ) → Fit x value → Keys x value → Fit x t → Room n (names value) → Makes (Fit x) n (names value) (prop_type ty value t n)
  prop_type-makes value t n g q k l =
      if_m-makes (is_no value) (pure t) (type_or (λ n. or_any (ty value false false n) []) t) (pure-makes k)
      (type_or-makes x (λ n. or_any (ty value false false n) []) t n _ k (or_any-makes x (ty value false false n) [] (fit value false false n g q l)))

  prop-makes : (o : Option Rec) → Given (Fit x) o → Step1 x (λ r. class_prop ty r o)
  unfolding class_prop
  prop-makes none k r n g q l = none_made x 1 n _
  prop-makes (some key) k (rec h ks) n g q l =
      let value : Rec = kid 2 ks in
      let s : names value ≤ all_names ks = kid-names 2 ks in
      let v : Fit x value = kid-fits x 2 ks g.1 in
      let f : h.flags < flags_end = g.0.flags in
      on_value-makes (λ (ks : Recs). one (rec (with_flags h (prop_flags h.flags)) (set_kid 0 key (set_kid 2 (gone value) ks))))
      (λ ks m. remade (with_flags h (prop_flags h.flags)) _ (set_kid 0 key (set_kid 2 (gone value) ks)) (reflag x h (prop_flags h.flags) _ (omega arith) g.0)
      (set_kid-fits x 0 key (set_kid 2 (gone value) ks) _ k (set_kid-fits x 2 (gone value) ks _ (gone-fits x value v) m)))
      (at_kid-makes x 1 (prop_type ty value) ks n _ g.1 (more (prop_type-makes value (kid 1 ks) n v (kid_keys x 2 ks q.1) (kid-fits x 1 ks g.1) (omega arith)) (omega arith)))

  module _ (list : List ℕ) (ctx : ℕ) where
    member_by-makes : (k : Member) → Step1 x (member_by list ctx ty k)
    unfolding member_by
    member_by-makes m_constructor r n g q l = if_m-makes (listed list (head_of r)) (pure nil) (constructor ty r) (none_made x 1 n _) (constructor-makes r n g q l)
    member_by-makes m_method r n g q l =
        let key : Option Rec = valid_prop_name ctx (kid 0 (kids_of r)) in
        if_m-makes (listed list (head_of r)) (pure nil) (method ty r key) (none_made x 1 n _)
        (method-makes key (key_fits x ctx (kid 0 (kids_of r)) (kid-fits x 0 (kids_of r) (kids-fit x r g))) r n g q l)
    member_by-makes m_prop r n g q l =
        prop-makes (valid_prop_name ctx (kid 0 (kids_of r))) (key_fits x ctx (kid 0 (kids_of r)) (kid-fits x 0 (kids_of r) (kids-fit x r g))) r n g q l
    member_by-makes m_dropped r n g q l = none_made x 1 n _
    member_by-makes m_kept r n g q l = pure-makes (one-made x r g)

    body-makes : (ks : Recs) (n : ℕ) → FitAll x ks → AllKeys x ks → Room n (all_names ks) → Makes (Few x (count ks)) n (all_names ks) (class_body_to_type list ctx ty ks n)
    unfolding class_body_to_type
    body-makes nil n g q l = none_made x 0 n 0
    body-makes (cons tps members) n g q l =
        on_value-makes (cons tps) (λ ms m. ((g.0, m.0), omega (arith, m.1)))
        (more (flat-makes x (member list ctx ty) (λ r n g q l. member_by-makes (member_kind (mark_of r)) r n g q l) members n g.1 q.1 (omega arith)) (omega arith))

    pub class-makes : Step x (class list ctx ty)
    unfolding class
    class-makes (rec h ks) n g q l =
        wrap-makes x h (count ks) n _ (class_body_to_type list ctx ty ks n) g.0 (more (body-makes ks n g.1 q.1 (omega arith)) (omega arith))
