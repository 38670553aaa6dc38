-- The typing of expressions never answers with an absent type, and types nothing where nothing stands.
use mathlib.Core.Path.{◌≡◌, refl, subst}
use mathlib.Core.List.{List}
use mathlib.Core.Bool.{Bool, true, false, cond, ◌&&◌, ◌||◌}
use mathlib.Core.Option.{Option, none, some}
use Prim.Native.Nat.{ℕ}
use lib.Dec.{eqb}
use Rattle.definition.specs.Tree.{Head, Rec, Recs, rec, nil, cons}
use Rattle.definition.specs.Grammar.{marks, member}
use Rattle.definition.specs.Record.{text, same_text, head_of, kids_of, mark_of, text_of, is, is_no, context_of, symbol_of, dummy_sp, fresh, absent, kid, given, present, pure, if_m}
use Rattle.definition.specs.Helpers.{ts_keyword_type, ts_lit_type, no_exprs, first_cooked, tpl_to_ts_type, object_freeze_call_arg, Lit, l_str, l_bool, l_null, l_num, l_big_int, l_regex, l_jsx_text, lit_kind, maybe_lit_to_ts_type}
use Rattle.definition.specs.Prescan.{PrescannedModuleIds}
use Rattle.definition.specs.Typing.{Frozen, f_type_lit, f_array, f_same, f_other, frozen_kind, plain_members, readonly_members, readonly_of_by, readonly_of, minus_by, tuple_of, Expr, x_array, x_object, x_lit, x_const, x_satisfies, x_as, x_fn, x_arrow, x_tpl, x_ident, x_unary, x_call, x_new, x_other, expr_kind, Below, global_type, ident_to_ts_type, new_type, frozen, expr_by, expr_to_ts_type, type_first, type_second, fn_second, fn_first, function_type}
use Rattle.definition.proofs.Stable.{Typed}

-- a type, if there is one, is not absent
abbrev There : Option Rec → Type 0
There none = Unit {0}
There (some t) = is_no t ≡ false

there-cond : (b : Bool) (x y : Option Rec) → There x → There y → There (cond b x y)
there-cond true x y p q = p
there-cond false x y p q = q

lit-there : (l : Lit) (r : Rec) (c : Bool) → There (maybe_lit_to_ts_type l r c)
unfolding maybe_lit_to_ts_type
lit-there l_str r true = refl
lit-there l_bool r true = refl
lit-there l_null r true = refl
lit-there l_num r true = refl
lit-there l_big_int r true = refl
lit-there l_regex r true = refl
lit-there l_jsx_text r true = tt
lit-there l_str r false = refl
lit-there l_bool r false = refl
lit-there l_null r false = refl
lit-there l_num r false = refl
lit-there l_big_int r false = refl
lit-there l_regex r false = refl
lit-there l_jsx_text r false = tt

minus-there : (l : Lit) (r : Rec) (c : Bool) → There (minus_by l r c)
unfolding minus_by
minus-there l_num r true = refl
minus-there l_num r false = refl
minus-there l_big_int r true = refl
minus-there l_big_int r false = refl
minus-there l_str r c = tt
minus-there l_bool r c = tt
minus-there l_null r c = tt
minus-there l_regex r c = tt
minus-there l_jsx_text r c = tt

template-there : (ks : Recs) (c : Bool) → There (some (tpl_to_ts_type ks c))
unfolding tpl_to_ts_type
template-there ks false = refl
template-there ks true = go (no_exprs ks && first_cooked ks)
  where
    go : (b : Bool) → is_no (cond b (ts_lit_type dummy_sp (rec (fresh "Ss" 0 (text_of (kid 0 ks))) nil)) (ts_keyword_type dummy_sp "string")) ≡ false
    go true = refl
    go false = refl

readonly_there : (k : Frozen) (t : Rec) → is_no t ≡ false → There (readonly_of_by k t)
unfolding readonly_of_by
readonly_there f_type_lit t h = there-cond (plain_members (kids_of t)) (some (rec (head_of t) (readonly_members (kids_of t)))) none h tt
readonly_there f_array t h = refl
readonly_there f_same t h = h
readonly_there f_other t h = tt

frozen-there : (x : Option Rec) → There x → There (given x none readonly_of)
frozen-there none h = tt
frozen-there (some t) h = readonly_there (frozen_kind (mark_of t)) t h

present-there : (t : Rec) → There (present t)
present-there t = go (is_no t) refl
  where
    go : (b : Bool) → is_no t ≡ b → There (cond b none (some t))
    go true e = tt
    go false e = e

tuple-there : (h : Head) (r : Bool) (x : Option Recs) → There (given x none (λ ts. some (tuple_of h r ts)))
tuple-there h r none = tt
tuple-there h true (some ts) = refl
tuple-there h false (some ts) = refl

module _ (ids : PrescannedModuleIds) (ctx : ℕ) where
  global-there : (name : List ℕ) (c : Bool) → There (global_type ids ctx name c)
  unfolding global_type
  global-there name c =
      there-cond (same_text name (text "undefined") && c) (some (ts_keyword_type dummy_sp "undefined")) _ refl
      (there-cond (same_text name (text "NaN") || same_text name (text "Infinity")) (some (ts_keyword_type dummy_sp "number")) none refl tt)

  ident-there : (i : Rec) (c : Bool) → There (ident_to_ts_type ids ctx i c)
  unfolding ident_to_ts_type
  ident-there i c = there-cond (eqb (context_of i) ctx) _ _ (global-there (symbol_of i) c) (there-cond (ids.typeof_safe (text_of i)) _ none refl tt)

  new-there : (ks : Recs) → There (new_type ids ctx ks)
  unfolding new_type
  new-there ks = there-cond (is "Id" (kid 0 ks) && (is_no (kid 1 ks) && ids.non_generic_classes (text_of (kid 0 ks)))) _ none refl tt

  -- what is known of the types below
  record BelowThere (below : Below) : Type 0 where
    first : (c r : Bool) (n : ℕ) → There (below.first c r n).0
    second : (c r : Bool) (n : ℕ) → There (below.second c r n).0
    fn : (n : ℕ) → There (below.fn n).0

  call-there : (b : Bool) (below : Below) (c r : Bool) (n : ℕ) → BelowThere below →
      There (if_m b (λ n. frozen ids ctx (below.second c r n)) (pure none) n).0
  call-there true below c r n p = frozen-there (below.second c r n).0 (p.second c r n)
  call-there false below c r n p = tt

  expr_by-there : (k : Expr) (h : Head) (ks : Recs) (c r : Bool) (below : Below) (n : ℕ) → BelowThere below → There (expr_by ids ctx k h ks c r below n).0
  unfolding expr_by
  expr_by-there x_array h ks c r below n p = tuple-there h r (below.elements c r n).0
  expr_by-there x_object h ks c r below n p = refl
  expr_by-there x_lit h ks c r below n p = lit-there (lit_kind h.mark) (rec h ks) c
  expr_by-there x_const h ks c r below n p = p.first true true n
  expr_by-there x_satisfies h ks c r below n p = p.first c r n
  expr_by-there x_as h ks c r below n p = present-there (kid 1 ks)
  expr_by-there x_fn h ks c r below n p = p.fn n
  expr_by-there x_arrow h ks c r below n p = refl
  expr_by-there x_tpl h ks c r below n p = template-there ks c
  expr_by-there x_ident h ks c r below n p = ident-there (rec h ks) c
  expr_by-there x_unary h ks c r below n p = minus-there (lit_kind (mark_of (kid 0 ks))) (kid 0 ks) c
  expr_by-there x_call h ks c r below n p = call-there (object_freeze_call_arg ctx ks) below c r n p
  expr_by-there x_new h ks c r below n p = new-there ks
  expr_by-there x_other h ks c r below n p = tt

  mutual
    unfolding expr_to_ts_type

    expr_there : (e : Rec) (c r : Bool) (n : ℕ) → There (expr_to_ts_type ids ctx e c r n).0
    expr_there (rec h ks) c r n =
        expr_by-there (expr_kind h.mark) h ks c r _ n
        (record { first = λ c r n. first-there ks c r n; second = λ c r n. second-there ks c r n; fn = λ n. fn_second-there ks n })

    first-there : (es : Recs) (c r : Bool) (n : ℕ) → There (type_first ids ctx es c r n).0
    first-there nil c r n = tt
    first-there (cons e es) c r n = expr_there e c r n

    second-there : (es : Recs) (c r : Bool) (n : ℕ) → There (type_second ids ctx es c r n).0
    second-there nil c r n = tt
    second-there (cons e es) c r n = first-there es c r n

    fn_second-there : (es : Recs) (n : ℕ) → There (fn_second ids ctx es n).0
    fn_second-there nil n = tt
    fn_second-there (cons e es) n = fn_first-there es n

    fn_first-there : (es : Recs) (n : ℕ) → There (fn_first ids ctx es n).0
    fn_first-there nil n = tt
    fn_first-there (cons f es) n = function-there f n

    function-there : (f : Rec) (n : ℕ) → There (function_type ids ctx f n).0
    function-there (rec h ks) n = refl

  pub typed : Typed (expr_to_ts_type ids ctx)
  typed r a b n t e = subst There e (expr_there r a b n)

  pub nothing-typed : (a b : Bool) (n : ℕ) → expr_to_ts_type ids ctx absent a b n ≡ pure none n
  unfolding expr_to_ts_type expr_by expr_kind marks member
  nothing-typed a b n = refl
