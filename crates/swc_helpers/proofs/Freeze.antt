-- The call of `Object.freeze` and the template, by their children as the code meets them.
use Rattle.std.proofs.Common.{◌≡◌, ℕ, ◌<◌, ◌≤◌, Bool, true, false, not, ◌&&◌, sym, refl, ap, ◌∙◌, arith}
use Rattle.definition.specs.Tree.{Rec, Recs, rec, nil, cons, count}
use Rattle.definition.specs.Grammar.{mark}
use Rattle.definition.specs.Record.{text, same_text, head_of, kids_of, mark_of, text_of, is, kid, ends, has1, dummy_sp, fresh}
use Rattle.definition.specs.Helpers.{is_global, object_freeze_call_arg, no_exprs, first_cooked, tpl_to_ts_type, ts_lit_type, ts_keyword_type}
use Rattle.records.specs.declared.tree.Record.{Record}
use Rattle.records.specs.declared.tree.Records.{Records}
use Rattle.records.specs.Texts.{is_global_name}
use Rattle.records.specs.Views.{rec_of, recs_of, behind, ChildrenOf, FirstOf, RestOf, ChildIs}
use Rattle.records.proofs.Records.{recs_none, recs_step, enough}
use Rattle.records.proofs.Fronts.{recs_front}
use Rattle.swc_helpers.specs.Found.{is_object_freeze, is_quasi}

-- ---- the callee

-- an Mb has an object and a property
pub two_parts : (r : Record) → mark_of (rec_of r) ≡ mark "Mb" → 2 ≤ count (kids_of (rec_of r))
two_parts r e = enough r e

module _ (u : ℕ) (r : Record) where
  -- it is no Mb
  pub no_member : is "Mb" (rec_of r) ≡ false → is_object_freeze u (rec_of r) ≡ false
  no_member e = rw e

  -- its object is another
  pub another_object : {x : Record} → ChildIs r 0 x → is_global_name u (text "Object") (rec_of x) ≡ false → is_object_freeze u (rec_of r) ≡ false
  another_object x e = go (is "Mb" (rec_of r)) _ (ap (is_global_name u (text "Object")) (sym x.is) ∙ e)
    where
      go : (m t : Bool) {g : Bool} → g ≡ false → (m && (g && t)) ≡ false
      go true t e = rw e
      go false t e = refl

  -- it is one, with an object and a property
  pub member_by : is "Mb" (rec_of r) ≡ true → {x y : Record} → ChildIs r 0 x → ChildIs r 1 y
      → is_object_freeze u (rec_of r) ≡ (is_global_name u (text "Object") (rec_of x) && (is "Ki" (rec_of y) && same_text (text_of (rec_of y)) (text "freeze")))
  member_by e x y = rw (e, x.is, y.is)

-- ---- the argument

-- a Ca has a callee
pub has_callee : (r : Record) → mark_of (rec_of r) ≡ mark "Ca" → 1 ≤ count (kids_of (rec_of r))
has_callee r e = enough r e

module _ (u : ℕ) where
  same-tests : (a b c d t : Bool) → (a && (b && ((c && d) && t))) ≡ ((a && (b && (c && d))) && t)
  same-tests true true true d t = refl
  same-tests true true false d t = refl
  same-tests true false c d t = refl
  same-tests false b c d t = refl

  call-by : (c a : Rec) (rs : Recs) → object_freeze_call_arg u (cons c (cons a rs)) ≡ (is_object_freeze u c && (not (is "Op" a) && (ends rs && not (is "Sp" a))))
  unfolding object_freeze_call_arg
  call-by c a rs =
      same-tests (is "Mb" c) (is_global u "Object" (kid 0 (kids_of c))) (is "Ki" (kid 1 (kids_of c))) (same_text (text_of (kid 1 (kids_of c))) (text "freeze")) (not (is "Op" a) && (ends rs && not (is "Sp" a)))

  pub another_callee : (ks : Recs) → is_object_freeze u (kid 0 ks) ≡ false → object_freeze_call_arg u ks ≡ false
  unfolding object_freeze_call_arg
  another_callee nil e = refl
  another_callee (cons c nil) e = refl
  another_callee (cons c (cons a rs)) e = call-by c a rs ∙ rw e

  pub no_argument : (ks : Recs) → count ks ≤ 1 → object_freeze_call_arg u ks ≡ false
  unfolding object_freeze_call_arg
  no_argument nil h = refl
  no_argument (cons c nil) h = refl
  no_argument (cons c (cons a rs)) h = absurd (omega arith)

  -- with an argument
  argument-by : (ks : Recs) → 1 < count ks → is_object_freeze u (kid 0 ks) ≡ true
      → object_freeze_call_arg u ks ≡ (not (is "Op" (kid 1 ks)) && (ends (behind 2 ks) && not (is "Sp" (kid 1 ks))))
  unfolding behind
  argument-by nil h e = absurd (omega arith)
  argument-by (cons c nil) h e = absurd (omega arith)
  argument-by (cons c (cons a rs)) h e = call-by c a rs ∙ rw e

  module _ {r x y : Record} (c : ChildIs r 0 x) (a : ChildIs r 1 y) (f : is_object_freeze u (rec_of x) ≡ true) where
    argument-of : object_freeze_call_arg u (kids_of (rec_of r)) ≡ (not (is "Op" (rec_of y)) && (ends (behind 2 (kids_of (rec_of r))) && not (is "Sp" (rec_of y))))
    argument-of =
        argument-by (kids_of (rec_of r)) a.there (ap (is_object_freeze u) (sym c.is) ∙ f)
        ∙ ap (λ (k : Rec). not (is "Op" k) && (ends (behind 2 (kids_of (rec_of r))) && not (is "Sp" k))) (sym a.is)

    -- which is no expression; or is a spread; or is not the only one
    pub op_argument : is "Op" (rec_of y) ≡ true → object_freeze_call_arg u (kids_of (rec_of r)) ≡ false
    op_argument e = argument-of ∙ rw e

    pub spread_argument : is "Sp" (rec_of y) ≡ true → object_freeze_call_arg u (kids_of (rec_of r)) ≡ false
    spread_argument e = argument-of ∙ go (is "Op" (rec_of y)) (ends (behind 2 (kids_of (rec_of r)))) e
      where
        go : (o t : Bool) {s : Bool} → s ≡ true → (not o && (t && not s)) ≡ false
        go true t e = refl
        go false true e = rw e
        go false false e = refl

    pub more_arguments : ends (behind 2 (kids_of (rec_of r))) ≡ false → object_freeze_call_arg u (kids_of (rec_of r)) ≡ false
    more_arguments e = argument-of ∙ go (is "Op" (rec_of y)) (not (is "Sp" (rec_of y))) e
      where
        go : (o s : Bool) {t : Bool} → t ≡ false → (not o && (t && s)) ≡ false
        go true s e = refl
        go false s e = rw e

    -- the only one
    pub one_argument : is "Op" (rec_of y) ≡ false → is "Sp" (rec_of y) ≡ false → ends (behind 2 (kids_of (rec_of r))) ≡ true → object_freeze_call_arg u (kids_of (rec_of r)) ≡ true
    one_argument o s t = argument-of ∙ rw (o, s, t)

-- ---- the template

-- whether it has only quasis, by the children that are left
pub quasis_none : (k : Records) → k.count ≡ 0 → no_exprs (recs_of k) ≡ true
unfolding no_exprs
quasis_none k e = ap no_exprs (recs_none k e)

pub quasis_step : {k l : Records} {x : Record} → 0 < k.count → FirstOf k x → RestOf k l → no_exprs (recs_of k) ≡ (is_quasi (mark_of (rec_of x)) && no_exprs (recs_of l))
unfolding no_exprs
quasis_step h x l = ap no_exprs (recs_step h x l)

pub quasis_other : {k : Records} {x : Record} → 0 < k.count → FirstOf k x → is_quasi (mark_of (rec_of x)) ≡ false → no_exprs (recs_of k) ≡ false
unfolding no_exprs
quasis_other h x e = ap no_exprs (recs_front h x).1 ∙ rw e

pub no_kids : {r : Record} {k : Records} → ChildrenOf r k → k.count ≡ 0 → kids_of (rec_of r) ≡ nil
no_kids {k = k} c e = sym c.are ∙ recs_none k e

module _ (r : Record) where
  -- its first child
  pub cooked_by : {x : Record} → ChildIs r 0 x → first_cooked (kids_of (rec_of r)) ≡ (is "Qu" (rec_of x) && has1 (head_of (rec_of x)))
  cooked_by x = rw x.is

pub a_string : (ks : Recs) (b : Bool) → (b && (no_exprs ks && first_cooked ks)) ≡ false → ts_keyword_type dummy_sp "string" ≡ tpl_to_ts_type ks b
unfolding tpl_to_ts_type
a_string ks false e = refl
a_string ks true e = rw e

pub a_literal : (ks : Recs) (b : Bool) → (b && (no_exprs ks && first_cooked ks)) ≡ true → ts_lit_type dummy_sp (rec (fresh "Ss" 0 (text_of (kid 0 ks))) nil) ≡ tpl_to_ts_type ks b
unfolding tpl_to_ts_type
a_literal ks false e = absurd cc
a_literal ks true e = rw e
