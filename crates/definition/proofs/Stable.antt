-- A second pass changes nothing: parameters and functions, and the laws of the combinators for it. The first pass types by ty₁, the second by ty₂;
-- all that is asked of the first is that it never answers with an absent type.
use mathlib.Core.Path.{◌≡◌, refl, ap, ap₂, sym, ◌∙◌}
use mathlib.Core.List.{List, [], ◌∷◌}
use mathlib.Core.Bool.{Bool, true, false, ◌||◌}
use mathlib.Core.Option.{Option, none, some}
use Prim.Native.Nat.{ℕ, zero, suc}
use Rattle.definition.specs.Tree.{Rec, Recs, rec, nil, cons}
use Rattle.definition.specs.Record.{head_of, kids_of, mark_of, is, is_no, dummy_sp, flagged, kid, set_kid, join, gone, Diag, diag, Out, Typing, each, flat, at_kid, second}
use Rattle.definition.specs.Helpers.{any_type_ann}
use Rattle.definition.specs.Typing.{or_any}
use Rattle.definition.specs.Classes.{type_or, handle_func_param_ident, Pattern, p_ident, p_assign, p_box, p_other, pattern_kind, infer_expr_fallback_any, handle_func_param_assign, handle_pattern_by, handle_pattern, handle_func_param, function_part, handle_function, constructor_part}

-- ---- combinators

-- g changes nothing of what f made, whatever the name counter
abbrev pub Stable : (Rec → ℕ → Out Rec) → (Rec → ℕ → Out Rec) → Type 0
Stable f g = (r : Rec) (n n' : ℕ) → (g (f r n).0 n').0 ≡ (f r n).0

pub each_stable : (f g : ℕ → Rec → ℕ → Out Rec) → ((i : ℕ) → Stable (f i) (g i)) → (ks : Recs) (i n n' : ℕ) → (each g i (each f i ks n).0 n').0 ≡ (each f i ks n).0
unfolding each
each_stable f g st nil i n n' = refl
each_stable f g st (cons r rs) i n n' = ap₂ cons (st i r n n') (each_stable f g st rs (suc i) (f i r n).2 (g i (f i r n).0 n').2)

fix_kid : (i : ℕ) (v : Rec) (ks : Recs) (w : Rec → Rec) → w v ≡ v → set_kid i (w (kid i (set_kid i v ks))) (set_kid i v ks) ≡ set_kid i v ks
fix_kid i v nil w e = refl
fix_kid zero v (cons r rs) w e = ap (λ (x : Rec). cons x rs) e
fix_kid (suc i) v (cons r rs) w e = ap (cons r) (fix_kid i v rs w e)

pub at_kid_stable : (f g : Rec → ℕ → Out Rec) → Stable f g → (i : ℕ) (ks : Recs) (n n' : ℕ) → (at_kid i g (at_kid i f ks n).0 n').0 ≡ (at_kid i f ks n).0
at_kid_stable f g st i ks n n' = fix_kid i (f (kid i ks) n).0 ks (λ x. (g x n').0) (st (kid i ks) n n')

pub second_stable : (f g : Rec → ℕ → Out Rec) → Stable f g → Stable (second f) (second g)
unfolding second
second_stable f g st r n n' = ap (rec (head_of r)) (at_kid_stable f g st 1 (kids_of r) n n')

pub join_assoc : (xs ys zs : Recs) → join (join xs ys) zs ≡ join xs (join ys zs)
join_assoc nil ys zs = refl
join_assoc (cons x xs) ys zs = ap (cons x) (join_assoc xs ys zs)

flat-join : (f : Rec → ℕ → Out Recs) (xs ys : Recs) (n : ℕ) → (flat f (join xs ys) n).0 ≡ join (flat f xs n).0 (flat f ys (flat f xs n).2).0
unfolding flat
flat-join f nil ys n = refl
flat-join f (cons x xs) ys n = ap (join (f x n).0) (flat-join f xs ys (f x n).2) ∙ sym (join_assoc (f x n).0 _ _)

pub flat_stable : (f g : Rec → ℕ → Out Recs) → ((r : Rec) (n n' : ℕ) → (flat g (f r n).0 n').0 ≡ (f r n).0) → (ks : Recs) (n n' : ℕ) → (flat g (flat f ks n).0 n').0 ≡ (flat f ks n).0
unfolding flat
flat_stable f g st nil n n' = refl
flat_stable f g st (cons r rs) n n' = flat-join g (f r n).0 (flat f rs (f r n).2).0 n' ∙ ap₂ join (st r n n') (flat_stable f g st rs (f r n).2 _)

-- a part that has gone stays gone
pub gone-gone : (r : Rec) → gone (gone r) ≡ gone r
gone-gone r = go (is_no r) refl
  where
    go : (b : Bool) → is_no r ≡ b → gone (gone r) ≡ gone r
    go true e = rw (e, e)
    go false e = rw e

-- a type that was put in stays
pub type_or_stable : (F G : ℕ → Out Rec) → ((n : ℕ) → is_no (F n).0 ≡ false) → Stable (type_or F) (type_or G)
type_or_stable F G there t n n' = go (is_no t) refl
  where
    go : (b : Bool) → is_no t ≡ b → (type_or G (type_or F t n).0 n').0 ≡ (type_or F t n).0
    go true e = rw (e, there n)
    go false e = rw (e, e)

-- ---- typing

-- a typing that never answers with an absent type
abbrev pub Typed : Typing → Type 0
Typed ty = (r : Rec) (a b : Bool) (n : ℕ) (t : Rec) → (ty r a b n).0 ≡ some t → is_no t ≡ false

pub or_any-there : (o : Out (Option Rec)) (ds : List Diag) → ((t : Rec) → o.0 ≡ some t → is_no t ≡ false) → is_no (or_any o ds).0 ≡ false
or_any-there o ds h = go o.0 refl
  where
    go : (x : Option Rec) → o.0 ≡ x → is_no (or_any o ds).0 ≡ false
    go none e = rw e
    go (some t) e = rw e (h t e)

-- ---- parameters

ident_stable : (p : Rec) (n n' : ℕ) → (handle_func_param_ident (handle_func_param_ident p n).0 n').0 ≡ (handle_func_param_ident p n).0
unfolding handle_func_param_ident
ident_stable p n n' = ap (rec (head_of p)) (at_kid_stable (type_or F) (type_or F) (type_or_stable F F (λ n. refl)) 1 (kids_of p) n n')
  where
    F : ℕ → Out Rec
    F n = (any_type_ann dummy_sp, diag "d2" (head_of p) ∷ [], n)

-- the child at place 1 keeps its value where the one at place 0 was changed too
fix_kid_10 : (u v : Rec) (ks : Recs) (w : Rec → Rec) → w v ≡ v →
    set_kid 1 (w (kid 1 (set_kid 0 u (set_kid 1 v ks)))) (set_kid 0 u (set_kid 1 v ks)) ≡ set_kid 0 u (set_kid 1 v ks)
fix_kid_10 u v nil w e = refl
fix_kid_10 u v (cons a nil) w e = refl
fix_kid_10 u v (cons a (cons b rs)) w e = ap (λ (x : Rec). cons u (cons x rs)) e

module _ (ty₁ ty₂ : Typing) (there : Typed ty₁) where
  infer-there : (r : Rec) (n : ℕ) → is_no (infer_expr_fallback_any ty₁ r n).0 ≡ false
  infer-there r n = or_any-there (ty₁ r false false n) (diag "d2" (head_of r) ∷ []) (there r false false n)

  -- what an Ag becomes
  assign_stable : (p : Rec) (k : Pattern) → pattern_kind (mark_of p) ≡ p_assign → pattern_kind (mark_of (kid 0 (kids_of p))) ≡ k → (n n' : ℕ) →
      (handle_pattern ty₂ (handle_func_param_assign ty₁ k (kid 0 (kids_of p)) (kid 1 (kids_of p)) p n).0 n').0
      ≡ (handle_func_param_assign ty₁ k (kid 0 (kids_of p)) (kid 1 (kids_of p)) p n).0
  unfolding handle_func_param_assign handle_pattern_by handle_func_param_ident
  assign_stable p p_ident e e2 n n' =
      rw e2 (ap (rec (head_of l)) (fix_kid_10 (flagged (kid 0 (set_kid 1 v (kids_of l)))) v (kids_of l) (λ x. (type_or G x n').0) (type_or_stable F G (infer-there r) (kid 1 (kids_of l)) n n')))
    where
      l : Rec
      l = kid 0 (kids_of p)

      r : Rec
      r = kid 1 (kids_of p)

      F : ℕ → Out Rec
      F = infer_expr_fallback_any ty₁ r

      G : ℕ → Out Rec
      G n = (any_type_ann dummy_sp, diag "d2" (head_of l) ∷ [], n)

      v : Rec
      v = (type_or F (kid 1 (kids_of l)) n).0
  assign_stable p p_box e e2 n n' = rw e2
  assign_stable p p_assign e e2 n n' = rw (e, e2)
  assign_stable p p_other e e2 n n' = rw (e, e2)

  pattern_stable : Stable (handle_pattern ty₁) (handle_pattern ty₂)
  unfolding handle_pattern_by handle_func_param_ident
  pattern_stable p n n' = go (pattern_kind (mark_of p)) refl
    where
      go : (k : Pattern) → pattern_kind (mark_of p) ≡ k → (handle_pattern ty₂ (handle_pattern ty₁ p n).0 n').0 ≡ (handle_pattern ty₁ p n).0
      go p_ident e = rw (e, e) (ident_stable p n n')
      go p_assign e = rw e (assign_stable p _ e refl n n')
      go p_box e = rw (e, e)
      go p_other e = rw (e, e)

  param_stable : Stable (handle_func_param ty₁) (handle_func_param ty₂)
  unfolding handle_func_param
  param_stable r n n' = go (is "Pa" r || is "Pp" r) refl
    where
      go : (b : Bool) → (is "Pa" r || is "Pp" r) ≡ b → (handle_func_param ty₂ (handle_func_param ty₁ r n).0 n').0 ≡ (handle_func_param ty₁ r n).0
      go true e = rw (e, e) (ap (rec (head_of r)) (at_kid_stable (handle_pattern ty₁) (handle_pattern ty₂) pattern_stable 0 (kids_of r) n n'))
      go false e = rw (e, e)

  -- ---- functions and constructors

  function_part_stable : (setter : Bool) (i : ℕ) → Stable (function_part ty₁ setter i) (function_part ty₂ setter i)
  unfolding function_part
  function_part_stable setter zero r n n' = refl
  function_part_stable true (suc zero) r n n' = gone-gone r
  function_part_stable false (suc zero) r n n' = refl
  function_part_stable setter (suc (suc zero)) r n n' = gone-gone r
  function_part_stable setter (suc (suc (suc i))) r n n' = param_stable r n n'

  pub function_stable : (setter : Bool) → Stable (handle_function ty₁ setter) (handle_function ty₂ setter)
  unfolding handle_function
  function_stable setter r n n' =
      ap (rec (head_of r)) (each_stable (function_part ty₁ setter) (function_part ty₂ setter) (function_part_stable setter) (kids_of r) 0 n n')

  pub constructor_part_stable : (i : ℕ) → Stable (constructor_part ty₁ i) (constructor_part ty₂ i)
  unfolding constructor_part
  constructor_part_stable zero r n n' = gone-gone r
  constructor_part_stable (suc i) r n n' = param_stable r n n'
