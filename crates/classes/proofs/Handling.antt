-- Parameters, pattern by pattern, all of them, and functions, as records on their way into an Output.
use mathlib.Core.Path.{◌≡◌, refl, sym, ap, ◌∙◌}
use mathlib.Core.List.{[], ◌∷◌}
use mathlib.Core.Bool.{Bool, true, false, cond, ◌||◌}
use mathlib.Core.Logic.{◌⊎◌, inl, inr, ⊎_elim}
use Prim.Native.Nat.{ℕ, suc, ◌≤◌, ◌<◌}
use native.Mathlib.Omega.{arith}
use lib.Dec.{eqb}
use Rattle.std.specs.Prelude.{Option as Answer}
use Rattle.definition.specs.Tree.{Rec, Recs, rec, cons, count}
use Rattle.definition.specs.Grammar.{mark}
use Rattle.definition.specs.Record.{head_of, kids_of, mark_of, is_no, dummy_sp, with_flags, flag1, flagged, kid, set_kid, gone, diag, Out, Typing, pure, if_m, on_value, wrap, each, at_kid}
use Rattle.definition.specs.Helpers.{any_type_ann}
use Rattle.definition.specs.Classes.{
  type_or,
  handle_func_param_ident,
  Pattern,
  p_ident,
  p_assign,
  p_box,
  p_other,
  pattern_kind,
  infer_expr_fallback_any,
  handle_func_param_assign,
  handle_pattern_by,
  handle_pattern,
  handle_func_param,
  function_part,
  handle_function,
}
use Rattle.definition.proofs.Counting.{expr_to_ts_type-within}
use Rattle.definition.proofs.CountingItems.{handle_func_param-within}
use Rattle.records.specs.declared.marks.Mark.{Mark}
use Rattle.records.specs.declared.tree.Record.{Record}
use Rattle.records.specs.declared.tree.Records.{Records}
use Rattle.records.specs.declared.diagnostics.FastCheckDtsDiagnostic.TheVariants.{UnableToInferTypeFallbackAny}
use Rattle.records.specs.Views.{rec_of, recs_of, FirstOf, ChildIs}
use Rattle.records.specs.Marks.{number_of}
use Rattle.records.proofs.Records.{enough, recs_step}
use Rattle.records.proofs.SameMarks.{marked}
use Rattle.prescan.specs.declared.module_names.Scope.{Scope}
use Rattle.output.specs.declared.Output.{Output}
use Rattle.output.specs.Outputs.{diag_for, Keeps, KeepsAll, Marks, Makes, MakesAll, MakesMaybe, Filled}
use Rattle.output.specs.Kids.{Begun, Kept}
use Rattle.output.proofs.Steps.{maybe-as, filled}
use Rattle.output.proofs.Framing.{makes-as, makes-keeps, makes_mark, keeps-counter, Done, done_next, done_framed}
use Rattle.output.proofs.Each.{each-behind, each-count, Eaching, eaching_turn}
use Rattle.typing.specs.declared.exprs.Mode.{Mode}
use Rattle.typing.specs.Values.{Ready, ReadyAll, ids_in, typing_in, mutable_mode, type_of}
use Rattle.typing.proofs.ReadyFor.{ready_first, ready_left}
use Rattle.classes.specs.Handled.{return_type_kept}
use Rattle.classes.proofs.Framed.{Split, kid_kept, first_kid, framed_one, two_kids, framed_two}

-- ---- how many children there are

module _ (r : Record) where
  pub fu_three : mark_of (rec_of r) ≡ mark "Fu" → 3 ≤ count (kids_of (rec_of r))
  fu_three e = enough r e

  pub bd_two : mark_of (rec_of r) ≡ mark "Bd" → 2 ≤ count (kids_of (rec_of r))
  bd_two e = enough r e

  pub ag_two : mark_of (rec_of r) ≡ mark "Ag" → 2 ≤ count (kids_of (rec_of r))
  ag_two e = enough r e

  pub box_one : (mark_of (rec_of r) ≡ mark "Pb") ⊎ (mark_of (rec_of r) ≡ mark "Po") → 1 ≤ count (kids_of (rec_of r))
  box_one w = ⊎_elim (λ (e : mark_of (rec_of r) ≡ mark "Pb"). enough r e) (λ (e : mark_of (rec_of r) ≡ mark "Po"). enough r e) w

  pub pa_one : (mark_of (rec_of r) ≡ mark "Pa") ⊎ (mark_of (rec_of r) ≡ mark "Pp") → 1 ≤ count (kids_of (rec_of r))
  pa_one w = ⊎_elim (λ (e : mark_of (rec_of r) ≡ mark "Pa"). enough r e) (λ (e : mark_of (rec_of r) ≡ mark "Pp"). enough r e) w

-- a mark that an arm for two tells
pub either : {m x y : Mark} {k : ℕ} → number_of m ≡ k → (m ≡ x) ⊎ (m ≡ y) → (k ≡ number_of x) ⊎ (k ≡ number_of y)
either {m} {x} {y} {k} r w = ⊎_elim (λ (e : m ≡ x). inl (marked m r e)) (λ (e : m ≡ y). inr (marked m r e)) w

-- ---- `infer_expr_fallback_any`, and a type that stands

pub mutable_type : (scope : Scope) {m : Mode} (r : Rec) (n : ℕ) → m ≡ mutable_mode scope → type_of m r n ≡ typing_in scope r false false n
unfolding type_of
mutable_type scope r n e = rw e

pub inferred : (scope : Scope) {m : Mode} (r : Record) {a b c : Output} {t : Answer (Unit {0})} → m ≡ mutable_mode scope → MakesMaybe a b t (type_of m (rec_of r) a.names.id_counter)
    → Filled b c t (diag_for UnableToInferTypeFallbackAny (head_of (rec_of r))) → Makes a c (infer_expr_fallback_any (typing_in scope) (rec_of r) a.names.id_counter)
inferred scope r {a} e w f = filled (maybe-as w (mutable_type scope (rec_of r) a.names.id_counter e)) f

module _ (f : ℕ → Out Rec) (t : Rec) (n : ℕ) where
  pub type_given : is_no t ≡ false → pure t n ≡ type_or f t n
  type_given e = sym (ap (λ (b : Bool). if_m b f (pure t) n) e)

  pub type_made : is_no t ≡ true → f n ≡ type_or f t n
  type_made e = sym (ap (λ (b : Bool). if_m b f (pure t) n) e)

-- ---- the patterns by their marks

module _ {m : ℕ} where
  pub ident_kind : m ≡ mark "Bd" → p_ident ≡ pattern_kind m
  unfolding pattern_kind
  ident_kind e = rw e

  pub assign_kind : m ≡ mark "Ag" → p_assign ≡ pattern_kind m
  unfolding pattern_kind
  assign_kind e = rw e

  pub box_kind : (m ≡ mark "Pb") ⊎ (m ≡ mark "Po") → p_box ≡ pattern_kind m
  unfolding pattern_kind
  box_kind w = ⊎_elim (λ (e : m ≡ mark "Pb"). rw e refl) (λ (e : m ≡ mark "Po"). rw e refl) w

module _ (ty : Typing) (r : Rec) (n : ℕ) where
  -- neither a Bd nor an Ag
  pub pattern_kept : eqb (mark_of r) (mark "Bd") ≡ false → eqb (mark_of r) (mark "Ag") ≡ false → pure r n ≡ handle_pattern ty r n
  unfolding pattern_kind handle_pattern_by
  pattern_kept b g = rw (b, g) (go (eqb (mark_of r) (mark "Pb") || eqb (mark_of r) (mark "Po")))
    where
      go : (z : Bool) → pure r n ≡ handle_pattern_by ty (cond z p_box p_other) r n
      go true = refl
      go false = refl

  pub pattern_ident : mark_of r ≡ mark "Bd" → handle_func_param_ident r n ≡ handle_pattern ty r n
  unfolding handle_pattern_by
  pattern_ident e = ap (λ (k : Pattern). handle_pattern_by ty k r n) (ident_kind e)

  pub pattern_assign : mark_of r ≡ mark "Ag" → handle_pattern_by ty p_assign r n ≡ handle_pattern ty r n
  pattern_assign e = ap (λ (k : Pattern). handle_pattern_by ty k r n) (assign_kind e)

  -- neither a Pa nor a Pp
  pub param_kept : eqb (mark_of r) (mark "Pa") ≡ false → eqb (mark_of r) (mark "Pp") ≡ false → pure r n ≡ handle_func_param ty r n
  unfolding handle_func_param
  param_kept a b = rw (a, b) refl

-- ---- `handle_func_param_ident`

module _ (r : Record) (n : ℕ) {e : Record} (c : ChildIs r 1 e) where
  -- a type stands
  pub ident_given : is_no (rec_of e) ≡ false → pure (rec_of r) n ≡ handle_func_param_ident (rec_of r) n
  unfolding handle_func_param_ident
  ident_given q =
      kid_kept (type_or (λ m. (any_type_ann dummy_sp, diag "d2" (head_of (rec_of r)) ∷ [], m))) (rec_of r) 1 n
      (sym (type_given (λ m. (any_type_ann dummy_sp, diag "d2" (head_of (rec_of r)) ∷ [], m)) (kid 1 (kids_of (rec_of r))) n (ap is_no (sym c.is) ∙ q)))

module _ {a b : Output} {r : Record} {k : Records} (g : Begun a b r (head_of (rec_of r)) k) {f : Record} {l : Records} (p : Split k f l) {e : Record} {m : Records} (q : Split l e m) where
  pub ident_any : is_no (rec_of e) ≡ true → {c d x y : Output} → Keeps b c (rec_of f) → Keeps c d (any_type_ann dummy_sp) → KeepsAll d x (recs_of m)
      → Marks x y (diag_for UnableToInferTypeFallbackAny (head_of (rec_of r))) → Makes a y (handle_func_param_ident (rec_of r) a.names.id_counter)
  unfolding handle_func_param_ident
  ident_any z u v w s =
      let D : ℕ → Out Rec = λ n. (any_type_ann dummy_sp, diag "d2" (head_of (rec_of r)) ∷ [], n) in
      makes-as
      (makes_mark (framed_two g p q (rec_of f) (pure (any_type_ann dummy_sp)) u (makes-keeps (any_type_ann dummy_sp) v) w) s)
      (ap (λ (o : Out Rec). wrap (head_of (rec_of r)) (on_value (λ v. cons (rec_of f) (cons v (recs_of m))) o)) (type_made D (rec_of e) a.names.id_counter z)
      ∙ ap (λ (ks : Recs). wrap (head_of (rec_of r)) (at_kid 1 (type_or D) ks a.names.id_counter)) (sym (two_kids g p q)))

  -- ---- `handle_func_param_assign`, the arm for `Pat::Ident`
  pub ident_optional : (ty : Typing) (right whole : Rec) {c d x : Output} → Keeps b c (flagged (rec_of f)) → Makes c d (type_or (infer_expr_fallback_any ty right) (rec_of e) c.names.id_counter) → KeepsAll d x (recs_of m)
      → Makes a x (handle_func_param_assign ty p_ident (rec_of r) right whole a.names.id_counter)
  unfolding handle_func_param_assign
  ident_optional ty right whole u v w =
      makes-as
      (framed_two g p q (flagged (rec_of f)) (λ n. type_or (infer_expr_fallback_any ty right) (rec_of e) n) u v w)
      (ap (λ (ks : Recs). on_value (λ (ks : Recs). rec (head_of (rec_of r)) (set_kid 0 (flagged (kid 0 ks)) ks)) (at_kid 1 (type_or (infer_expr_fallback_any ty right)) ks a.names.id_counter)) (sym (two_kids g p q)))

-- the arms for `Pat::Array` and `Pat::Object`
pub box_optional : {a b : Output} {r : Record} {k : Records} {flags : ℕ} → Begun a b r (with_flags (head_of (rec_of r)) flags) k → flags ≡ flag1 true (head_of (rec_of r)).flags → {e : Record} {l : Records} → Split k e l
    → (ty : Typing) (right whole : Rec) {c d : Output} → Makes b c (type_or (infer_expr_fallback_any ty right) (rec_of e) b.names.id_counter) → KeepsAll c d (recs_of l)
    → Makes a d (handle_func_param_assign ty p_box (rec_of r) right whole a.names.id_counter)
unfolding handle_func_param_assign
box_optional {a} {r = r} g q {e} {l} p ty right whole v w =
    makes-as
    (framed_one g p (λ n. type_or (infer_expr_fallback_any ty right) (rec_of e) n) v w)
    (ap (λ (f : ℕ). wrap (with_flags (head_of (rec_of r)) f) (on_value (λ v. cons v (recs_of l)) (type_or (infer_expr_fallback_any ty right) (rec_of e) a.names.id_counter))) q
    ∙ ap (λ (ks : Recs). wrap (head_of (flagged (rec_of r))) (at_kid 0 (type_or (infer_expr_fallback_any ty right)) ks a.names.id_counter)) (sym (first_kid g p)))

module _ (ty : Typing) {r x y : Record} (left : ChildIs r 0 x) (right : ChildIs r 1 y) (n : ℕ) where
  sides : (k : Pattern) → handle_func_param_assign ty k (rec_of x) (rec_of y) (rec_of r) n ≡ handle_func_param_assign ty k (kid 0 (kids_of (rec_of r))) (kid 1 (kids_of (rec_of r))) (rec_of r) n
  sides k =
      ap (λ (l : Rec). handle_func_param_assign ty k l (rec_of y) (rec_of r) n) left.is
      ∙ ap (λ (e : Rec). handle_func_param_assign ty k (kid 0 (kids_of (rec_of r))) e (rec_of r) n) right.is

  pub assign_by : {k : Pattern} → k ≡ pattern_kind (mark_of (rec_of x)) → handle_func_param_assign ty k (rec_of x) (rec_of y) (rec_of r) n ≡ handle_pattern_by ty p_assign (rec_of r) n
  unfolding handle_pattern_by
  assign_by {k} e =
      sides k
      ∙ ap (λ (j : Pattern). handle_func_param_assign ty j (kid 0 (kids_of (rec_of r))) (kid 1 (kids_of (rec_of r))) (rec_of r) n) (e ∙ ap (λ (l : Rec). pattern_kind (mark_of l)) left.is)

  -- the left side is none of the three
  pub assign_kept : eqb (mark_of (rec_of x)) (mark "Bd") ≡ false → eqb (mark_of (rec_of x)) (mark "Pb") ≡ false → eqb (mark_of (rec_of x)) (mark "Po") ≡ false → pure (rec_of r) n ≡ handle_pattern_by ty p_assign (rec_of r) n
  unfolding handle_func_param_assign pattern_kind
  assign_kept b p o = go (eqb (mark_of (rec_of x)) (mark "Ag")) refl
    where
      go : (z : Bool) → eqb (mark_of (rec_of x)) (mark "Ag") ≡ z → pure (rec_of r) n ≡ handle_pattern_by ty p_assign (rec_of r) n
      go true e = assign_by {k = p_assign} (rw (b, e))
      go false e = assign_by {k = p_other} (rw (b, e, p, o))

-- ---- `handle_func_param`

pub param_made : {a b : Output} {r : Record} {k : Records} → Begun a b r (head_of (rec_of r)) k → {f : Record} {l : Records} → Split k f l → (mark_of (rec_of r) ≡ mark "Pa") ⊎ (mark_of (rec_of r) ≡ mark "Pp") → (ty : Typing) {c d : Output}
    → Makes b c (handle_pattern ty (rec_of f) b.names.id_counter) → KeepsAll c d (recs_of l) → Makes a d (handle_func_param ty (rec_of r) a.names.id_counter)
unfolding handle_func_param
param_made {a} {r = r} g {f} {l} p m ty v w =
    let G : Rec → ℕ → Out Rec = λ t n. wrap (head_of t) (at_kid 0 (handle_pattern ty) (kids_of t) n) in
    makes-as
    (framed_one g p (λ n. handle_pattern ty (rec_of f) n) v w)
    (ap (λ (ks : Recs). wrap (head_of (rec_of r)) (at_kid 0 (handle_pattern ty) ks a.names.id_counter)) (sym (first_kid g p))
    ∙ sym (ap (λ (b : Bool). if_m b (G (rec_of r)) (pure (rec_of r)) a.names.id_counter) (is_param m)))
  where
    is_param : (mark_of (rec_of r) ≡ mark "Pa") ⊎ (mark_of (rec_of r) ≡ mark "Pp") → (eqb (mark_of (rec_of r)) (mark "Pa") || eqb (mark_of (rec_of r)) (mark "Pp")) ≡ true
    is_param m = ⊎_elim (λ (e : mark_of (rec_of r) ≡ mark "Pa"). rw e refl) (λ (e : mark_of (rec_of r) ≡ mark "Pp"). rw e refl) m

-- ---- `handle_func_params`

-- in a loop over the records k, of which l are left
pub ready_turn : {o p : Output} {k l : Records} {scope : Scope} {x : Record} → ReadyAll o k scope → l.tree ≡ k.tree → p.names.id_counter ≤ l.at → FirstOf l x → Ready p x scope
ready_turn {p = p} {l = l} {scope = scope} y t h f = let z : ReadyAll p l scope = ready_left y t h in ready_first z f refl

pub params_turn : (scope : Scope) {total : Out Recs} {a b c : Output} {k l : Records} {x : Record} → Eaching (handle_func_param (typing_in scope)) total a b k → Split k x l → Makes b c (handle_func_param (typing_in scope) (rec_of x) b.names.id_counter)
    → Eaching (handle_func_param (typing_in scope)) total a c l
params_turn scope {b = b} {x = x} i s w =
    eaching_turn (handle_func_param (typing_in scope)) i s (handle_func_param-within (typing_in scope) (expr_to_ts_type-within (ids_in scope) scope.unresolved) (rec_of x) b.names.id_counter).high w

-- its parameters are what is left of a function, or of a constructor
pub params_done : (ty : Typing) {a b : Output} (k : Records) → count (recs_of k) ≡ k.count → MakesAll a b (each (λ _. handle_func_param ty) 0 (recs_of k) a.names.id_counter) → Done a b k (each (λ _. handle_func_param ty) 0 (recs_of k) a.names.id_counter)
params_done ty {a} k e w = record { made = w; many = sym (each-count (λ _. handle_func_param ty) 0 (recs_of k) a.names.id_counter ∙ e) }

-- ---- a function

-- a child that was kept, or changed without a step
pub done_kept_next : {a b c : Output} {k l : Records} {F : Rec → Rec} {y : Out Recs} → 0 < k.count → (p : Kept a b k l F) → Done b c l y → Done a c k (cons (F (rec_of p.first)) y.0, y.1, y.2)
done_kept_next {F = F} h p w = done_next h p.rest (makes-keeps (F (rec_of p.first)) p.put) w

-- its parameters, which stand behind its type parameters, its return type and its body
function_behind : (ty : Typing) (setter : Bool) (ks : Recs) (n : ℕ) → each (function_part ty setter) 3 ks n ≡ each (λ _. handle_func_param ty) 0 ks n
unfolding function_part
function_behind ty setter ks n = each-behind (handle_func_param ty) (function_part ty setter) (λ i. suc (suc (suc i))) (λ i. refl) (λ i r m. refl) 0 0 ks n

module _ (ty : Typing) (setter : Bool) {a b : Output} {r : Record} {k : Records} (g : Begun a b r (head_of (rec_of r)) k) (enough : 3 ≤ k.count) where
  pub function_made : {c d e z : Output} {k1 k2 k3 : Records} → Kept b c k k1 (λ t. t) → Kept c d k1 k2 (return_type_kept setter) → Kept d e k2 k3 gone
      → MakesAll e z (each (λ _. handle_func_param ty) 0 (recs_of k3) e.names.id_counter) → Makes a z (handle_function ty setter (rec_of r) a.names.id_counter)
  unfolding handle_function each function_part
  function_made {c} {d} {e} {k1 = k1} {k2} {k3} u v w m =
      let h1 : 2 ≤ k1.count = omega (arith, u.rest.many, enough) in
      let h2 : 1 ≤ k2.count = omega (arith, v.rest.many, h1) in
      let F : Out Recs → Out Rec = λ (y : Out Recs). wrap (head_of (rec_of r)) (on_value (λ (ks : Recs). cons (rec_of u.first) (cons (return_type_kept setter (rec_of v.first)) (cons (gone (rec_of w.first)) ks))) y) in
      let kids : kids_of (rec_of r) ≡ cons (rec_of u.first) (cons (rec_of v.first) (cons (rec_of w.first) (recs_of k3))) =
      sym g.kids.are ∙ (recs_step (omega (arith, enough)) u.is u.rest ∙ ap (cons (rec_of u.first)) (recs_step (omega (arith, h1)) v.is v.rest ∙ ap (cons (rec_of v.first)) (recs_step h2 w.is w.rest))) in
      let left : count (recs_of k3) ≡ k3.count =
      omega (arith, w.rest.many, v.rest.many, u.rest.many, h2, h1, enough, g.kids.many, ap count kids) in
      makes-as (done_framed g (done_kept_next (omega (arith, enough)) u (done_kept_next (omega (arith, h1)) v (done_kept_next h2 w (params_done ty k3 left m)))))
      (ap (λ (n : ℕ). F (each (λ _. handle_func_param ty) 0 (recs_of k3) n)) (keeps-counter w.put ∙ (keeps-counter v.put ∙ (keeps-counter u.put ∙ keeps-counter g.front)))
      ∙ (ap F (sym (function_behind ty setter (recs_of k3) a.names.id_counter))
      ∙ ap (λ (ks : Recs). wrap (head_of (rec_of r)) (each (function_part ty setter) 0 ks a.names.id_counter)) (sym kids)))
