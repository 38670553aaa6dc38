-- What the definition of the keys says of a record, by its mark and its children as the code meets them.
use Rattle.std.proofs.Common.{◌≡◌, ℕ, ◌<◌, ◌≤◌, Bool, true, false, cond, not, ◌&&◌, eqb, sym, refl, ap, ◌∙◌, arith, Option as Answer, Some, None, ◌⊎◌, inl, inr}
use Prim.Native.String.{String}
use mathlib.Core.Option.{Option, none, some}
use Rattle.definition.specs.Tree.{Rec, Recs, rec, nil, cons, count}
use Rattle.definition.specs.Grammar.{mark, expression, grammar, known, slots, place}
use Rattle.definition.specs.Record.{text, kids_of, mark_of, text_of, is, kid, ends}
use Rattle.definition.specs.Names.{well_known_symbol_names, any_text, is_well_known_symbol_expr, KeyExpr, KeyExpr.x_lit, KeyExpr.x_tpl, KeyExpr.x_through, KeyExpr.x_ident, KeyExpr.x_member, KeyExpr.x_other, key_expr_kind, computed, prop_name_by, prop_name_from_expr, prop_name_from_first, prop_name_from_only, valid_prop_name}
use Rattle.definition.specs.Check.{slots_of}
use Rattle.definition.proofs.Kids.{fixed, first_in}
use Rattle.records.specs.declared.tree.Record.{Record}
use Rattle.records.specs.declared.tree.Records.{Records}
use Rattle.records.specs.declared.marks.Mark.{Mark}
use Rattle.records.specs.declared.marks.Mark.TheVariants.{Ss, Nu, Bi, Pr, Ta, Tc, Nn, As, Ts}
use Rattle.records.specs.Marks.{number_of}
use Rattle.records.specs.Texts.{is_global_name}
use Rattle.records.specs.Views.{rec_of, behind, ChildrenOf, ChildIs}
use Rattle.records.proofs.Records.{recs_none, enough}
use Rattle.records.proofs.Fronts.{ends_none, ends_at}
use Rattle.records.proofs.Views.{accepted, mark_here, count_here}
use Rattle.records.proofs.SameMarks.{marked}
use Rattle.names.specs.Keys.{is_well_known_member, only_expression, key_of, record_of, KeyFound, KeyIs}
use Rattle.names.specs.declared.prop_name.Key.{Key}

-- the marks of the expressions that are looked through
abbrev pub Through : Mark → Type 0
Through m = (m ≡ Pr) ⊎ ((m ≡ Ta) ⊎ ((m ≡ Tc) ⊎ ((m ≡ Nn) ⊎ ((m ≡ As) ⊎ (m ≡ Ts)))))

-- ---- `is_well_known_symbol_expr`

-- an Mb has an object and a property
pub two_parts : (r : Record) → mark_of (rec_of r) ≡ mark "Mb" → 2 ≤ count (kids_of (rec_of r))
two_parts r e = enough r e

module _ (u : ℕ) (r : Record) where
  pub no_member : is "Mb" (rec_of r) ≡ false → is_well_known_member u (rec_of r) ≡ false
  no_member e = rw e

  pub another_object : {x : Record} → ChildIs r 0 x → is_global_name u (text "Symbol") (rec_of x) ≡ false → is_well_known_member u (rec_of r) ≡ false
  unfolding is_well_known_symbol_expr
  another_object x e = go (is "Mb" (rec_of r)) _ (ap (is_global_name u (text "Symbol")) (sym x.is) ∙ e)
    where
      go : (m t : Bool) {g : Bool} → g ≡ false → (m && (g && t)) ≡ false
      go true t e = rw e
      go false t e = refl

  pub member_by : is "Mb" (rec_of r) ≡ true → {x y : Record} → ChildIs r 0 x → ChildIs r 1 y
      → is_well_known_member u (rec_of r) ≡ (is_global_name u (text "Symbol") (rec_of x) && (is "Ki" (rec_of y) && any_text well_known_symbol_names (text_of (rec_of y))))
  unfolding is_well_known_symbol_expr
  member_by e x y = rw (e, x.is, y.is)

-- ---- the only expression of a template

pub only_none : {r : Record} {k : Records} → ChildrenOf r k → k.count ≡ 0 → only_expression (kids_of (rec_of r)) ≡ false
unfolding only_expression
only_none {k = k} c e = rw (sym c.are ∙ recs_none k e)

only-first : (ks : Recs) → 0 < count ks → only_expression ks ≡ ((not (is "Qu" (kid 0 ks)) && not (is "Op" (kid 0 ks))) && ends (behind 1 ks))
unfolding only_expression behind
only-first nil h = absurd (omega (arith, h))
only-first (cons r rs) h = refl

module _ {r x : Record} (c : ChildIs r 0 x) where
  only-by : only_expression (kids_of (rec_of r)) ≡ ((not (is "Qu" (rec_of x)) && not (is "Op" (rec_of x))) && ends (behind 1 (kids_of (rec_of r))))
  only-by =
      only-first (kids_of (rec_of r)) c.there
      ∙ ap (λ (k : Rec). (not (is "Qu" k) && not (is "Op" k)) && ends (behind 1 (kids_of (rec_of r)))) (sym c.is)

  pub only_quasi : is "Qu" (rec_of x) ≡ true → only_expression (kids_of (rec_of r)) ≡ false
  only_quasi e = only-by ∙ rw e

  pub only_op : is "Op" (rec_of x) ≡ true → only_expression (kids_of (rec_of r)) ≡ false
  only_op e = only-by ∙ go (is "Qu" (rec_of x)) e
    where
      go : (q : Bool) {o : Bool} → o ≡ true → ((not q && not o) && ends (behind 1 (kids_of (rec_of r)))) ≡ false
      go true e = refl
      go false e = rw e

  module _ (q : is "Qu" (rec_of x) ≡ false) (o : is "Op" (rec_of x) ≡ false) where
    pub only_one : count (kids_of (rec_of r)) ≤ 1 → only_expression (kids_of (rec_of r)) ≡ true
    only_one h = only-by ∙ rw (q, o, ends_none 1 (kids_of (rec_of r)) h)

    pub only_before : {y : Record} → ChildIs r 1 y → only_expression (kids_of (rec_of r)) ≡ is "Op" (rec_of y)
    only_before y = only-by ∙ rw (q, o, ends_at 1 y)

pub only_there : (ks : Recs) → only_expression ks ≡ true → 0 < count ks
unfolding only_expression
only_there nil e = absurd cc
only_there (cons r rs) e = omega arith

-- ---- `prop_name_from_expr`

first-name : (ks : Recs) (ctx : ℕ) → prop_name_from_first ks ctx ≡ prop_name_from_expr (kid 0 ks) ctx
unfolding prop_name_from_first prop_name_from_expr key_expr_kind prop_name_by
first-name nil ctx = refl
first-name (cons r rs) ctx = refl

only-name : (ks : Recs) (ctx : ℕ) → prop_name_from_only ks ctx ≡ cond (only_expression ks) (prop_name_from_expr (kid 0 ks) ctx) none
unfolding prop_name_from_only only_expression
only-name nil ctx = refl
only-name (cons r rs) ctx = refl

expr-by : (r : Rec) (ctx : ℕ) (k : KeyExpr) → key_expr_kind (mark_of r) ≡ k → prop_name_from_expr r ctx ≡ prop_name_by k ctx r (λ n. prop_name_from_first (kids_of r) n) (λ n. prop_name_from_only (kids_of r) n)
unfolding prop_name_from_expr
expr-by (rec h ks) ctx k e = ap (λ (j : KeyExpr). prop_name_by j ctx (rec h ks) (λ n. prop_name_from_first ks n) (λ n. prop_name_from_only ks n)) e

module _ (r : Record) (ctx : ℕ) where
  pub key_literal : key_expr_kind (mark_of (rec_of r)) ≡ x_lit → prop_name_from_expr (rec_of r) ctx ≡ some (rec_of r)
  unfolding prop_name_by
  key_literal e = expr-by (rec_of r) ctx x_lit e

  pub key_ident : key_expr_kind (mark_of (rec_of r)) ≡ x_ident → prop_name_from_expr (rec_of r) ctx ≡ some (computed (rec_of r))
  unfolding prop_name_by
  key_ident e = expr-by (rec_of r) ctx x_ident e

  pub key_other : key_expr_kind (mark_of (rec_of r)) ≡ x_other → prop_name_from_expr (rec_of r) ctx ≡ none
  unfolding prop_name_by
  key_other e = expr-by (rec_of r) ctx x_other e

  pub key_member : mark_of (rec_of r) ≡ mark "Mb" → prop_name_from_expr (rec_of r) ctx ≡ cond (is_well_known_member ctx (rec_of r)) (some (computed (rec_of r))) none
  unfolding key_expr_kind prop_name_by
  key_member e = expr-by (rec_of r) ctx x_member (rw e) ∙ rw e

  pub key_template : mark_of (rec_of r) ≡ mark "Te" → prop_name_from_expr (rec_of r) ctx ≡ cond (only_expression (kids_of (rec_of r))) (prop_name_from_expr (kid 0 (kids_of (rec_of r))) ctx) none
  unfolding key_expr_kind prop_name_by
  key_template e = expr-by (rec_of r) ctx x_tpl (rw e) ∙ only-name (kids_of (rec_of r)) ctx

  pub key_through : key_expr_kind (mark_of (rec_of r)) ≡ x_through → prop_name_from_expr (rec_of r) ctx ≡ prop_name_from_expr (kid 0 (kids_of (rec_of r))) ctx
  unfolding prop_name_by
  key_through e = expr-by (rec_of r) ctx x_through e ∙ first-name (kids_of (rec_of r)) ctx

  -- ---- `valid_prop_name`

  pub valid_stands : is "Kc" (rec_of r) ≡ false → valid_prop_name ctx (rec_of r) ≡ some (rec_of r)
  unfolding valid_prop_name
  valid_stands e = rw e

  pub valid_computed : is "Kc" (rec_of r) ≡ true → valid_prop_name ctx (rec_of r) ≡ prop_name_from_expr (kid 0 (kids_of (rec_of r))) ctx
  unfolding valid_prop_name
  valid_computed e = rw e (first-name (kids_of (rec_of r)) ctx)

-- ---- the marks of the literals that are keys, and of the expressions that are looked through

module _ (m : Mark) {k : ℕ} (r : number_of m ≡ k) where
  pub literal_kind : (m ≡ Ss) ⊎ ((m ≡ Nu) ⊎ (m ≡ Bi)) → key_expr_kind k ≡ x_lit
  unfolding key_expr_kind
  literal_kind (inl e) = rw (marked m r e)
  literal_kind (inr (inl e)) = rw (marked m r e)
  literal_kind (inr (inr e)) = rw (marked m r e)

  pub through_kind : Through m → key_expr_kind k ≡ x_through
  unfolding key_expr_kind
  through_kind (inl e) = rw (marked m r e)
  through_kind (inr (inl e)) = rw (marked m r e)
  through_kind (inr (inr (inl e))) = rw (marked m r e)
  through_kind (inr (inr (inr (inl e)))) = rw (marked m r e)
  through_kind (inr (inr (inr (inr (inl e))))) = rw (marked m r e)
  through_kind (inr (inr (inr (inr (inr e))))) = rw (marked m r e)

-- such an expression has a child, and a computed key too
first-there : (r : Record) {k : ℕ} → mark_of (rec_of r) ≡ k → eqb k (mark "Ag") ≡ false → (S : String) → fixed (slots_of k) 0 ≡ some S → 0 < count (kids_of (rec_of r))
first-there r {k} e n S f = omega (arith, (first_in _ _ _ (accepted r) k (mark_here r ∙ e) n S f).there, count_here r)

pub through_some : (m : Mark) (r : Record) → number_of m ≡ mark_of (rec_of r) → Through m → 0 < count (kids_of (rec_of r))
unfolding grammar known slots place fixed
through_some m r n (inl e) = first-there r (marked m n e) refl expression refl
through_some m r n (inr (inl e)) = first-there r (marked m n e) refl expression refl
through_some m r n (inr (inr (inl e))) = first-there r (marked m n e) refl expression refl
through_some m r n (inr (inr (inr (inl e)))) = first-there r (marked m n e) refl expression refl
through_some m r n (inr (inr (inr (inr (inl e))))) = first-there r (marked m n e) refl expression refl
through_some m r n (inr (inr (inr (inr (inr e))))) = first-there r (marked m n e) refl expression refl

pub computed_some : (r : Record) → mark_of (rec_of r) ≡ mark "Kc" → 0 < count (kids_of (rec_of r))
unfolding grammar known slots place fixed
computed_some r e = first-there r e refl expression refl

-- ---- the key that was found

-- in a child, where the record has the key of that child
pub key_of_child : (ctx : ℕ) {r x : Record} → ChildIs r 0 x → (a : Answer Key) {k : Option Rec} → KeyIs x a (prop_name_from_expr (rec_of x) ctx) → k ≡ prop_name_from_expr (kid 0 (kids_of (rec_of r))) ctx → KeyIs r a k
key_of_child ctx c None n e = e ∙ (ap (λ (j : Rec). prop_name_from_expr j ctx) (sym c.is) ∙ n)
key_of_child ctx c (Some key) f e = record {
  is = e ∙ (ap (λ (j : Rec). prop_name_from_expr j ctx) (sym c.is) ∙ f.is);
  tree = f.tree ∙ c.tree;
  place = omega (arith, f.place, c.behind_it);
  levels = omega (arith, f.levels, c.levels);
}

-- in the record itself
pub key_here : (key : Key) {k : Option Rec} → k ≡ some (key_of key) → KeyFound (record_of key) k key
key_here key e = record { is = e; tree = refl; place = omega arith; levels = omega arith }
