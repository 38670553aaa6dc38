-- Whether `readonly_of` has an answer for the type of an expression: what is asked of the expression says it.
use mathlib.Core.Path.{◌≡◌, refl, sym, ap, ◌∙◌}
use mathlib.Core.List.{[]}
use mathlib.Core.Bool.{Bool, true, false, cond}
use mathlib.Core.Logic.{◌⊎◌, inl, inr}
use mathlib.Core.Option.{Option, none, some}
use Prim.Native.Nat.{ℕ, ◌≤◌, ◌<◌}
use native.Mathlib.Omega.{arith}
use Rattle.definition.specs.Tree.{Head, Rec, Recs, rec, nil, cons, count}
use Rattle.definition.specs.Grammar.{mark, marks, member, expression, grammar, known, slots, place}
use Rattle.definition.specs.Record.{head_of, kids_of, mark_of, is_no, ranged, kid, given, present, Out, pure, if_m}
use Rattle.definition.specs.Helpers.{lit_kind, object_freeze_call_arg}
use Rattle.definition.specs.Prescan.{PrescannedModuleIds}
use Rattle.definition.specs.Typing.{
  Frozen,
  f_type_lit,
  f_array,
  f_same,
  f_other,
  frozen_kind,
  plain_members,
  readonly_members,
  readonly_of_by,
  readonly_of,
  tuple_of,
  fn_type,
  Expr,
  x_array,
  x_object,
  x_lit,
  x_const,
  x_satisfies,
  x_as,
  x_fn,
  x_arrow,
  x_tpl,
  x_ident,
  x_unary,
  x_call,
  x_new,
  x_other,
  expr_kind,
  expr_by,
  Below,
  expr_to_ts_type,
  type_first,
  fn_second,
  fn_first,
  function_type,
}
use Rattle.definition.proofs.Kids.{fixed, first_in}
use Rattle.records.specs.declared.marks.Mark.{Mark}
use Rattle.records.specs.declared.marks.Mark.TheVariants.{Ar, Ob, Fx, Aw, Ca, Tc, Ts, Ay, Tu, Ro, Ft, Ct}
use Rattle.records.specs.declared.tree.Record.{Record}
use Rattle.records.specs.Marks.{number_of}
use Rattle.records.specs.Views.{rec_of, ChildIs}
use Rattle.records.proofs.Records.{enough}
use Rattle.records.proofs.SameMarks.{marked}
use Rattle.records.proofs.Views.{accepted, mark_here, count_here}
use Rattle.typing.specs.Parts.{type_has_readonly, has_readonly_by, has_readonly, first_has_readonly}
use Rattle.typing.proofs.ReadonlyLaws.{readonly_stays, lit-none, tpl_none, ident-none, minus-none, new_none, plain-props}
use Rattle.typing.proofs.LeafSteps.{is_leaf}

-- ---- the types that an expression may have

-- b says whether `readonly_of` has an answer, where v is a type
abbrev Tells : Option Rec → Bool → Type 0
Tells v b = (t : Rec) → v ≡ some t → type_has_readonly t ≡ b

tells_none : (b : Bool) → Tells none b
tells_none b t e = absurd (let z : ◌≡◌ {A = ℕ} 0 1 = cc in omega arith)

tells-some : (t : Rec) (b : Bool) → type_has_readonly t ≡ b → Tells (some t) b
tells-some t b q r e = let z : r ≡ t = cc in rw z q

tells_unknown : (v : Option Rec) → given v none readonly_of ≡ none → Tells v false
tells_unknown none e = tells_none false
tells_unknown (some t) e = tells-some t false (rw e)

tells-present : (t : Rec) → Tells (present t) (type_has_readonly t)
tells-present t = go (is_no t)
  where
    go : (b : Bool) → Tells (cond b none (some t)) (type_has_readonly t)
    go true = tells_none (type_has_readonly t)
    go false = tells-some t (type_has_readonly t) refl

tells-tuple : (h : Head) (r : Bool) (ts : Option Recs) → Tells (given ts none (λ ts. some (tuple_of h r ts))) true
unfolding readonly_of_by frozen_kind
tells-tuple h r none = tells_none true
tells-tuple h true (some ts) = tells-some (tuple_of h true ts) true refl
tells-tuple h false (some ts) = tells-some (tuple_of h false ts) true refl

tells-lit : (h : Head) (ms : Recs) → plain_members ms ≡ true → Tells (some (rec (ranged "Li" h []) ms)) true
unfolding readonly_of_by frozen_kind
tells-lit h ms p = tells-some (rec (ranged "Li" h []) ms) true (rw p)

tells-function : (h : Head) (ks ps : Recs) → Tells (some (fn_type h ks ps)) true
unfolding readonly_of_by frozen_kind
tells-function h ks ps = tells-some (fn_type h ks ps) true refl

-- what is readonly stays so
tells-frozen : (v : Option Rec) → Tells (given v none readonly_of) true
tells-frozen none = tells_none true
tells-frozen (some t) = λ r e. rw (readonly_stays t r e)

tells-call : (b : Bool) (f : ℕ → Out (Option Rec)) (n : ℕ) → Tells (if_m b (λ n. (given (f n).0 none readonly_of, (f n).1, (f n).2)) (pure none) n).0 true
tells-call true f n = tells-frozen (f n).0
tells-call false f n = tells_none true

-- ---- each kind of expression

module _ (ids : PrescannedModuleIds) (ctx : ℕ) where
  tells-fn : (ks : Recs) (n : ℕ) → Tells (fn_second ids ctx ks n).0 true
  unfolding fn_second fn_first function_type
  tells-fn nil n = tells_none true
  tells-fn (cons i nil) n = tells_none true
  tells-fn (cons i (cons (rec h ks) rs)) n = tells-function h ks _

  tells-by : (k : Expr) (h : Head) (ks : Recs) (c r : Bool) (below : Below) (n : ℕ) (first : Bool) → ((c r : Bool) → Tells (below.first c r n).0 first) → plain_members (below.props c r n).0 ≡ true
      → Tells (below.fn n).0 true → Tells (expr_by ids ctx k h ks c r below n).0 (has_readonly_by k ks first)
  unfolding expr_by has_readonly_by
  tells-by x_array h ks c r below n first f p g = tells-tuple h r (below.elements c r n).0
  tells-by x_object h ks c r below n first f p g = tells-lit h (below.props c r n).0 p
  tells-by x_lit h ks c r below n first f p g = tells_unknown _ (lit-none (lit_kind h.mark) (rec h ks) c)
  tells-by x_const h ks c r below n first f p g = f true true
  tells-by x_satisfies h ks c r below n first f p g = f c r
  tells-by x_as h ks c r below n first f p g = tells-present (kid 1 ks)
  tells-by x_fn h ks c r below n first f p g = g
  tells-by x_arrow h ks c r below n first f p g = tells-function h ks (below.params n).0
  tells-by x_tpl h ks c r below n first f p g = tells_unknown _ (tpl_none ks c)
  tells-by x_ident h ks c r below n first f p g = tells_unknown _ (ident-none ids ctx (rec h ks) c)
  tells-by x_unary h ks c r below n first f p g = tells_unknown _ (minus-none (lit_kind (mark_of (kid 0 ks))) (kid 0 ks) c)
  tells-by x_call h ks c r below n first f p g = tells-call (object_freeze_call_arg ctx ks) (below.second c r) n
  tells-by x_new h ks c r below n first f p g = tells_unknown _ (new_none ids ctx ks)
  tells-by x_other h ks c r below n first f p g = tells_none false

  -- of an expression that is typed: `readonly_of` its type has an answer just where `has_readonly` says so
  mutual
    unfolding expr_to_ts_type type_first has_readonly first_has_readonly

    pub has_readonly_lem : (e : Rec) (c r : Bool) (n : ℕ) (t : Rec) → (expr_to_ts_type ids ctx e c r n).0 ≡ some t → type_has_readonly t ≡ has_readonly e
    has_readonly_lem (rec h ks) c r n = tells-by (expr_kind h.mark) h ks c r _ n (first_has_readonly ks) (λ c r. first_has_readonly_lem ks c r n) (plain-props ids ctx ks c r n) (tells-fn ks n)

    first_has_readonly_lem : (ks : Recs) (c r : Bool) (n : ℕ) → Tells (type_first ids ctx ks c r n).0 (first_has_readonly ks)
    first_has_readonly_lem nil c r n = tells_none false
    first_has_readonly_lem (cons e es) c r n = has_readonly_lem e c r n

-- ---- by the mark, as the code asks

first-is : (ks : Recs) → first_has_readonly ks ≡ has_readonly (kid 0 ks)
unfolding first_has_readonly has_readonly has_readonly_by expr_kind marks member
first-is nil = refl
first-is (cons e es) = refl

leaf-by : (k : Expr) (ks : Recs) (first : Bool) → is_leaf k ≡ true → has_readonly_by k ks first ≡ false
unfolding has_readonly_by
leaf-by x_array ks first e = sym e
leaf-by x_object ks first e = sym e
leaf-by x_lit ks first e = refl
leaf-by x_const ks first e = absurd (let z : ◌≡◌ {A = ℕ} 0 1 = cc in omega arith)
leaf-by x_satisfies ks first e = absurd (let z : ◌≡◌ {A = ℕ} 0 1 = cc in omega arith)
leaf-by x_as ks first e = absurd (let z : ◌≡◌ {A = ℕ} 0 1 = cc in omega arith)
leaf-by x_fn ks first e = sym e
leaf-by x_arrow ks first e = sym e
leaf-by x_tpl ks first e = refl
leaf-by x_ident ks first e = refl
leaf-by x_unary ks first e = refl
leaf-by x_call ks first e = sym e
leaf-by x_new ks first e = refl
leaf-by x_other ks first e = refl

has_eta : (t : Rec) → has_readonly t ≡ has_readonly_by (expr_kind (mark_of t)) (kids_of t) (has_readonly (kid 0 (kids_of t)))
unfolding has_readonly
has_eta (rec h ks) = ap (has_readonly_by (expr_kind h.mark) ks) (first-is ks)

has-by : (t : Rec) (k : Expr) → expr_kind (mark_of t) ≡ k → has_readonly t ≡ has_readonly_by k (kids_of t) (has_readonly (kid 0 (kids_of t)))
has-by t k e = has_eta t ∙ ap (λ (k : Expr). has_readonly_by k (kids_of t) (has_readonly (kid 0 (kids_of t)))) e

-- the marks of the expressions whose type is readonly or can be, and of those that assert
abbrev pub Readonly : Mark → Type 0
Readonly m = (m ≡ Ar) ⊎ ((m ≡ Ob) ⊎ ((m ≡ Fx) ⊎ ((m ≡ Aw) ⊎ (m ≡ Ca))))

abbrev pub Asserts : Mark → Type 0
Asserts m = (m ≡ Tc) ⊎ (m ≡ Ts)

module _ (r : Record) where
  module _ {m : Mark} (n : number_of m ≡ mark_of (rec_of r)) where
    pub has_made : Readonly m → has_readonly (rec_of r) ≡ true
    unfolding has_readonly_by expr_kind marks member
    has_made (inl e) = has-by (rec_of r) x_array (rw (marked m n e))
    has_made (inr (inl e)) = has-by (rec_of r) x_object (rw (marked m n e))
    has_made (inr (inr (inl e))) = has-by (rec_of r) x_fn (rw (marked m n e))
    has_made (inr (inr (inr (inl e)))) = has-by (rec_of r) x_arrow (rw (marked m n e))
    has_made (inr (inr (inr (inr e)))) = has-by (rec_of r) x_call (rw (marked m n e))

    -- what a Tc or a Ts asserts
    pub asserted : Asserts m → 0 < count (kids_of (rec_of r))
    unfolding grammar known slots place fixed
    asserted (inl e) = omega (arith, (first_in _ _ _ (accepted r) (mark "Tc") (mark_here r ∙ marked m n e) refl expression refl).there, count_here r)
    asserted (inr e) = omega (arith, (first_in _ _ _ (accepted r) (mark "Ts") (mark_here r ∙ marked m n e) refl expression refl).there, count_here r)

    pub has_first : Asserts m → {x : Record} → ChildIs r 0 x → has_readonly (rec_of r) ≡ has_readonly (rec_of x)
    unfolding has_readonly_by expr_kind marks member
    has_first (inl e) x = has-by (rec_of r) x_const (rw (marked m n e)) ∙ ap has_readonly (sym x.is)
    has_first (inr e) x = has-by (rec_of r) x_satisfies (rw (marked m n e)) ∙ ap has_readonly (sym x.is)

  -- the type of an As
  pub typed : mark_of (rec_of r) ≡ mark "As" → 2 ≤ count (kids_of (rec_of r))
  typed e = enough r e

  pub has_as : mark_of (rec_of r) ≡ mark "As" → {y : Record} → ChildIs r 1 y → has_readonly (rec_of r) ≡ type_has_readonly (rec_of y)
  unfolding has_readonly_by expr_kind marks member
  has_as e y = has-by (rec_of r) x_as (rw e) ∙ ap type_has_readonly (sym y.is)

  pub has_none : is_leaf (expr_kind (mark_of (rec_of r))) ≡ true → has_readonly (rec_of r) ≡ false
  has_none e = has_eta (rec_of r) ∙ leaf-by (expr_kind (mark_of (rec_of r))) (kids_of (rec_of r)) _ e

-- ---- of a type, by its mark as the code asks

module _ (t : Rec) where
  has-kind : (k : Frozen) → frozen_kind (mark_of t) ≡ k → type_has_readonly t ≡ given (readonly_of_by k t) false (λ r. true)
  has-kind k e = ap (λ (k : Frozen). given (readonly_of_by k t) false (λ r. true)) e

  pub has_lit : mark_of t ≡ mark "Li" → type_has_readonly t ≡ plain_members (kids_of t)
  unfolding readonly_of_by frozen_kind
  has_lit e = has-kind f_type_lit (rw e) ∙ go (plain_members (kids_of t))
    where
      go : (b : Bool) → given (cond b (some (rec (head_of t) (readonly_members (kids_of t)))) none) false (λ r. true) ≡ b
      go true = refl
      go false = refl

  pub has_known : {m : Mark} → number_of m ≡ mark_of t → (m ≡ Ay) ⊎ ((m ≡ Tu) ⊎ ((m ≡ Ro) ⊎ ((m ≡ Ft) ⊎ (m ≡ Ct)))) → type_has_readonly t ≡ true
  unfolding readonly_of_by frozen_kind
  has_known {m} n (inl e) = has-kind f_array (rw (marked m n e))
  has_known {m} n (inr (inl e)) = has-kind f_array (rw (marked m n e))
  has_known {m} n (inr (inr (inl e))) = has-kind f_same (rw (marked m n e))
  has_known {m} n (inr (inr (inr (inl e)))) = has-kind f_same (rw (marked m n e))
  has_known {m} n (inr (inr (inr (inr e)))) = has-kind f_same (rw (marked m n e))

  pub has_other : frozen_kind (mark_of t) ≡ f_other → type_has_readonly t ≡ false
  unfolding readonly_of_by
  has_other e = has-kind f_other e
