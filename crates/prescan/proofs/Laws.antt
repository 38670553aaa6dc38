-- What the definition of the prescan says of a record, by the mark that the code read.
use mathlib.Core.Path.{◌≡◌, refl, sym, ap, ◌∙◌}
use mathlib.Core.List.{List}
use mathlib.Core.Bool.{Bool, true, false, ◌&&◌}
use mathlib.Core.Logic.{◌⊎◌, inl, inr, ⊎_elim}
use Rattle.std.proofs.Math.Option.{some}
use Prim.Native.Nat.{ℕ, ◌<◌}
use Prim.Native.String.{String}
use native.Mathlib.Omega.{arith}
use lib.Dec.{eqb}
use borrow.Author.Tests.{eqb-true}
use Rattle.definition.specs.Tree.{Rec, Recs, rec, nil, cons, count}
use Rattle.definition.specs.Grammar.{mark, marks, member, type, expression, grammar, known, slots, place}
use Rattle.definition.specs.Check.{slots_of}
use Rattle.definition.specs.Record.{same_text, kids_of, mark_of, text_of, kid}
use Rattle.definition.specs.Prescan.{ArrayType, ArrayType.a_array, ArrayType.a_readonly, ArrayType.a_ref, ArrayType.a_other, array_type_kind, refers_to_array, is_array_type_by, is_array_type, first_is_array_type, ArrayInit, ArrayInit.i_array, ArrayInit.i_through, ArrayInit.i_as, ArrayInit.i_other, array_init_kind, is_array_lit_init_by, is_array_lit_init, first_is_array_lit_init, Question, Question.typeof_safe, Question.non_generic_class, Question.array_typed, add_class, add_const, named, add_declarator, Declared, Declared.d_fn, Declared.d_class, Declared.d_var, Declared.d_other, declared_kind, add_decl_by, add_fn, add_decl, add_item}
use Rattle.definition.proofs.Kids.{fixed, child_in, member-one}
use Rattle.records.specs.declared.marks.Mark.{Mark}
use Rattle.records.specs.declared.marks.Mark.TheVariants.{Ed, Xd, Fd, Cd, Vd, Fx, Cx, Ar, Pr, Tc, Ts, As, Ro, Rf, Ay, Tu}
use Rattle.records.specs.declared.tree.Record.{Record}
use Rattle.records.specs.declared.tree.Records.{Records}
use Rattle.records.specs.Marks.{number_of}
use Rattle.records.specs.Views.{rec_of, ChildrenOf, FirstOf, RestOf, ChildIs}
use Rattle.records.proofs.Records.{from_children, from_rest, child_is, enough, kid_marks}
use Rattle.records.proofs.SameMarks.{marked, not_marked}
use Rattle.records.proofs.Views.{accepted, mark_here, count_here}
use Rattle.index.specs.declared.Sets.{Sets}
use Rattle.index.specs.Index.{has}
use Rattle.prescan.specs.Decls.{Named, add_var}

-- In each module q says that m is the mark of the record r, as the code read it.

-- ---- children

-- a record with the mark m has the child that its row fixes by the number i: `has_kid r e refl i S refl`, with the line
-- `unfolding grammar known slots place fixed`
pub has_kid : (r : Record) {m : ℕ} → mark_of (rec_of r) ≡ m → eqb m (mark "Ag") ≡ false → (i : ℕ) (S : String) → fixed (slots_of m) i ≡ some S → i < count (kids_of (rec_of r))
has_kid r {m} e n i S f = omega (arith, (child_in r.levels r.tree.now r.at (accepted r) m (mark_here r ∙ e) n i S f).there, count_here r)

module _ {r : Record} {k : Records} (c : ChildrenOf r k) where
  pub first_child : 0 < count (kids_of (rec_of r)) → {x : Record} → FirstOf k x → ChildIs r 0 x
  first_child h f = child_is (from_children c) (omega (arith, c.many)) f

  pub second_child : 1 < count (kids_of (rec_of r)) → {l : Records} {x : Record} → RestOf k l → FirstOf l x → ChildIs r 1 x
  second_child h l f = child_is (from_rest (from_children c) (omega (arith, c.many)) l) (omega (arith, c.many, l.many)) f

-- ---- `is_array_type`

type-by : (r : Rec) → is_array_type r ≡ is_array_type_by (array_type_kind (mark_of r)) (kids_of r) (first_is_array_type (kids_of r))
unfolding is_array_type
type-by (rec h ks) = refl

first-type : (ks : Recs) → first_is_array_type ks ≡ is_array_type (kid 0 ks)
unfolding is_array_type first_is_array_type array_type_kind is_array_type_by
first-type nil = refl
first-type (cons r rs) = refl

type_of_kind : (r : Rec) (k : ArrayType) → array_type_kind (mark_of r) ≡ k → is_array_type r ≡ is_array_type_by k (kids_of r) (is_array_type (kid 0 (kids_of r)))
type_of_kind r k e =
    type-by r
    ∙ (ap (λ (b : Bool). is_array_type_by (array_type_kind (mark_of r)) (kids_of r) b) (first-type (kids_of r))
    ∙ ap (λ (j : ArrayType). is_array_type_by j (kids_of r) (is_array_type (kid 0 (kids_of r)))) e)

module _ (r : Record) {m : Mark} (q : number_of m ≡ mark_of (rec_of r)) where
  pub type_array : (m ≡ Ay) ⊎ (m ≡ Tu) → is_array_type (rec_of r) ≡ true
  unfolding array_type_kind is_array_type_by
  type_array h = type_of_kind (rec_of r) a_array (⊎_elim (λ (e : m ≡ Ay). rw (sym q, e)) (λ (e : m ≡ Tu). rw (sym q, e)) h)

  pub type_other : (m ≡ Ay → ⊥) → (m ≡ Tu → ⊥) → (m ≡ Ro → ⊥) → (m ≡ Rf → ⊥) → is_array_type (rec_of r) ≡ false
  unfolding array_type_kind is_array_type_by
  type_other a t o f = type_of_kind (rec_of r) a_other (rw (not_marked m q Ay a, not_marked m q Tu t, not_marked m q Ro o, not_marked m q Rf f))

  -- the type behind a `readonly`
  pub readonly_kid : m ≡ Ro → 0 < count (kids_of (rec_of r))
  unfolding grammar known slots place fixed
  readonly_kid e = has_kid r (marked m q e) refl 0 type refl

  pub type_readonly : m ≡ Ro → {x : Record} → ChildIs r 0 x → is_array_type (rec_of x) ≡ is_array_type (rec_of r)
  unfolding array_type_kind is_array_type_by
  type_readonly e x = ap is_array_type x.is ∙ sym (type_of_kind (rec_of r) a_readonly (rw (sym q, e)))

  -- the name of a reference
  pub ref_kid : m ≡ Rf → 0 < count (kids_of (rec_of r))
  unfolding grammar known slots place fixed
  ref_kid e = has_kid r (marked m q e) refl 0 "Id Op" refl

  pub type_ref : m ≡ Rf → {x : Record} → ChildIs r 0 x → refers_to_array (rec_of x) ≡ is_array_type (rec_of r)
  unfolding array_type_kind is_array_type_by
  type_ref e x = ap refers_to_array x.is ∙ sym (type_of_kind (rec_of r) a_ref (rw (sym q, e)))

-- ---- `is_array_lit_init`

init-by : (r : Rec) → is_array_lit_init r ≡ is_array_lit_init_by (array_init_kind (mark_of r)) (kids_of r) (first_is_array_lit_init (kids_of r))
unfolding is_array_lit_init
init-by (rec h ks) = refl

first-init : (ks : Recs) → first_is_array_lit_init ks ≡ is_array_lit_init (kid 0 ks)
unfolding is_array_lit_init first_is_array_lit_init array_init_kind is_array_lit_init_by
first-init nil = refl
first-init (cons r rs) = refl

init_of_kind : (r : Rec) (k : ArrayInit) → array_init_kind (mark_of r) ≡ k → is_array_lit_init r ≡ is_array_lit_init_by k (kids_of r) (is_array_lit_init (kid 0 (kids_of r)))
init_of_kind r k e =
    init-by r
    ∙ (ap (λ (b : Bool). is_array_lit_init_by (array_init_kind (mark_of r)) (kids_of r) b) (first-init (kids_of r))
    ∙ ap (λ (j : ArrayInit). is_array_lit_init_by j (kids_of r) (is_array_lit_init (kid 0 (kids_of r)))) e)

-- the marks of the expressions that are looked through
abbrev pub Through : Mark → Type 0
Through m = (m ≡ Pr) ⊎ ((m ≡ Tc) ⊎ (m ≡ Ts))

module _ (r : Record) {m : Mark} (q : number_of m ≡ mark_of (rec_of r)) where
  pub init_array : m ≡ Ar → is_array_lit_init (rec_of r) ≡ true
  unfolding array_init_kind is_array_lit_init_by
  init_array e = init_of_kind (rec_of r) i_array (rw (sym q, e))

  pub init_other : (m ≡ Ar → ⊥) → (m ≡ Pr → ⊥) → (m ≡ Tc → ⊥) → (m ≡ Ts → ⊥) → (m ≡ As → ⊥) → is_array_lit_init (rec_of r) ≡ false
  unfolding array_init_kind is_array_lit_init_by
  init_other a p c t s =
      init_of_kind (rec_of r) i_other (rw (not_marked m q Ar a, not_marked m q Pr p, not_marked m q Tc c, not_marked m q Ts t, not_marked m q As s))

  pub through_kid : Through m → 0 < count (kids_of (rec_of r))
  unfolding grammar known slots place fixed
  through_kid h = ⊎_elim
      (λ (e : m ≡ Pr). has_kid r (marked m q e) refl 0 expression refl)
      (⊎_elim (λ (e : m ≡ Tc). has_kid r (marked m q e) refl 0 expression refl) (λ (e : m ≡ Ts). has_kid r (marked m q e) refl 0 expression refl))
      h

  pub init_through : Through m → {x : Record} → ChildIs r 0 x → is_array_lit_init (rec_of x) ≡ is_array_lit_init (rec_of r)
  unfolding array_init_kind is_array_lit_init_by
  init_through h x =
      ap is_array_lit_init x.is
      ∙ sym (init_of_kind (rec_of r) i_through (⊎_elim (λ (e : m ≡ Pr). rw (sym q, e)) (⊎_elim (λ (e : m ≡ Tc). rw (sym q, e)) (λ (e : m ≡ Ts). rw (sym q, e))) h))

  -- the type of an As stands behind its expression
  pub as_kids : m ≡ As → 1 < count (kids_of (rec_of r))
  unfolding grammar known slots place fixed
  as_kids e = has_kid r (marked m q e) refl 1 type refl

  pub init_as : m ≡ As → {x : Record} → ChildIs r 1 x → is_array_type (rec_of x) ≡ is_array_lit_init (rec_of r)
  unfolding array_init_kind is_array_lit_init_by
  init_as e x = ap is_array_type x.is ∙ sym (init_of_kind (rec_of r) i_as (rw (sym q, e)))

-- ---- the sets to which a name is added

pub class_sets : (r : Rec) {plain : Bool} → plain ≡ add_class non_generic_class r → (q : Question) →
    has q (record { typeof_safe = true; non_generic_class = plain; array_typed = false }) ≡ add_class q r
class_sets r e typeof_safe = refl
class_sets r e non_generic_class = e
class_sets r e array_typed = refl

function_sets : (q : Question) → has q (record { typeof_safe = true; non_generic_class = false; array_typed = false }) ≡ add_fn q
function_sets typeof_safe = refl
function_sets non_generic_class = refl
function_sets array_typed = refl

pub const_sets : (t v : Rec) {safe array : Bool} → safe ≡ add_const typeof_safe t v → array ≡ add_const array_typed t v → (q : Question) →
    has q (record { typeof_safe = safe; non_generic_class = false; array_typed = array }) ≡ add_const q t v
const_sets t v x y typeof_safe = x
const_sets t v x y non_generic_class = refl
const_sets t v x y array_typed = y

-- ---- a declarator

module _ (r : Record) where
  pub declarator_other : eqb (mark_of (rec_of r)) (mark "Vr") ≡ false → (p : Question) (name : List ℕ) → add_declarator p name (rec_of r) ≡ false
  unfolding add_declarator
  declarator_other e p name = rw e

  -- its pattern is x
  module _ (e : eqb (mark_of (rec_of r)) (mark "Vr") ≡ true) {x : Record} (c : ChildIs r 0 x) where
    pub pattern_other : eqb (mark_of (rec_of x)) (mark "Bd") ≡ false → (p : Question) (name : List ℕ) → add_declarator p name (rec_of r) ≡ false
    unfolding add_declarator
    pattern_other f p name = rw (e, sym c.is, f)

    -- a name i with the type t, and the init v
    pub declarator_by : eqb (mark_of (rec_of x)) (mark "Bd") ≡ true → {i t v : Record} → ChildIs x 0 i → ChildIs x 1 t → ChildIs r 1 v →
        {sets : Sets} → ((p : Question) → has p sets ≡ add_const p (rec_of t) (rec_of v)) →
        (p : Question) (name : List ℕ) → add_declarator p name (rec_of r) ≡ (named name (rec_of i) && has p sets)
    unfolding add_declarator
    declarator_by f i t v s p name = rw (e, sym c.is, f, sym i.is, sym t.is, sym v.is, sym (s p))

-- the name of a Bd
pub ident_mark : (x : Record) → eqb (mark_of (rec_of x)) (mark "Bd") ≡ true → {i : Record} → ChildIs x 0 i → mark_of (rec_of i) ≡ mark "Id"
unfolding grammar known slots place fixed marks
ident_mark x f i = member-one _ _ (rw i.is (kid_marks x (eqb-true _ _ f) refl 0 "Id" refl))

pub named_is : (i : Rec) → mark_of i ≡ mark "Id" → (name : List ℕ) → named name i ≡ same_text (text_of i) name
named_is i e name = rw e

-- ---- a declaration

-- a function or a class has a name and what is named
pub named_kids : (r : Record) → Named (mark_of (rec_of r)) → 1 < count (kids_of (rec_of r))
named_kids r h = ⊎_elim
    (⊎_elim (λ e. enough r e) (λ e. enough r e))
    (⊎_elim (λ e. enough r e) (λ e. enough r e))
    h

-- which is an Fu or a Cl, and has a child
pub inner_kid : (r : Record) → Named (mark_of (rec_of r)) → {x : Record} → ChildIs r 1 x → 0 < count (kids_of (rec_of x))
unfolding grammar known slots place fixed marks
inner_kid r h {x} c = ⊎_elim
    (⊎_elim (λ e. fu (kid_marks r e refl 1 "Fu" refl)) (λ e. fu (kid_marks r e refl 1 "Fu" refl)))
    (⊎_elim (λ e. cl (kid_marks r e refl 1 "Cl" refl)) (λ e. cl (kid_marks r e refl 1 "Cl" refl)))
    h
  where
    fu : member (mark_of (kid 1 (kids_of (rec_of r)))) (marks "Fu") ≡ true → 0 < count (kids_of (rec_of x))
    fu e = let k = enough x (ap mark_of c.is ∙ member-one _ _ e) in omega arith

    cl : member (mark_of (kid 1 (kids_of (rec_of r)))) (marks "Cl") ≡ true → 0 < count (kids_of (rec_of x))
    cl e = enough x (ap mark_of c.is ∙ member-one _ _ e)

decl_of_kind : (r : Rec) (k : Declared) → declared_kind (mark_of r) ≡ k → (p : Question) (name : List ℕ) → add_decl p name r ≡ add_decl_by k p name r
decl_of_kind r k e p name = ap (λ (j : Declared). add_decl_by j p name r) e

module _ (r : Record) {m : Mark} (q : number_of m ≡ mark_of (rec_of r)) where
  pub fn_mark : (m ≡ Fd) ⊎ (m ≡ Fx) → Named (mark_of (rec_of r))
  fn_mark h = inl (⊎_elim (λ (e : m ≡ Fd). inl (marked m q e)) (λ (e : m ≡ Fx). inr (marked m q e)) h)

  pub class_mark : (m ≡ Cd) ⊎ (m ≡ Cx) → Named (mark_of (rec_of r))
  class_mark h = inr (⊎_elim (λ (e : m ≡ Cd). inl (marked m q e)) (λ (e : m ≡ Cx). inr (marked m q e)) h)

  pub decl_fn : (m ≡ Fd) ⊎ (m ≡ Fx) → (p : Question) (name : List ℕ) →
      add_decl p name (rec_of r) ≡ (named name (kid 0 (kids_of (rec_of r))) && has p (record { typeof_safe = true; non_generic_class = false; array_typed = false }))
  unfolding declared_kind add_decl_by
  decl_fn h p name = decl_of_kind (rec_of r) d_fn (⊎_elim (λ (e : m ≡ Fd). rw (sym q, e)) (λ (e : m ≡ Fx). rw (sym q, e)) h) p name ∙ rw (function_sets p)

  -- the class is x
  pub decl_class : (m ≡ Cd) ⊎ (m ≡ Cx) → {x : Record} → ChildIs r 1 x → {sets : Sets} → ((p : Question) → has p sets ≡ add_class p (rec_of x)) →
      (p : Question) (name : List ℕ) → add_decl p name (rec_of r) ≡ (named name (kid 0 (kids_of (rec_of r))) && has p sets)
  unfolding declared_kind add_decl_by
  decl_class h x s p name = decl_of_kind (rec_of r) d_class (⊎_elim (λ (e : m ≡ Cd). rw (sym q, e)) (λ (e : m ≡ Cx). rw (sym q, e)) h) p name ∙ rw (sym x.is, s p)

  pub cl_mark : (m ≡ Cd) ⊎ (m ≡ Cx) → {x : Record} → ChildIs r 1 x → mark_of (rec_of x) ≡ mark "Cl"
  unfolding grammar known slots place fixed marks
  cl_mark h x = ap mark_of x.is ∙ member-one _ _ (⊎_elim
      (λ (e : m ≡ Cd). kid_marks r (marked m q e) refl 1 "Cl" refl)
      (λ (e : m ≡ Cx). kid_marks r (marked m q e) refl 1 "Cl" refl)
      h)

  pub decl_var : m ≡ Vd → (p : Question) (name : List ℕ) → add_decl p name (rec_of r) ≡ add_var p name (rec_of r)
  unfolding declared_kind add_decl_by
  decl_var e = decl_of_kind (rec_of r) d_var (rw (sym q, e))

  pub decl_other : (m ≡ Fd → ⊥) → (m ≡ Fx → ⊥) → (m ≡ Cd → ⊥) → (m ≡ Cx → ⊥) → (m ≡ Vd → ⊥) → (p : Question) (name : List ℕ) → add_decl p name (rec_of r) ≡ false
  unfolding declared_kind add_decl_by
  decl_other fd fx cd cx vd =
      decl_of_kind (rec_of r) d_other (rw (not_marked m q Fd fd, not_marked m q Fx fx, not_marked m q Cd cd, not_marked m q Cx cx, not_marked m q Vd vd))

  -- ---- an item

  pub export_kid : (m ≡ Ed) ⊎ (m ≡ Xd) → 0 < count (kids_of (rec_of r))
  export_kid h = ⊎_elim (λ (e : m ≡ Ed). enough r (marked m q e)) (λ (e : m ≡ Xd). enough r (marked m q e)) h

  pub item_export : (m ≡ Ed) ⊎ (m ≡ Xd) → {x : Record} → ChildIs r 0 x → (p : Question) (name : List ℕ) → add_item p name (rec_of r) ≡ add_decl p name (rec_of x)
  item_export h x p name = rw (sym x.is) (⊎_elim (λ (e : m ≡ Ed). rw (sym q, e)) (λ (e : m ≡ Xd). rw (sym q, e)) h)
