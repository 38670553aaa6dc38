-- Where the types of expressions are those of the handbook: const assertions, literal inference, written types.
use mathlib.Core.Path.{◌≡◌, refl, sym, ap, ◌∙◌}
use mathlib.Core.List.{List, [], ◌∷◌, ◌++◌}
use mathlib.Core.Bool.{Bool, true, false, cond, ◌&&◌, ◌||◌}
use mathlib.Core.Option.{Option, none, some}
use mathlib.Core.Logic.{◌⊎◌, inl, inr, ⊎_elim}
use Prim.Native.Nat.{ℕ}
use native.Mathlib.Omega.{arith}
use lib.Dec.{eqb}
use borrow.Author.Tests.{eqb-true, eq-eqb}
use Rattle.definition.specs.Tree.{Head, Rec, Recs, rec, nil, cons, le4}
use Rattle.definition.specs.Grammar.{mark, marks, member}
use Rattle.definition.specs.Record.{text, same_text, head_of, kids_of, mark_of, text_of, is, fresh, ranged, has1, kid, one, given, Out}
use Rattle.definition.specs.Helpers.{no_exprs, tpl_to_ts_type, Lit, l_str, l_bool, l_null, l_num, l_big_int, l_jsx_text, lit_kind, maybe_lit_to_ts_type}
use Rattle.definition.specs.Prescan.{PrescannedModuleIds}
use Rattle.definition.specs.Typing.{
  turned,
  turned_integer,
  minus_by,
  e_expr,
  e_op,
  element_kind,
  element_by,
  key_kind,
  key_expr,
  key_flag,
  key_value,
  prop_kind,
  prop_by,
  x_array,
  x_object,
  x_lit,
  x_tpl,
  x_other,
  Expr,
  x_unary,
  expr_kind,
  expr_by,
  expr_to_ts_type,
  type_first,
  type_second,
  elements,
  props,
  prop,
}
use Rattle.definition.proofs.Silence.{const-is}
use Rattle.definition.specs.Handbook.{
  readonly_tuple,
  object_type,
  literal_type,
  tuple_element,
  property_key,
  property,
  only_ops,
  plain_template,
  negated_number,
  negated_integer,
  valued,
  negated_literal,
  negated_keyword,
  Literal,
  h_string,
  h_number,
  h_integer,
  h_boolean,
  h_null,
  h_negated,
  h_template,
  h_array,
  h_object,
  h_else,
  literal_kind,
  type_by,
  literal_expr,
  element_types,
  member_types,
  member_type,
  second_type,
  first_type,
  const_type,
  widened_type,
  variable_type,
}
use Rattle.definition.proofs.Tests.{and-true}

-- ---- the marks of the fragment

abbrev code_of : Literal → ℕ
code_of h_string = mark "Ss"
code_of h_number = mark "Nu"
code_of h_integer = mark "Bi"
code_of h_boolean = mark "Bl"
code_of h_null = mark "Nl"
code_of h_negated = mark "Mi"
code_of h_template = mark "Te"
code_of h_array = mark "Ar"
code_of h_object = mark "Ob"
code_of h_else = 0

-- a kind says its mark, but for h_else
kind-mark : (m : ℕ) → (literal_kind m ≡ h_else) ⊎ (m ≡ code_of (literal_kind m))
unfolding literal_kind
kind-mark m =
    step h_string _ (step h_number _ (step h_integer _ (step h_boolean _ (step h_null _ (step h_negated _ (step h_template _ (step h_array _ (step h_object h_else (inl refl)))))))))
  where
    step : (k rest : Literal) → (rest ≡ h_else) ⊎ (m ≡ code_of rest) → (cond (eqb m (code_of k)) k rest ≡ h_else) ⊎ (m ≡ code_of (cond (eqb m (code_of k)) k rest))
    step k rest p = go (eqb m (code_of k)) refl
      where
        go : (b : Bool) → eqb m (code_of k) ≡ b → (cond (eqb m (code_of k)) k rest ≡ h_else) ⊎ (m ≡ code_of (cond (eqb m (code_of k)) k rest))
        go true e = rw e (inr (eqb-true m (code_of k) e))
        go false e = rw e p

mark_of_lem : (m : ℕ) (k : Literal) → literal_kind m ≡ k → (k ≡ h_else → ⊥) → m ≡ code_of k
mark_of_lem m k e n = ⊎_elim (λ q. absurd (n (sym e ∙ q))) (λ q. q ∙ ap code_of e) (kind-mark m)

-- ---- options

pub no_some : {A : Type 0} {a : A} {B : Type 0} → ◌≡◌ {A = Option A} none (some a) → B
no_some e = absurd (let z : ◌≡◌ {A = ℕ} 0 1 = cc in omega arith)

-- a value that was given
pub given-some : {A B : Type 0} (o : Option A) (f : A → Option B) (b : B) → given o none f ≡ some b → (a : A) × (o ≡ some a) × (f a ≡ some b)
given-some none f b e = no_some e
given-some (some a) f b e = (a, refl, e)

cond-some : {A : Type 0} (x : Bool) (o : Option A) (a : A) → cond x o none ≡ some a → (x ≡ true) × (o ≡ some a)
cond-some true o a e = (refl, e)
cond-some false o a e = no_some e

-- ---- negated literals

number_agrees : (x y : List ℕ) → negated_number x ≡ some y → turned x ≡ y
unfolding negated_number turned
number_agrees [] y e = no_some e
number_agrees (a ∷ []) y e = cc
number_agrees (a ∷ b ∷ bs) y e =
    let g = given-some (negated_number (b ∷ bs)) (λ cs. some (a ∷ cs)) y e in
    let p : turned (b ∷ bs) ≡ g.0 = number_agrees (b ∷ bs) g.0 g.1 in
    let q : some (a ∷ g.0) ≡ some y = g.2 in
    cc

integer_agrees : (x y : List ℕ) → negated_integer x ≡ some y → turned_integer x ≡ y
unfolding negated_integer turned_integer
integer_agrees [] y e = no_some e
integer_agrees (s ∷ ds) y e = go (same_text ds (text "0")) (eqb s 1) refl refl
  where
    go : (a b : Bool) → same_text ds (text "0") ≡ a → eqb s 1 ≡ b → cond (same_text ds (text "0")) (0 ∷ ds) (cond (eqb s 1) (0 ∷ ds) (1 ∷ ds)) ≡ y
    go true b p q = rw p (let z : some (0 ∷ ds) ≡ some y = rw p at e in cc)
    go false true p q = rw (p, q) (let z : some (0 ∷ ds) ≡ some y = rw (p, q) at e in cc)
    go false false p q = rw (p, q) (let z : some (1 ∷ ds) ≡ some y = rw (p, q) at e in cc)

lit-number : (m : ℕ) → m ≡ mark "Nu" → lit_kind m ≡ l_num
unfolding lit_kind
lit-number m e = rw e

lit-integer : (m : ℕ) → m ≡ mark "Bi" → lit_kind m ≡ l_big_int
unfolding lit_kind
lit-integer m e = rw e

-- a literal with a value that was given
valued-some : (l t : Rec) (o : Option (List ℕ)) (v : List ℕ) → ((x : List ℕ) → o ≡ some x → v ≡ x) →
    given (given o none (λ x. some (valued l x))) none (λ l. some (literal_type l)) ≡ some t → ◌≡◌ {A = Option Rec} (some (literal_type (valued l v))) (some t)
valued-some l t none v f e = no_some e
valued-some l t (some x) v f e = ap {B = Option Rec} (λ (z : List ℕ). some (literal_type (valued l z))) (f x refl) ∙ e

minus-const : (l t : Rec) → given (negated_literal l) none (λ l. some (literal_type l)) ≡ some t → minus_by (lit_kind (mark_of l)) l true ≡ some t
unfolding negated_literal minus_by
minus-const l t e = go (is "Nu" l) (is "Bi" l) refl refl
  where
    go : (a b : Bool) → is "Nu" l ≡ a → is "Bi" l ≡ b → minus_by (lit_kind (mark_of l)) l true ≡ some t
    go true b p q =
        rw (lit-number (mark_of l) (eqb-true _ _ p))
        (valued-some l t (negated_number (text_of l)) (turned (text_of l)) (number_agrees (text_of l)) (rw p at e))
    go false true p q =
        rw (lit-integer (mark_of l) (eqb-true _ _ q))
        (valued-some l t (negated_integer (text_of l)) (turned_integer (text_of l)) (integer_agrees (text_of l)) (rw (p, q) at e))
    go false false p q = no_some (rw (p, q) at e)

minus_widened : (l t : Rec) → negated_keyword l ≡ some t → minus_by (lit_kind (mark_of l)) l false ≡ some t
unfolding negated_keyword minus_by
minus_widened l t e = go (is "Nu" l) (is "Bi" l) refl refl
  where
    go : (a b : Bool) → is "Nu" l ≡ a → is "Bi" l ≡ b → minus_by (lit_kind (mark_of l)) l false ≡ some t
    go true b p q = rw (lit-number (mark_of l) (eqb-true _ _ p)) (rw p at e)
    go false true p q = rw (lit-integer (mark_of l) (eqb-true _ _ q)) (rw (p, q) at e)
    go false false p q = no_some (rw (p, q) at e)

-- ---- templates

ops_no_exprs : (rs : Recs) → only_ops rs ≡ true → no_exprs rs ≡ true
unfolding only_ops no_exprs
ops_no_exprs nil e = refl
ops_no_exprs (cons r rs) e =
    let p = and-true (is "Op" r) (only_ops rs) e in
    let o : is "Op" r ≡ true = p.0 in
    rw (o, ops_no_exprs rs p.1) (or_true (is "Qu" r))
  where
    or_true : (a : Bool) → ((a || true) && true) ≡ true
    or_true true = refl
    or_true false = refl

template-const : (ks : Recs) (x : List ℕ) → plain_template ks ≡ some x → tpl_to_ts_type ks true ≡ literal_type (rec (fresh "Ss" 0 x) nil)
unfolding plain_template tpl_to_ts_type no_exprs
template-const nil x e = no_some e
template-const (cons q ops) x e =
    let c = cond-some ((is "Qu" q && has1 (head_of q)) && only_ops ops) (some (text_of q)) x e in
    let p = and-true (is "Qu" q && has1 (head_of q)) (only_ops ops) c.0 in
    let r = and-true (is "Qu" q) (has1 (head_of q)) p.0 in
    let a : is "Qu" q ≡ true = r.0 in
    let b : has1 (head_of q) ≡ true = r.1 in
    let v : some (text_of q) ≡ some x = c.1 in
    rw (a, b, ops_no_exprs ops p.1) (ap {B = Rec} (λ (z : List ℕ). literal_type (rec (fresh "Ss" 0 z) nil)) cc)

-- ---- the kinds of the transform, for the marks of the fragment

abbrev expr_of : Literal → Expr
expr_of h_string = x_lit
expr_of h_number = x_lit
expr_of h_integer = x_lit
expr_of h_boolean = x_lit
expr_of h_null = x_lit
expr_of h_negated = x_unary
expr_of h_template = x_tpl
expr_of h_array = x_array
expr_of h_object = x_object
expr_of h_else = x_other

abbrev lit_of : Literal → Lit
lit_of h_string = l_str
lit_of h_number = l_num
lit_of h_integer = l_big_int
lit_of h_boolean = l_bool
lit_of h_null = l_null
lit_of h_negated = l_jsx_text
lit_of h_template = l_jsx_text
lit_of h_array = l_jsx_text
lit_of h_object = l_jsx_text
lit_of h_else = l_jsx_text

-- a kind of the handbook that is met: all but h_else
abbrev Met : Literal → Type 0
Met k = k ≡ h_else → ⊥

expr_of_lem : (k : Literal) → Met k → expr_kind (code_of k) ≡ expr_of k
unfolding expr_kind marks member
expr_of_lem h_string n = refl
expr_of_lem h_number n = refl
expr_of_lem h_integer n = refl
expr_of_lem h_boolean n = refl
expr_of_lem h_null n = refl
expr_of_lem h_negated n = refl
expr_of_lem h_template n = refl
expr_of_lem h_array n = refl
expr_of_lem h_object n = refl
expr_of_lem h_else n = absurd (n refl)

lit_of_lem : (k : Literal) → lit_kind (code_of k) ≡ lit_of k
unfolding lit_kind
lit_of_lem h_string = refl
lit_of_lem h_number = refl
lit_of_lem h_integer = refl
lit_of_lem h_boolean = refl
lit_of_lem h_null = refl
lit_of_lem h_negated = refl
lit_of_lem h_template = refl
lit_of_lem h_array = refl
lit_of_lem h_object = refl
lit_of_lem h_else = refl

element_of_lem : (k : Literal) → element_kind (code_of k) ≡ e_expr
unfolding element_kind
element_of_lem h_string = refl
element_of_lem h_number = refl
element_of_lem h_integer = refl
element_of_lem h_boolean = refl
element_of_lem h_null = refl
element_of_lem h_negated = refl
element_of_lem h_template = refl
element_of_lem h_array = refl
element_of_lem h_object = refl
element_of_lem h_else = refl

-- no kind but h_else is h_else
met : (k : Literal) → (k ≡ h_else) ⊎ Met k
met h_string = inr (λ e. let z : ◌≡◌ {A = ℕ} 0 1 = cc in omega arith)
met h_number = inr (λ e. let z : ◌≡◌ {A = ℕ} 0 1 = cc in omega arith)
met h_integer = inr (λ e. let z : ◌≡◌ {A = ℕ} 0 1 = cc in omega arith)
met h_boolean = inr (λ e. let z : ◌≡◌ {A = ℕ} 0 1 = cc in omega arith)
met h_null = inr (λ e. let z : ◌≡◌ {A = ℕ} 0 1 = cc in omega arith)
met h_negated = inr (λ e. let z : ◌≡◌ {A = ℕ} 0 1 = cc in omega arith)
met h_template = inr (λ e. let z : ◌≡◌ {A = ℕ} 0 1 = cc in omega arith)
met h_array = inr (λ e. let z : ◌≡◌ {A = ℕ} 0 1 = cc in omega arith)
met h_object = inr (λ e. let z : ◌≡◌ {A = ℕ} 0 1 = cc in omega arith)
met h_else = inl refl

-- ---- agreement

answered : {x : Option Rec} {t : Rec} (n : ℕ) → x ≡ some t → ◌≡◌ {A = Out (Option Rec)} (x, [], n) (some t, [], n)
answered n e = ap {B = Out (Option Rec)} (λ (z : Option Rec). (z, [], n)) e

else_type : (c : Bool) (e : Rec) (es ms : Option Recs) → type_by h_else c e es ms ≡ none
unfolding type_by
else_type true e es ms = refl
else_type false e es ms = refl

op-element : (m : ℕ) → m ≡ mark "Op" → element_kind m ≡ e_op
unfolding element_kind
op-element m e = rw e

-- an expression of the fragment is an element, and no Op
typed-element : (e : Rec) (c : Bool) (t : Rec) → literal_expr e c ≡ some t → element_kind (mark_of e) ≡ e_expr
unfolding literal_expr
typed-element (rec h ks) c t p =
    ⊎_elim (λ e. no_some (sym (else_type c (rec h ks) (element_types ks c) (member_types ks c)) ∙ (rw e at p)))
    (λ m. ap element_kind (mark_of_lem h.mark (literal_kind h.mark) refl m) ∙ element_of_lem (literal_kind h.mark)) (met (literal_kind h.mark))

-- the key of a property
key_agrees : (k key : Rec) → property_key k ≡ some key → (key_expr (key_kind (mark_of k)) k ≡ key) × (key_flag (key_kind (mark_of k)) ≡ 0)
unfolding property_key key_kind key_expr
key_agrees k key p = go (is "Ki" k) (is "Ss" k) refl refl
  where
    go : (a b : Bool) → is "Ki" k ≡ a → is "Ss" k ≡ b → (key_expr (key_kind (mark_of k)) k ≡ key) × (key_flag (key_kind (mark_of k)) ≡ 0)
    go true b e f = rw e (let z : some (rec (ranged "Id" (head_of k) (le4 0 ++ text_of k)) nil) ≡ some key = rw e at p in (cc, refl))
    go false true e f = rw (e, f) (let z : some k ≡ some key = rw (e, f) at p in (cc, refl))
    go false false e f = no_some (rw (e, f) at p)

module _ (ids : PrescannedModuleIds) (ctx : ℕ) where
  module _ (h : Head) (ks : Recs) (n : ℕ) (t : Rec) where
    expr_by_lem : (k : Literal) (c : Bool) → expr_kind h.mark ≡ expr_of k → lit_kind h.mark ≡ lit_of k →
        ((ts : Recs) → element_types ks c ≡ some ts → elements ids ctx ks c c n ≡ (some ts, [], n)) →
        ((ms : Recs) → member_types ks c ≡ some ms → props ids ctx ks c c n ≡ (ms, [], n)) →
        type_by k c (rec h ks) (element_types ks c) (member_types ks c) ≡ some t → expr_to_ts_type ids ctx (rec h ks) c c n ≡ (some t, [], n)
    unfolding expr_to_ts_type expr_by type_by maybe_lit_to_ts_type tpl_to_ts_type
    expr_by_lem h_string true e l f g p = rw (e, l) (answered n p)
    expr_by_lem h_number true e l f g p = rw (e, l) (answered n p)
    expr_by_lem h_integer true e l f g p = rw (e, l) (answered n p)
    expr_by_lem h_boolean true e l f g p = rw (e, l) (answered n p)
    expr_by_lem h_null true e l f g p = rw (e, l) (answered n p)
    expr_by_lem h_negated true e l f g p = rw e (answered n (minus-const (kid 0 ks) t p))
    expr_by_lem h_template true e l f g p =
        let x = given-some (plain_template ks) (λ x. some (literal_type (rec (fresh "Ss" 0 x) nil))) t p in
        rw (e, template-const ks x.0 x.1) (answered n x.2)
    expr_by_lem h_array true e l f g p =
        let x = given-some (element_types ks true) (λ ts. some (readonly_tuple h ts)) t p in
        rw (e, f x.0 x.1) (answered n x.2)
    expr_by_lem h_object true e l f g p =
        let x = given-some (member_types ks true) (λ ms. some (object_type h ms)) t p in
        rw (e, g x.0 x.1) (answered n x.2)
    expr_by_lem h_else true e l f g p = no_some p
    expr_by_lem h_string false e l f g p = rw (e, l) (answered n p)
    expr_by_lem h_number false e l f g p = rw (e, l) (answered n p)
    expr_by_lem h_integer false e l f g p = rw (e, l) (answered n p)
    expr_by_lem h_boolean false e l f g p = rw (e, l) (answered n p)
    expr_by_lem h_null false e l f g p = rw (e, l) (answered n p)
    expr_by_lem h_negated false e l f g p = rw e (answered n (minus_widened (kid 0 ks) t p))
    expr_by_lem h_template false e l f g p = rw e (answered n p)
    expr_by_lem h_array false e l f g p = no_some p
    expr_by_lem h_object false e l f g p =
        let x = given-some (member_types ks false) (λ ms. some (object_type h ms)) t p in
        rw (e, g x.0 x.1) (answered n x.2)
    expr_by_lem h_else false e l f g p = no_some p

    expr_at : (c : Bool) → ((ts : Recs) → element_types ks c ≡ some ts → elements ids ctx ks c c n ≡ (some ts, [], n)) →
        ((ms : Recs) → member_types ks c ≡ some ms → props ids ctx ks c c n ≡ (ms, [], n)) → literal_expr (rec h ks) c ≡ some t →
        expr_to_ts_type ids ctx (rec h ks) c c n ≡ (some t, [], n)
    unfolding literal_expr
    expr_at c f g p = ⊎_elim (λ e. no_some (else_none e)) (λ m. at m) (met (literal_kind h.mark))
      where
        else_none : literal_kind h.mark ≡ h_else → none ≡ some t
        else_none e = sym (else_type c (rec h ks) (element_types ks c) (member_types ks c)) ∙ (rw e at p)

        at : Met (literal_kind h.mark) → expr_to_ts_type ids ctx (rec h ks) c c n ≡ (some t, [], n)
        at m =
            let q : h.mark ≡ code_of (literal_kind h.mark) = mark_of_lem h.mark (literal_kind h.mark) refl m in
            expr_by_lem (literal_kind h.mark) c (ap expr_kind q ∙ expr_of_lem (literal_kind h.mark) m) (ap lit_kind q ∙ lit_of_lem (literal_kind h.mark)) f g p

  -- an element, then others
  element-at : (e : Rec) (es : Recs) (c : Bool) (n : ℕ) (ts : Recs) → ((t : Rec) → literal_expr e c ≡ some t → expr_to_ts_type ids ctx e c c n ≡ (some t, [], n)) →
      ((ts : Recs) → element_types es c ≡ some ts → elements ids ctx es c c n ≡ (some ts, [], n)) → element_types (cons e es) c ≡ some ts →
      elements ids ctx (cons e es) c c n ≡ (some ts, [], n)
  unfolding element_types elements element_by
  element-at e es c n ts f g p = go (is "Op" e) (literal_expr e c) (element_types es c) refl refl refl
    where
      go : (b : Bool) (x : Option Rec) (y : Option Recs) → is "Op" e ≡ b → literal_expr e c ≡ x → element_types es c ≡ y →
          elements ids ctx (cons e es) c c n ≡ (some ts, [], n)
      go true x y o q s = rw (op-element (mark_of e) (eqb-true _ _ o)) (g ts (rw o at p))
      go false none y o q s = no_some (rw (o, q) at p)
      go false (some t) none o q s = no_some (rw (o, q, s) at p)
      go false (some t) (some us) o q s =
          let z : some (cons (tuple_element t) us) ≡ some ts = rw (o, q, s) at p in
          rw (typed-element e c t q, f t q, g us s) (ap {B = Out (Option Recs)} (λ (v : Option Recs). (v, [], n)) z)

  -- a property, then others
  op-prop : (p : Rec) → mark_of p ≡ mark "Op" → (c r : Bool) (n : ℕ) → prop ids ctx p c r n ≡ (nil, [], n)
  unfolding prop prop_by prop_kind
  op-prop (rec h ks) e c r n = rw e

  value-at : (ks : Recs) (c : Bool) (n : ℕ) (k v : Rec) → property_key (kid 0 ks) ≡ some k → type_second ids ctx ks c c n ≡ (some v, [], n) →
      key_value ks c (type_second ids ctx ks c c n) ≡ (one (property c k v), [], n)
  value-at ks c n k v p q = go c
    where
      a : key_expr (key_kind (mark_of (kid 0 ks))) (kid 0 ks) ≡ k
      a = (key_agrees (kid 0 ks) k p).0

      b : key_flag (key_kind (mark_of (kid 0 ks))) ≡ 0
      b = (key_agrees (kid 0 ks) k p).1

      go : (d : Bool) → key_value ks d (type_second ids ctx ks c c n) ≡ (one (property d k v), [], n)
      go true = rw (q, a, b)
      go false = rw (q, a, b)

  member-at : (p : Rec) (c : Bool) (n : ℕ) (m : Rec) → ((v : Rec) → second_type (kids_of p) c ≡ some v → type_second ids ctx (kids_of p) c c n ≡ (some v, [], n)) →
      member_type p c ≡ some m → prop ids ctx p c c n ≡ (one m, [], n)
  unfolding member_type prop prop_by prop_kind
  member-at (rec h ks) c n m f p =
      let x = given-some (cond (eqb h.mark (mark "Kv")) (property_key (kid 0 ks)) none) (λ k. given (second_type ks c) none (λ t. some (property c k t))) m p in
      let y = cond-some (eqb h.mark (mark "Kv")) (property_key (kid 0 ks)) x.0 x.1 in
      let z = given-some (second_type ks c) (λ t. some (property c x.0 t)) m x.2 in
      let kv : eqb h.mark (mark "Kv") ≡ true = y.0 in
      let w : some (property c x.0 z.0) ≡ some m = z.2 in
      rw kv (value-at ks c n x.0 z.0 y.1 (f z.0 z.1) ∙ ap {B = Out Recs} (λ (v : Rec). (one v, [], n)) cc)

  members-at : (p : Rec) (ps : Recs) (c : Bool) (n : ℕ) (ms : Recs) → ((m : Rec) → member_type p c ≡ some m → prop ids ctx p c c n ≡ (one m, [], n)) →
      ((ms : Recs) → member_types ps c ≡ some ms → props ids ctx ps c c n ≡ (ms, [], n)) → member_types (cons p ps) c ≡ some ms →
      props ids ctx (cons p ps) c c n ≡ (ms, [], n)
  unfolding member_types props
  members-at p ps c n ms f g e = go (is "Op" p) (member_type p c) (member_types ps c) refl refl refl
    where
      go : (b : Bool) (x : Option Rec) (y : Option Recs) → is "Op" p ≡ b → member_type p c ≡ x → member_types ps c ≡ y →
          props ids ctx (cons p ps) c c n ≡ (ms, [], n)
      go true x y o q s = rw (op-prop p (eqb-true _ _ o) c c n) (g ms (rw o at e))
      go false none y o q s = no_some (rw (o, q) at e)
      go false (some m) none o q s = no_some (rw (o, q, s) at e)
      go false (some m) (some us) o q s =
          let z : some (cons m us) ≡ some ms = rw (o, q, s) at e in
          rw (f m q, g us s) (ap {B = Out Recs} (λ (v : Recs). (v, [], n)) cc)

  mutual
    unfolding literal_expr expr_to_ts_type

    -- where the handbook gives a type to an expression, typing gives it the same, with no diagnostic: as_const and as_readonly both on is a const
    -- assertion, both off is what can be changed
    pub literal_agrees : (e : Rec) (c : Bool) (n : ℕ) (t : Rec) → literal_expr e c ≡ some t → expr_to_ts_type ids ctx e c c n ≡ (some t, [], n)
    literal_agrees (rec h ks) c n t p = expr_at h ks n t c (λ ts q. elements-agree ks c n ts q) (λ ms q. members-agree ks c n ms q) p

    elements-agree : (es : Recs) (c : Bool) (n : ℕ) (ts : Recs) → element_types es c ≡ some ts → elements ids ctx es c c n ≡ (some ts, [], n)
    elements-agree nil c n ts p = ap {B = Out (Option Recs)} (λ (z : Option Recs). (z, [], n)) p
    elements-agree (cons e es) c n ts p = element-at e es c n ts (λ t q. literal_agrees e c n t q) (λ ts q. elements-agree es c n ts q) p

    members-agree : (ps : Recs) (c : Bool) (n : ℕ) (ms : Recs) → member_types ps c ≡ some ms → props ids ctx ps c c n ≡ (ms, [], n)
    members-agree nil c n ms p = ap {B = Out Recs} (λ (z : Recs). (z, [], n)) cc
    members-agree (cons p ps) c n ms q = members-at p ps c n ms (λ m s. member_agrees p c n m s) (λ ms s. members-agree ps c n ms s) q

    member_agrees : (p : Rec) (c : Bool) (n : ℕ) (m : Rec) → member_type p c ≡ some m → prop ids ctx p c c n ≡ (one m, [], n)
    member_agrees (rec h ks) c n m q = member-at (rec h ks) c n m (λ v s. second_agrees ks c n v s) q

    second_agrees : (ks : Recs) (c : Bool) (n : ℕ) (v : Rec) → second_type ks c ≡ some v → type_second ids ctx ks c c n ≡ (some v, [], n)
    second_agrees nil c n v q = no_some q
    second_agrees (cons k vs) c n v q = first_agrees vs c n v q

    first_agrees : (ks : Recs) (c : Bool) (n : ℕ) (v : Rec) → first_type ks c ≡ some v → type_first ids ctx ks c c n ≡ (some v, [], n)
    first_agrees nil c n v q = no_some q
    first_agrees (cons e es) c n v q = literal_agrees e c n v q

  -- "const assertions": `e as const` has the type that the handbook gives it, wherever it stands
  pub const_agrees : (h : Head) (e t : Rec) (ops : Recs) (c r : Bool) (n : ℕ) → h.mark ≡ mark "Tc" → const_type e ≡ some t →
      expr_to_ts_type ids ctx (rec h (cons e ops)) c r n ≡ (some t, [], n)
  const_agrees h e t ops c r n m p = const-is ids ctx h e ops c r n m ∙ literal_agrees e true n t p

  -- "Literal Inference": a class property, or a parameter, with the initial value e
  pub widened_agrees : (e t : Rec) (n : ℕ) → widened_type e ≡ some t → expr_to_ts_type ids ctx e false false n ≡ (some t, [], n)
  widened_agrees e t n p = literal_agrees e false n t p

  -- as_readonly changes nothing for what is neither an array nor an object
  flat-by : (k : Literal) (h : Head) (ks : Recs) (n : ℕ) (t : Rec) → expr_kind h.mark ≡ expr_of k → (k ≡ h_object → ⊥) →
      type_by k false (rec h ks) (element_types ks false) (member_types ks false) ≡ some t →
      expr_to_ts_type ids ctx (rec h ks) false true n ≡ expr_to_ts_type ids ctx (rec h ks) false false n
  unfolding expr_to_ts_type expr_by type_by
  flat-by h_string h ks n t e f p = rw e
  flat-by h_number h ks n t e f p = rw e
  flat-by h_integer h ks n t e f p = rw e
  flat-by h_boolean h ks n t e f p = rw e
  flat-by h_null h ks n t e f p = rw e
  flat-by h_negated h ks n t e f p = rw e
  flat-by h_template h ks n t e f p = rw e
  flat-by h_array h ks n t e f p = no_some p
  flat-by h_object h ks n t e f p = absurd (f refl)
  flat-by h_else h ks n t e f p = no_some p

  -- a variable of `let` with the initial value e, which is no object
  pub let_agrees : (e t : Rec) (n : ℕ) → is "Ob" e ≡ false → variable_type false e ≡ some t → expr_to_ts_type ids ctx e false true n ≡ (some t, [], n)
  unfolding variable_type literal_expr
  let_agrees (rec h ks) t n o p =
      let k : Literal = literal_kind h.mark in
      ⊎_elim (λ e. no_some (sym (else_type false (rec h ks) (element_types ks false) (member_types ks false)) ∙ (rw e at p)))
      (λ m.
      let q : h.mark ≡ code_of k = mark_of_lem h.mark k refl m in
      flat-by k h ks n t (ap expr_kind q ∙ expr_of_lem k m) (λ z. object_not (q ∙ ap code_of z)) p ∙ literal_agrees (rec h ks) false n t p)
      (met k)
    where
      object_not : h.mark ≡ mark "Ob" → ⊥
      object_not z = let y : true ≡ false = sym (eq-eqb h.mark (mark "Ob") z) ∙ o in let x : ◌≡◌ {A = ℕ} 0 1 = cc in omega arith
