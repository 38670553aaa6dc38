-- `readonly_of`: that it changes nothing more the second time, and what it makes of each kind of type that is made, so that the type can be written
-- as it makes it.
use mathlib.Core.Path.{◌≡◌, refl, ap, ◌∙◌}
use mathlib.Core.List.{List, []}
use mathlib.Core.Bool.{Bool, true, false, cond, ◌&&◌, ◌||◌}
use mathlib.Core.Option.{Option, none, some}
use Prim.Native.Nat.{ℕ, suc}
use native.Mathlib.Omega.{arith}
use Rattle.definition.specs.Tree.{Head, Rec, Recs, rec, nil, cons, count}
use lib.Dec.{eqb}
use Rattle.definition.specs.Record.{
  text,
  same_text,
  head_of,
  kids_of,
  mark_of,
  text_of,
  is,
  is_no,
  context_of,
  symbol_of,
  dummy_sp,
  flag1,
  flagged,
  with_flags,
  kid,
  join,
  given,
  Diag,
  Out,
  on_value,
  ranged,
}
use Rattle.definition.specs.Helpers.{ts_keyword_type, reference_to, ts_type_query, Lit, l_str, l_bool, l_null, l_num, l_big_int, l_regex, l_jsx_text, maybe_lit_to_ts_type, tpl_to_ts_type, no_exprs, first_cooked}
use Rattle.definition.specs.Prescan.{PrescannedModuleIds}
use Rattle.definition.specs.Typing.{
  Frozen,
  f_type_lit,
  f_array,
  f_same,
  f_other,
  frozen_kind,
  plain_members,
  readonly_members,
  readonly_of_by,
  readonly_of,
  tuple_of,
  minus_by,
  shorthand,
  Prop,
  p_key_value,
  p_shorthand,
  p_spread,
  p_other,
  p_op,
  prop_kind,
  prop_by,
  ident_to_ts_type,
  global_type,
  new_type,
  type_second,
  props,
  prop,
}
use Rattle.typing.specs.Values.{readonly_if}
use Rattle.typing.specs.Parts.{members_if, readonly_or_same, type_has_readonly}

-- ---- the second time

flags-again : (f : ℕ) → flag1 true (flag1 true f) ≡ flag1 true f
flags-again f = omega arith

and_assoc : (x y z : Bool) → (x && (y && z)) ≡ ((x && y) && z)
and_assoc true y z = refl
and_assoc false y z = refl

plain-join : (a b : Recs) → plain_members (join a b) ≡ (plain_members a && plain_members b)
unfolding plain_members
plain-join nil b = refl
plain-join (cons m a) b = rw (plain-join a b) (and_assoc (is "Ps" m || (is "Ix" m || is "Op" m)) (plain_members a) (plain_members b))

pub readonly_join : (a b : Recs) → readonly_members (join a b) ≡ join (readonly_members a) (readonly_members b)
unfolding readonly_members
readonly_join nil b = refl
readonly_join (cons m a) b = ap (cons (cond (is "Op" m) m (flagged m))) (readonly_join a b)

pub count_readonly : (ms : Recs) → count (readonly_members ms) ≡ count ms
unfolding readonly_members
count_readonly nil = refl
count_readonly (cons m ms) = ap suc (count_readonly ms)

pub no_members : (b : Bool) → members_if b nil ≡ nil
unfolding readonly_members
no_members true = refl
no_members false = refl

-- a member as it becomes: its mark stays
same-mark : (b : Bool) (m : Rec) → mark_of (cond b m (flagged m)) ≡ mark_of m
same-mark true m = refl
same-mark false m = refl

plain-again : (ms : Recs) → plain_members (readonly_members ms) ≡ plain_members ms
unfolding plain_members readonly_members
plain-again nil = refl
plain-again (cons m ms) = rw (same-mark (is "Op" m) m, plain-again ms)

member-again : (b : Bool) (m : Rec) → is "Op" m ≡ b → cond (is "Op" (cond b m (flagged m))) (cond b m (flagged m)) (flagged (cond b m (flagged m))) ≡ cond b m (flagged m)
member-again true m e = rw e
member-again false m e = rw e (ap (λ (f : ℕ). rec (with_flags (head_of m) f) (kids_of m)) (flags-again (head_of m).flags))

members-again : (ms : Recs) → readonly_members (readonly_members ms) ≡ readonly_members ms
unfolding readonly_members
members-again nil = refl
members-again (cons m ms) = rw (members-again ms) (ap (λ (x : Rec). cons x (readonly_members ms)) (member-again (is "Op" m) m refl))

lit-again : (b : Bool) (t : Rec) → plain_members (kids_of t) ≡ b → frozen_kind (mark_of t) ≡ f_type_lit →
    given (cond b (some (rec (head_of t) (readonly_members (kids_of t)))) none) none readonly_of ≡ cond b (some (rec (head_of t) (readonly_members (kids_of t)))) none
unfolding readonly_of_by
lit-again true t p e = rw (e, plain-again, p, members-again)
lit-again false t p e = refl

again_by : (k : Frozen) (t : Rec) → frozen_kind (mark_of t) ≡ k → given (readonly_of_by k t) none readonly_of ≡ readonly_of_by k t
unfolding readonly_of_by frozen_kind
again_by f_type_lit t e = lit-again (plain_members (kids_of t)) t refl e
again_by f_array t e = refl
again_by f_same t e = rw e
again_by f_other t e = refl

-- what is readonly stays as it is
pub readonly_again : (t : Rec) → given (readonly_of t) none readonly_of ≡ readonly_of t
readonly_again t = again_by (frozen_kind (mark_of t)) t refl

pub readonly_stays : (t r : Rec) → readonly_of t ≡ some r → readonly_of r ≡ some r
readonly_stays t r e = rw e at (readonly_again t)

value-again : (v : Option Rec) → given (given v none readonly_of) none (λ t. some (readonly_or_same t)) ≡ given v none readonly_of
value-again none = refl
value-again (some t) = go (readonly_of t) refl
  where
    go : (x : Option Rec) → readonly_of t ≡ x → given x none (λ t. some (readonly_or_same t)) ≡ x
    go none e = refl
    go (some r) e = rw (readonly_stays t r e)

-- `Object.freeze` of `Object.freeze` is the inner one
pub frozen-again : (b : Bool) (o : Out (Option Rec)) → readonly_if b (on_value (λ (t : Option Rec). given t none readonly_of) o) ≡ on_value (λ (t : Option Rec). given t none readonly_of) o
frozen-again false o = refl
frozen-again true o = λ i. (value-again o.0 i, o.1, o.2)

-- ---- from how a type is written and whether `readonly_of` has an answer for it

value-from : (b : Bool) (v : Option Rec) → ((t : Rec) → v ≡ some t → type_has_readonly t ≡ b) → cond b (given v none (λ t. some (readonly_or_same t))) none ≡ given v none readonly_of
value-from true none h = refl
value-from false none h = refl
value-from b (some t) h = go (readonly_of t) (h t refl)
  where
    go : (x : Option Rec) → given x false (λ r. true) ≡ b → cond b (some (given x t (λ r. r))) none ≡ x
    go none e = rw (← e)
    go (some r) e = rw (← e)

pub frozen-from : (b : Bool) (o : Out (Option Rec)) → ((t : Rec) → o.0 ≡ some t → type_has_readonly t ≡ b)
    → on_value (λ (v : Option Rec). cond b v none) (readonly_if true o) ≡ on_value (λ (t : Option Rec). given t none readonly_of) o
frozen-from b o h = λ i. (value-from b o.0 h i, o.1, o.2)

-- ---- each kind of type

tuple-by : (b r : Bool) (h : Head) (v : Option Recs) (ds : List Diag) (n : ℕ)
    → readonly_if b (given v none (λ ts. some (tuple_of h r ts)), ds, n) ≡ (given v none (λ ts. some (tuple_of h (r || b) ts)), ds, n)
unfolding readonly_of_by frozen_kind
tuple-by false true h v ds n = refl
tuple-by false false h v ds n = refl
tuple-by true r h none ds n = refl
tuple-by true true h (some ts) ds n = refl
tuple-by true false h (some ts) ds n = refl

-- an array's: in Ro
pub frozen-tuple : (b r : Bool) (h : Head) (o : Out (Option Recs))
    → readonly_if b (on_value (λ (ts : Option Recs). given ts none (λ ts. some (tuple_of h r ts))) o) ≡ on_value (λ (ts : Option Recs). given ts none (λ ts. some (tuple_of h (r || b) ts))) o
frozen-tuple b r h o = tuple-by b r h o.0 o.1 o.2

-- an object's: each member readonly
pub frozen-lit : (b : Bool) (h : Head) (o : Out Recs) → plain_members o.0 ≡ true
    → readonly_if b (on_value (λ (ms : Recs). some (rec (ranged "Li" h []) ms)) o) ≡ on_value (λ (ms : Recs). some (rec (ranged "Li" h []) (members_if b ms))) o
unfolding readonly_of_by frozen_kind
frozen-lit false h o p = refl
frozen-lit true h o p = rw p

-- types that `readonly_of` does not know stay, and functions
pub frozen-none : (b : Bool) (v : Option Rec) → given v none readonly_of ≡ none → (ds : List Diag) (n : ℕ) → readonly_if b (v, ds, n) ≡ (v, ds, n)
frozen-none false v e ds n = refl
frozen-none true none e ds n = refl
frozen-none true (some t) e ds n = λ i. (some (given (e i) t (λ r. r)), ds, n)

pub frozen_same : (b : Bool) (t : Rec) → readonly_of t ≡ some t → (ds : List Diag) (n : ℕ) → readonly_if b (some t, ds, n) ≡ (some t, ds, n)
frozen_same false t e ds n = refl
frozen_same true t e ds n = λ i. (some (given (e i) t (λ r. r)), ds, n)

pub lit-none : (k : Lit) (l : Rec) (c : Bool) → given (maybe_lit_to_ts_type k l c) none readonly_of ≡ none
unfolding maybe_lit_to_ts_type readonly_of_by frozen_kind
lit-none l_str l true = refl
lit-none l_bool l true = refl
lit-none l_null l true = refl
lit-none l_num l true = refl
lit-none l_big_int l true = refl
lit-none l_regex l true = refl
lit-none l_jsx_text l true = refl
lit-none l_str l false = refl
lit-none l_bool l false = refl
lit-none l_null l false = refl
lit-none l_num l false = refl
lit-none l_big_int l false = refl
lit-none l_regex l false = refl
lit-none l_jsx_text l false = refl

pub minus-none : (k : Lit) (l : Rec) (c : Bool) → given (minus_by k l c) none readonly_of ≡ none
unfolding minus_by readonly_of_by frozen_kind
minus-none l_str l c = refl
minus-none l_bool l c = refl
minus-none l_null l c = refl
minus-none l_num l true = refl
minus-none l_num l false = refl
minus-none l_big_int l true = refl
minus-none l_big_int l false = refl
minus-none l_regex l c = refl
minus-none l_jsx_text l c = refl

cond-none : (b : Bool) (x y : Option Rec) → given x none readonly_of ≡ none → given y none readonly_of ≡ none → given (cond b x y) none readonly_of ≡ none
cond-none true x y h k = h
cond-none false x y h k = k

cond-other : (b : Bool) (x y : Rec) → readonly_of x ≡ none → readonly_of y ≡ none → readonly_of (cond b x y) ≡ none
cond-other true x y h k = h
cond-other false x y h k = k

pub tpl_none : (ks : Recs) (c : Bool) → readonly_of (tpl_to_ts_type ks c) ≡ none
unfolding tpl_to_ts_type readonly_of_by frozen_kind
tpl_none ks true = cond-other (no_exprs ks && first_cooked ks) _ _ refl refl
tpl_none ks false = refl

module _ (ids : PrescannedModuleIds) (ctx : ℕ) where
  global-none : (name : List ℕ) (c : Bool) → given (global_type ids ctx name c) none readonly_of ≡ none
  unfolding global_type readonly_of_by frozen_kind
  global-none name c =
      cond-none (same_text name (text "undefined") && c) (some (ts_keyword_type dummy_sp "undefined")) _ refl
      (cond-none (same_text name (text "NaN") || same_text name (text "Infinity")) (some (ts_keyword_type dummy_sp "number")) none refl refl)

  pub ident-none : (i : Rec) (c : Bool) → given (ident_to_ts_type ids ctx i c) none readonly_of ≡ none
  unfolding ident_to_ts_type readonly_of_by frozen_kind
  ident-none i c =
      cond-none (eqb (context_of i) ctx) (global_type ids ctx (symbol_of i) c) _ (global-none (symbol_of i) c)
      (cond-none (ids.typeof_safe (text_of i)) (some (ts_type_query dummy_sp i)) none refl refl)

  pub new_none : (ks : Recs) → given (new_type ids ctx ks) none readonly_of ≡ none
  unfolding new_type readonly_of_by frozen_kind
  new_none ks =
      cond-none (is "Id" (kid 0 ks) && (is_no (kid 1 ks) && ids.non_generic_classes (text_of (kid 0 ks)))) (some (reference_to dummy_sp (kid 0 ks))) none refl refl

  -- ---- the members of an object's type

  plain-shorthand : (v : Option Rec) (h : Head) (i : Rec) (r : Bool) (n : ℕ) → plain_members (shorthand h i r v n).0 ≡ true
  unfolding plain_members
  plain-shorthand none h i r n = refl
  plain-shorthand (some t) h i r n = refl

  plain_by : (k : Prop) (h : Head) (ks : Recs) (c r : Bool) (value : ℕ → Out (Option Rec)) (n : ℕ) → plain_members (prop_by ids ctx k h ks c r value n).0 ≡ true
  unfolding prop_by plain_members
  plain_by p_key_value h ks c r value n = refl
  plain_by p_shorthand h ks c r value n = plain-shorthand (ident_to_ts_type ids ctx (kid 0 ks) c) h (kid 0 ks) r n
  plain_by p_spread h ks c r value n = refl
  plain_by p_other h ks c r value n = refl
  plain_by p_op h ks c r value n = refl

  plain-prop : (p : Rec) (c r : Bool) (n : ℕ) → plain_members (prop ids ctx p c r n).0 ≡ true
  unfolding prop
  plain-prop (rec h ks) c r n = plain_by (prop_kind h.mark) h ks c r (λ n. type_second ids ctx ks c r n) n

  -- they are all Ps
  pub plain-props : (ks : Recs) (c r : Bool) (n : ℕ) → plain_members (props ids ctx ks c r n).0 ≡ true
  unfolding props plain_members
  plain-props nil c r n = refl
  plain-props (cons p ps) c r n =
      plain-join (prop ids ctx p c r n).0 (props ids ctx ps c r (prop ids ctx p c r n).2).0
      ∙ (ap (λ (b : Bool). b && plain_members (props ids ctx ps c r (prop ids ctx p c r n).2).0) (plain-prop p c r n) ∙ plain-props ps c r (prop ids ctx p c r n).2)
