-- The parts that the typing of expressions makes fit: types of literals, `readonly_of`, elements, properties, parameters.
use mathlib.Core.Path.{◌≡◌, refl}
use mathlib.Core.List.{List, [], ◌∷◌, ◌++◌}
use mathlib.Core.Bool.{Bool, true, false, cond, ◌&&◌, ◌||◌}
use mathlib.Core.Option.{Option, none, some}
use Prim.Native.Nat.{ℕ, suc, ◌+◌, ◌-◌, ◌≤◌, ◌<◌}
use Prim.Native.String.{String}
use native.Mathlib.Omega.{arith}
use lib.Dec.{eqb}
use lib.ListN.{length}
use borrow.Author.Tests.{eqb-true}
use Rattle.definition.specs.Tree.{flags_end, Head, Rec, Recs, rec, nil, cons, count, le4, Bytes}
use Rattle.definition.specs.Grammar.{mark}
use Rattle.definition.specs.Record.{text, head_of, kids_of, mark_of, text_of, is, is_no, symbol_of, dummy_sp, fresh, ranged, absent, ident, ident_at, flagged, kid, one, given, Diag, diag, Out}
use Rattle.definition.specs.Helpers.{ts_keyword_type, any_type_ann, reference_to, ts_lit_type, regex_type, ts_tuple_element, no_exprs, first_cooked, tpl_to_ts_type, Lit, l_str, l_bool, l_null, l_num, l_big_int, l_regex, l_jsx_text, maybe_lit_to_ts_type}
use Rattle.definition.specs.Names.{gen_unique_name}
use Rattle.definition.specs.Typing.{Frozen, f_type_lit, f_array, f_same, f_other, frozen_kind, plain_members, readonly_members, readonly_of_by, readonly_of, turned, turned_integer, respelled, minus_by, tuple_of, element, or_any, ts_rest_type, Element, e_hole, e_spread, e_expr, e_op, element_by, Key, k_ident, k_str, k_num, k_computed, key_kind, key_expr, key_flag, property_signature, key_value, shorthand, Param, q_keep, q_assign, q_expr, q_other, param_kind, binding_ident, default_param, param_by, fn_type}
use Rattle.definition.proofs.Texts.{written, turned-length, turned-bytes, turned_integer-length, turned_integer-bytes}
use Rattle.definition.proofs.Fit.{weight, Room, Sound, Fit, FitAll, Few, Given, Makes, plain, head_sound, kids-fit, given-cond, fresh-sound, ranged-sound, flagged-fits, absent-fits, keyword-fits, any-fits, over-one, over-two, ident_at-fits, symbol-short, symbol-bytes, named-fits, kid-fits, rehead, more, on_value-makes, or_any-makes}

-- ---- marks

key-mark : (m : ℕ) → key_kind m ≡ k_ident → m ≡ mark "Ki"
unfolding key_kind
key-mark m e = eqb-true m (mark "Ki") (go (eqb m (mark "Ki")) (eqb m (mark "Ss")) (eqb m (mark "Kc")) e)
  where
    go : (a b c : Bool) → cond a k_ident (cond b k_str (cond c k_computed k_num)) ≡ k_ident → a ≡ true
    go true b c e = refl
    go false true c e = cc
    go false false true e = cc
    go false false false e = cc

-- an Ag can ask for a name
assign_weight : (m : ℕ) → param_kind m ≡ q_assign → weight m ≡ 1
unfolding param_kind
assign_weight m e = rw (eqb-true m (mark "Ag") (go (eqb m (mark "Bd") || (eqb m (mark "Pb") || (eqb m (mark "Rs") || eqb m (mark "Po")))) (eqb m (mark "Ag")) (eqb m (mark "Pe")) e))
  where
    go : (a b c : Bool) → cond a q_keep (cond b q_assign (cond c q_expr q_other)) ≡ q_assign → b ≡ true
    go true b c e = cc
    go false true c e = refl
    go false false true e = cc
    go false false false e = cc

module _ (x : ℕ) where
  -- ---- small types

  literal-fits : (r : Rec) → Fit x r → Fit x (ts_lit_type dummy_sp r)
  literal-fits r g = over-one x "Tl" refl r g

  pub reference-fits : (i : Rec) → Fit x i → Fit x (reference_to dummy_sp i)
  reference-fits i g = over-two x "Rf" refl 0 (omega arith) i absent g (absent-fits x)

  regex_fits : Fit x (regex_type dummy_sp)
  regex_fits =
      reference-fits (ident dummy_sp (text "RegExp"))
      (fresh-sound x "Id" refl 0 (omega arith) (le4 0 ++ text "RegExp") (omega arith) (written (le4 0 ++ text "RegExp") refl) 0 (omega arith), tt)

  pub lit-fits : (l : Lit) (r : Rec) (c : Bool) → Fit x r → Given (Fit x) (maybe_lit_to_ts_type l r c)
  unfolding maybe_lit_to_ts_type
  lit-fits l_str r true g = literal-fits r g
  lit-fits l_bool r true g = literal-fits r g
  lit-fits l_null r true g = keyword-fits x "null" refl
  lit-fits l_num r true g = literal-fits r g
  lit-fits l_big_int r true g = literal-fits r g
  lit-fits l_regex r true g = regex_fits
  lit-fits l_jsx_text r true g = tt
  lit-fits l_str r false g = keyword-fits x "string" refl
  lit-fits l_bool r false g = keyword-fits x "boolean" refl
  lit-fits l_null r false g = keyword-fits x "null" refl
  lit-fits l_num r false g = keyword-fits x "number" refl
  lit-fits l_big_int r false g = keyword-fits x "bigint" refl
  lit-fits l_regex r false g = regex_fits
  lit-fits l_jsx_text r false g = tt

  -- a literal with another text of the same length
  respelled-fits : (r : Rec) (t : List ℕ) → length t ≡ length (text_of r) → Bytes t → Fit x r → Fit x (respelled r t)
  respelled-fits (rec h ks) t e b g = (
    record {
      mark = g.0.mark;
      flags = g.0.flags;
      start = g.0.start;
      end = g.0.end;
      text = omega (arith, g.0.text);
      bytes = b;
      count = omega arith;
    },
    tt,
  )

  pub minus-fits : (l : Lit) (r : Rec) (c : Bool) → Fit x r → Given (Fit x) (minus_by l r c)
  unfolding minus_by
  minus-fits l_num r true g =
      literal-fits (respelled r (turned (text_of r))) (respelled-fits r (turned (text_of r)) (turned-length (text_of r)) (turned-bytes (text_of r) (head_sound x r g).bytes) g)
  minus-fits l_num r false g = keyword-fits x "number" refl
  minus-fits l_big_int r true g =
      literal-fits (respelled r (turned_integer (text_of r)))
      (respelled-fits r (turned_integer (text_of r)) (turned_integer-length (text_of r)) (turned_integer-bytes (text_of r) (head_sound x r g).bytes) g)
  minus-fits l_big_int r false g = keyword-fits x "bigint" refl
  minus-fits l_str r c g = tt
  minus-fits l_bool r c g = tt
  minus-fits l_null r c g = tt
  minus-fits l_regex r c g = tt
  minus-fits l_jsx_text r c g = tt

  pub template-fits : (ks : Recs) (c : Bool) → FitAll x ks → Fit x (tpl_to_ts_type ks c)
  unfolding tpl_to_ts_type
  template-fits ks false g = keyword-fits x "string" refl
  template-fits ks true g = go (no_exprs ks && first_cooked ks)
    where
      quasi : Sound x (head_of (kid 0 ks)) (count (kids_of (kid 0 ks)))
      quasi = head_sound x (kid 0 ks) (kid-fits x 0 ks g)

      go : (b : Bool) → Fit x (cond b (ts_lit_type dummy_sp (rec (fresh "Ss" 0 (text_of (kid 0 ks))) nil)) (ts_keyword_type dummy_sp "string"))
      go true =
          literal-fits (rec (fresh "Ss" 0 (text_of (kid 0 ks))) nil)
          (fresh-sound x "Ss" refl 0 (omega arith) (text_of (kid 0 ks)) quasi.text quasi.bytes 0 (omega arith), tt)
      go false = keyword-fits x "string" refl

  -- ---- `readonly_of`

  readonly_members-fit : (ms : Recs) (k : ℕ) → Few x k ms → Few x k (readonly_members ms)
  unfolding readonly_members
  readonly_members-fit nil k g = g
  readonly_members-fit (cons m ms) k g =
      let l : suc (count ms) ≤ k = g.1 in
      let b : Few x (k - 1) (readonly_members ms) = readonly_members-fit ms (k - 1) (g.0.1, omega arith) in
      ((go (is "Op" m), b.0), omega (arith, b.1))
    where
      go : (b : Bool) → Fit x (cond b m (flagged m))
      go true = g.0.0
      go false = flagged-fits x m g.0.0

  readonly_fits : (k : Frozen) (t : Rec) → Fit x t → Given (Fit x) (readonly_of_by k t)
  unfolding readonly_of_by
  readonly_fits f_type_lit (rec h ks) g =
      given-cond x (plain_members ks) (some (rec h (readonly_members ks))) none
      (rehead x h (count ks) (readonly_members ks) g.0 (readonly_members-fit ks (count ks) (g.1, omega arith))) tt
  readonly_fits f_array t g = over-one x "Ro" refl t g
  readonly_fits f_same t g = g
  readonly_fits f_other t g = tt

  pub frozen-fits : (o : Option Rec) → Given (Fit x) o → Given (Fit x) (given o none readonly_of)
  frozen-fits none g = tt
  frozen-fits (some t) g = readonly_fits (frozen_kind (mark_of t)) t g

  -- ---- elements

  -- a list under a head made afresh, without text
  pub ranged-fits : (s : String) → plain s ≡ true → (h : Head) (m : ℕ) (ks : Recs) → Sound x h m → Few x m ks → Fit x (rec (ranged s h []) ks)
  ranged-fits s e h m ks g k = (ranged-sound x s e h m g [] (omega arith) (written [] refl) (count ks) (omega (arith, k.1, g.count)), k.0)

  tuple-fits : (h : Head) (m : ℕ) (r : Bool) (ts : Recs) → Sound x h m → Few x m ts → Fit x (tuple_of h r ts)
  tuple-fits h m false ts g k = ranged-fits "Tu" refl h m ts g k
  tuple-fits h m true ts g k = over-one x "Ro" refl (rec (ranged "Tu" h []) ts) (ranged-fits "Tu" refl h m ts g k)

  pub tuples_fit : (h : Head) (m : ℕ) (r : Bool) → Sound x h m → (o : Option Recs) → Given (Few x m) o → Given (Fit x) (given o none (λ ts. some (tuple_of h r ts)))
  tuples_fit h m r g none k = tt
  tuples_fit h m r g (some ts) k = tuple-fits h m r ts g k

  element-makes : (t : Rec) (ds : List Diag) (m n w : ℕ) (o : Out (Option Recs)) → Fit x t → Makes (Given (Few x m)) n w o →
      Makes (Given (Few x (suc m))) n w (element t ds o)
  element-makes t ds m n w o g k = record { value = go o.0 k.value; counter = k.counter }
    where
      go : (p : Option Recs) → Given (Few x m) p → Given (Few x (suc m)) (given p none (λ ts. some (cons (ts_tuple_element dummy_sp t) ts)))
      go none h = tt
      go (some ts) h = ((over-two x "Tm" refl 0 (omega arith) absent t (absent-fits x) g, h.0), omega (arith, h.1))

  -- what is before the rest costs w, the rest v
  pub element_by-makes : (k : Element) (h : Head) (typed spread : ℕ → Out (Option Rec)) (rest : ℕ → Out (Option Recs)) (m n w v : ℕ) →
      Makes (Given (Fit x)) n w (typed n) → Makes (Given (Fit x)) n w (spread n) →
      ((n : ℕ) → Room n v → Makes (Given (Few x m)) n v (rest n)) → Room n (w + v) → Makes (Given (Few x (suc m))) n (w + v) (element_by k h typed spread rest n)
  unfolding element_by
  element_by-makes e_hole h typed spread rest m n w v p q s l =
      more (element-makes (any_type_ann dummy_sp) [] m n v (rest n) (any-fits x) (s n (omega arith))) (omega arith)
  element_by-makes e_spread h typed spread rest m n w v p q s l = go (spread n) q
    where
      go : (o : Out (Option Rec)) → Makes (Given (Fit x)) n w o →
          Makes (Given (Few x (suc m))) n (w + v) (given o.0 (none, o.1 ++ (diag "d4" h ∷ []), o.2) (λ t. element (ts_rest_type dummy_sp t) o.1 (rest o.2)))
      go o q = case o.0 q.value
        where
          case : (t : Option Rec) → Given (Fit x) t →
              Makes (Given (Few x (suc m))) n (w + v) (given t (none, o.1 ++ (diag "d4" h ∷ []), o.2) (λ t. element (ts_rest_type dummy_sp t) o.1 (rest o.2)))
          case none g = record { value = tt; counter = omega (arith, q.counter) }
          case (some t) g =
              let r = s o.2 (omega (arith, q.counter)) in
              let e = element-makes (ts_rest_type dummy_sp t) o.1 m o.2 v (rest o.2) (over-one x "Rt" refl t g) r in
              record { value = e.value; counter = omega (arith, q.counter, e.counter) }
  element_by-makes e_expr h typed spread rest m n w v p q s l =
      let a = or_any-makes x (typed n) (diag "d1" h ∷ []) p in
      let o : Out Rec = or_any (typed n) (diag "d1" h ∷ []) in
      let r = s o.2 (omega (arith, a.counter)) in
      let e = element-makes o.0 o.1 m o.2 v (rest o.2) a.value r in
      record { value = e.value; counter = omega (arith, a.counter, e.counter) }
  element_by-makes e_op h typed spread rest m n w v p q s l =
      let r = s n (omega arith) in
      record { value = few-more (rest n).0 r.value; counter = omega (arith, r.counter) }
    where
      few-more : (p : Option Recs) → Given (Few x m) p → Given (Few x (suc m)) p
      few-more none h = tt
      few-more (some ts) h = (h.0, omega (arith, h.1))

  -- ---- properties

  key_fits : (k : Key) (r : Rec) → key_kind (mark_of r) ≡ k → Fit x r → (mark_of r ≡ mark "Ki" → length (text_of r) ≤ 65531 + x) → Fit x (key_expr k r)
  unfolding key_expr
  key_fits k_ident r e g q =
      let h = head_sound x r g in
      ident_at-fits x (head_of r) (count (kids_of r)) h (text_of r) (omega (arith, q (key-mark (mark_of r) e))) h.bytes
  key_fits k_str r e g q = g
  key_fits k_num r e g q = g
  key_fits k_computed r e g q = kid-fits x 0 (kids_of r) (kids-fit x r g)

  flag_fits : (r : Bool) (k : Key) → cond r 1 0 + key_flag k < flags_end
  flag_fits true k_ident = omega arith
  flag_fits true k_str = omega arith
  flag_fits true k_num = omega arith
  flag_fits true k_computed = omega arith
  flag_fits false k_ident = omega arith
  flag_fits false k_str = omega arith
  flag_fits false k_num = omega arith
  flag_fits false k_computed = omega arith

  signature_fits : (key : Rec) (r : Bool) (f : ℕ) (t : Rec) → cond r 1 0 + f < flags_end → Fit x key → Fit x t → Few x 1 (one (property_signature key r f t))
  signature_fits key r f t l g h = ((over-two x "Ps" refl (cond r 1 0 + f) l key t g h, tt), omega arith)

  pub key_value-makes : (ks : Recs) (r : Bool) (n w : ℕ) (o : Out (Option Rec)) → FitAll x ks → (mark_of (kid 0 ks) ≡ mark "Ki" → length (text_of (kid 0 ks)) ≤ 65531 + x) →
      Makes (Given (Fit x)) n w o → Makes (Few x 1) n w (key_value ks r o)
  key_value-makes ks r n w o g q m =
      let k : Rec = kid 0 ks in
      let e : Key = key_kind (mark_of k) in
      on_value-makes (λ t. one (property_signature (key_expr e k) r (key_flag e) t))
      (λ t v. signature_fits (key_expr e k) r (key_flag e) t (flag_fits r e) (key_fits e k refl (kid-fits x 0 ks g) q) v)
      (or_any-makes x o (diag "d2" (head_of (kid 1 ks)) ∷ []) m)

  pub shorthand-makes : (h : Head) (i : Rec) (r : Bool) (o : Option Rec) (n w : ℕ) → Fit x i → Given (Fit x) o → Makes (Few x 1) n w (shorthand h i r o n)
  shorthand-makes h i r none n w g t = record { value = (tt, omega arith); counter = omega arith }
  shorthand-makes h i r (some t) n w g k = record {
    value = signature_fits (ident_at (head_of i) (symbol_of i)) r 0 t (flag_fits r k_ident)
        (ident_at-fits x (head_of i) (count (kids_of i)) (head_sound x i g) (symbol_of i) (symbol-short x i g) (symbol-bytes x i g)) k;
    counter = omega arith;
  }

  -- ---- parameters

  binding_fits : (h : Head) (m : ℕ) (name : List ℕ) (t : Rec) → Sound x h m → Fit x (ident_at h name) → Fit x t → Few x 1 (one (binding_ident h name t))
  binding_fits h m name t g i k =
      (((ranged-sound x "Bd" refl h m g [] (omega arith) (written [] refl) 2 (omega arith), (i, (k, tt))), tt), omega arith)

  default-makes : (h : Head) (m : ℕ) (levels t : Rec) (ds : List Diag) (n : ℕ) → Sound x h m → Fit x levels → Fit x t → Room n 1 →
      Makes (Few x 1) n 1 (default_param h levels t ds n)
  unfolding default_param
  default-makes h m levels t ds n g k f l = go (is "Bd" levels)
    where
      i : Rec
      i = kid 0 (kids_of levels)

      i-fits : Fit x i
      i-fits = kid-fits x 0 (kids_of levels) (kids-fit x levels k)

      go : (b : Bool) → Makes (Few x 1) n 1 (cond b (one (binding_ident h (symbol_of i) t), ds, n) (one (binding_ident h (gen_unique_name (suc n)) t), ds, suc n))
      go true = record {
        value = binding_fits h m (symbol_of i) t g (ident_at-fits x h m g (symbol_of i) (symbol-short x i i-fits) (symbol-bytes x i i-fits)) f;
        counter = omega arith;
      }
      go false = record { value = binding_fits h m (gen_unique_name (suc n)) t g (named-fits x h m g (suc n) (omega arith)) f; counter = omega arith }

  -- the default of an Ag costs w, the name one more
  pub param_by-makes : (k : Param) (h : Head) (ks : Recs) (right : ℕ → Out (Option Rec)) (n w : ℕ) → param_kind h.mark ≡ k → Fit x (rec h ks) →
      Makes (Given (Fit x)) n w (right n) → Room n (weight h.mark + w) → Makes (Few x 1) n (weight h.mark + w) (param_by k h ks right n)
  unfolding param_by
  param_by-makes q_keep h ks right n w e g m l = record { value = ((g, tt), omega arith); counter = omega arith }
  param_by-makes q_assign h ks right n w e g m l = go (right n) m
    where
      one_more : weight h.mark ≡ 1
      one_more = assign_weight h.mark e

      go : (o : Out (Option Rec)) → Makes (Given (Fit x)) n w o →
          Makes (Few x 1) n (weight h.mark + w) (given o.0 (nil, o.1, o.2) (λ t. default_param h (kid 0 ks) t o.1 o.2))
      go o m = case o.0 m.value
        where
          case : (t : Option Rec) → Given (Fit x) t →
              Makes (Few x 1) n (weight h.mark + w) (given t (nil, o.1, o.2) (λ t. default_param h (kid 0 ks) t o.1 o.2))
          case none f = record { value = (tt, omega arith); counter = omega (arith, m.counter) }
          case (some t) f =
              let d = default-makes h (count ks) (kid 0 ks) t o.1 o.2 g.0 (kid-fits x 0 ks g.1) f (omega (arith, m.counter, one_more)) in
              record { value = d.value; counter = omega (arith, m.counter, d.counter, one_more) }
  param_by-makes q_expr h ks right n w e g m l = record { value = (tt, omega arith); counter = omega arith }
  param_by-makes q_other h ks right n w e g m l = record { value = (tt, omega arith); counter = omega arith }

  -- a function type over parameters, two less than the children of a head
  pub fn_type-fits : (h : Head) (ks ps : Recs) → Fit x (rec h ks) → Few x (count ks - 2) ps → Fit x (fn_type h ks ps)
  fn_type-fits h ks ps g k =
      (ranged-sound x "Ft" refl h (count ks) g.0 [] (omega arith) (written [] refl) (suc (suc (count ps))) (omega (arith, k.1, g.0.count)), (kid-fits x 0 ks g.1, (type-fits (is_no (kid 1 ks)), k.0)))
    where
      type-fits : (b : Bool) → Fit x (given (cond b none (some (kid 1 ks))) (any_type_ann dummy_sp) (λ t. t))
      type-fits true = any-fits x
      type-fits false = kid-fits x 1 ks g.1
