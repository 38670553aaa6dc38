-- A second pass changes nothing: keys, class members, classes.
use mathlib.Core.Path.{◌≡◌, refl, ap, ap₂, subst}
use mathlib.Core.List.{List}
use mathlib.Core.Bool.{Bool, true, false, cond, not, ◌&&◌}
use mathlib.Core.Option.{Option, none, some}
use Prim.Native.Nat.{ℕ}
use native.Mathlib.Omega.{arith}
use lib.Dec.{eqb}
use borrow.Author.Tests.{eqb-true}
use Rattle.definition.specs.Tree.{Head, Rec, Recs, rec, nil, cons}
use Rattle.definition.specs.Grammar.{mark}
use Rattle.definition.specs.Record.{head_of, kids_of, mark_of, is, is_no, with_flags, has1, kid, set_kid, one, ends, gone, listed, Out, Typing, pure, if_m, flat}
use Rattle.definition.specs.Names.{is_well_known_symbol_expr, KeyExpr, x_lit, x_tpl, x_through, x_ident, x_member, x_other, key_expr_kind, computed, prop_name_by, prop_name_from_expr, prop_name_from_first, prop_name_from_only, valid_prop_name}
use Rattle.definition.specs.Classes.{handle_function, constructor_part, constructor, method, prop_type, prop_flags, class_prop, Member, m_constructor, m_method, m_prop, m_dropped, m_kept, member_kind, member_by, member, class_body_to_type, class}
use Rattle.definition.proofs.Stable.{Stable, Typed, each_stable, flat_stable, gone-gone, function_stable, constructor_part_stable}

-- ---- keys

none-some : (k : Rec) → ◌≡◌ {A = Option Rec} none (some k) → ⊥
none-some k e = let z : ◌≡◌ {A = ℕ} 0 1 = cc in omega arith

some_same : (a b : Rec) → ◌≡◌ {A = Option Rec} (some a) (some b) → a ≡ b
some_same a b e = cc

-- a literal is no Kc
lit-plain : (m : ℕ) → key_expr_kind m ≡ x_lit → eqb m (mark "Kc") ≡ false
unfolding key_expr_kind
lit-plain m e = go (eqb m (mark "Kc")) refl
  where
    go : (b : Bool) → eqb m (mark "Kc") ≡ b → b ≡ false
    go true q = let z : x_other ≡ x_lit = rw (eqb-true m (mark "Kc") q) at e in cc
    go false q = refl

-- a key that stands
abbrev KeyFix : ℕ → Rec → Type 0
KeyFix ctx k = valid_prop_name ctx k ≡ some k

lit_fix : (h : Head) (ks : Recs) (ctx : ℕ) → key_expr_kind h.mark ≡ x_lit → KeyFix ctx (rec h ks)
unfolding valid_prop_name
lit_fix h ks ctx e = rw (lit-plain h.mark e)

computed_fix : (h : Head) (ks : Recs) (ctx : ℕ) → prop_name_from_expr (rec h ks) ctx ≡ some (computed (rec h ks)) → KeyFix ctx (computed (rec h ks))
unfolding valid_prop_name prop_name_from_expr
computed_fix h ks ctx e = e

prop_name_by_fix : (h : Head) (ks : Recs) (ctx : ℕ) (k : Rec) (x : KeyExpr) → key_expr_kind h.mark ≡ x → (prop_name_from_first ks ctx ≡ some k → KeyFix ctx k) →
    (prop_name_from_only ks ctx ≡ some k → KeyFix ctx k) →
    prop_name_by x ctx (rec h ks) (λ n. prop_name_from_first ks n) (λ n. prop_name_from_only ks n) ≡ some k → KeyFix ctx k
unfolding prop_name_by prop_name_from_expr
prop_name_by_fix h ks ctx k x_lit e f g p = subst (KeyFix ctx) (some_same _ _ p) (lit_fix h ks ctx e)
prop_name_by_fix h ks ctx k x_tpl e f g p = g p
prop_name_by_fix h ks ctx k x_through e f g p = f p
prop_name_by_fix h ks ctx k x_ident e f g p = subst (KeyFix ctx) (some_same _ _ p) (computed_fix h ks ctx (rw e))
prop_name_by_fix h ks ctx k x_member e f g p = go (is_well_known_symbol_expr ctx ks) refl
  where
    go : (b : Bool) → is_well_known_symbol_expr ctx ks ≡ b → KeyFix ctx k
    go true q = subst (KeyFix ctx) (some_same _ _ (rw q at p)) (computed_fix h ks ctx (rw (e, q)))
    go false q = absurd (none-some k (rw q at p))
prop_name_by_fix h ks ctx k x_other e f g p = absurd (none-some k p)

cond-some : {A : Type 0} (b : Bool) (o : Option Rec) (k : Rec) → (o ≡ some k → A) → cond b o none ≡ some k → A
cond-some true o k f p = f p
cond-some false o k f p = absurd (none-some k p)

mutual
  unfolding prop_name_from_expr

  expr_fix : (r : Rec) (ctx : ℕ) (k : Rec) → prop_name_from_expr r ctx ≡ some k → KeyFix ctx k
  expr_fix (rec h ks) ctx k p = prop_name_by_fix h ks ctx k (key_expr_kind h.mark) refl (λ q. first_fix ks ctx k q) (λ q. only_fix ks ctx k q) p

  first_fix : (rs : Recs) (ctx : ℕ) (k : Rec) → prop_name_from_first rs ctx ≡ some k → KeyFix ctx k
  first_fix nil ctx k p = absurd (none-some k p)
  first_fix (cons r rs) ctx k p = expr_fix r ctx k p

  only_fix : (rs : Recs) (ctx : ℕ) (k : Rec) → prop_name_from_only rs ctx ≡ some k → KeyFix ctx k
  only_fix nil ctx k p = absurd (none-some k p)
  only_fix (cons r rs) ctx k p =
      cond-some ((not (is "Qu" r) && not (is "Op" r)) && ends rs) (prop_name_from_expr r ctx) k (λ q. expr_fix r ctx k q) p

-- the key of a member, once found, stands
pub key_fix : (r : Rec) (ctx : ℕ) (k : Rec) → valid_prop_name ctx r ≡ some k → valid_prop_name ctx k ≡ some k
unfolding valid_prop_name
key_fix r ctx k p = go (is "Kc" r) refl
  where
    go : (b : Bool) → is "Kc" r ≡ b → KeyFix ctx k
    go true q = first_fix (kids_of r) ctx k (rw q at p)
    go false q = subst (KeyFix ctx) (some_same r k (rw q at p)) (rw q)

-- ---- members

prop_flags_twice : (f : ℕ) → prop_flags (prop_flags f) ≡ prop_flags f
prop_flags_twice f = omega arith

module _ (ty₁ ty₂ : Typing) (there : Typed ty₁) where
  -- the children of a method whose key is k
  abbrev method_kids : Typing → Bool → Rec → Recs → ℕ → Recs
  method_kids ty s k ks n = set_kid 0 k (set_kid 1 (handle_function ty s (kid 1 ks) n).0 ks)

  method-kids : (s : Bool) (k : Rec) (ks : Recs) (n n' : ℕ) → method_kids ty₂ s k (method_kids ty₁ s k ks n) n' ≡ method_kids ty₁ s k ks n
  method-kids s k nil n n' = refl
  method-kids s k (cons a nil) n n' = refl
  method-kids s k (cons a (cons b rs)) n n' = ap (λ (x : Rec). cons k (cons x rs)) (function_stable ty₁ ty₂ there s b n n')

  method-key : (s : Bool) (k : Rec) (ks : Recs) (n ctx : ℕ) → valid_prop_name ctx (kid 0 ks) ≡ some k → valid_prop_name ctx (kid 0 (method_kids ty₁ s k ks n)) ≡ some k
  method-key s k nil n ctx e = e
  method-key s k (cons a nil) n ctx e = key_fix a ctx k e
  method-key s k (cons a (cons b rs)) n ctx e = key_fix a ctx k e

  -- the type of a property, once its value has gone
  prop_type_stable : (v t : Rec) (n n' : ℕ) → (prop_type ty₂ (gone v) (prop_type ty₁ v t n).0 n').0 ≡ (prop_type ty₁ v t n).0
  prop_type_stable v t n n' = go (is_no v) refl
    where
      go : (b : Bool) → is_no v ≡ b → (prop_type ty₂ (gone v) (prop_type ty₁ v t n).0 n').0 ≡ (prop_type ty₁ v t n).0
      go true q = rw (q, q)
      go false q = rw q

  -- the children of a property whose key is k
  abbrev prop_kids : Typing → Rec → Recs → ℕ → Recs
  prop_kids ty k ks n = set_kid 0 k (set_kid 2 (gone (kid 2 ks)) (set_kid 1 (prop_type ty (kid 2 ks) (kid 1 ks) n).0 ks))

  prop-kids : (k : Rec) (ks : Recs) (n n' : ℕ) → prop_kids ty₂ k (prop_kids ty₁ k ks n) n' ≡ prop_kids ty₁ k ks n
  prop-kids k nil n n' = refl
  prop-kids k (cons a nil) n n' = refl
  prop-kids k (cons a (cons b nil)) n n' = refl
  prop-kids k (cons a (cons b (cons v rs))) n n' = ap₂ (λ (x y : Rec). cons k (cons x (cons y rs))) (prop_type_stable v b n n') (gone-gone v)

  prop-key : (k : Rec) (ks : Recs) (n ctx : ℕ) → valid_prop_name ctx (kid 0 ks) ≡ some k → valid_prop_name ctx (kid 0 (prop_kids ty₁ k ks n)) ≡ some k
  prop-key k nil n ctx e = e
  prop-key k (cons a nil) n ctx e = key_fix a ctx k e
  prop-key k (cons a (cons b nil)) n ctx e = key_fix a ctx k e
  prop-key k (cons a (cons b (cons v rs))) n ctx e = key_fix a ctx k e

  module _ (list : List ℕ) (ctx : ℕ) where
    abbrev MembersFix : Recs → ℕ → Type 0
    MembersFix rs n' = (flat (member list ctx ty₂) rs n').0 ≡ rs

    -- what a kept member becomes is kept
    constructor_fix : (r : Rec) → member_kind (mark_of r) ≡ m_constructor → listed list (head_of r) ≡ false → (n n' : ℕ) → MembersFix (constructor ty₁ r n).0 n'
    unfolding flat member_by constructor
    constructor_fix r e l n n' =
        rw (e, l) (ap (λ (x : Recs). one (rec (head_of r) x)) (each_stable (constructor_part ty₁) (constructor_part ty₂) (constructor_part_stable ty₁ ty₂ there) (kids_of r) 0 n n'))

    method_fix : (r : Rec) (o : Option Rec) → member_kind (mark_of r) ≡ m_method → listed list (head_of r) ≡ false → valid_prop_name ctx (kid 0 (kids_of r)) ≡ o →
        (n n' : ℕ) → MembersFix (method ty₁ r o n).0 n'
    unfolding flat member_by method
    method_fix r none e l q n n' = refl
    method_fix r (some k) e l q n n' =
        rw (e, l, method-key (has1 (head_of r)) k (kids_of r) n ctx q)
        (ap (λ (x : Recs). one (rec (head_of r) x)) (method-kids (has1 (head_of r)) k (kids_of r) n n'))

    prop_fix : (r : Rec) (o : Option Rec) → member_kind (mark_of r) ≡ m_prop → valid_prop_name ctx (kid 0 (kids_of r)) ≡ o → (n n' : ℕ) →
        MembersFix (class_prop ty₁ r o n).0 n'
    unfolding flat member_by class_prop
    prop_fix r none e q n n' = refl
    prop_fix r (some k) e q n n' =
        rw (e, prop-key k (kids_of r) n ctx q)
        (ap₂ (λ (x : Recs) (f : ℕ). one (rec (with_flags (head_of r) f) x)) (prop-kids k (kids_of r) n n') (prop_flags_twice (head_of r).flags))

    member_fix : (r : Rec) (n n' : ℕ) → MembersFix (member list ctx ty₁ r n).0 n'
    unfolding member_by flat
    member_fix r n n' = go (member_kind (mark_of r)) refl
      where
        -- one that is listed has gone
        listing : (f : ℕ → Out Recs) (b : Bool) → (b ≡ false → MembersFix (f n).0 n') → MembersFix (if_m b (pure nil) f n).0 n'
        listing f true h = refl
        listing f false h = h refl

        key : Option Rec
        key = valid_prop_name ctx (kid 0 (kids_of r))

        go : (k : Member) → member_kind (mark_of r) ≡ k → MembersFix (member list ctx ty₁ r n).0 n'
        go m_constructor e = rw e (listing (constructor ty₁ r) (listed list (head_of r)) (λ l. constructor_fix r e l n n'))
        go m_method e = rw e (listing (method ty₁ r key) (listed list (head_of r)) (λ l. method_fix r key e l refl n n'))
        go m_prop e = rw e (prop_fix r key e refl n n')
        go m_dropped e = rw e
        go m_kept e = rw (e, e)

    pub class_stable : Stable (class list ctx ty₁) (class list ctx ty₂)
    unfolding class class_body_to_type
    class_stable r n n' = ap (rec (head_of r)) (go (kids_of r))
      where
        go : (ks : Recs) → (class_body_to_type list ctx ty₂ (class_body_to_type list ctx ty₁ ks n).0 n').0 ≡ (class_body_to_type list ctx ty₁ ks n).0
        go nil = refl
        go (cons tps ms) = ap (cons tps) (flat_stable (member list ctx ty₁) (member list ctx ty₂) member_fix ms n n')
