-- The depth that the definition gives a diagnostic of an accepted tree is "the number of Ns records that hold the record it is marked at".
use mathlib.Core.Path.{◌≡◌, refl, sym, ◌∙◌}
use mathlib.Core.List.{List, [], ◌∷◌, ◌++◌}
use mathlib.Core.Logic.{inl, inr, ⊎_elim}
use mathlib.Core.Bool.{Bool, true, false, cond, ◌&&◌, ◌||◌}
use Prim.Native.Nat.{ℕ, zero, suc, ◌+◌, ◌<◌, ◌≤◌}
use Prim.Native.String.{String}
use native.Mathlib.Omega.{arith}
use lib.Dec.{eqb}
use borrow.Author.Tests.{eqb-true, eqb-false, eq-eqb, ne_eqb}
use Rattle.definition.specs.Tree.{Head, Rec, Recs, rec, nil, cons, count, tree_at}
use Rattle.definition.specs.Grammar.{mark, marks, member, Part, grammar, known, slots, place, allowed, after, least, is_property, root}
use Rattle.definition.specs.Check.{slots_of, inside, fine, check_tree, deepest}
use Rattle.definition.specs.Record.{head_of, kids_of, mark_of, is, kid, Diag, diag, Typing}
use Rattle.definition.specs.Prescan.{PrescannedModuleIds, prescan_module_ids}
use Rattle.definition.specs.Typing.{p_key_value, p_shorthand, p_spread, p_other, p_op, prop_kind, q_keep, q_assign, q_expr, q_other, param_kind, expr_to_ts_type}
use Rattle.definition.specs.Classes.{pattern_kind}
use Rattle.definition.specs.Classes as Classes
use Rattle.definition.specs.Items.{transform_module_item}
use Rattle.definition.specs.Marked.{All, At, Asked, Everywhere, AllEverywhere}
use Rattle.definition.specs.Formed.{Formed, FormedAll}
use Rattle.definition.specs.Depths.{Placed, all_at, items_placed, item_placed, export_placed, exported_placed, space_placed, body_first_placed, body_placed, placed, heads, all_heads, MarkedAt, AllMarkedAt}
use Rattle.definition.proofs.Tests.{by_eq}
use Rattle.definition.proofs.Kids.{member-one, inside-plain}
use Rattle.definition.proofs.Marked.{own}
use Rattle.definition.proofs.MarkedItems.{Typed, typed-all, item-all}
use Rattle.definition.proofs.Formed.{formed}
use Rattle.definition.proofs.Spaces.{spaces, all_spaces, bodies, lacks, lacks-allowed, lacks-after, slot_of, no_space}

-- ---- the children that are asked for are there

-- the marks of their kinds
value-mark : (m : ℕ) → prop_kind m ≡ p_key_value → m ≡ mark "Kv"
unfolding prop_kind
value-mark m e = by_eq m (mark "Kv") (λ q. q) (λ n. absurd (go (eqb m (mark "Sh")) (eqb m (mark "Sp")) (eqb m (mark "Op")) (rw (ne_eqb m (mark "Kv") n) at e)))
  where
    go : (a b c : Bool) → cond a p_shorthand (cond b p_spread (cond c p_op p_other)) ≡ p_key_value → ⊥
    go true b c q = let z : ◌≡◌ {A = ℕ} 0 1 = cc in omega arith
    go false true c q = let z : ◌≡◌ {A = ℕ} 0 1 = cc in omega arith
    go false false true q = let z : ◌≡◌ {A = ℕ} 0 1 = cc in omega arith
    go false false false q = let z : ◌≡◌ {A = ℕ} 0 1 = cc in omega arith

expression-mark : (m : ℕ) → param_kind m ≡ q_expr → m ≡ mark "Pe"
unfolding param_kind
expression-mark m e =
    by_eq m (mark "Pe") (λ q. q)
    (λ n. absurd (go (eqb m (mark "Bd") || (eqb m (mark "Pb") || (eqb m (mark "Rs") || eqb m (mark "Po")))) (eqb m (mark "Ag")) (rw (ne_eqb m (mark "Pe") n) at e)))
  where
    go : (a b : Bool) → cond a q_keep (cond b q_assign q_other) ≡ q_expr → ⊥
    go true b q = let z : ◌≡◌ {A = ℕ} 0 1 = cc in omega arith
    go false true q = let z : ◌≡◌ {A = ℕ} 0 1 = cc in omega arith
    go false false q = let z : ◌≡◌ {A = ℕ} 0 1 = cc in omega arith

right-mark : (m : ℕ) → pattern_kind m ≡ Classes.p_assign → m ≡ mark "Ag"
unfolding pattern_kind
right-mark m e =
    by_eq m (mark "Ag") (λ q. q) (λ n. absurd (go (eqb m (mark "Bd")) (eqb m (mark "Pb") || eqb m (mark "Po")) (rw (ne_eqb m (mark "Ag") n) at e)))
  where
    go : (a b : Bool) → cond a Classes.p_ident (cond b Classes.p_box Classes.p_other) ≡ Classes.p_assign → ⊥
    go true b q = let z : ◌≡◌ {A = ℕ} 0 1 = cc in omega arith
    go false true q = let z : ◌≡◌ {A = ℕ} 0 1 = cc in omega arith
    go false false q = let z : ◌≡◌ {A = ℕ} 0 1 = cc in omega arith

module _ (P : Diag → Type 0) where
  kid_at : (i : ℕ) (ks : Recs) → AllEverywhere P ks → i < count ks → At P (head_of (kid i ks))
  unfolding Everywhere
  kid_at i nil w h = absurd (omega arith)
  kid_at zero (cons r rs) w h = own P r w.0
  kid_at (suc i) (cons r rs) w h = kid_at i rs w.1 (omega arith)

  kids-asked : (h : Head) (ks : Recs) → least (slots_of h.mark) ≤ count ks → AllEverywhere P ks → Asked P h ks
  unfolding grammar known slots place least
  kids-asked h ks l w = record {
    value = λ e. kid_at 1 ks w (let z : least (slots_of h.mark) ≡ 2 = rw (value-mark h.mark e) refl in omega arith);
    expression = λ e. kid_at 0 ks w (let z : least (slots_of h.mark) ≡ 1 = rw (expression-mark h.mark e) refl in omega arith);
    right = λ e. kid_at 1 ks w (let z : least (slots_of h.mark) ≡ 2 = rw (right-mark h.mark e) refl in omega arith);
  }

-- ---- records without an Ns

left-marked : (xs ys : List (Head × ℕ)) (x : Placed) → MarkedAt xs x → MarkedAt (xs ++ ys) x
left-marked [] ys x m = absurd m
left-marked (y ∷ xs) ys x m = ⊎_elim inl (λ k. inr (left-marked xs ys x k)) m

right-marked : (xs ys : List (Head × ℕ)) (x : Placed) → MarkedAt ys x → MarkedAt (xs ++ ys) x
right-marked [] ys x m = m
right-marked (y ∷ xs) ys x m = inr (right-marked xs ys x m)

-- an Nb holds none of the bodies
block-lacks : (ps : List Part) (m : ℕ) → m ≡ mark "Nb" → lacks bodies (inside ps m) ≡ true
unfolding grammar known slots place marks member
block-lacks ps m e = rw (e, inside-plain ps (mark "Nb") (eqb-false (mark "Nb") (mark "Ag") refl)) refl

-- what is marked at records of a tree is marked at those of a larger one
module _ (whole : List (Head × ℕ)) where
  abbrev Inside : List (Head × ℕ) → Type 0
  Inside xs = (x : Placed) → MarkedAt xs x → MarkedAt whole x

  -- at this depth
  abbrev AtDepth : ℕ → Diag → Type 0
  AtDepth d x = MarkedAt whole (record { what = x; depth = d })

  first-inside : (d : ℕ) (r : Rec) (rs : Recs) → Inside (all_heads d (cons r rs)) → Inside (heads d r)
  unfolding heads
  first-inside d r rs i x m = i x (left-marked (heads d r) (all_heads d rs) x m)

  others-inside : (d : ℕ) (r : Rec) (rs : Recs) → Inside (all_heads d (cons r rs)) → Inside (all_heads d rs)
  unfolding heads
  others-inside d r rs i x m = i x (right-marked (heads d r) (all_heads d rs) x m)

  -- what an Ns holds is one deeper, what another record holds is not
  within-space : (d : ℕ) (h : Head) (ks : Recs) → h.mark ≡ mark "Ns" → Inside (heads d (rec h ks)) → Inside (all_heads (suc d) ks)
  unfolding heads
  within-space d h ks e i x m = i x (rw (eq-eqb _ _ e) (inr m))

  within-other : (d : ℕ) (h : Head) (ks : Recs) → (h.mark ≡ mark "Ns" → ⊥) → Inside (heads d (rec h ks)) → Inside (all_heads d ks)
  unfolding heads
  within-other d h ks n i x m = i x (rw (ne_eqb _ _ n) (inr m))

  at_own : (d : ℕ) (h : Head) (ks : Recs) → Inside (heads d (rec h ks)) → At (AtDepth d) h
  unfolding heads
  at_own d h ks i = let f : (s : String) → AtDepth d (diag s h) = λ s. i _ (inl (refl, refl, refl)) in (f "d1", f "d2", f "d3", f "d4", f "d5")

  mutual
    unfolding Formed Everywhere spaces

    everywhere : (ps : List Part) (r : Rec) (d : ℕ) → Formed ps r → spaces r ≡ 0 → Inside (heads d r) → Everywhere (AtDepth d) r
    everywhere ps (rec h ks) d f z i =
        let n : h.mark ≡ mark "Ns" → ⊥ = λ e. absurd (let y : 1 + all_spaces ks ≡ 0 = rw e at z in omega arith) in
        let w = all-everywhere (inside ps h.mark) ks d f.2 (omega arith) (within-other d h ks n i) in
        (at_own d h ks i, kids-asked (AtDepth d) h ks f.1 w, w)

    all-everywhere : (ps : List Part) (rs : Recs) (d : ℕ) → FormedAll ps rs → all_spaces rs ≡ 0 → Inside (all_heads d rs) → AllEverywhere (AtDepth d) rs
    all-everywhere ps nil d f z i = tt
    all-everywhere ps (cons r rs) d f z i =
        (everywhere ps r d f.0 (omega arith) (first-inside d r rs i), all-everywhere (after ps (mark_of r)) rs d f.1 (omega arith) (others-inside d r rs i))

  -- ---- the walk

  all_marked_append : (xs ys : List Placed) → AllMarkedAt whole xs → AllMarkedAt whole ys → AllMarkedAt whole (xs ++ ys)
  all_marked_append [] ys p q = q
  all_marked_append (x ∷ xs) ys p q = (p.0, all_marked_append xs ys p.1 q)

  all-at : (d : ℕ) (ds : List Diag) → All (AtDepth d) ds → AllMarkedAt whole (all_at d ds)
  unfolding all_at
  all-at d [] p = tt
  all-at d (x ∷ ds) p = (p.0, all-at d ds p.1)

  module _ (list : List ℕ) (ctx : ℕ) (ty : Typing) (typed : (P : Diag → Type 0) → Typed P ty) where
    -- an item that is no Ns, and no Ed that holds one
    plain-marked : (ps : List Part) (r : Rec) (top : Bool) (d n : ℕ) → Formed ps r → member (mark_of r) bodies ≡ false → (mark_of r ≡ mark "Ns" → ⊥) →
        (mark_of r ≡ mark "Ed" → mark_of (kid 0 (kids_of r)) ≡ mark "Ns" → ⊥) → Inside (heads d r) → AllMarkedAt whole (all_at d (transform_module_item list ctx ty r top n).1)
    plain-marked ps r top d n f b s x i =
        all-at d _ (item-all (AtDepth d) ty (typed (AtDepth d)) list ctx r top n (everywhere ps r d f (no_space ps r f b s x) i))

    mutual
      unfolding items_placed Formed

      items-marked : (ps : List Part) (rs : Recs) (top : Bool) (d n : ℕ) → FormedAll ps rs → lacks bodies ps ≡ true → Inside (all_heads d rs) → AllMarkedAt whole (items_placed list ctx ty rs top d n)
      items-marked ps nil top d n f l i = tt
      items-marked ps (cons r rs) top d n f l i =
          all_marked_append (item_placed list ctx ty r top d n) _
          (item-marked ps r top d n f.0 (lacks-allowed bodies ps l (mark_of r) (slot_of ps r f.0)) (first-inside d r rs i))
          (items-marked (after ps (mark_of r)) rs top d (transform_module_item list ctx ty r top n).2 f.1 (lacks-after bodies ps l (mark_of r)) (others-inside d r rs i))

      item-marked : (ps : List Part) (r : Rec) (top : Bool) (d n : ℕ) → Formed ps r → member (mark_of r) bodies ≡ false → Inside (heads d r) → AllMarkedAt whole (item_placed list ctx ty r top d n)
      item-marked ps (rec h ks) top d n f b i =
          go (eqb h.mark (mark "Ns")) (eqb h.mark (mark "Ed")) (is "Ns" (kid 0 ks)) refl refl refl
          (λ e. space-marked (inside ps h.mark) ks (suc d) n f.2 (within-space d h ks e i))
          (λ e s. export_marked (inside ps h.mark) ks d n f.2 s (within-other d h ks (λ q. absurd (let z : mark "Ed" ≡ mark "Ns" = sym e ∙ q in omega arith)) i))
        where
          go : (a b c : Bool) → eqb h.mark (mark "Ns") ≡ a → eqb h.mark (mark "Ed") ≡ b → is "Ns" (kid 0 ks) ≡ c
              → (h.mark ≡ mark "Ns" → AllMarkedAt whole (space_placed list ctx ty ks (suc d) n))
              → (h.mark ≡ mark "Ed" → mark_of (kid 0 ks) ≡ mark "Ns" → AllMarkedAt whole (export_placed list ctx ty ks (suc d) n))
              → AllMarkedAt whole (cond a (space_placed list ctx ty ks (suc d) n) (cond (b && c) (export_placed list ctx ty ks (suc d) n) (all_at d (transform_module_item list ctx ty (rec h ks) top n).1)))
          go true y z p q s u v = u (eqb-true _ _ p)
          go false true true p q s u v = v (eqb-true _ _ q) (eqb-true _ _ s)
          go false true false p q s u v = plain-marked ps (rec h ks) top d n f b (eqb-false _ _ p) (λ e. eqb-false _ _ s) i
          go false false z p q s u v = plain-marked ps (rec h ks) top d n f b (eqb-false _ _ p) (λ e k. absurd (eqb-false _ _ q e)) i

      export_marked : (ps : List Part) (ks : Recs) (d n : ℕ) → FormedAll ps ks → mark_of (kid 0 ks) ≡ mark "Ns" → Inside (all_heads d ks) → AllMarkedAt whole (export_placed list ctx ty ks (suc d) n)
      export_marked ps nil d n f e i = tt
      export_marked ps (cons r ops) d n f e i = exported-marked ps r d n f.0 e (first-inside d r ops i)

      exported-marked : (ps : List Part) (r : Rec) (d n : ℕ) → Formed ps r → mark_of r ≡ mark "Ns" → Inside (heads d r) → AllMarkedAt whole (exported_placed list ctx ty r (suc d) n)
      exported-marked ps (rec h ks) d n f e i = space-marked (inside ps h.mark) ks (suc d) n f.2 (within-space d h ks e i)

      space-marked : (ps : List Part) (ks : Recs) (d n : ℕ) → FormedAll ps ks → Inside (all_heads d ks) → AllMarkedAt whole (space_placed list ctx ty ks d n)
      space-marked ps nil d n f i = tt
      space-marked ps (cons name rs) d n f i = body_first_marked (after ps (mark_of name)) rs d n f.1 (others-inside d name rs i)

      body_first_marked : (ps : List Part) (ks : Recs) (d n : ℕ) → FormedAll ps ks → Inside (all_heads d ks) → AllMarkedAt whole (body_first_placed list ctx ty ks d n)
      body_first_marked ps nil d n f i = tt
      body_first_marked ps (cons b ops) d n f i = body-marked ps b d n f.0 (first-inside d b ops i)

      body-marked : (ps : List Part) (b : Rec) (d n : ℕ) → Formed ps b → Inside (heads d b) → AllMarkedAt whole (body_placed list ctx ty b d n)
      body-marked ps (rec h ks) d n f i =
          go (eqb h.mark (mark "Nb")) (eqb h.mark (mark "Nd")) refl refl
          (λ e. items-marked (inside ps h.mark) ks false d n f.2 (block-lacks ps h.mark e) (within-other d h ks (λ q. absurd (let z : mark "Nb" ≡ mark "Ns" = sym e ∙ q in omega arith)) i))
          (λ e. space-marked (inside ps h.mark) ks d n f.2 (within-other d h ks (λ q. absurd (let z : mark "Nd" ≡ mark "Ns" = sym e ∙ q in omega arith)) i))
        where
          go : (a b : Bool) → eqb h.mark (mark "Nb") ≡ a → eqb h.mark (mark "Nd") ≡ b
              → (h.mark ≡ mark "Nb" → AllMarkedAt whole (items_placed list ctx ty ks false d n)) → (h.mark ≡ mark "Nd" → AllMarkedAt whole (space_placed list ctx ty ks d n))
              → AllMarkedAt whole (cond a (items_placed list ctx ty ks false d n) (cond b (space_placed list ctx ty ks d n) []))
          go true b p q u v = u (eqb-true _ _ p)
          go false true p q u v = v (eqb-true _ _ q)
          go false false p q u v = tt

-- ---- a module

root-mark : (m : ℕ) → allowed root m ≡ true → m ≡ mark "Mo"
unfolding allowed marks
root-mark m e = member-one m (mark "Mo") e

module_lacks : lacks bodies (inside root (mark "Mo")) ≡ true
unfolding grammar known slots place is_property marks member
module_lacks = refl

module_marked : (list : List ℕ) (ctx : ℕ) (r : Rec) → Formed root r → AllMarkedAt (heads 0 r) (placed list ctx r)
unfolding placed Formed
module_marked list ctx (rec h ks) f =
    let ids : PrescannedModuleIds = prescan_module_ids ks in
    let e = root-mark h.mark f.0 in
    items-marked (heads 0 (rec h ks)) list ctx (expr_to_ts_type ids ctx) (λ P. typed-all P ids ctx) (inside root h.mark) ks true 0 0 f.2 (rw e module_lacks)
    (within-other (heads 0 (rec h ks)) 0 h ks (λ q. absurd (let z : mark "Mo" ≡ mark "Ns" = sym e ∙ q in omega arith)) (λ x m. m))

-- "the depth is the number of Ns records that hold the record it is marked at"
pub depth_is : (tree list : List ℕ) (ctx e : ℕ) → check_tree tree list ≡ fine e → AllMarkedAt (heads 0 (tree_at deepest tree 0)) (placed list ctx (tree_at deepest tree 0))
depth_is tree list ctx e f = module_marked list ctx (tree_at deepest tree 0) (formed tree list e f)
