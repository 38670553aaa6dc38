-- Where an Ns can stand: an item after the grammar that is no Ns, and no Ed that holds one, has no Ns anywhere in it.
use mathlib.Core.Path.{◌≡◌, refl, sym, ap, ◌∙◌, subst}
use mathlib.Core.List.{List, [], ◌∷◌, map}
use mathlib.Core.Bool.{Bool, true, false, cond, not, ◌&&◌, ◌||◌}
use Prim.Native.Nat.{ℕ, suc, ◌+◌}
use native.Mathlib.Omega.{arith}
use lib.Dec.{eqb}
use lib.ListN.{get_or}
use borrow.Author.Tests.{eqb-true, eqb-false, ne_eqb}
use Rattle.definition.specs.Tree.{Rec, Recs, rec, nil, cons}
use Rattle.definition.specs.Grammar.{mark, marks, member, Part, one, many, property, Row, grammar, known, slots, place, allowed, after, is_property, undestructured}
use Rattle.definition.specs.Check.{slots_of, inside}
use Rattle.definition.specs.Record.{mark_of, kids_of, kid}
use Rattle.definition.specs.Formed.{Formed, FormedAll}
use Rattle.definition.proofs.Tests.{never, and-true, by_eq}
use Rattle.definition.proofs.Kids.{inside-plain}

-- the Ns records of a tree, itself included
unfoldable mutual
  pub spaces : Rec → ℕ
  spaces (rec h ks) = cond (eqb h.mark (mark "Ns")) 1 0 + all_spaces ks

  pub all_spaces : Recs → ℕ
  all_spaces nil = 0
  all_spaces (cons r rs) = spaces r + all_spaces rs

-- ---- slots that allow none of some marks

-- none of the marks ms is one of xs
abbrev others : List ℕ → List ℕ → Bool
others xs [] = true
others xs (m ∷ ms) = not (member m xs) && others xs ms

-- the slots ps allow none of xs
abbrev pub lacks : List ℕ → List Part → Bool
lacks xs [] = true
lacks xs (one s ∷ ps) = others xs (marks s) && lacks xs ps
lacks xs (many s ∷ ps) = others xs (marks s) && lacks xs ps
lacks xs (property ∷ ps) = others xs (marks "Bd Ag") && lacks xs ps

module _ (xs : List ℕ) where
  others-member : (ms : List ℕ) → others xs ms ≡ true → (m : ℕ) → member m ms ≡ true → member m xs ≡ false
  unfolding member
  others-member [] o m e = absurd (never e)
  others-member (x ∷ ms) o m e = let z = and-true (not (member x xs)) (others xs ms) o in go (eqb m x) refl z.0 (others-member ms z.1 m) e
    where
      outside : (b : Bool) → not b ≡ true → b ≡ false
      outside true e = absurd (never e)
      outside false e = refl

      go : (b : Bool) → eqb m x ≡ b → not (member x xs) ≡ true → (member m ms ≡ true → member m xs ≡ false) → (b || member m ms) ≡ true → member m xs ≡ false
      go true q n f h = rw (eqb-true m x q) (outside (member x xs) n)
      go false q n f h = f h

  pub lacks-allowed : (ps : List Part) → lacks xs ps ≡ true → (m : ℕ) → allowed ps m ≡ true → member m xs ≡ false
  unfolding allowed
  lacks-allowed [] c m e = absurd (never e)
  lacks-allowed (one s ∷ ps) c m e = others-member (marks s) (and-true _ (lacks xs ps) c).0 m e
  lacks-allowed (many s ∷ ps) c m e =
      let z = and-true (others xs (marks s)) (lacks xs ps) c in go (member m (marks s)) refl (others-member (marks s) z.0 m) (lacks-allowed ps z.1 m) e
    where
      go : (b : Bool) → member m (marks s) ≡ b → (member m (marks s) ≡ true → member m xs ≡ false) → (allowed ps m ≡ true → member m xs ≡ false)
          → (b || allowed ps m) ≡ true → member m xs ≡ false
      go true q f g h = f q
      go false q f g h = g h
  lacks-allowed (property ∷ ps) c m e = others-member (marks "Bd Ag") (and-true _ (lacks xs ps) c).0 m e

  pub lacks-after : (ps : List Part) → lacks xs ps ≡ true → (m : ℕ) → lacks xs (after ps m) ≡ true
  unfolding after
  lacks-after [] c m = refl
  lacks-after (one s ∷ ps) c m = (and-true (others xs (marks s)) (lacks xs ps) c).1
  lacks-after (many s ∷ ps) c m = go (member m (marks s)) (lacks-after ps (and-true (others xs (marks s)) (lacks xs ps) c).1 m)
    where
      go : (b : Bool) → lacks xs (after ps m) ≡ true → lacks xs (cond b (many s ∷ ps) (after ps m)) ≡ true
      go true f = c
      go false f = f
  lacks-after (property ∷ ps) c m = (and-true (others xs (marks "Bd Ag")) (lacks xs ps) c).1

-- ---- the grammar: a record that is none of the holders holds none of them

-- a module, and the bodies of namespaces
abbrev pub bodies : List ℕ
bodies = mark "Mo" ∷ mark "Nb" ∷ mark "Nd" ∷ []

-- an Ns, and the records that can hold one, whatever stands between
abbrev pub holders : List ℕ
holders = mark "Ns" ∷ mark "Ed" ∷ bodies

abbrev closed : List Row → Bool
closed [] = true
closed (r ∷ rs) = (member r.mark holders || lacks holders r.parts) && closed rs

all_closed : closed grammar ≡ true
unfolding grammar marks member
all_closed = refl

row-lacks : (rs : List Row) → closed rs ≡ true → (m : ℕ) → member m holders ≡ false
    → lacks holders (get_or (map (λ (r : Row). r.parts) rs) (place (map (λ (r : Row). r.mark) rs) m) []) ≡ true
unfolding place
row-lacks [] c m n = refl
row-lacks (r ∷ rs) c m n =
    let z = and-true (member r.mark holders || lacks holders r.parts) (closed rs) c in go (eqb r.mark m) refl z.0 (row-lacks rs z.1 m n)
  where
    own : (b : Bool) → b ≡ false → (b || lacks holders r.parts) ≡ true → lacks holders r.parts ≡ true
    own true e h = absurd (never (sym e))
    own false e h = h

    go : (b : Bool) → eqb r.mark m ≡ b → (member r.mark holders || lacks holders r.parts) ≡ true
        → lacks holders (get_or (map (λ (r : Row). r.parts) rs) (place (map (λ (r : Row). r.mark) rs) m) []) ≡ true
        → lacks holders (get_or (r.parts ∷ map (λ (r : Row). r.parts) rs) (cond b 0 (suc (place (map (λ (r : Row). r.mark) rs) m))) []) ≡ true
    go true q h f = own (member r.mark holders) (ap (λ (k : ℕ). member k holders) (eqb-true r.mark m q) ∙ n) h
    go false q h f = f

left-lacks : lacks holders undestructured ≡ true
unfolding marks member
left-lacks = refl

pub inside-lacks : (ps : List Part) (m : ℕ) → member m holders ≡ false → lacks holders (inside ps m) ≡ true
unfolding known slots
inside-lacks ps m n = go (is_property ps) (eqb m (mark "Ag")) (row-lacks grammar all_closed m n)
  where
    go : (p b : Bool) → lacks holders (slots_of m) ≡ true → lacks holders (cond p (cond b undestructured (slots_of m)) (slots_of m)) ≡ true
    go true true f = left-lacks
    go true false f = f
    go false b f = f

-- ---- records that hold none

pub not-one : (xs : List ℕ) (x : ℕ) → member x xs ≡ true → (m : ℕ) → member m xs ≡ false → eqb m x ≡ false
not-one xs x i m n = ne_eqb m x (λ e. absurd (never (sym n ∙ (ap (λ (k : ℕ). member k xs) e ∙ i))))

space-not : (m : ℕ) → member m holders ≡ false → eqb m (mark "Ns") ≡ false
unfolding member
space-not m n = not-one holders (mark "Ns") refl m n

pub slot_of : (ps : List Part) (r : Rec) → Formed ps r → allowed ps (mark_of r) ≡ true
unfolding Formed
slot_of ps (rec h ks) f = f.0

mutual
  unfolding spaces Formed

  -- one that is none of the holders
  other_none : (ps : List Part) (r : Rec) → Formed ps r → member (mark_of r) holders ≡ false → spaces r ≡ 0
  other_none ps (rec h ks) f n = rw (space-not h.mark n) (omega (arith, all_none (inside ps h.mark) ks f.2 (inside-lacks ps h.mark n)))

  -- those in slots that allow none of the holders
  all_none : (ps : List Part) (rs : Recs) → FormedAll ps rs → lacks holders ps ≡ true → all_spaces rs ≡ 0
  all_none ps nil f c = refl
  all_none ps (cons r rs) f c =
      omega (arith, other_none ps r f.0 (lacks-allowed holders ps c (mark_of r) (slot_of ps r f.0)), all_none (after ps (mark_of r)) rs f.1 (lacks-after holders ps c (mark_of r)))

-- what an Ed holds, whose declaration is no Ns
export_none : (ks : Recs) → FormedAll (slots_of (mark "Ed")) ks → (mark_of (kid 0 ks) ≡ mark "Ns" → ⊥) → all_spaces ks ≡ 0
unfolding spaces Formed grammar known slots place marks member after
export_none nil f n = refl
export_none (cons d ops) f n =
    let e = lacks-allowed (mark "Ed" ∷ bodies) (slots_of (mark "Ed")) refl (mark_of d) (slot_of (slots_of (mark "Ed")) d f.0) in
    omega (arith, other_none (slots_of (mark "Ed")) d f.0 (rw (ne_eqb (mark_of d) (mark "Ns") n) e), all_none (many "Op" ∷ []) ops f.1 refl)

-- an item that is no Ns, and no Ed that holds one
pub no_space : (ps : List Part) (r : Rec) → Formed ps r → member (mark_of r) bodies ≡ false → (mark_of r ≡ mark "Ns" → ⊥) →
    (mark_of r ≡ mark "Ed" → mark_of (kid 0 (kids_of r)) ≡ mark "Ns" → ⊥) → spaces r ≡ 0
unfolding spaces Formed member
no_space ps (rec h ks) f b n x =
    by_eq h.mark (mark "Ed")
    (λ e. rw e (omega (arith, export_none ks (subst (λ (qs : List Part). FormedAll qs ks) (ap (inside ps) e ∙ inside-plain ps (mark "Ed") (eqb-false (mark "Ed") (mark "Ag") refl)) f.2) (x e))))
    (λ e. other_none ps (rec h ks) f (rw (ne_eqb h.mark (mark "Ns") n, ne_eqb h.mark (mark "Ed") e) b))
