-- What a `match` over a list of numbers shows in its last arm, and what it says of the place of a number in the list.
use mathlib.Core.Path.{◌≡◌, refl, sym, ap}
use mathlib.Core.Bool.{Bool, true, false, ◌&&◌, cond}
use mathlib.Core.List.{List, [], ◌∷◌}
use Prim.Native.Nat.{ℕ, suc, ◌<◌}
use native.Mathlib.Omega.{arith}
use lib.Dec.{eqb}
use lib.ListN.{length}
use borrow.Author.Tests.{ne_eqb, eqb-true}
use Rattle.definition.specs.Grammar.{place}
use Rattle.definition.proofs.Tests.{and-true}

-- `A`, and that m is none of the numbers ks: the tuple that a `match` on m with an arm for each of ks hands its last arm, where `A` is `Unit`
abbrev pub NoneOf : Type 0 → List ℕ → ℕ → Type 0
NoneOf A [] m = A
NoneOf A (k ∷ ks) m = NoneOf (A × (m ≡ k → ⊥)) ks m

none_first : (A : Type 0) (ks : List ℕ) (m : ℕ) → NoneOf A ks m → A
none_first A [] m a = a
none_first A (k ∷ ks) m a = (none_first (A × (m ≡ k → ⊥)) ks m a).0

-- a number that is none of ks has no place there
pub place_none : (A : Type 0) (ks : List ℕ) (m : ℕ) → NoneOf A ks m → place ks m ≡ length ks
unfolding place
place_none A [] m a = refl
place_none A (k ∷ ks) m a =
    rw (ne_eqb k m (λ (e : k ≡ m). (none_first (A × (m ≡ k → ⊥)) ks m a).1 (sym e))) (ap suc (place_none (A × (m ≡ k → ⊥)) ks m a))

-- a number that is k has the place of k
pub place_is : {m k : ℕ} (ks : List ℕ) → m ≡ k → place ks k ≡ place ks m
place_is ks e = ap (place ks) (sym e)

-- whether f gives each of the numbers ks for itself
unfoldable pub gives_each : (ℕ → ℕ) → List ℕ → Bool
gives_each f [] = true
gives_each f (k ∷ ks) = eqb (f k) k && gives_each f ks

-- then it does so for a number that has a place among them
pub gives_itself : (f : ℕ → ℕ) (ks : List ℕ) (m : ℕ) → gives_each f ks ≡ true → place ks m < length ks → f m ≡ m
unfolding place gives_each
gives_itself f [] m g h = absurd (omega arith)
gives_itself f (k ∷ ks) m g h = go (eqb k m) refl (gives_itself f ks m both.1) h
  where
    both : (eqb (f k) k ≡ true) × (gives_each f ks ≡ true)
    both = and-true (eqb (f k) k) (gives_each f ks) g

    go : (t : Bool) → eqb k m ≡ t → (place ks m < length ks → f m ≡ m) → cond t 0 (suc (place ks m)) < length (k ∷ ks) → f m ≡ m
    go true e r h = rw (sym (eqb-true k m e)) (eqb-true (f k) k both.0)
    go false e r h = r (omega arith)
