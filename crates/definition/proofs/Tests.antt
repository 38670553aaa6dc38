-- Laws of tests.
use Prim.Native.Nat.{ℕ}
use mathlib.Core.Path.{◌≡◌, refl}
use mathlib.Core.Bool.{Bool, true, false, ◌&&◌}
use native.Mathlib.Omega.{arith}
use lib.Dec.{eqb}
use borrow.Author.Tests.{eqb-true, eqb-false}

pub never : false ≡ true → ⊥
never e = let z : ◌≡◌ {A = ℕ} 0 1 = cc in omega arith

-- where both of two tests hold, each does
pub and-true : (a b : Bool) → (a && b) ≡ true → (a ≡ true) × (b ≡ true)
and-true true b e = (refl, e)
and-true false b e = absurd (never e)

-- a fact by whether two numbers are equal
pub by_eq : {P : Type 0} (j k : ℕ) → (j ≡ k → P) → ((j ≡ k → ⊥) → P) → P
by_eq {P} j k y n = go (eqb j k) refl
  where
    go : (b : Bool) → eqb j k ≡ b → P
    go true e = y (eqb-true j k e)
    go false e = n (eqb-false j k e)
