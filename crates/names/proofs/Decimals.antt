-- The decimal digits of a number, from its last one on.
use mathlib.Core.Path.{◌≡◌, refl, ap, ◌∙◌}
use mathlib.Core.List.{List, [], ◌∷◌, ◌++◌}
use mathlib.Core.Bool.{Bool, true, false, cond}
use Prim.Native.Nat.{ℕ, zero, suc, ◌+◌, ◌*◌, ◌/◌, ◌%◌, ◌≤◌, ◌<◌, ◌^◌}
use native.Mathlib.Decide.{dec_lt}
use native.Mathlib.Omega.{arith}
use native.Mathlib.Nat.{pow-suc}
use lib.Dec.{ltb}
use lib.ListN.{length, length-append}
use borrow.Author.Tests.{lt-ltb, le-ltb, ltb-false}
use Rattle.definition.specs.Record.{text}
use Rattle.definition.specs.Names.{digit, decimal_up_to, decimal, gen_unique_name}

-- more room than n needs changes nothing
enough : (k j n : ℕ) → n < k → n < j → decimal_up_to k n ≡ decimal_up_to j n
unfolding decimal_up_to
enough zero j n h g = absurd (omega arith)
enough (suc k) zero n h g = absurd (omega arith)
enough (suc k) (suc j) n h g = go (ltb n 10) refl (λ (l : 10 ≤ n). enough k j (n / 10) (omega arith) (omega arith))
  where
    go : (b : Bool) → ltb n 10 ≡ b → (10 ≤ n → decimal_up_to k (n / 10) ≡ decimal_up_to j (n / 10)) →
        cond b [] (decimal_up_to k (n / 10)) ++ (digit (n % 10) ∷ []) ≡ cond b [] (decimal_up_to j (n / 10)) ++ (digit (n % 10) ∷ [])
    go true e f = refl
    go false e f = ap (λ (l : List ℕ). l ++ (digit (n % 10) ∷ [])) (f (ltb-false n 10 e))

-- one digit, and one behind the others
pub decimal-one : (n : ℕ) → n < 10 → decimal n ≡ digit n ∷ []
unfolding decimal_up_to
decimal-one n h = let z : n % 10 ≡ n = omega arith in rw (lt-ltb n 10 h, z)

pub decimal-more : (n : ℕ) → 10 ≤ n → decimal n ≡ decimal (n / 10) ++ (digit (n % 10) ∷ [])
unfolding decimal_up_to
decimal-more n h = rw (le-ltb n 10 h) (ap (λ (l : List ℕ). l ++ (digit (n % 10) ∷ [])) (enough n (suc (n / 10)) (n / 10) (omega arith) (omega arith)))

-- how many they are
pub length-one : (n : ℕ) → n < 10 → length (decimal n) ≡ 1
length-one n h = ap length (decimal-one n h)

pub length_more : (n : ℕ) → 10 ≤ n → length (decimal n) ≡ length (decimal (n / 10)) + 1
length_more n h = ap length (decimal-more n h) ∙ length-append (decimal (n / 10)) (digit (n % 10) ∷ [])

-- one more than its decimal logarithm
pub length-log : (k n : ℕ) → 10 ^ k ≤ n → n < 10 * 10 ^ k → length (decimal n) ≡ k + 1
length-log zero n l h = length-one n (omega arith)
length-log (suc k) n l h =
    let p : 10 ^ suc k ≡ 10 * 10 ^ k = omega (arith, pow-suc 10 k) in
    let f : length (decimal (n / 10)) ≡ k + 1 = length-log k (n / 10) (omega arith) (omega arith) in
    omega (arith, length_more n (omega arith))

unfoldable tens : ℕ → ℕ
tens zero = 1
tens (suc k) = 10 * tens k

few : (k n : ℕ) → n < tens (suc k) → length (decimal n) ≤ suc k
unfolding tens
few zero n h = omega (arith, length-one n (omega arith))
few (suc k) n h = go (dec_lt n 10) (few k (n / 10) (omega arith))
  where
    go : Dec (n < 10) → length (decimal (n / 10)) ≤ suc k → length (decimal n) ≤ suc (suc k)
    go (yes l) f = omega (arith, length-one n l)
    go (no l) f = omega (arith, length_more n (omega arith))

-- a number of 64 bits has at most twenty
pub at_most_twenty : (n : ℕ) → n < 2 ^ 64 → length (decimal n) ≤ 20
unfolding tens
at_most_twenty n h = few 19 n (omega arith)

-- ---- the name

pub length_unique : (n : ℕ) → length (gen_unique_name n) ≡ 5 + length (decimal n)
unfolding gen_unique_name
length_unique n = length-append (text "_dts_") (decimal n)
