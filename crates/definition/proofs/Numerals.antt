-- Request §3: a number "is written in decimal if it is whole and below 2 to the 53 in size". `whole_of` is exact: the number that it finds is the size
-- of the f64 with these bits (`whole_is_lem`), and it finds each such size (`whole-all`).
use Prim.Native.Nat.{ℕ, zero, suc, ◌+◌, ◌-◌, ◌*◌, ◌/◌, ◌%◌, ◌^◌, ◌≤◌, ◌<◌}
use mathlib.Core.Path.{◌≡◌, refl, ap, sym, ◌∙◌}
use mathlib.Core.Bool.{Bool, true, false, cond, ◌||◌}
use mathlib.Core.Option.{Option, none, some}
use native.Mathlib.Nat.{add-zero, add-suc, mul-one, zero-mul, mul_assoc, pow-zero, pow-suc, one-le-pow, pow-le-pow_right, eq_of_mul-eq-mul_right, mul-le-mul_left, mul-le-mul_right, mul-le-mul}
use native.Mathlib.Omega.{arith}
use lib.Dec.{eqb, ltb}
use borrow.Author.Tests.{eqb-true, eqb-false, eq-eqb, ne_eqb, ltb-true, ltb-false}
use Rattle.definition.specs.Numerals.{two52, two53, two63, exponent_of, fraction_of, magnitude_of, halved, whole_of}
use Rattle.definition.proofs.Tests.{by_eq}

-- ---- powers of 2

power_add : (a b : ℕ) → 2 ^ (a + b) ≡ 2 ^ a * 2 ^ b
power_add a zero = rw (add-zero, pow-zero, mul-one) refl
power_add a (suc b) = rw (add-suc, pow-suc, pow-suc) (ap (λ (x : ℕ). x * 2) (power_add a b) ∙ mul_assoc (2 ^ a) (2 ^ b) 2)

positive : (k : ℕ) → 0 < 2 ^ k
positive k = one-le-pow k 2 (omega arith)

-- ---- numbers halved

-- one half more, by whether nothing is left over
half_is : (k m n : ℕ) (b : Bool) → eqb (m % 2) 0 ≡ b → (halved k (m / 2) ≡ some n → n * 2 ^ k ≡ m / 2) → cond b (halved k (m / 2)) none ≡ some n → n * 2 ^ suc k ≡ m
half_is k m n true t h q =
    let z : m % 2 ≡ 0 = eqb-true (m % 2) 0 t in
    rw pow-suc (sym (mul_assoc n (2 ^ k) 2) ∙ (ap (λ (x : ℕ). x * 2) (h q) ∙ omega arith))
half_is k m n false t h q = cc

halved_is : (k m n : ℕ) → halved k m ≡ some n → n * 2 ^ k ≡ m
unfolding halved
halved_is zero m n e = let q : m ≡ n = cc in rw (pow-zero, mul-one) (sym q)
halved_is (suc k) m n e = half_is k m n (eqb (m % 2) 0) refl (halved_is k (m / 2) n) e

halved-all : (k m n : ℕ) → n * 2 ^ k ≡ m → halved k m ≡ some n
unfolding halved
halved-all zero m n e = let q : n ≡ m = sym (rw (pow-zero, mul-one) refl) ∙ e in ap some (sym q)
halved-all (suc k) m n e =
    let d : n * 2 ^ k * 2 ≡ m = mul_assoc n (2 ^ k) 2 ∙ (rw (← pow-suc 2 k) e) in
    let z : m % 2 ≡ 0 = omega arith in
    let h : n * 2 ^ k ≡ m / 2 = omega arith in
    rw (eq-eqb (m % 2) 0 z) (halved-all k (m / 2) n h)

-- ---- sizes: m * 2 ^ j as a multiple of 2 ^ t

-- n * 2 ^ k halves out of m
joined : (n m k j t : ℕ) → k + j ≡ t → n * 2 ^ k ≡ m → n * 2 ^ t ≡ m * 2 ^ j
joined n m k j t e h = rw (← e) (rw power_add (sym (mul_assoc n (2 ^ k) (2 ^ j)) ∙ ap (λ (x : ℕ). x * 2 ^ j) h))

parted : (n m k j t : ℕ) → k + j ≡ t → n * 2 ^ t ≡ m * 2 ^ j → n * 2 ^ k ≡ m
parted n m k j t e h =
    let q : n * 2 ^ k * 2 ^ j ≡ m * 2 ^ j = mul_assoc n (2 ^ k) (2 ^ j) ∙ (ap (λ (x : ℕ). n * x) (sym (power_add k j) ∙ ap (λ (x : ℕ). 2 ^ x) e) ∙ h) in
    eq_of_mul-eq-mul_right (2 ^ j) (positive j) (n * 2 ^ k) m q

-- below 1: no number but 0
low : (n m j t : ℕ) → 0 < m → m < 2 ^ 53 → 53 + j ≤ t → n * 2 ^ t ≡ m * 2 ^ j → ⊥
low zero m j t a b c e =
    let q : 1 * 2 ^ j ≤ m * 2 ^ j = mul-le-mul_right (2 ^ j) a in
    omega (arith, positive j)
low (suc n) m j t a b c e =
    let q : suc m * 2 ^ j ≤ 2 ^ 53 * 2 ^ j = mul-le-mul_right (2 ^ j) b in
    let p : 2 ^ 53 * 2 ^ j ≤ 2 ^ t = rw (← power_add 53 j) (pow-le-pow_right (omega arith) c) in
    omega (arith, positive j)

-- from 2 to the 53 on
high : (n m j t : ℕ) → n < 2 ^ 53 → 2 ^ 52 ≤ m → suc t ≤ j → n * 2 ^ t ≡ m * 2 ^ j → ⊥
high n m j t a b c e =
    let q : suc n * 2 ^ t ≤ 2 ^ 53 * 2 ^ t = mul-le-mul_right (2 ^ t) a in
    let p : 2 ^ 52 * 2 ^ suc t ≤ m * 2 ^ j = mul-le-mul b (pow-le-pow_right (omega arith) c) in
    let d : 2 ^ suc t ≡ 2 ^ t * 2 = pow-suc 2 t in
    let r : 2 ^ 52 * 2 ^ suc t ≡ 2 ^ 53 * 2 ^ t = omega arith in
    omega (arith, positive t)

none-some : (n : ℕ) → none ≡ some n → ⊥
none-some n e = let z : ◌≡◌ {A = ℕ} 0 1 = cc in omega arith

positive_unless : {m : ℕ} → (m ≡ 0 → ⊥) → 0 < m
positive_unless {m} e = omega arith

-- ---- the size of an f64, by its exponent

module _ (b : ℕ) where
  size_small : exponent_of b ≡ 0 → magnitude_of b ≡ fraction_of b * 2 ^ 0
  unfolding magnitude_of
  size_small e = rw (eq-eqb (exponent_of b) 0 e, mul-one) refl

  size_large : (exponent_of b ≡ 0 → ⊥) → magnitude_of b ≡ (two52 + fraction_of b) * 2 ^ (exponent_of b - 1)
  unfolding magnitude_of
  size_large e = rw (ne_eqb (exponent_of b) 0 e) refl

-- ---- the number that is found

-- a fact of it, by the tests of `whole_of`
by_tests : (b : ℕ) (P : Option ℕ → Type 0) →
    (b % two63 ≡ 0 → P (some 0)) →
    ((b % two63 ≡ 0 → ⊥) → exponent_of b < 1023 → P none) →
    (1075 < exponent_of b → P none) →
    (1023 ≤ exponent_of b → exponent_of b ≤ 1075 → P (halved (1075 - exponent_of b) (two52 + fraction_of b))) →
    P (whole_of b)
unfolding whole_of
by_tests b P nothing below above inside = go (eqb (b % two63) 0) refl (ltb (exponent_of b) 1023) refl (ltb 1075 (exponent_of b)) refl
  where
    go : (z : Bool) → eqb (b % two63) 0 ≡ z → (l : Bool) → ltb (exponent_of b) 1023 ≡ l → (h : Bool) → ltb 1075 (exponent_of b) ≡ h →
        P (cond z (some 0) (cond (l || h) none (halved (1075 - exponent_of b) (two52 + fraction_of b))))
    go true z l p h q = nothing (eqb-true _ _ z)
    go false z true p h q = below (eqb-false _ _ z) (ltb-true _ _ p)
    go false z false p true q = above (ltb-true _ _ q)
    go false z false p false q = inside (ltb-false _ _ p) (ltb-false _ _ q)

module _ (b n : ℕ) where
  -- where the bits but the sign are 0, the size is 0
  nothing-size : b % two63 ≡ 0 → magnitude_of b ≡ 0
  nothing-size z =
      let e : exponent_of b ≡ 0 = omega arith in
      let f : fraction_of b ≡ 0 = omega arith in
      size_small b e ∙ (rw f refl)

  -- the size of what is found, t being 1074
  inside_is : (t : ℕ) → t ≡ 1074 → 1023 ≤ exponent_of b → exponent_of b ≤ 1075 →
      halved (1075 - exponent_of b) (two52 + fraction_of b) ≡ some n → (n < two53) × (n * 2 ^ t ≡ magnitude_of b)
  inside_is t s l h q =
      let k : ℕ = 1075 - exponent_of b in
      let m : ℕ = two52 + fraction_of b in
      let d : n * 2 ^ k ≡ m = halved_is k m n q in
      let w : n * 1 ≤ n * 2 ^ k = mul-le-mul_left n (positive k) in
      (omega arith, joined n m k (exponent_of b - 1) t (omega arith) d ∙ sym (size_large b (λ z. omega arith)))

  -- no number is found
  below_none : (t : ℕ) → t ≡ 1074 → (b % two63 ≡ 0 → ⊥) → exponent_of b < 1023 → n * 2 ^ t ≡ magnitude_of b → ⊥
  below_none t s z l q =
      by_eq (exponent_of b) 0
      (λ e. low n (fraction_of b) 0 t (positive_unless (λ f. z (omega arith))) (omega arith) (omega arith) (q ∙ size_small b e))
      (λ e. low n (two52 + fraction_of b) (exponent_of b - 1) t (omega arith) (omega arith) (omega arith) (q ∙ size_large b e))

  above-none : (t : ℕ) → t ≡ 1074 → n < two53 → 1075 < exponent_of b → n * 2 ^ t ≡ magnitude_of b → ⊥
  above-none t s a l q = high n (two52 + fraction_of b) (exponent_of b - 1) t a (omega arith) (omega arith) (q ∙ size_large b (λ z. omega arith))

  inside-all : (t : ℕ) → t ≡ 1074 → 1023 ≤ exponent_of b → exponent_of b ≤ 1075 → n * 2 ^ t ≡ magnitude_of b →
      halved (1075 - exponent_of b) (two52 + fraction_of b) ≡ some n
  inside-all t s l h q =
      halved-all (1075 - exponent_of b) (two52 + fraction_of b) n
      (parted n (two52 + fraction_of b) (1075 - exponent_of b) (exponent_of b - 1) t (omega arith) (q ∙ size_large b (λ z. omega arith)))

  none-all : (t : ℕ) → n * 2 ^ t ≡ 0 → n ≡ 0
  none-all t q = eq_of_mul-eq-mul_right (2 ^ t) (positive t) n 0 (q ∙ sym (zero-mul (2 ^ t)))

  -- "if it is whole and below 2 to the 53 in size": what is written is the size
  pub whole_is_lem : whole_of b ≡ some n → (n < two53) × (n * 2 ^ 1074 ≡ magnitude_of b)
  whole_is_lem =
      by_tests b (λ w. w ≡ some n → (n < two53) × (n * 2 ^ 1074 ≡ magnitude_of b))
      (λ z q. (let e : n ≡ 0 = cc in (rw e (omega arith), rw e (zero-mul (2 ^ 1074) ∙ sym (nothing-size z)))))
      (λ z l q. absurd (none-some n q))
      (λ l q. absurd (none-some n q))
      (inside_is 1074 refl)

  -- and every f64 of such a size is written
  pub whole-all : n < two53 → n * 2 ^ 1074 ≡ magnitude_of b → whole_of b ≡ some n
  whole-all a =
      by_tests b (λ w. n * 2 ^ 1074 ≡ magnitude_of b → w ≡ some n)
      (λ z q. ap some (sym (none-all 1074 (q ∙ nothing-size z))))
      (λ z l q. absurd (below_none 1074 refl z l q))
      (λ l q. absurd (above-none 1074 refl a l q))
      (inside-all 1074 refl)
