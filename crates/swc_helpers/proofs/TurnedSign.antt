-- The sign of an f64 turned is the highest of its bits turned.
use Rattle.std.proofs.Common.{◌≡◌, ℕ, zero, suc, ◌+◌, ◌*◌, ◌%◌, ◌^◌, ◌<◌, ◌≤◌, Bool, true, false, cond, not, T, ℤ, sym, refl, ap, ◌∙◌, arith, le-ltb, lt-ltb}
use lib.Ieee.{Float, nan, inf, fin, binary64, neg, is_nan, fits, of_bits, to_bits, nan_bits, of_fields, odd}
use lib.Ieee.Bits.{to_bits-of_bits, to_bits-lt, of_bits-fits, nan_bits_is, nan_bits_above}
use Rattle.swc_helpers.specs.Literal.{turned_bits}

-- ---- which bits are a NaN's

not_T : (b : Bool) → b ≡ false → T (not b)
not_T true e = absurd cc
not_T false e = tt

module _ (n : ℕ) where
  pub no_nan : n % 0x8000_0000_0000_0000 ≤ 0x7ff0_0000_0000_0000 → T (not (nan_bits binary64 n))
  no_nan h = not_T _ (nan_bits_above binary64 n ∙ le-ltb 0x7ff0_0000_0000_0000 (n % 0x8000_0000_0000_0000) h)

  a-nan : 0x7ff0_0000_0000_0000 < n % 0x8000_0000_0000_0000 → is_nan (of_bits binary64 n) ≡ true
  a-nan h = sym (nan_bits_is binary64 n) ∙ (nan_bits_above binary64 n ∙ lt-ltb 0x7ff0_0000_0000_0000 (n % 0x8000_0000_0000_0000) h)

is-nan : (v : Float) → is_nan v ≡ true → nan ≡ v
unfolding is_nan
is-nan nan e = refl
is-nan (inf s) e = absurd cc
is-nan (fin s m x) e = absurd cc

nan_is : of_bits binary64 0x7ff8_0000_0000_0000 ≡ nan
unfolding of_bits of_fields odd
nan_is = refl

-- `f64::NAN` is what a NaN's bits stand for
pub nan-read : (n : ℕ) → 0x7ff0_0000_0000_0000 < n % 0x8000_0000_0000_0000 → of_bits binary64 0x7ff8_0000_0000_0000 ≡ of_bits binary64 n
nan-read n h = nan_is ∙ is-nan (of_bits binary64 n) (a-nan n h)

-- ---- the sign of what is no NaN

-- nor is its negation one
pub negation_is_no_nan : (v : Float) → is_nan v ≡ false → T (not (is_nan (neg v)))
unfolding neg is_nan
negation_is_no_nan nan e = absurd cc
negation_is_no_nan (inf s) e = tt
negation_is_no_nan (fin s m x) e = tt

-- a sign s before what is below its weight
turns : (s : Bool) (a b n : ℕ) → a + b < 0x8000_0000_0000_0000 → cond s 0x8000_0000_0000_0000 0 + a + b ≡ n → cond (not s) 0x8000_0000_0000_0000 0 + a + b ≡ turned_bits n
turns true a b n h e = omega arith
turns false a b n h e = omega arith

turn-inf : (s : Bool) (n : ℕ) → cond s 0x8000_0000_0000_0000 0 + 0x7ff0_0000_0000_0000 ≡ n → cond (not s) 0x8000_0000_0000_0000 0 + 0x7ff0_0000_0000_0000 ≡ turned_bits n
turn-inf true n e = omega arith
turn-inf false n e = omega arith

below_sign : (a b : ℕ) → 0x8000_0000_0000_0000 + a + b < 2 * 0x8000_0000_0000_0000 → a + b < 0x8000_0000_0000_0000
below_sign a b h = omega arith

any_sign : (s t : Bool) (m : ℕ) (x : ℤ) → T (fits binary64 (fin s m x)) → T (fits binary64 (fin t m x))
unfolding fits
any_sign s t zero x h = h
any_sign s t (suc m) x h = h

turned-value : (n : ℕ) (v : Float) → T (fits binary64 v) → T (not (is_nan v)) → to_bits binary64 v ≡ n → to_bits binary64 (neg v) ≡ turned_bits n
unfolding to_bits neg is_nan
turned-value n nan f k e = absurd k
turned-value n (inf s) f k e = turn-inf s n e
turned-value n (fin s m x) f k e = turns s _ _ n (below_sign _ _ (to_bits-lt binary64 (fin true m x) (any_sign s true m x f))) e

pub turned-is : (n : ℕ) (v : Float) → v ≡ of_bits binary64 n → n < 2 ^ 64 → is_nan v ≡ false → to_bits binary64 (neg v) ≡ turned_bits n
turned-is n v q h e =
    let k : T (not (is_nan v)) = not_T _ e in
    let f : T (fits binary64 v) = rw q (of_bits-fits binary64 n) in
    turned-value n v f k (ap (to_bits binary64) q ∙ to_bits-of_bits binary64 n h (rw (sym q) k))
