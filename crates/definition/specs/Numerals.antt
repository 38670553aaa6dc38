-- Request §3: a number "is written in decimal if it is whole and below 2 to the 53 in size". The 8 bytes of an f64 are a sign bit, an exponent of 11
-- bits and a fraction of 52.
use Rattle.std.specs.Prelude.{ℕ, zero, suc, ◌+◌, ◌-◌, ◌*◌, ◌/◌, ◌%◌, ◌^◌, List, Bool, cond, ◌||◌, eqb, ltb}
use Rattle.std.proofs.Math.Option.{Option, none, some}
use Rattle.definition.specs.Tree.{u32_at}

-- 2 to the 52, 53, 63
abbrev pub two52 : ℕ
two52 = 4503599627370496

abbrev pub two53 : ℕ
two53 = 9007199254740992

abbrev pub two63 : ℕ
two63 = 9223372036854775808

-- "8 bytes of f64", little-endian, as one number
unfoldable pub bits_of : List ℕ → ℕ
bits_of t = u32_at t 0 + 4294967296 * u32_at t 4

-- its parts
abbrev pub is_negative : ℕ → Bool
is_negative b = eqb (b / two63 % 2) 1

abbrev pub exponent_of : ℕ → ℕ
exponent_of b = b / two52 % 2048

abbrev pub fraction_of : ℕ → ℕ
fraction_of b = b % two52

-- the size of the f64 with these bits, counted in units of 2 to the -1074: the fraction where the exponent is 0, else the fraction with a 1 in front,
-- doubled for each exponent above 1. (At the exponent 2047, infinities and NaNs, it is over every number.)
unfoldable pub magnitude_of : ℕ → ℕ
magnitude_of b = cond (eqb (exponent_of b) 0) (fraction_of b) ((two52 + fraction_of b) * 2 ^ (exponent_of b - 1))

-- a number halved k times, if each time nothing is left over
unfoldable pub halved : ℕ → ℕ → Option ℕ
halved zero m = some m
halved (suc k) m = cond (eqb (m % 2) 0) (halved k (m / 2)) none

-- the whole number below 2 to the 53 that is the size of the f64 with these bits, if there is one: 0, or, at the exponents 1023 (below it the size is
-- below 1) to 1075 (above it 2 to the 53 and more), 1 and the fraction, halved once for each exponent below 1075. That it is the size and that no
-- other f64 has such a size: `whole_is`, `whole-all` of proofs/Numerals.antt
unfoldable pub whole_of : ℕ → Option ℕ
whole_of b =
    cond (eqb (b % two63) 0) (some 0)
    (cond (ltb (exponent_of b) 1023 || ltb 1075 (exponent_of b)) none (halved (1075 - exponent_of b) (two52 + fraction_of b)))
