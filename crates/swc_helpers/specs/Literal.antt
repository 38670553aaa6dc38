-- The bits of a number and its sign.
use Rattle.std.specs.Prelude.{ℕ, ◌+◌, ◌*◌, ◌/◌, ◌%◌, cond, List, [], ◌∷◌, ◌==◌, from_bits, Float}
use Rattle.std.specs.Float.{binary64}
use Rattle.definition.specs.Tree.{u32_at}

-- ---- numbers

-- the number in eight bytes, little-endian
abbrev pub u64_at : List ℕ → ℕ → ℕ
u64_at s i = u32_at s i + 4294967296 * u32_at s (i + 4)

-- a number in eight bytes
abbrev pub le8 : ℕ → List ℕ
le8 n =
    n % 256 ∷ n / 256 % 256 ∷ n / 65536 % 256 ∷ n / 16777216 % 256 ∷ n / 4294967296 % 256 ∷ n / 1099511627776 % 256 ∷ n / 281474976710656 % 256 ∷ n / 72057594037927936 % 256 ∷ []

-- "8 bytes of f64": the number that they stand for
abbrev pub number_of : List ℕ → Float
number_of t = from_bits binary64 (u64_at t 0)

-- 64 bits with the highest one, the sign, turned
abbrev pub turned_bits : ℕ → ℕ
turned_bits n = (n + 0x8000_0000_0000_0000) % 0x1_0000_0000_0000_0000

-- the sign byte of a big integer, turned, where its first digit is d: "-0n is 0n"
abbrev pub turned_sign : ℕ → ℕ → ℕ
turned_sign sign d = cond (d == 48) 0 (cond (sign == 1) 0 1)
