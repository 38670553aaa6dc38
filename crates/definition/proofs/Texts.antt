-- Texts: that they are byte strings, and how long they are. For texts that are written out, that are made of others, and for names that are made.
use mathlib.Core.Path.{◌≡◌, refl, ap}
use mathlib.Core.List.{List, [], ◌∷◌, ◌++◌}
use mathlib.Core.Bool.{Bool, true, false, cond, ◌&&◌}
use Prim.Native.Nat.{ℕ, zero, suc, ◌+◌, ◌/◌, ◌%◌, ◌≤◌, ◌<◌}
use native.Mathlib.Omega.{arith}
use lib.Dec.{eqb, ltb}
use lib.ListN.{length, drop, length-append}
use borrow.Author.Tests.{ltb-true}
use Rattle.definition.specs.Tree.{le4, Bytes}
use Rattle.definition.specs.Record.{text, same_text}
use Rattle.definition.specs.Names.{digit, decimal_up_to, decimal, gen_unique_name}
use Rattle.definition.specs.Typing.{turned, turned_integer}

-- ---- byte strings

pub bytes-none : Bytes []
unfolding Bytes
bytes-none i = omega arith

pub bytes-cons : (b : ℕ) (s : List ℕ) → b < 256 → Bytes s → Bytes (b ∷ s)
unfolding Bytes
bytes-cons b s l h zero = l
bytes-cons b s l h (suc i) = h i

first_byte : (b : ℕ) (s : List ℕ) → Bytes (b ∷ s) → b < 256
unfolding Bytes
first_byte b s h = h 0

other-bytes : (b : ℕ) (s : List ℕ) → Bytes (b ∷ s) → Bytes s
unfolding Bytes
other-bytes b s h i = h (suc i)

pub bytes_append : (s t : List ℕ) → Bytes s → Bytes t → Bytes (s ++ t)
bytes_append [] t h k = k
bytes_append (b ∷ s) t h k = bytes-cons b (s ++ t) (first_byte b s h) (bytes_append s t (other-bytes b s h) k)

pub bytes_drop : (n : ℕ) (s : List ℕ) → Bytes s → Bytes (drop n s)
bytes_drop zero s h = h
bytes_drop (suc n) [] h = h
bytes_drop (suc n) (b ∷ s) h = bytes_drop n s (other-bytes b s h)

-- a text that is written out: `written t refl`
abbrev pub all_bytes : List ℕ → Bool
all_bytes [] = true
all_bytes (b ∷ s) = ltb b 256 && all_bytes s

pub written : (s : List ℕ) → all_bytes s ≡ true → Bytes s
written [] e = bytes-none
written (b ∷ s) e = go (ltb b 256) refl e (λ h. written s h)
  where
    go : (t : Bool) → ltb b 256 ≡ t → (t && all_bytes s) ≡ true → (all_bytes s ≡ true → Bytes s) → Bytes (b ∷ s)
    go true q h f = bytes-cons b s (ltb-true b 256 q) (f h)
    go false q h f = absurd (let z : ◌≡◌ {A = ℕ} 0 1 = cc in omega arith)

-- ---- names that are made

decimal-length : (most n : ℕ) → length (decimal_up_to most n) ≤ most
unfolding decimal_up_to
decimal-length zero n = omega arith
decimal-length (suc most) n = go (ltb n 10) (decimal-length most (n / 10))
  where
    go : (b : Bool) → length (decimal_up_to most (n / 10)) ≤ most → length (cond b [] (decimal_up_to most (n / 10)) ++ (digit (n % 10) ∷ [])) ≤ suc most
    go true h = omega arith
    go false h = simp length-append (omega arith)

decimal-bytes : (most n : ℕ) → Bytes (decimal_up_to most n)
unfolding decimal_up_to
decimal-bytes zero n = bytes-none
decimal-bytes (suc most) n =
    bytes_append (cond (ltb n 10) [] (decimal_up_to most (n / 10))) (digit (n % 10) ∷ []) (go (ltb n 10) (decimal-bytes most (n / 10)))
    (bytes-cons (digit (n % 10)) [] (omega arith) bytes-none)
  where
    go : (b : Bool) → Bytes (decimal_up_to most (n / 10)) → Bytes (cond b [] (decimal_up_to most (n / 10)))
    go true h = bytes-none
    go false h = h

-- the text of an Id with a name that is made
pub name-length : (n : ℕ) → length (le4 0 ++ gen_unique_name n) ≤ 10 + n
unfolding gen_unique_name
name-length n = omega (arith, decimal-length (suc n) n)

pub name-bytes : (n : ℕ) → Bytes (le4 0 ++ gen_unique_name n)
unfolding gen_unique_name
name-bytes n = bytes_append (le4 0) (text "_dts_" ++ decimal n) (written (le4 0) refl) (bytes_append (text "_dts_") (decimal n) (written (text "_dts_") refl) (decimal-bytes (suc n) n))

-- ---- the texts of literals, with the sign turned

pub turned-length : (s : List ℕ) → length (turned s) ≡ length s
unfolding turned
turned-length [] = refl
turned-length (b ∷ []) = refl
turned-length (a ∷ b ∷ s) = ap suc (turned-length (b ∷ s))

pub turned-bytes : (s : List ℕ) → Bytes s → Bytes (turned s)
unfolding turned
turned-bytes [] h = h
turned-bytes (b ∷ []) h = bytes-cons ((b + 128) % 256) [] (omega arith) bytes-none
turned-bytes (a ∷ b ∷ s) h = bytes-cons a (turned (b ∷ s)) (first_byte a (b ∷ s) h) (turned-bytes (b ∷ s) (other-bytes a (b ∷ s) h))

pub turned_integer-length : (s : List ℕ) → length (turned_integer s) ≡ length s
unfolding turned_integer
turned_integer-length [] = refl
turned_integer-length (b ∷ s) = go (same_text s (digit 0 ∷ [])) (eqb b 1)
  where
    go : (x y : Bool) → length (cond x (0 ∷ s) (cond y (0 ∷ s) (1 ∷ s))) ≡ suc (length s)
    go true y = refl
    go false true = refl
    go false false = refl

pub turned_integer-bytes : (s : List ℕ) → Bytes s → Bytes (turned_integer s)
unfolding turned_integer
turned_integer-bytes [] h = h
turned_integer-bytes (b ∷ s) h = go (same_text s (digit 0 ∷ [])) (eqb b 1)
  where
    zero-first : Bytes (0 ∷ s)
    zero-first = bytes-cons 0 s (omega arith) (other-bytes b s h)

    go : (x y : Bool) → Bytes (cond x (0 ∷ s) (cond y (0 ∷ s) (1 ∷ s)))
    go true y = zero-first
    go false true = zero-first
    go false false = bytes-cons 1 s (omega arith) (other-bytes b s h)
