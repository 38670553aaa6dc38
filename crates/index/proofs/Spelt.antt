-- The order of texts by the number that their first bytes spell.
use mathlib.Core.Path.{◌≡◌, refl, sym, ap, ◌∙◌}
use mathlib.Core.List.{List, [], ◌∷◌}
use Prim.Native.Nat.{ℕ, zero, suc, ◌+◌, ◌*◌, ◌<◌, ◌≤◌}
use native.Mathlib.Omega.{arith}
use lib.ListN.{length, get_or, take, drop}
use mir.Syntax.{w8}
use mir.Val.{Fits}
use Rattle.std.proofs.Common.{Ordering, Less, Equal, Greater}
use Rattle.std.specs.Ordering.{MatchOrdering, nat_cmp, ordering_then}
use Rattle.std.specs.Cmp.{ranks, nat_cmp_is}
use Rattle.std.specs.Cmp.Lexicographic.{slice_cmp}
use Rattle.std.specs.Slice.Scan.{big_endian}

abbrev Bytes : List ℕ → Type 0
Bytes xs = (k : ℕ) → Fits w8 (get_or xs k 0)

then-equal : (o : Ordering) → ordering_then o Equal ≡ o
then-equal Less = refl
then-equal Equal = refl
then-equal Greater = refl

then-then : (o p q : Ordering) → ordering_then o (ordering_then p q) ≡ ordering_then (ordering_then o p) q
then-then Less p q = refl
then-then Equal p q = refl
then-then Greater p q = refl

-- of two numbers with a last digit more, the ones in front decide, and else the digits
digit : (a b d e : ℕ) → d < 256 → e < 256 → ordering_then (nat_cmp a b) (nat_cmp d e) ≡ nat_cmp (a * 256 + d) (b * 256 + e)
digit a b d e p q = nat_cmp_is (a * 256 + d) (b * 256 + e) _ (go (nat_cmp a b) (nat_cmp d e) (ranks a b) (ranks d e))
  where
    go : (r s : Ordering) → MatchOrdering r (a < b) (a ≡ b) (b < a) → MatchOrdering s (d < e) (d ≡ e) (e < d)
        → MatchOrdering (ordering_then r s) (a * 256 + d < b * 256 + e) (a * 256 + d ≡ b * 256 + e) (b * 256 + e < a * 256 + d)
    go Less s f g = let f' : a < b = f in omega arith
    go Greater s f g = let f' : b < a = f in omega arith
    go Equal Less f g = let f' : a ≡ b = f in let g' : d < e = g in omega arith
    go Equal Equal f g = let f' : a ≡ b = f in let g' : d ≡ e = g in omega arith
    go Equal Greater f g = let f' : a ≡ b = f in let g' : e < d = g in omega arith

-- the numbers that n bytes spell behind two numbers are as those numbers, and else as the bytes
spelt : (n a b : ℕ) (xs ys : List ℕ) → n ≤ length xs → n ≤ length ys → Bytes xs → Bytes ys
    → ordering_then (nat_cmp a b) (slice_cmp nat_cmp (take n xs) (take n ys)) ≡ nat_cmp (big_endian a (take n xs)) (big_endian b (take n ys))
spelt zero a b xs ys p q f g = then-equal (nat_cmp a b)
spelt (suc n) a b [] ys p q f g = absurd (omega arith)
spelt (suc n) a b (x ∷ xs) [] p q f g = absurd (omega arith)
spelt (suc n) a b (x ∷ xs) (y ∷ ys) p q f g =
    then-then (nat_cmp a b) (nat_cmp x y) (slice_cmp nat_cmp (take n xs) (take n ys))
    ∙ ap (λ o. ordering_then o (slice_cmp nat_cmp (take n xs) (take n ys))) (digit a b x y (f 0).fits (g 0).fits)
    ∙ spelt n (a * 256 + x) (b * 256 + y) xs ys (omega arith) (omega arith) (λ k. f (suc k)) (λ k. g (suc k))

-- the first n bytes decide, and else those behind
split : (n : ℕ) (xs ys : List ℕ) → n ≤ length xs → n ≤ length ys
    → slice_cmp nat_cmp xs ys ≡ ordering_then (slice_cmp nat_cmp (take n xs) (take n ys)) (slice_cmp nat_cmp (drop n xs) (drop n ys))
split zero xs ys p q = refl
split (suc n) [] ys p q = absurd (omega arith)
split (suc n) (x ∷ xs) [] p q = absurd (omega arith)
split (suc n) (x ∷ xs) (y ∷ ys) p q =
    ap (ordering_then (nat_cmp x y)) (split n xs ys (omega arith) (omega arith))
    ∙ then-then (nat_cmp x y) (slice_cmp nat_cmp (take n xs) (take n ys)) (slice_cmp nat_cmp (drop n xs) (drop n ys))

module _ (xs ys : List ℕ) (p : 8 ≤ length xs) (q : 8 ≤ length ys) (f : Bytes xs) (g : Bytes ys) {x y : ℕ}
    (i : x ≡ big_endian 0 (take 8 xs)) (j : y ≡ big_endian 0 (take 8 ys)) where
  front : slice_cmp nat_cmp (take 8 xs) (take 8 ys) ≡ nat_cmp x y
  front = ap (λ o. ordering_then o (slice_cmp nat_cmp (take 8 xs) (take 8 ys))) (nat_cmp_is 0 0 Equal refl) ∙ spelt 8 0 0 xs ys p q f g ∙ rw (i, j)

  whole : slice_cmp nat_cmp xs ys ≡ ordering_then (nat_cmp x y) (slice_cmp nat_cmp (drop 8 xs) (drop 8 ys))
  whole = split 8 xs ys p q ∙ ap (λ o. ordering_then o (slice_cmp nat_cmp (drop 8 xs) (drop 8 ys))) front

  -- numbers that differ decide
  pub front_decides : (x ≡ y → ⊥) → nat_cmp x y ≡ slice_cmp nat_cmp xs ys
  front_decides n = go (nat_cmp x y) (ranks x y) ∙ sym whole
    where
      go : (o : Ordering) → MatchOrdering o (x < y) (x ≡ y) (y < x) → o ≡ ordering_then o (slice_cmp nat_cmp (drop 8 xs) (drop 8 ys))
      go Less e = refl
      go Equal e = absurd (n e)
      go Greater e = refl

  -- and else what stands behind
  pub front_same : x ≡ y → slice_cmp nat_cmp (drop 8 xs) (drop 8 ys) ≡ slice_cmp nat_cmp xs ys
  front_same e = ap (λ o. ordering_then o (slice_cmp nat_cmp (drop 8 xs) (drop 8 ys))) (nat_cmp_is x y Equal e) ∙ sym whole
