-- The numbers of `numerals`: one that is halved in a loop, and the cases of `whole_of`.
use mathlib.Core.Path.{◌≡◌, refl, sym, ap, ◌∙◌}
use mathlib.Core.List.{List, ◌++◌}
use mathlib.Core.Option.{none, some}
use lib.ListN.{length, get_or, take, drop, replicate, get_or-append, get_or-eq_default}
use lib.Seq.{length-take-le}
use native.Mathlib.Decide.{dec_lt}
use Rattle.std.proofs.lemmas.List.{get_or-take, get_or-drop, get_or-append_right, get_or-replicate}
use Prim.Native.Nat.{ℕ, zero, suc, ◌+◌, ◌-◌, ◌/◌, ◌%◌, ◌≤◌, ◌<◌, min}
use native.Mathlib.Omega.{arith}
use borrow.Author.Tests.{eq-eqb, ne_eqb, lt-ltb, le-ltb}
use Rattle.definition.specs.Numerals.{two52, two63, exponent_of, fraction_of, halved, whole_of}

-- ---- halves

pub halve_odd : (k n : ℕ) → 0 < k → n % 2 ≡ 1 → halved k n ≡ none
unfolding halved
halve_odd zero n h e = absurd (omega arith)
halve_odd (suc k) n h e = rw (ne_eqb (n % 2) 0 (λ z. omega arith))

pub halve_even : (k n : ℕ) {j : ℕ} → k ≡ suc j → (n % 2 ≡ 1 → ⊥) → halved j (n / 2) ≡ halved k n
unfolding halved
halve_even k n h e =
    let z : n % 2 ≡ 0 = omega arith in
    rw (h, eq-eqb (n % 2) 0 z)

pub halve_done : (k n : ℕ) → (0 < k → ⊥) → halved k n ≡ some n
unfolding halved
halve_done zero n h = refl
halve_done (suc k) n h = absurd (omega arith)

-- ---- the whole number

pub whole-zero : (b : ℕ) → b % two63 ≡ 0 → whole_of b ≡ some 0
unfolding whole_of
whole-zero b e = rw (eq-eqb (b % two63) 0 e)

module _ (b : ℕ) (n : b % two63 ≡ 0 → ⊥) where
  pub whole-small : exponent_of b < 1023 → whole_of b ≡ none
  unfolding whole_of
  whole-small h = rw (ne_eqb (b % two63) 0 n, lt-ltb (exponent_of b) 1023 h)

  pub whole_large : 1023 ≤ exponent_of b → 1075 < exponent_of b → whole_of b ≡ none
  unfolding whole_of
  whole_large h k = rw (ne_eqb (b % two63) 0 n, le-ltb (exponent_of b) 1023 h, lt-ltb 1075 (exponent_of b) k)

  pub whole-halved : 1023 ≤ exponent_of b → exponent_of b ≤ 1075 → whole_of b ≡ halved (1075 - exponent_of b) (two52 + fraction_of b)
  unfolding whole_of
  whole-halved h k = rw (ne_eqb (b % two63) 0 n, le-ltb (exponent_of b) 1023 h, le-ltb 1075 (exponent_of b) k)

-- ---- the bytes

-- the first bytes of a text, as many as there are of 8, and zeros behind them
pub padded : (t : List ℕ) {n : ℕ} {part : List ℕ} → n ≡ min (length t) 8 → part ≡ take n t → (i : ℕ) → i < 8 → get_or (part ++ drop n (replicate 8 0)) i 0 ≡ get_or t i 0
padded t {n} {part} e f i h = go (dec_lt i n)
  where
    long : length part ≡ n
    long = ap length f ∙ length-take-le n t (omega arith)

    go : Dec (i < n) → get_or (part ++ drop n (replicate 8 0)) i 0 ≡ get_or t i 0
    go (yes l) = get_or-append part (drop n (replicate 8 0)) 0 i (omega (arith, long)) ∙ ap (λ (l : List ℕ). get_or l i 0) f ∙ get_or-take n t i 0 l
    go (no l) =
        get_or-append_right part (drop n (replicate 8 0)) n i 0 long (omega arith) ∙ get_or-drop n (replicate 8 0) (i - n) 0
        ∙ get_or-replicate 8 (n + (i - n)) 0 0 (omega arith) ∙ sym (get_or-eq_default t 0 (omega arith))
