-- The overload list, searched entry by entry.
use mathlib.Core.Path.{◌≡◌, refl, sym, ap, ◌∙◌}
use mathlib.Core.List.{List}
use mathlib.Core.Bool.{Bool, true, false, ◌&&◌, ◌||◌}
use Prim.Native.Nat.{ℕ, zero, suc, ◌+◌, ◌-◌, ◌*◌, ◌/◌, ◌<◌, ◌≤◌}
use native.Mathlib.Omega.{arith}
use lib.Dec.{eqb}
use lib.ListN.{length}
use Rattle.definition.specs.Check.{entry_size}
use Rattle.definition.specs.Tree.{Head, u32_at}
use Rattle.definition.specs.Record.{entries_have, listed}

-- n entries are left from p on: the answer for a record with the head h is the one that they give
pub record Looking (l : List ℕ) (h : Head) (n p : ℕ) : Type 0 where
  pub room : p + entry_size * n ≤ length l
  pub same : listed l h ≡ entries_have n l p h

entries_more : (n : ℕ) (l : List ℕ) (p : ℕ) (h : Head) → 0 < n
    → entries_have n l p h ≡ ((eqb (u32_at l (p + 2)) h.start && eqb (u32_at l (p + 6)) h.end) || entries_have (n - 1) l (p + entry_size) h)
unfolding entries_have
entries_more zero l p h e = absurd (omega arith)
entries_more (suc n) l p h e =
    let z : n ≡ suc n - 1 = omega arith in
    ap (λ (k : ℕ). (eqb (u32_at l (p + 2)) h.start && eqb (u32_at l (p + 6)) h.end) || entries_have k l (p + entry_size) h) z

pub looking_start : (l : List ℕ) (h : Head) → Looking l h (length l / entry_size) 0
unfolding listed
looking_start l h = record { room = omega arith; same = refl }

module _ {l : List ℕ} {h : Head} {n p : ℕ} (d : Looking l h n p) where
  pub looking_done : n ≤ 0 → false ≡ listed l h
  unfolding entries_have
  looking_done e = let z : n ≡ 0 = omega arith in sym (d.same ∙ ap (λ (k : ℕ). entries_have k l p h) z)

  -- b says whether the entry at p has the range
  module _ (e : 0 < n) {b : Bool} (q : b ≡ (eqb (u32_at l (p + 2)) h.start && eqb (u32_at l (p + 6)) h.end)) where
    looking_by : listed l h ≡ (b || entries_have (n - 1) l (p + entry_size) h)
    looking_by = d.same ∙ (entries_more n l p h e ∙ ap (λ (t : Bool). t || entries_have (n - 1) l (p + entry_size) h) (sym q))

    pub looking_other : b ≡ false → Looking l h (n - 1) (p + entry_size)
    looking_other f = record { room = omega (arith, d.room); same = looking_by ∙ rw f refl }

    pub looking_found : b ≡ true → true ≡ listed l h
    looking_found f = sym (looking_by ∙ rw f refl)
