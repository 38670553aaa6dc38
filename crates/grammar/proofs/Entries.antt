-- The overload list, entry by entry.
use mathlib.Core.Path.{◌≡◌, sym, ◌∙◌}
use mathlib.Core.List.{List}
use mathlib.Core.Bool.{true, false}
use Prim.Native.Nat.{ℕ, suc, ◌+◌, ◌-◌, ◌*◌, ◌/◌, ◌%◌, ◌<◌, ◌≤◌}
use native.Mathlib.Nat.{sub-zero}
use native.Mathlib.Omega.{arith}
use borrow.Author.Tests.{eq-eqb, ne_eqb, lt-ltb, le-ltb}
use lib.ListN.{length}
use Rattle.definition.specs.Tree.{u16_at, u32_at}
use Rattle.definition.specs.Grammar.{mark}
use Rattle.definition.specs.Check.{entry_size, entries_fine, longest_list, list_fine}

-- i of the list's n entries are in order: the rest of the check is the check of those left
pub record Passed (l : List ℕ) (n i : ℕ) : Type 0 where
  pub whole : length l ≡ entry_size * n
  pub within : i ≤ n
  pub same : list_fine l ≡ entries_fine (n - i) l (entry_size * i)

module _ (l : List ℕ) where
  pub list-long : longest_list < length l → false ≡ list_fine l
  unfolding list_fine
  list-long h = rw (lt-ltb longest_list (length l) h)

  module _ (h : length l ≤ longest_list) where
    pub list-parts : (length l % entry_size ≡ 0 → ⊥) → false ≡ list_fine l
    unfolding list_fine
    list-parts e = rw (le-ltb longest_list (length l) h, ne_eqb (length l % entry_size) 0 e)

    pub passed_start : length l % entry_size ≡ 0 → Passed l (length l / entry_size) 0
    unfolding list_fine
    passed_start e = record {
      whole = omega arith;
      within = omega arith;
      same = rw (sub-zero (length l / entry_size), le-ltb longest_list (length l) h, eq-eqb (length l % entry_size) 0 e);
    }

  module _ (n i : ℕ) (d : Passed l n i) where
    module _ (h : i < n) where
      one_more : n - i ≡ suc (n - (i + 1))
      one_more = omega arith

      pub wrong_mark : (u16_at l (entry_size * i) ≡ mark "ov" → ⊥) → false ≡ list_fine l
      unfolding entries_fine
      wrong_mark a = sym (d.same ∙ rw (one_more, ne_eqb (u16_at l (entry_size * i)) (mark "ov") a))

      module _ (a : u16_at l (entry_size * i) ≡ mark "ov") where
        pub backward : u32_at l (entry_size * i + 6) < u32_at l (entry_size * i + 2) → false ≡ list_fine l
        unfolding entries_fine
        backward b =
            sym (d.same ∙ rw (one_more, eq-eqb (u16_at l (entry_size * i)) (mark "ov") a, lt-ltb (u32_at l (entry_size * i + 6)) (u32_at l (entry_size * i + 2)) b))

        pub passed-turn : u32_at l (entry_size * i + 2) ≤ u32_at l (entry_size * i + 6) → Passed l n (i + 1)
        unfolding entries_fine
        passed-turn b =
            let z : entry_size * (i + 1) ≡ entry_size * i + entry_size = omega arith in
            record {
              whole = d.whole;
              within = omega arith;
              same =
                  d.same ∙ rw (z, one_more, eq-eqb (u16_at l (entry_size * i)) (mark "ov") a, le-ltb (u32_at l (entry_size * i + 6)) (u32_at l (entry_size * i + 2)) b);
            }

    pub passed-all : n ≤ i → true ≡ list_fine l
    unfolding entries_fine
    passed-all h = let z : n - i ≡ 0 = omega arith in sym (d.same ∙ rw z)
