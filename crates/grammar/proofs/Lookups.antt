-- The code's tables of marks and of sets, and the look-ups in them: each table agrees with the grammar, by one computation over the whole of it.
use mathlib.Core.Path.{◌≡◌, refl, sym, ◌∙◌, subst}
use mathlib.Core.List.{List, [], ◌∷◌, map}
use mathlib.Core.Bool.{Bool, true, false, ◌&&◌, beq}
use Prim.Native.Nat.{ℕ, zero, suc, ◌+◌, ◌<◌, ◌≤◌}
use Prim.Native.String.{String}
use native.Mathlib.Nat.{add-zero, zero-add, add-suc, suc-add, le_of_suc-le-suc}
use native.Mathlib.Omega.{arith}
use borrow.Author.Tests.{lt-ltb, le-ltb, le-leb, lt-leb}
use lib.Dec.{T, eqb}
use lib.ListN.{length, get_or, get_or-map, get_or-eq_default}
use Rattle.definition.specs.Grammar.{known, forms, slots, least, marks, member}
use Rattle.grammar.specs.Printed.{sets_table, parts_table, forms_table, starts_table, lows_table, highs_table, others_table}
use Rattle.grammar.specs.Slots.{set_at, parts_from, decode, form_at, RowsRight, in_run, SetsRight}
use Rattle.grammar.proofs.Printed.{rows, sets}

-- ---- by mark: the code's FORMS and STARTS; its LEASTS is `map least slots`

pub known-long : length known ≡ rows
unfolding known
known-long = refl

forms-long : length forms ≡ rows
unfolding forms
forms-long = refl

slots-long : length slots ≡ rows
unfolding slots
slots-long = refl

forms_are : map form_at forms_table ≡ forms
unfolding form_at forms_table forms
forms_are = refl

slots_are : map parts_from starts_table ≡ slots
unfolding parts_from starts_table slots decode parts_table sets_table
slots_are = refl

none_at_0 : parts_from 0 ≡ []
unfolding parts_from decode parts_table sets_table
none_at_0 = refl

least-none : least [] ≡ 0
unfolding least
least-none = refl

-- what the code finds for a mark, and what it answers where there is none
module _ (c : ℕ) where
  form-is : form_at (get_or forms_table c 0) ≡ get_or forms c (form_at 0)
  form-is = rw (← forms_are) (sym (get_or-map form_at forms_table c 0))

  start_is : parts_from (get_or starts_table c 0) ≡ get_or slots c []
  start_is = rw (← slots_are, ← none_at_0) (sym (get_or-map parts_from starts_table c 0))

  least-is : get_or (map least slots) c 0 ≡ least (get_or slots c [])
  least-is = rw (← least-none) (get_or-map least slots c [])

  module _ (h : rows ≤ c) where
    pub no_form : form_at 0 ≡ get_or forms c (form_at 0)
    no_form = sym (get_or-eq_default forms _ (omega (arith, forms-long)))

    no_slots : get_or slots c [] ≡ []
    no_slots = get_or-eq_default slots _ (omega (arith, slots-long))

    pub no_start : parts_from 0 ≡ get_or slots c []
    no_start = none_at_0 ∙ sym no_slots

    pub no_least : 0 ≡ least (get_or slots c [])
    no_least = rw (no_slots, least-none)

    no_mark : get_or known c 0 ≡ 0
    no_mark = get_or-eq_default known 0 (omega (arith, known-long))

pub rows_right : RowsRight (forms_table ∷ starts_table ∷ map least slots ∷ [])
rows_right = record { forms_right = form-is; starts_right = start_is; leasts_right = least-is }

-- ---- by set: the code's LOWS, HIGHS and OTHERS

abbrev columns : List (List ℕ)
columns = lows_table ∷ highs_table ∷ others_table ∷ []

-- a test that passes at every entry of a list and its place, counted from i, passes at each
both : (a b : Bool) → T (a && b) → T a × T b
both true b t = (tt, t)
both false b t = absurd t

agree : (a b : Bool) → T (beq a b) → a ≡ b
agree true true t = refl
agree true false t = absurd t
agree false true t = absurd t
agree false false t = refl

module _ {A : Type 0} (f : ℕ → A → Bool) (d : A) where
  abbrev every : ℕ → List A → Bool
  every i [] = true
  every i (x ∷ xs) = f i x && every (suc i) xs

  at_from : (xs : List A) (i : ℕ) → T (every i xs) → (k : ℕ) → k < length xs → T (f (i + k) (get_or xs k d))
  at_from [] i t k h = absurd (omega arith)
  at_from (x ∷ xs) i t zero h = subst (λ (m : ℕ). T (f m x)) (sym (add-zero i)) (both (f i x) (every (suc i) xs) t).0
  at_from (x ∷ xs) i t (suc k) h =
      subst (λ (m : ℕ). T (f m (get_or xs k d))) (suc-add i k ∙ sym (add-suc i k))
      (at_from xs (suc i) (both (f i x) (every (suc i) xs) t).1 k (le_of_suc-le-suc h))

  at_each : (xs : List A) → T (every 0 xs) → (k : ℕ) → k < length xs → T (f k (get_or xs k d))
  at_each xs t k h = subst (λ (m : ℕ). T (f m (get_or xs k d))) (zero-add k) (at_from xs 0 t k h)

-- the run of the set k is the set s: of every mark the code says what the grammar says, and 0, which is no mark, is not in s
in_run_lem : ℕ → String → ℕ → ℕ → Bool
in_run_lem k s c m = beq (in_run columns k c) (member m (marks s))

right : ℕ → String → Bool
unfolding in_run_lem
right k s = every (in_run_lem k s) 0 0 known && beq false (member 0 (marks s))

all_right : T (every right "" 0 sets_table)
unfolding right in_run_lem sets_table known member marks lows_table highs_table others_table
all_right = tt

sets-long : length sets_table ≡ sets
unfolding sets_table
sets-long = refl

nothing_in_none : (m : ℕ) → false ≡ member m (marks "")
unfolding member marks
nothing_in_none m = refl

module _ (k c : ℕ) where
  pub no_set : sets ≤ k → false ≡ member (get_or known c 0) (marks (set_at k))
  no_set h = rw (get_or-eq_default sets_table "" {n = k} (omega (arith, sets-long))) (nothing_in_none _)

  module _ (h : k < sets) where
    set-right : T (every (in_run_lem k (set_at k)) 0 0 known) × T (beq false (member 0 (marks (set_at k))))
    unfolding right
    set-right =
        both (every (in_run_lem k (set_at k)) 0 0 known) (beq false (member 0 (marks (set_at k))))
        (at_each right "" sets_table all_right k (omega (arith, sets-long)))

    pub not_in_set : rows ≤ c → false ≡ member (get_or known c 0) (marks (set_at k))
    not_in_set l = rw (no_mark c l) (agree _ _ set-right.1)

    set_is : c < rows → in_run columns k c ≡ member (get_or known c 0) (marks (set_at k))
    unfolding in_run_lem
    set_is l = agree _ _ (at_each (in_run_lem k (set_at k)) 0 known set-right.0 c (omega (arith, known-long)))

pub sets_right : SetsRight (lows_table ∷ highs_table ∷ others_table ∷ [])
sets_right = record { sets_right = λ k c h l. set_is k c (omega (arith, sets-long)) (omega (arith, known-long)) }

-- what the code finds for a set and a mark in these tables
module _ (k c : ℕ) (h : k < sets) (l : c < rows) where
  run_is : in_run columns k c ≡ member (get_or known c 0) (marks (set_at k))
  run_is = sets_right.sets_right k c (omega (arith, sets-long)) (omega (arith, known-long))

  pub below_run : c < get_or lows_table k 0 → eqb c (get_or others_table k 0) ≡ member (get_or known c 0) (marks (set_at k))
  below_run a = rw (lt-leb _ _ a) at run_is

  pub above_run : get_or lows_table k 0 ≤ c → get_or highs_table k 0 ≤ c → eqb c (get_or others_table k 0) ≡ member (get_or known c 0) (marks (set_at k))
  above_run a b = rw (le-leb _ _ a, le-ltb _ _ b) at run_is

  pub within_run : get_or lows_table k 0 ≤ c → c < get_or highs_table k 0 → true ≡ member (get_or known c 0) (marks (set_at k))
  within_run a b = rw (le-leb _ _ a, lt-ltb _ _ b) at run_is
