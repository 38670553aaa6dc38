-- Request §3: "11, a written number outside these forms". The trees that have none: each number that has no raw spelling, which is a child, is whole and
-- below 2 to the 53 in size.
use Rattle.std.specs.Prelude.{ℕ, Bool, true, false, not, ◌&&◌, ◌||◌, eqb}
use Rattle.std.proofs.Math.Option.{Option, none, some}
use Rattle.definition.specs.Tree.{Head, Rec, Recs, rec, nil, cons}
use Rattle.definition.specs.Grammar.{mark}
use Rattle.definition.specs.Numerals.{bits_of, whole_of}

abbrev pub is_some : Option ℕ → Bool
is_some none = false
is_some (some n) = true

-- a record by itself: its head, and its children
abbrev pub number_fits : Head → Recs → Bool
number_fits h nil = not (eqb h.mark (mark "Nu")) || is_some (whole_of (bits_of h.text))
number_fits h (cons r rs) = true

-- all records of a tree, also those that the text leaves out
unfoldable mutual
  pub numbers_fit : Rec → Bool
  numbers_fit (rec h ks) = number_fits h ks && all_numbers_fit ks

  pub all_numbers_fit : Recs → Bool
  all_numbers_fit nil = true
  all_numbers_fit (cons r rs) = numbers_fit r && all_numbers_fit rs
