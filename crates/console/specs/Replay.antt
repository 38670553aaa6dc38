-- What a case of a replay expects of an answer, and what a buffer holds before its call.
use Rattle.std.specs.Prelude.{◌≡◌, ℕ, ◌%◌, ◌<◌, List, length, get_or, Bool, true, Result, Ok, Err}
use Rattle.grammar.specs.Answers.{number}
use Rattle.grammar.specs.declared.Refused.{Refused}
use Rattle.console.specs.declared.replay.Told.{Told}

-- what is given is what is expected, or the refusal has the number and the place that are told
abbrev pub IsExpected : {T : Type 0} → (T → T → Bool) → Result T Refused → Result T Told → Type 0
IsExpected eq (Ok x) (Ok y) = eq x y ≡ true
IsExpected eq (Ok x) (Err e) = ⊥
IsExpected eq (Err r) (Ok y) = ⊥
IsExpected eq (Err r) (Err e) = (number r.refusal ≡ e.number) × (r.place ≡ e.place)

-- what a buffer holds at a place
abbrev pub noise : ℕ → ℕ
noise i = i % 251

-- it has so many bytes, and holds that at each of them
pub record IsNoise (xs : List ℕ) (n : ℕ) : Type 0 where
  pub many : length xs ≡ n
  pub bytes : (i : ℕ) → i < n → get_or xs i 0 ≡ noise i
