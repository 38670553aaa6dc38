-- What it means that tokens were written.
use Rattle.std.specs.Prelude.{◌≡◌, List, [], ◌∷◌, Bool, true, false, cond, ◌||◌, ℕ, min, Option, Some, None, is_some}
use Rattle.std.specs.Option.{unwrap_or}
use Rattle.std.proofs.Math.Option.{none, some}
use Rattle.std.proofs.Math.Option as Math
use Rattle.definition.specs.Text.{Token, token, own, outside, any_written, last_written, tokens_bytes}
use Rattle.records.specs.Wrote.{Put}
use Rattle.text_tokens.specs.declared.State.{State}

-- whether the line has a token, and the last byte of its last, 0 where it has none
abbrev pub begun_of : State → Bool
begun_of s = is_some s.last

abbrev pub last_of : State → ℕ
last_of s = unwrap_or s.last 0

-- the first place of a number outside the forms, among theirs and x, if there is one
abbrev pub seen_of_token : Option ℕ → Token → Option ℕ
seen_of_token x (token t) = x
seen_of_token x (own t) = x
seen_of_token None (outside at) = Some at
seen_of_token (Some x) (outside at) = Some (min x at)

unfoldable pub first_seen : Option ℕ → List Token → Option ℕ
first_seen x [] = x
first_seen x (t ∷ ts) = first_seen (seen_of_token x t) ts

-- only the tokens ts were written, where s stood in the output
pub record Writes (o o' : List ℕ) (s s' : State) (ts : List Token) : Type 0 where
  pub put : Put o o' s.written (tokens_bytes (begun_of s) ts) s'.written
  pub begun : begun_of s' ≡ (begun_of s || any_written ts)
  pub some : s'.some ≡ (s.some || any_written ts)
  pub last : last_of s' ≡ last_written (last_of s) ts
  pub place : s'.place ≡ first_seen s.place ts

-- the space that parts a token from the one before it
abbrev pub space_if : Bool → List ℕ
space_if begun = cond begun (32 ∷ []) []

-- a whole number, or none
abbrev pub whole_is : Option ℕ → Math.Option ℕ
whole_is (Some n) = some n
whole_is None = none

-- a state in which no token was written since
abbrev pub cleared_of : State → State
cleared_of s = record s { some = false }

-- the state behind a token that isn't empty
abbrev pub behind_of : State → ℕ → ℕ → State
behind_of s p x = record s { written = p; last = Some x; some = true }
