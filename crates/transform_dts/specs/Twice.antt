-- What two calls give, the second on exactly the bytes that the first wrote, and what demand 3 says of them.
use Rattle.std.specs.Prelude.{ℕ, ◌≡◌, List, take, Ok, Err}
use Rattle.std.specs.declared.result.Result.{Result}
use Rattle.definition.specs.Transform.{call}
use Rattle.definition.specs.Demand3.{output}
use Rattle.grammar.specs.declared.Refused.{Refused}
use Rattle.transform_dts.specs.declared.Done.{Done}
use Rattle.transform_dts.specs.declared.twice.Twice.{Twice}
use Rattle.transform_dts.specs.Answers.{Gives}

-- the answer of the first call
abbrev pub first_of : Result Twice Refused → Result Done Refused
first_of (Ok t) = Ok t.first
first_of (Err r) = Err r

-- the second call, from the bytes that the first one wrote, and from the contents o and g of its own buffers to o' and g'; where the first call
-- refused there is none
pub record GivesAgain (list : List ℕ) (ctx : ℕ) (out o g : List ℕ) (r : Result Twice Refused) (o' g' : List ℕ) : Type 0 where
  pub second : (t : Twice) → r ≡ Ok t → Gives (call (take t.first.length out) list ctx o g) t.second o' g'
  pub kept : (e : Refused) → r ≡ Err e → (o' ≡ o) × (g' ≡ g)

-- demand 3 of the buffers as they are left: both calls succeeded, the first wrote n bytes, and what the second wrote "has the same length and the
-- same bytes. Its diagnostics may differ."
pub record Same (tree list : List ℕ) (ctx : ℕ) (r : Result Twice Refused) (out again : List ℕ) : Type 0 where
  pub n : ℕ
  pub k : ℕ
  pub k' : ℕ
  pub answers : r ≡ Ok (record { first = record { length = n; count = k }; second = Ok (record { length = n; count = k' }) })
  pub wrote : take n out ≡ output tree list ctx
  pub same : take n again ≡ take n out
