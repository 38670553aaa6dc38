-- The call's answers in the terms of the definition.
use Rattle.std.specs.Prelude.{◌≡◌, List, ℕ}
use Rattle.definition.specs.Depths.{Counted}
use Rattle.std.specs.declared.result.Result.{Result}
use Rattle.grammar.specs.declared.Refused.{Refused}
use Rattle.transform_dts.specs.declared.Done.{Done}
use Rattle.transform_dts.specs.Answers.{Gives}

-- a call gave x: the answer r, these contents of both buffers, and this table
pub record GivesCounted (x : Counted) (r : Result Done Refused) (out diags : List ℕ) (t : List (List ℕ)) : Type 0 where
  pub gives : Gives x.result r out diags
  pub table : t ≡ x.table
