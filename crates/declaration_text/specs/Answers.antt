-- The call's answers in the terms of the definition.
use Rattle.std.specs.Prelude.{ℕ, ◌≡◌, false, List, [], Ok, Err, None}
use Rattle.std.specs.declared.result.Result.{Result}
use Rattle.definition.specs.Check.{fine, check_tree, deepest}
use Rattle.definition.specs.Transform.{done, refused}
use Rattle.definition.specs.Transform as Transform
use Rattle.definition.specs.Text.{Written}
use Rattle.grammar.specs.Answers.{number}
use Rattle.grammar.specs.declared.Refused.{Refused}
use Rattle.records.specs.declared.tree.Record.{Record}
use Rattle.text_tokens.specs.declared.State.{State}

-- a tree that the check accepts
pub record Accepted (tree : List ℕ) : Type 0 where
  pub end : ℕ
  pub checked : check_tree tree [] ≡ fine end

-- the root of a tree
pub record IsRoot (r : Record) : Type 0 where
  pub place : r.at ≡ 0
  pub levels : r.levels ≡ deepest

-- where a run begins
abbrev pub start : State
start = record { written = 0; last = None; some = false; place = None }

-- what the code's answer stands for: "`answer` is (bytes, 0)"
abbrev pub answered : Result ℕ Refused → Transform.Answer
answered (Ok n) = done n 0
answered (Err r) = refused (number r.refusal) r.place

-- a call gave the result x: the answer r, and these contents of the buffer
pub record Gives (x : Written) (r : Result ℕ Refused) (out : List ℕ) : Type 0 where
  pub answer : answered r ≡ x.answer
  pub output : out ≡ x.out
