-- The call's answers in the terms of document 01.
use Rattle.std.specs.Prelude.{ℕ, ◌≡◌, List, Ok, Err}
use Rattle.std.specs.declared.result.Result as Code
use Rattle.definition.specs.Tree.{Rec, tree_at}
use Rattle.definition.specs.Check.{deepest}
use Rattle.definition.specs.Record.{Out}
use Rattle.definition.specs.Transform.{done, refused, Result, transform, written}
use Rattle.definition.specs.Transform as Transform
use Rattle.grammar.specs.Answers.{number}
use Rattle.grammar.specs.declared.Refused.{Refused}
use Rattle.transform_dts.specs.declared.Done.{Done}

-- the transform of the tree that stands in a list of bytes
abbrev pub transformed : List ℕ → ℕ → List ℕ → Out Rec
transformed list ctx tree = transform list ctx (tree_at deepest tree 0)

-- what is written of it
abbrev pub written_of : List ℕ → ℕ → List ℕ → List ℕ → List ℕ → Result
written_of list ctx tree out diags = written (transformed list ctx tree).0 (transformed list ctx tree).1 out diags

-- what the code's answer stands for
abbrev pub answered : Code.Result Done Refused → Transform.Answer
answered (Ok d) = done d.length d.count
answered (Err r) = refused (number r.refusal) r.place

-- a call gave the result x: the answer r, and these contents of both buffers
pub record Gives (x : Result) (r : Code.Result Done Refused) (out diags : List ℕ) : Type 0 where
  pub answer : answered r ≡ x.answer
  pub output : out ≡ x.out
  pub diagnostics : diags ≡ x.diagnostics
