-- A run over a module: what it is asked, how long its output and its diagnostics are, and what it wrote.
use Rattle.std.specs.Prelude.{ℕ, ◌≡◌, ◌<◌, List}
use Rattle.definition.specs.Tree.{Rec, count, encode}
use Rattle.definition.specs.Check.{deepest}
use Rattle.definition.specs.Record.{diags_bytes, kids_of, Out}
use Rattle.definition.specs.Transform.{Result, texts_fit, written}
use Rattle.prescan.specs.declared.module_names.Scope.{Scope}
use Rattle.records.specs.declared.tree.Record.{Record}
use Rattle.records.specs.Views.{rec_of}
use Rattle.records.specs.Wrote.{Ran}
use Rattle.transform_dts.specs.declared.Run.{Run}

-- r is the whole of the tree whose names the scope has; "child count (2)"
pub record IsModule (r : Record) (scope : Scope) : Type 0 where
  pub tree : scope.names.tree ≡ r.tree
  pub place : r.at ≡ 0
  pub levels : r.levels ≡ deepest
  pub few : count (kids_of (rec_of r)) < 65536

-- the record and the diagnostics of x were written from the front of both buffers, as far as there is room
pub record Runs (o o' g g' : List ℕ) (r : Run) (x : Out Rec) : Type 0 where
  pub ran : Ran o o' g g' 0 0 r.written r.reported (encode x.0) (diags_bytes x.1)
  pub fits : r.fits ≡ texts_fit x.0

-- what a call gives that makes x
abbrev pub made_of : Out Rec → List ℕ → List ℕ → Result
made_of x out diags = written x.0 x.1 out diags
