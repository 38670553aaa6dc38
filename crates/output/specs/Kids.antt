-- A record that is written child by child: what is left of it, and what each call did.
use Rattle.std.specs.Prelude.{ℕ, true, ◌<◌, length}
use Rattle.definition.specs.Tree.{Head, Rec}
use Rattle.records.specs.declared.tree.Record.{Record}
use Rattle.records.specs.declared.tree.Records.{Records}
use Rattle.records.specs.Views.{rec_of, ChildrenOf, FirstOf, RestOf}
use Rattle.output.specs.declared.Output.{Output}
use Rattle.output.specs.Outputs.{front_bytes, Puts, Keeps}

-- only the front of r was written, with the head h: all its children are left
pub record Begun (o o' : Output) (r : Record) (h : Head) (k : Records) : Type 0 where
  pub front : Puts o o' (front_bytes h k.count) true
  pub kids : ChildrenOf r k
  pub short : length h.text < 65536

-- only F of the first of k was written for it, and those behind it are left
pub record Kept (o o' : Output) (k l : Records) (F : Rec → Rec) : Type 0 where
  pub first : Record
  pub is : FirstOf k first
  pub put : Keeps o o' (F (rec_of first))
  pub rest : RestOf k l
