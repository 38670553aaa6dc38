-- The children of a record of an accepted tree, as the code meets them, with their tokens.
use Rattle.std.specs.Prelude.{ℕ, ◌+◌, ◌-◌, ◌≤◌, List, Bool, false, ◌≡◌, ◌⊎◌, eqb}
use Rattle.definition.specs.Tree.{Rec, mark_at, flags_at, count_at, body_at, read_all, end_of_all, end_at, tree_at, count}
use Rattle.definition.specs.Grammar.{mark}
use Rattle.definition.specs.Record.{has_flag, head_of, kids_of, mark_of}
use Rattle.definition.specs.Text.{Child, tokens, children, body_of}
use Rattle.records.specs.declared.tree.Record.{Record}
use Rattle.records.specs.declared.tree.Records.{Records}
use Rattle.records.specs.Views.{rec_of, recs_of, behind}

-- a record of the code, which an Oc holds or not, and its tokens; records one after the other
abbrev pub part_of : Bool → Record → Child
part_of under x = record { itself = rec_of x; tokens = tokens (rec_of x) under x.at }

abbrev pub parts_of : Bool → Records → List Child
parts_of under k = children (recs_of k) under k.at

-- whether a record is an Oc
abbrev pub is_oc : Rec → Bool
is_oc r = eqb (mark_of r) (mark "Oc")

-- the children of a record of the code
abbrev pub parts_in : Record → List Child
parts_in r = children (kids_of (rec_of r)) (is_oc (rec_of r)) (body_of r.at (head_of (rec_of r)))

-- n records from `at` on, which an Oc holds or not, and their tokens
abbrev pub children_at : ℕ → List ℕ → Bool → ℕ → ℕ → List Child
children_at levels s under n at = children (read_all (tree_at levels s) (end_at levels s) n at) under at

-- one of them
abbrev pub child_alone : ℕ → List ℕ → Bool → ℕ → Child
child_alone levels s under at = record { itself = tree_at levels s at; tokens = tokens (tree_at levels s at) under at }

-- whether the record at `at` is an Oc
abbrev pub is_chain : List ℕ → ℕ → Bool
is_chain s at = eqb (mark_at s at) (mark "Oc")

-- the children of the record at `at`
abbrev pub children_of : ℕ → List ℕ → ℕ → List Child
children_of levels s at = children_at (levels - 1) s (is_chain s at) (count_at s at) (body_at s at)

-- l are those of k behind the first i
pub record BehindFirst (k : Records) (i : ℕ) (l : Records) : Type 0 where
  pub are : recs_of l ≡ behind i (recs_of k)
  pub tree : l.tree ≡ k.tree
  pub place : l.at ≡ end_of_all (end_at k.levels k.tree.now) i k.at
  pub behind_it : k.at ≤ l.at
  pub levels : l.levels ≡ k.levels
  pub many : l.count + i ≡ k.count

-- a record that has its text as its only token: a Ki, an Op or a Kw without children; and one that has its symbol: an Id without children and flag 1
pub record Plain (r : Rec) : Type 0 where
  pub kind : (mark_of r ≡ mark "Ki") ⊎ ((mark_of r ≡ mark "Op") ⊎ (mark_of r ≡ mark "Kw"))
  pub alone : count (kids_of r) ≡ 0

pub record Name (r : Rec) : Type 0 where
  pub kind : mark_of r ≡ mark "Id"
  pub required : has_flag 1 (head_of r).flags ≡ false
  pub alone : count (kids_of r) ≡ 0

-- the same of the bytes at `at`, where a record with the mark m stands
pub record PlainAt (s : List ℕ) (at m : ℕ) : Type 0 where
  pub kind : (m ≡ mark "Ki") ⊎ ((m ≡ mark "Op") ⊎ (m ≡ mark "Kw"))
  pub alone : count_at s at ≡ 0

pub record NameAt (s : List ℕ) (at m : ℕ) : Type 0 where
  pub kind : m ≡ mark "Id"
  pub required : has_flag 1 (flags_at s at) ≡ false
  pub alone : count_at s at ≡ 0
