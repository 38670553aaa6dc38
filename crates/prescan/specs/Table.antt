-- The index of the names that a module declares, and a table that is being filled with them.
use Rattle.std.specs.Prelude.{◌≡◌, List, Bool, ℕ, ◌+◌, ◌*◌, ◌/◌, ◌<◌, ◌≤◌, length}
use Rattle.definition.specs.Tree.{head_size, end_at, tree_at}
use Rattle.definition.specs.Check.{deepest}
use Rattle.definition.specs.Record.{kids_of}
use Rattle.definition.specs.Prescan.{Question, asked}
use Rattle.records.specs.declared.tree.Record.{Record}
use Rattle.index.specs.declared.Names.{Names}
use Rattle.index.specs.Index.{farthest, Sorted, Answers, Enters, entries_of}

-- the bytes that a declaration of a name takes at least: four records and four bytes of text
abbrev pub declaration_size : ℕ
declaration_size = 4 * head_size + 4

-- these are names of the tree s that were entered before the offset `at`, and there is room in the table for those from there on, in front of the
-- entries and behind them
pub record Room (s : List ℕ) (n : Names) (at : ℕ) : Type 0 where
  pub sorted : Sorted s (entries_of n) n.count
  pub few : declaration_size * n.count ≤ at
  pub long : length s ≤ declaration_size * (length n.table.now / 2)
  pub short : length s < farthest
  pub from : n.from ≤ length n.table.now / 2
  pub to : length n.table.now / 2 ≤ n.from + n.count

-- what G adds was entered, in the same table, and the names stand before the offset `end`
pub record Filled (s : List ℕ) (a b : Names) (end : ℕ) (G : Question → List ℕ → Bool) : Type 0 where
  pub buffer : b.table.ghost_name ≡ a.table.ghost_name
  pub enters : Enters s (entries_of a) a.count (entries_of b) b.count G
  pub few : declaration_size * b.count ≤ end
  pub same : length b.table.now ≡ length a.table.now
  pub from : b.from ≤ a.from
  pub to : a.from + a.count ≤ b.from + b.count

-- where the record r ends
abbrev pub end_of : Record → ℕ
end_of r = end_at r.levels r.tree.now r.at

-- there is room for the names from the record r on
abbrev pub RoomFor : Record → Names → Type 0
RoomFor r n = Room r.tree.now n r.at

-- what G adds was entered, and the names stand before the end of the record r
abbrev pub FilledWith : Record → Names → Names → (Question → List ℕ → Bool) → Type 0
FilledWith r a b G = Filled r.tree.now a b (end_of r) G

-- the index of the module in the tree s: the answers to all questions
pub record Indexed (s index : List ℕ) : Type 0 where
  pub sorted : Sorted s index (length index)
  pub answers : Answers s index (length index) (λ q t. asked q (kids_of (tree_at deepest s 0)) t)
