-- What the walk over the items of a module meets.
use Rattle.std.specs.Prelude.{ℕ, suc, ◌+◌, ◌*◌, ◌≤◌, length, ◌≡◌, List, Bool, false, Option, MatchOption}
use Rattle.definition.specs.Tree.{Rec, Recs, nil}
use Rattle.definition.specs.Grammar.{mark}
use Rattle.definition.specs.Record.{mark_of, kids_of, kid, Typing}
use Rattle.definition.specs.Items.{transform_module_items, transform_module_item, transform_ts_ns_body}
use Rattle.definition.specs.Depths.{Placed, all_at, items_placed, item_placed, body_placed}
use Rattle.records.specs.declared.tree.Record.{Record}
use Rattle.records.specs.declared.tree.Records.{Records}
use Rattle.records.specs.Views.{rec_of}
use Rattle.typing.specs.Values.{typing_in}
use Rattle.depth_counts.specs.declared.walk.Walk.{Walk}
use Rattle.depth_counts.specs.Tables.{Adds}

-- the diagnostics of a body are those of the items ks
pub record Holding (b : Rec) (ks : Recs) : Type 0 where
  pub placed : (list : List ℕ) (ctx : ℕ) (ty : Typing) (d n : ℕ) → body_placed list ctx ty b d n ≡ items_placed list ctx ty ks false d n
  pub counter : (list : List ℕ) (ctx : ℕ) (ty : Typing) (n : ℕ) → (transform_ts_ns_body list ctx ty b n).2 ≡ (transform_module_items list ctx ty ks false n).2

-- those of an item are those of the items ks, one deeper
pub record Spaced (r : Rec) (ks : Recs) : Type 0 where
  pub placed : (list : List ℕ) (ctx : ℕ) (ty : Typing) (top : Bool) (d n : ℕ) → item_placed list ctx ty r top d n ≡ items_placed list ctx ty ks false (suc d) n
  pub counter : (list : List ℕ) (ctx : ℕ) (ty : Typing) (top : Bool) (n : ℕ) → (transform_module_item list ctx ty r top n).2 ≡ (transform_module_items list ctx ty ks false n).2

-- those of an item stand at its own depth
pub record Flat (r : Rec) : Type 0 where
  pub placed : (list : List ℕ) (ctx : ℕ) (ty : Typing) (top : Bool) (d n : ℕ) → item_placed list ctx ty r top d n ≡ all_at d (transform_module_item list ctx ty r top n).1

-- b is an Nb of the tree of r, at its place or behind it, with at most so many levels left
pub record IsBlock (most : ℕ) (r b : Record) : Type 0 where
  pub block : mark_of (rec_of b) ≡ mark "Nb"
  pub tree : b.tree ≡ r.tree
  pub place : r.at ≤ b.at
  pub levels : b.levels ≤ most

-- what was found in a body, from r on
abbrev pub FoundBody : ℕ → Record → Rec → Option Record → Type 0
FoundBody most r body found = MatchOption found (Holding body nil) (λ b. IsBlock most r b × Holding body (kids_of (rec_of b)))

-- the Ns `space` is the item, or what it exports: the diagnostics of its body are those of the item, one deeper
pub record SpaceOf (item space : Record) : Type 0 where
  pub is : mark_of (rec_of space) ≡ mark "Ns"
  pub tree : space.tree ≡ item.tree
  pub place : item.at ≤ space.at
  pub levels : space.levels ≤ item.levels
  pub placed : (list : List ℕ) (ctx : ℕ) (ty : Typing) (top : Bool) (d n : ℕ) → item_placed list ctx ty (rec_of item) top d n ≡ body_placed list ctx ty (kid 1 (kids_of (rec_of space))) (suc d) n
  pub counter : (list : List ℕ) (ctx : ℕ) (ty : Typing) (top : Bool) (n : ℕ) → (transform_module_item list ctx ty (rec_of item) top n).2 ≡ (transform_ts_ns_body list ctx ty (kid 1 (kids_of (rec_of space))) n).2

-- the Ns of an item, or that it is another item
abbrev pub FoundSpace : Record → Option Record → Type 0
FoundSpace item found = MatchOption found (Flat (rec_of item)) (λ space. SpaceOf item space)

-- ---- where a walk stands

-- the diagnostics of an item there, which d Ns records hold, and of items
abbrev pub item_from : Walk → Rec → Bool → ℕ → List Placed
item_from w r top d = item_placed w.list.now w.scope.unresolved (typing_in w.scope) r top d w.id_counter

abbrev pub items_from : Walk → Recs → Bool → ℕ → List Placed
items_from w rs top d = items_placed w.list.now w.scope.unresolved (typing_in w.scope) rs top d w.id_counter

-- no more names were made than bytes stand before r, the names of the scope are those of its tree, and an Ns takes two of its levels
pub record Ready (w : Walk) (r : Record) (d : ℕ) : Type 0 where
  pub low : w.id_counter ≤ r.at
  pub same : w.scope.names.tree ≡ r.tree
  pub levels : r.levels + 2 * d ≤ 63

-- the same of several records
pub record ReadyAll (w : Walk) (rs : Records) (d : ℕ) : Type 0 where
  pub low : w.id_counter ≤ rs.at
  pub same : w.scope.names.tree ≡ rs.tree
  pub levels : rs.levels + 2 * d ≤ 63

-- the diagnostics xs were counted and the walk stands behind them, and the name counter became n
pub record Counts (w w' : Walk) (xs : List Placed) (n : ℕ) : Type 0 where
  pub adds : Adds w.table w'.table xs
  pub place : w'.at ≡ w.at + 10 * length xs
  pub counter : w'.id_counter ≡ n
  pub list : w'.list ≡ w.list
  pub scope : w'.scope ≡ w.scope
  pub diagnostics : w'.diagnostics ≡ w.diagnostics
