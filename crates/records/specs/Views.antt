-- What a Record and Records of the code are: the tree, or the trees, that stand there; and where a record's children stand.
use Rattle.std.specs.Prelude.{◌≡◌, ℕ, zero, suc, ◌+◌, ◌-◌, ◌<◌, Option, MatchOption}
use Rattle.definition.specs.Tree.{Rec, Recs, nil, cons, count, body_at, end_at, read_all, tree_at}
use Rattle.definition.specs.Children.{child_at}
use Rattle.definition.specs.Record.{kids_of, kid}
use Rattle.records.specs.declared.tree.Record.{Record}
use Rattle.records.specs.declared.tree.Records.{Records}

-- the tree that stands there
unfoldable pub rec_of : Record → Rec
rec_of r = tree_at r.levels r.tree.now r.at

-- the trees that stand there
unfoldable pub recs_of : Records → Recs
recs_of k = read_all (tree_at k.levels k.tree.now) (end_at k.levels k.tree.now) k.count k.at

-- k are the children of r: behind its head, one level further down
pub record ChildrenOf (r : Record) (k : Records) : Type 0 where
  pub are : recs_of k ≡ kids_of (rec_of r)
  pub many : k.count ≡ count (kids_of (rec_of r))
  pub tree : k.tree ≡ r.tree
  pub place : k.at ≡ body_at r.tree.now r.at
  pub behind : r.at < k.at
  pub levels : k.levels ≡ r.levels - 1
  pub left : 0 < r.levels

-- x is the first of k
pub record FirstOf (k : Records) (x : Record) : Type 0 where
  pub tree : x.tree ≡ k.tree
  pub place : x.at ≡ k.at
  pub levels : x.levels ≡ k.levels

-- l are those of k behind the first
pub record RestOf (k l : Records) : Type 0 where
  pub tree : l.tree ≡ k.tree
  pub place : l.at ≡ end_at k.levels k.tree.now k.at
  pub behind : k.at < l.at
  pub levels : l.levels ≡ k.levels
  pub many : l.count ≡ k.count - 1

-- one step over them: none is left; or x is the first, and l are those behind it
abbrev pub Step : Records → Option Record → Records → Type 0
Step k found l = MatchOption found ((k.count ≡ 0) × (l ≡ k)) (λ x. (0 < k.count) × FirstOf k x × RestOf k l)

-- the children from the number i on
unfoldable pub behind : ℕ → Recs → Recs
behind zero ks = ks
behind (suc i) nil = nil
behind (suc i) (cons k ks) = behind i ks

-- k are the children of r from the number i on
pub record From (r : Record) (i : ℕ) (k : Records) : Type 0 where
  pub are : recs_of k ≡ behind i (kids_of (rec_of r))
  pub many : k.count + i ≡ count (kids_of (rec_of r))
  pub tree : k.tree ≡ r.tree
  pub place : k.at ≡ child_at r.levels r.tree.now r.at i
  pub behind_it : r.at < k.at
  pub levels : k.levels ≡ r.levels - 1
  pub left : 0 < r.levels

-- x is the child of r with the number i
pub record ChildIs (r : Record) (i : ℕ) (x : Record) : Type 0 where
  pub is : rec_of x ≡ kid i (kids_of (rec_of r))
  pub there : i < count (kids_of (rec_of r))
  pub tree : x.tree ≡ r.tree
  pub place : x.at ≡ child_at r.levels r.tree.now r.at i
  pub behind_it : r.at < x.at
  pub levels : x.levels ≡ r.levels - 1
  pub left : 0 < r.levels
