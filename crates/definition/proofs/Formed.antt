-- The tree that is read where a record was accepted is one after the grammar.
use mathlib.Core.Path.{◌≡◌}
use mathlib.Core.List.{List}
use Prim.Native.Nat.{ℕ, zero, suc}
use native.Mathlib.Omega.{arith}
use Rattle.definition.specs.Tree.{count, mark_at, count_at, body_at, head_at, read_all, end_at, tree_at}
use Rattle.definition.specs.Grammar.{Part, after, root}
use Rattle.definition.specs.Check.{inside, Checked.fine, check_all, check_at, check_tree, deepest}
use Rattle.definition.specs.Formed.{Formed, FormedAll}
use Rattle.definition.proofs.Accepted.{accepted, accepted-left, first-accepted, accepted-tree}
use Rattle.definition.proofs.Converse.{count_read_all}
use Rattle.definition.proofs.Kids.{mark-is}

module _ (levels : ℕ) (s : List ℕ) (good : (at : ℕ) (ps : List Part) (e : ℕ) → check_at levels s at ps ≡ fine e → Formed ps (tree_at levels s at)) where
  all-formed : (n at : ℕ) (ps : List Part) (e : ℕ) → check_all (check_at levels s) s n at ps ≡ fine e → FormedAll ps (read_all (tree_at levels s) (end_at levels s) n at)
  unfolding Formed read_all
  all-formed zero at ps e f = tt
  all-formed (suc n) at ps e f =
      let u = first-accepted levels s n at ps e f in
      (good at ps (end_at levels s at) u.0, rw (mark-is levels s at) (all-formed n (end_at levels s at) (after ps (mark_at s at)) e u.1))

formed-at : (levels : ℕ) (s : List ℕ) (at : ℕ) (ps : List Part) (e : ℕ) → check_at levels s at ps ≡ fine e → Formed ps (tree_at levels s at)
unfolding Formed tree_at head_at
formed-at zero s at ps e f = absurd (let z = accepted-left zero s at ps e f in omega arith)
formed-at (suc levels) s at ps e f =
    let a = accepted levels s at ps e f in
    let n : count (read_all (tree_at levels s) (end_at levels s) (count_at s at) (body_at s at)) ≡ count_at s at = count_read_all (tree_at levels s) (end_at levels s) (count_at s at) (body_at s at) in (
      a.itself.slot,
      omega (arith, a.itself.enough, n),
      all-formed levels s (formed-at levels s) (count_at s at) (body_at s at) (inside ps (mark_at s at)) e a.all,
    )

pub formed : (tree list : List ℕ) (e : ℕ) → check_tree tree list ≡ fine e → Formed root (tree_at deepest tree 0)
formed tree list e f = let a = (accepted-tree tree list e f).0 in formed-at deepest tree 0 root _ a.root_fine
