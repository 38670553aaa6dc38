-- A whole tree with its list, a law for each answer of the code.
use mathlib.Core.Path.{◌≡◌}
use mathlib.Core.List.{List}
use mathlib.Core.Bool.{true, false}
use Prim.Native.Nat.{ℕ, ◌<◌, ◌≤◌}
use borrow.Author.Tests.{lt-ltb, le-ltb}
use lib.ListN.{length}
use Rattle.definition.specs.Check.{Checked, Checked.fine, Checked.refused, longest_tree, deepest, check_at, list_fine, whole, check_tree}
use Rattle.grammar.specs.Slots.{parts_from}
use Rattle.grammar.proofs.Printed.{root_at}
use Rattle.grammar.proofs.Places.{root_is}

module _ (tree list : List ℕ) where
  pub tree-long : longest_tree < length tree → refused 1 0 ≡ check_tree tree list
  unfolding check_tree
  tree-long h = rw (lt-ltb longest_tree (length tree) h)

  module _ (h : length tree ≤ longest_tree) where
    pub list_bad : list_fine list ≡ false → refused 2 0 ≡ check_tree tree list
    unfolding check_tree
    list_bad e = rw (le-ltb longest_tree (length tree) h, e)

    -- r is what the check of the root found
    module _ (e : list_fine list ≡ true) (r : Checked) (q : check_at deepest tree 0 (parts_from root_at) ≡ r) where
      found : whole r (length tree) ≡ check_tree tree list
      unfolding check_tree
      found = rw (le-ltb longest_tree (length tree) h, e, ← q, root_is)

      pub root-refused : (k p : ℕ) → r ≡ refused k p → r ≡ check_tree tree list
      root-refused k p f = rw (← found, f)

      pub bytes_after : (x : ℕ) → r ≡ fine x → x < length tree → refused 8 x ≡ check_tree tree list
      bytes_after x f l = rw (← found, f, lt-ltb x (length tree) l)

      pub tree-fine : (x : ℕ) → r ≡ fine x → length tree ≤ x → fine x ≡ check_tree tree list
      tree-fine x f l = rw (← found, f, le-ltb x (length tree) l)
