-- The laws of accepted records that the code stands on: their extent, their parts, and their children.
use mathlib.Core.Path.{◌≡◌, refl, ap, subst}
use mathlib.Core.List.{List}
use Prim.Native.Nat.{ℕ, zero, suc, ◌+◌, ◌-◌, ◌<◌, ◌≤◌}
use native.Mathlib.Omega.{arith}
use lib.ListN.{length, take, drop}
use Rattle.definition.specs.Tree.{Rec, rec, nil, cons, head_size, encode, mark_at, count_at, body_at, head_at, read_all, end_of_all, end_at, tree_at, Bytes}
use Rattle.definition.specs.Grammar.{after, root}
use Rattle.definition.specs.Check.{Checked.fine, inside, check_all, check_at, check_tree, deepest}
use Rattle.definition.specs.Children.{AcceptedAt, AllAccepted, child_at}
use Rattle.definition.proofs.Accepted.{Open, Accepted, accepted, accepted-left, check_lies, check_ends, child-accepted, first-accepted, slots_at, accepted-tree}
use Rattle.definition.proofs.Converse.{Stands, check_stands, encode-tree_at}

-- the root of an accepted tree
pub root-accepted : (tree list : List ℕ) (e : ℕ) → check_tree tree list ≡ fine e → AcceptedAt deepest tree 0
root-accepted tree list e f = record { slots = root; past = length tree; checked = (accepted-tree tree list e f).0.root_fine }

module _ (levels : ℕ) (s : List ℕ) (at : ℕ) (a : AcceptedAt levels s at) where
  -- there is a level left for it
  pub some_left : levels ≡ suc (levels - 1)
  some_left = accepted-left levels s at a.slots a.past a.checked

  apart : Accepted (levels - 1) s at a.slots a.past
  apart = accepted (levels - 1) s at a.slots a.past (subst (λ (k : ℕ). check_at k s at a.slots ≡ fine a.past) some_left a.checked)

  -- what holds of it by itself: `room`, `known`, `slot`, `order`, `fits`, `form`, `enough`
  pub itself : Open s at a.slots
  itself = apart.itself

  -- it ends where its counts say, inside the tree
  pub past_is : end_at levels s at ≡ a.past
  past_is = check_ends levels s at a.slots a.past a.checked

  pub end_after : at + head_size ≤ end_at levels s at
  end_after = omega (arith, past_is, (check_lies levels s at a.slots a.past a.checked).longer)

  pub end-inside : end_at levels s at ≤ length s
  end-inside = omega (arith, past_is, (check_lies levels s at a.slots a.past a.checked).inside)

  -- the tree that stands there
  pub tree_is : tree_at levels s at ≡ rec (head_at s at) (read_all (tree_at (levels - 1) s) (end_at (levels - 1) s) (count_at s at) (body_at s at))
  unfolding tree_at
  tree_is = ap (λ (k : ℕ). tree_at k s at) some_left

  pub end_is : end_at levels s at ≡ end_of_all (end_at (levels - 1) s) (count_at s at) (body_at s at)
  unfolding end_at
  end_is = ap (λ (k : ℕ). end_at k s at) some_left

  -- the part of the tree that it fills is its encoding
  pub part_is : Bytes s → take (end_at levels s at - at) (drop at s) ≡ encode (tree_at levels s at)
  part_is bytes = rw past_is (encode-tree_at s bytes levels at a.slots a.past a.checked)

  pub stands : Bytes s → Stands s levels at (end_at levels s at) (tree_at levels s at)
  stands bytes = rw past_is (check_stands s bytes levels at a.slots a.past a.checked)

  -- its children
  pub children : AllAccepted (levels - 1) s (count_at s at) (body_at s at)
  children = record { slots = inside a.slots (mark_at s at); past = a.past; checked = apart.all }

  pub child : (i : ℕ) → i < count_at s at → AcceptedAt (levels - 1) s (child_at levels s at i)
  child i h = record {
    slots = slots_at (end_at (levels - 1) s) s (inside a.slots (mark_at s at)) (body_at s at) i;
    past = end_of_all (end_at (levels - 1) s) (suc i) (body_at s at);
    checked = child-accepted (levels - 1) s (count_at s at) (body_at s at) (inside a.slots (mark_at s at)) a.past apart.all i h;
  }

-- ---- siblings, as a loop that counts down meets them

module _ (levels : ℕ) (s : List ℕ) (n at : ℕ) (a : AllAccepted levels s n at) (h : 0 < n) where
  some_more : n ≡ suc (n - 1)
  some_more = omega arith

  taken : (check_at levels s at a.slots ≡ fine (end_at levels s at)) × (check_all (check_at levels s) s (n - 1) (end_at levels s at) (after a.slots (mark_at s at)) ≡ fine a.past)
  taken = first-accepted levels s (n - 1) at a.slots a.past (subst (λ (k : ℕ). check_all (check_at levels s) s k at a.slots ≡ fine a.past) some_more a.checked)

  pub first_one : AcceptedAt levels s at
  first_one = record { slots = a.slots; past = end_at levels s at; checked = taken.0 }

  pub others : AllAccepted levels s (n - 1) (end_at levels s at)
  others = record { slots = after a.slots (mark_at s at); past = a.past; checked = taken.1 }

pub read_all_more : (read : ℕ → Rec) (end : ℕ → ℕ) (n at : ℕ) → 0 < n → read_all read end n at ≡ cons (read at) (read_all read end (n - 1) (end at))
unfolding read_all
read_all_more read end zero at h = absurd (omega arith)
read_all_more read end (suc n) at h = let z : n ≡ suc n - 1 = omega arith in ap (λ (k : ℕ). cons (read at) (read_all read end k (end at))) z

pub read_all_none : (read : ℕ → Rec) (end : ℕ → ℕ) (n at : ℕ) → n ≤ 0 → read_all read end n at ≡ nil
unfolding read_all
read_all_none read end zero at h = refl
read_all_none read end (suc n) at h = absurd (omega arith)

pub end_of_all-more : (end : ℕ → ℕ) (n at : ℕ) → 0 < n → end_of_all end n at ≡ end_of_all end (n - 1) (end at)
unfolding end_of_all
end_of_all-more end zero at h = absurd (omega arith)
end_of_all-more end (suc n) at h = let z : n ≡ suc n - 1 = omega arith in ap (λ (k : ℕ). end_of_all end k (end at)) z

pub end_of_all-none : (end : ℕ → ℕ) (n at : ℕ) → n ≤ 0 → end_of_all end n at ≡ at
unfolding end_of_all
end_of_all-none end zero at h = refl
end_of_all-none end (suc n) at h = absurd (omega arith)

-- the first i of them end behind the place where they begin
pub all_after : (levels : ℕ) (s : List ℕ) (n c i : ℕ) → AllAccepted levels s n c → i ≤ n → c ≤ end_of_all (end_at levels s) i c
unfolding end_of_all
all_after levels s n c zero a h = omega arith
all_after levels s n c (suc i) a h =
    let f = end_after levels s c (first_one levels s n c a (omega arith)) in
    omega (arith, f, all_after levels s (n - 1) (end_at levels s c) i (others levels s n c a (omega arith)) (omega arith))

-- the first two children
pub child_0 : (levels : ℕ) (s : List ℕ) (at : ℕ) → child_at levels s at 0 ≡ body_at s at
unfolding end_of_all
child_0 levels s at = refl

pub child_1 : (levels : ℕ) (s : List ℕ) (at : ℕ) → child_at levels s at 1 ≡ end_at (levels - 1) s (body_at s at)
unfolding end_of_all
child_1 levels s at = refl
