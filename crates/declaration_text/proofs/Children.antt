-- The children of accepted records, with their tokens, as the code meets them: one after the other, by their place, and those behind a place.
use mathlib.Core.Path.{◌≡◌, refl, ap, ◌∙◌}
use mathlib.Core.List.{List, [], ◌∷◌}
use mathlib.Core.Bool.{Bool}
use Prim.Native.Nat.{ℕ, zero, suc, ◌+◌, ◌-◌, ◌<◌, ◌≤◌}
use native.Mathlib.Decide.{dec_le}
use native.Mathlib.Omega.{arith}
use lib.ListN.{length, drop}
use Rattle.definition.specs.Tree.{head_size, encode, encodes, count_at, length_at, body_at, head_at, read_all, end_of_all, end_at, tree_at}
use Rattle.definition.specs.Children.{AcceptedAt, AllAccepted, child_at}
use Rattle.definition.specs.Text.{no_child, nth, children, size_of}
use Rattle.definition.proofs.Children.{children as kids, first_one, others, read_all_more, read_all_none}
use Rattle.definition.proofs.Places.{part_length}
use Rattle.definition.proofs.TextOutside.{size_is, sizes_are}
use Rattle.records.specs.Whole.{Each, Whole}
use Rattle.records.proofs.Accepted.{lies}
use Rattle.declaration_text.specs.Steps.{children_at, child_alone, children_of, is_chain}

-- ---- where a record ends

pub end-more : (end : ℕ → ℕ) (i at : ℕ) → end_of_all end (suc i) at ≡ end (end_of_all end i at)
unfolding end_of_all
end-more end zero at = refl
end-more end (suc i) at = end-more end i (end at)

reach_all : (levels : ℕ) (s : List ℕ) → ((at : ℕ) → Whole levels s at → at + size_of (tree_at levels s at) ≡ end_at levels s at) → (n at : ℕ)
    → Each (Whole levels s) (end_at levels s) n at
    → at + length (encodes (read_all (tree_at levels s) (end_at levels s) n at)) ≡ end_of_all (end_at levels s) n at
unfolding Each read_all end_of_all encode
reach_all levels s f zero at e = omega arith
reach_all levels s f (suc n) at e =
    let t = tree_at levels s at in
    let ks = read_all (tree_at levels s) (end_at levels s) n (end_at levels s at) in
    omega (arith, f at e.0, sizes_are t ks, reach_all levels s f n (end_at levels s at) e.1)

-- behind the bytes of its tree
pub reach : (levels : ℕ) (s : List ℕ) (at : ℕ) → Whole levels s at → at + size_of (tree_at levels s at) ≡ end_at levels s at
unfolding Whole tree_at end_at head_at
reach zero s at w = absurd w
reach (suc levels) s at w =
    let ks = read_all (tree_at levels s) (end_at levels s) (count_at s at) (body_at s at) in
    omega (
      arith,
      size_is (head_at s at) ks,
      part_length s (at + head_size) (length_at s at) w.0,
      reach_all levels s (λ p v. reach levels s p v) (count_at s at) (body_at s at) w.1,
    )

module _ (levels : ℕ) (s : List ℕ) (under : Bool) where
  pub children-none : (n at : ℕ) → n ≤ 0 → children_at levels s under n at ≡ []
  unfolding children
  children-none n at h = rw (read_all_none (tree_at levels s) (end_at levels s) n at h)

  pub children-first : (n at : ℕ) → AcceptedAt levels s at → 0 < n
      → children_at levels s under n at ≡ child_alone levels s under at ∷ children_at levels s under (n - 1) (end_at levels s at)
  unfolding children
  children-first n at a h =
      rw (read_all_more (tree_at levels s) (end_at levels s) n at h)
      (ap (λ (e : ℕ). child_alone levels s under at ∷ children (read_all (tree_at levels s) (end_at levels s) (n - 1) (end_at levels s at)) under e)
      (reach levels s at (lies a)))

  pub children-more : (n at : ℕ) → AllAccepted levels s n at → 0 < n
      → children_at levels s under n at ≡ child_alone levels s under at ∷ children_at levels s under (n - 1) (end_at levels s at)
  children-more n at a h = children-first n at (first_one levels s n at a h) h

  pub nth-is : (i n at : ℕ) → AllAccepted levels s n at → i < n → nth i (children_at levels s under n at) ≡ child_alone levels s under (end_of_all (end_at levels s) i at)
  unfolding end_of_all
  nth-is zero n at a h = rw (children-more n at a (omega arith))
  nth-is (suc i) n at a h =
      rw (children-more n at a (omega arith)) (nth-is i (n - 1) (end_at levels s at) (others levels s n at a (omega arith)) (omega arith))

  pub nth-none : (i n at : ℕ) → AllAccepted levels s n at → n ≤ i → nth i (children_at levels s under n at) ≡ no_child
  nth-none zero n at a h = rw (children-none n at h)
  nth-none (suc i) n at a h = go (dec_le n 0) (λ l. nth-none i (n - 1) (end_at levels s at) (others levels s n at a l) (omega arith))
    where
      go : Dec (n ≤ 0) → (0 < n → nth i (children_at levels s under (n - 1) (end_at levels s at)) ≡ no_child) → nth (suc i) (children_at levels s under n at) ≡ no_child
      go (yes l) f = rw (children-none n at l)
      go (no l) f = rw (children-more n at a (omega arith)) (f (omega arith))

  pub drop-is : (i n at : ℕ) → AllAccepted levels s n at → i ≤ n → drop i (children_at levels s under n at) ≡ children_at levels s under (n - i) (end_of_all (end_at levels s) i at)
  unfolding end_of_all
  drop-is zero n at a h = ap (λ (k : ℕ). children_at levels s under k at) (omega arith)
  drop-is (suc i) n at a h =
      rw (children-more n at a (omega arith))
      (drop-is i (n - 1) (end_at levels s at) (others levels s n at a (omega arith)) (omega arith)
      ∙ ap (λ (k : ℕ). children_at levels s under k (end_of_all (end_at levels s) i (end_at levels s at))) (omega arith))

  pub drop-none : (i n at : ℕ) → AllAccepted levels s n at → n ≤ i → drop i (children_at levels s under n at) ≡ []
  drop-none zero n at a h = children-none n at h
  drop-none (suc i) n at a h = go (dec_le n 0) (λ l. drop-none i (n - 1) (end_at levels s at) (others levels s n at a l) (omega arith))
    where
      go : Dec (n ≤ 0) → (0 < n → drop i (children_at levels s under (n - 1) (end_at levels s at)) ≡ []) → drop (suc i) (children_at levels s under n at) ≡ []
      go (yes l) f = rw (children-none n at l)
      go (no l) f = rw (children-more n at a (omega arith)) (f (omega arith))

-- ---- the children of a record, by their place

module _ (levels : ℕ) (s : List ℕ) (at : ℕ) (a : AcceptedAt levels s at) where
  pub kid-none : (i : ℕ) → count_at s at ≤ i → nth i (children_of levels s at) ≡ no_child
  kid-none i h = nth-none (levels - 1) s (is_chain s at) i (count_at s at) (body_at s at) (kids levels s at a) h

  pub kid_at : (i : ℕ) → i < count_at s at → nth i (children_of levels s at) ≡ child_alone (levels - 1) s (is_chain s at) (child_at levels s at i)
  kid_at i h = nth-is (levels - 1) s (is_chain s at) i (count_at s at) (body_at s at) (kids levels s at a) h
