-- Records of which only the first was looked at, and whether Ops follow a child.
use mathlib.Core.Path.{◌≡◌, refl, sym, ap, ◌∙◌}
use mathlib.Core.Bool.{true}
use Prim.Native.Nat.{ℕ, zero, suc, ◌-◌, ◌<◌, ◌≤◌}
use native.Mathlib.Omega.{arith}
use Rattle.definition.specs.Tree.{Recs, nil, cons, count, end_at, read_all, tree_at}
use Rattle.definition.specs.Record.{kids_of, is, kid, ends}
use Rattle.definition.proofs.Children.{read_all_more}
use Rattle.records.specs.declared.tree.Record.{Record}
use Rattle.records.specs.declared.tree.Records.{Records}
use Rattle.records.specs.Views.{rec_of, recs_of, behind, FirstOf, ChildIs}

-- the first of them, and some behind it
pub recs_front : {k : Records} {x : Record} → 0 < k.count → FirstOf k x → (ks : Recs) × (recs_of k ≡ cons (rec_of x) ks)
unfolding recs_of rec_of
recs_front {k} h f = (
  read_all (tree_at k.levels k.tree.now) (end_at k.levels k.tree.now) (k.count - 1) (end_at k.levels k.tree.now k.at),
  rw (f.tree, f.place, f.levels) (read_all_more (tree_at k.levels k.tree.now) (end_at k.levels k.tree.now) k.count k.at h),
)

-- ---- whether Ops follow

-- no children are left
pub ends_none : (i : ℕ) (ks : Recs) → count ks ≤ i → ends (behind i ks) ≡ true
unfolding behind
ends_none zero nil h = refl
ends_none zero (cons k ks) h = absurd (omega (arith, h))
ends_none (suc i) nil h = refl
ends_none (suc i) (cons k ks) h = ends_none i ks (omega (arith, h))

ends-kid : (i : ℕ) (ks : Recs) → i < count ks → ends (behind i ks) ≡ is "Op" (kid i ks)
unfolding behind
ends-kid zero nil h = absurd (omega (arith, h))
ends-kid zero (cons k ks) h = refl
ends-kid (suc i) nil h = absurd (omega (arith, h))
ends-kid (suc i) (cons k ks) h = ends-kid i ks (omega (arith, h))

-- the child with the number i is the first of those that are left
pub ends_at : {r x : Record} (i : ℕ) → ChildIs r i x → ends (behind i (kids_of (rec_of r))) ≡ is "Op" (rec_of x)
ends_at {r} i c = ends-kid i (kids_of (rec_of r)) c.there ∙ ap (is "Op") (sym c.is)
