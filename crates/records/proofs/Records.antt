-- Laws of records as the code walks over them: the children of a record one after the other, and what a loop over them meets.
use mathlib.Core.Path.{◌≡◌, refl, sym, ap, ◌∙◌}
use mathlib.Core.Bool.{true, false}
use Rattle.std.proofs.Math.Option.{some}
use Prim.Native.Nat.{ℕ, zero, suc, ◌-◌, ◌<◌, ◌≤◌}
use Prim.Native.String.{String}
use native.Mathlib.Omega.{arith}
use lib.Dec.{eqb}
use Rattle.definition.specs.Tree.{Rec, Recs, nil, cons, count, body_at, end_at, end_of_all, read_all, tree_at}
use Rattle.definition.specs.Grammar.{mark, marks, member}
use Rattle.definition.specs.Check.{slots_of}
use Rattle.definition.specs.Children.{child_at}
use Rattle.definition.specs.Record.{kids_of, mark_of, kid}
use Rattle.definition.proofs.Children.{read_all_more, read_all_none}
use Rattle.definition.proofs.Kids.{mark-is, has-least, least_of, child_in, fixed}
use Rattle.records.specs.declared.tree.Record.{Record}
use Rattle.records.specs.declared.tree.Records.{Records}
use Rattle.records.specs.Views.{rec_of, recs_of, behind, ChildrenOf, FirstOf, RestOf, From, ChildIs}
use Rattle.records.proofs.Views.{accepted, mark_here, count_here}

-- ---- one step over records

pub recs_none : (k : Records) → k.count ≡ 0 → recs_of k ≡ nil
unfolding recs_of
recs_none k e = read_all_none (tree_at k.levels k.tree.now) (end_at k.levels k.tree.now) k.count k.at (omega arith)

pub recs_step : {k l : Records} {x : Record} → 0 < k.count → FirstOf k x → RestOf k l → recs_of k ≡ cons (rec_of x) (recs_of l)
unfolding recs_of rec_of
recs_step {k} {l} {x} h f r =
    rw (f.tree, f.place, f.levels, r.tree, r.place, r.levels, r.many) (read_all_more (tree_at k.levels k.tree.now) (end_at k.levels k.tree.now) k.count k.at h)

-- ---- the children of a record

pub from_children : {r : Record} {k : Records} → ChildrenOf r k → From r 0 k
unfolding behind end_of_all
from_children c = record { are = c.are; many = omega (arith, c.many); tree = c.tree; place = c.place; behind_it = c.behind; levels = c.levels; left = c.left }

behind-cons : (i : ℕ) (ks : Recs) {x : Rec} {l : Recs} → behind i ks ≡ cons x l → (kid i ks ≡ x) × (behind (suc i) ks ≡ l)
unfolding behind
behind-cons zero nil {x} {l} e = absurd (let z = ap count e in omega (arith, z))
behind-cons zero (cons k ks) e = (cc e, cc e)
behind-cons (suc i) nil {x} {l} e = absurd (let z = ap count e in omega (arith, z))
behind-cons (suc i) (cons k ks) e = behind-cons i ks e

end-more : (end : ℕ → ℕ) (i at : ℕ) → end_of_all end (suc i) at ≡ end (end_of_all end i at)
unfolding end_of_all
end-more end zero at = refl
end-more end (suc i) at = end-more end i (end at)

module _ {r : Record} {i : ℕ} {k : Records} (f : From r i k) (h : 0 < k.count) where
  pub child_is : {x : Record} → FirstOf k x → ChildIs r i x
  unfolding recs_of rec_of
  child_is {x} t =
      let e : recs_of k ≡ cons (rec_of x) (read_all (tree_at k.levels k.tree.now) (end_at k.levels k.tree.now) (k.count - 1) (end_at k.levels k.tree.now k.at)) =
      rw (t.tree, t.place, t.levels) (read_all_more (tree_at k.levels k.tree.now) (end_at k.levels k.tree.now) k.count k.at h) in
      record {
        is = sym (behind-cons i (kids_of (rec_of r)) (sym f.are ∙ e)).0;
        there = omega (arith, f.many, h);
        tree = t.tree ∙ f.tree;
        place = t.place ∙ f.place;
        behind_it = omega (arith, f.behind_it, t.place);
        levels = t.levels ∙ f.levels;
        left = f.left;
      }

  pub from_rest : {l : Records} → RestOf k l → From r (suc i) l
  unfolding recs_of
  from_rest {l} t =
      let e : recs_of k ≡ cons (tree_at k.levels k.tree.now k.at) (recs_of l) =
      rw (t.tree, t.place, t.levels, t.many) (read_all_more (tree_at k.levels k.tree.now) (end_at k.levels k.tree.now) k.count k.at h) in
      record {
        are = sym (behind-cons i (kids_of (rec_of r)) (sym f.are ∙ e)).1;
        many = omega (arith, f.many, h, t.many);
        tree = t.tree ∙ f.tree;
        place = rw (t.place, f.place, f.tree, f.levels) (sym (end-more (end_at (r.levels - 1) r.tree.now) i (body_at r.tree.now r.at)));
        behind_it = omega (arith, f.behind_it, t.behind);
        levels = t.levels ∙ f.levels;
        left = f.left;
      }

-- ---- what the grammar says of the children, by the record's mark

module _ (r : Record) {m : ℕ} (e : mark_of (rec_of r) ≡ m) where
  -- so many there are at least
  pub enough : least_of m ≤ count (kids_of (rec_of r))
  enough = omega (arith, has-least r.levels r.tree.now r.at (accepted r) m (mark_here r ∙ e), count_here r)

  -- the marks of the child with the number i: `kid_marks r e refl i S refl`, with the line `unfolding grammar known slots place fixed`
  pub kid_marks : eqb m (mark "Ag") ≡ false → (i : ℕ) (S : String) → fixed (slots_of m) i ≡ some S → member (mark_of (kid i (kids_of (rec_of r)))) (marks S) ≡ true
  unfolding rec_of
  kid_marks n i S f =
      let c = child_in r.levels r.tree.now r.at (accepted r) m (mark_here r ∙ e) n i S f in
      rw (c.tree, mark-is (r.levels - 1) r.tree.now (child_at r.levels r.tree.now r.at i)) c.marks
