-- What the code reads of a Record is what the tree that stands there has.
use mathlib.Core.Path.{◌≡◌, refl, sym, ap, ◌∙◌}
use Prim.Native.Nat.{◌+◌, ◌-◌, ◌<◌, ◌≤◌}
use native.Mathlib.Omega.{arith}
use Rattle.definition.specs.Tree.{count, head_size, mark_at, flags_at, length_at, count_at, text_at, body_at, end_at, head_at, read_all, tree_at}
use Rattle.definition.specs.Children.{AcceptedAt, AllAccepted}
use Rattle.definition.specs.Record.{head_of, kids_of, mark_of, text_of}
use Rattle.definition.proofs.Anywhere.{accepted_at, all_accepted}
use Rattle.definition.proofs.Children.{first_one, others, children, end_after}
use Rattle.definition.proofs.Converse.{count_read_all}
use Rattle.definition.proofs.Kids.{head_is, mark-is, flags-is, text-is, kids_are}
use Rattle.definition.proofs.Places.{part_length}
use Rattle.records.specs.declared.tree.Record.{Record}
use Rattle.records.specs.declared.tree.Records.{Records}
use Rattle.records.specs.Fields.{fields_at, fields_of, range_at, range_of}
use Rattle.records.specs.Views.{rec_of, recs_of, ChildrenOf}
use Rattle.records.proofs.Accepted.{fits, level}

module _ (r : Record) where
  pub accepted : AcceptedAt r.levels r.tree.now r.at
  accepted = accepted_at r.accepted

  pub rec_is : rec_of r ≡ tree_at r.levels r.tree.now r.at
  unfolding rec_of
  rec_is = refl

  pub mark_here : mark_at r.tree.now r.at ≡ mark_of (rec_of r)
  unfolding rec_of
  mark_here = sym (mark-is r.levels r.tree.now r.at)

  pub flags_here : flags_at r.tree.now r.at ≡ (head_of (rec_of r)).flags
  unfolding rec_of
  flags_here = sym (flags-is r.levels r.tree.now r.at)

  pub text_here : text_at r.tree.now r.at ≡ text_of (rec_of r)
  unfolding rec_of
  text_here = sym (text-is r.levels r.tree.now r.at)

  pub range_here : range_at r.tree.now r.at ≡ range_of (head_of (rec_of r))
  unfolding rec_of head_at
  range_here = rw (head_is r.levels r.tree.now r.at) refl

  pub kids_here : kids_of (rec_of r) ≡ read_all (tree_at (r.levels - 1) r.tree.now) (end_at (r.levels - 1) r.tree.now) (count_at r.tree.now r.at) (body_at r.tree.now r.at)
  unfolding rec_of
  kids_here = kids_are r.levels r.tree.now r.at accepted

  pub count_here : count_at r.tree.now r.at ≡ count (kids_of (rec_of r))
  count_here = sym (ap count kids_here ∙ count_read_all (tree_at (r.levels - 1) r.tree.now) (end_at (r.levels - 1) r.tree.now) (count_at r.tree.now r.at) (body_at r.tree.now r.at))

  pub fields_here : fields_at r.tree.now r.at ≡ fields_of (head_of (rec_of r)) (count (kids_of (rec_of r)))
  unfolding rec_of head_at
  fields_here = rw (sym count_here, head_is r.levels r.tree.now r.at, part_length r.tree.now (r.at + head_size) (length_at r.tree.now r.at) (fits accepted)) refl

  pub children_here : AllAccepted (r.levels - 1) r.tree.now (count_at r.tree.now r.at) (body_at r.tree.now r.at)
  children_here = children r.levels r.tree.now r.at accepted

-- the children of a record, by their fields
pub children_are : (r : Record) (k : Records) → k.tree ≡ r.tree → k.at ≡ body_at r.tree.now r.at → k.levels ≡ r.levels - 1 → k.count ≡ count_at r.tree.now r.at → ChildrenOf r k
unfolding recs_of
children_are r k t a l n = record {
  are = rw (t, a, l, n) (sym (kids_here r));
  many = n ∙ count_here r;
  tree = t;
  place = a;
  behind = omega (arith, a);
  levels = l;
  left = omega (arith, level (accepted r));
}

module _ (k : Records) where
  pub all_here : AllAccepted k.levels k.tree.now k.count k.at
  all_here = all_accepted k.accepted

  pub first_here : 0 < k.count → AcceptedAt k.levels k.tree.now k.at
  first_here h = first_one k.levels k.tree.now k.count k.at all_here h

  pub others_here : 0 < k.count → AllAccepted k.levels k.tree.now (k.count - 1) (end_at k.levels k.tree.now k.at)
  others_here h = others k.levels k.tree.now k.count k.at all_here h

  pub rest_behind : 0 < k.count → k.at + head_size ≤ end_at k.levels k.tree.now k.at
  rest_behind h = end_after k.levels k.tree.now k.at (first_here h)
