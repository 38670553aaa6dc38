-- Records of the code with their tokens: none, one and those behind it; the children of one, by their number and behind a number.
use mathlib.Core.Path.{◌≡◌, refl, sym, ap, ◌∙◌}
use mathlib.Core.List.{[], ◌∷◌}
use mathlib.Core.Bool.{Bool}
use Prim.Native.Nat.{ℕ, zero, suc, ◌+◌, ◌-◌, ◌<◌, ◌≤◌}
use native.Mathlib.Omega.{arith}
use lib.ListN.{length, drop, drop_of_length-le}
use Rattle.definition.specs.Tree.{Rec, Recs, rec, nil, cons, count, mark_at, count_at, body_at, head_at, read_all, end_of_all, end_at, tree_at}
use Rattle.definition.specs.Record.{has_flag, head_of, kids_of, mark_of}
use Rattle.definition.specs.Text.{no_child, nth, tokens, children, size_of, body_of, text_rows, row_in, row_tokens}
use Rattle.definition.proofs.Children.{children as kids, read_all_more}
use Rattle.definition.proofs.Kids.{head_is, text-length}
use Rattle.records.specs.declared.tree.Record.{Record}
use Rattle.records.specs.declared.tree.Records.{Records}
use Rattle.records.specs.Views.{rec_of, recs_of, behind, ChildrenOf, FirstOf, RestOf, From, ChildIs}
use Rattle.records.proofs.Accepted.{lies}
use Rattle.records.proofs.Records.{recs_none, recs_step}
use Rattle.records.proofs.Views.{accepted, mark_here, flags_here, kids_here, count_here, first_here}
use Rattle.declaration_text.specs.Steps.{part_of, parts_of, is_oc, parts_in, children_of, is_chain, BehindFirst, Plain, PlainAt, Name, NameAt}
use Rattle.declaration_text.proofs.Children.{end-more, reach, kid-none, kid_at, drop-is}

-- ---- one step over records

pub parts_none : (k : Records) (under : Bool) → k.count ≡ 0 → parts_of under k ≡ []
unfolding children
parts_none k under e = rw (recs_none k e)

module _ {k l : Records} {x : Record} (h : 0 < k.count) (f : FirstOf k x) (r : RestOf k l) where
  -- those behind the first stand behind its bytes
  pub first_ends : k.at + size_of (rec_of x) ≡ l.at
  unfolding rec_of
  first_ends = rw (f.tree, f.place, f.levels, r.place) (reach k.levels k.tree.now k.at (lies (first_here k h)))

  pub parts_more : (under : Bool) → parts_of under k ≡ part_of under x ∷ parts_of under l
  unfolding children
  parts_more under = rw (recs_step h f r, first_ends, ← f.place)

-- ---- those behind the first i

behind-more : (i : ℕ) (ks : Recs) {x : Rec} {l : Recs} → behind i ks ≡ cons x l → behind (suc i) ks ≡ l
unfolding behind
behind-more zero nil {x} {l} e = absurd (let z = ap count e in omega (arith, z))
behind-more zero (cons k ks) e = cc e
behind-more (suc i) nil {x} {l} e = absurd (let z = ap count e in omega (arith, z))
behind-more (suc i) (cons k ks) e = behind-more i ks e

pub behind_start : (k : Records) → BehindFirst k 0 k
unfolding behind end_of_all
behind_start k = record { are = refl; tree = refl; place = refl; behind_it = omega arith; levels = refl; many = omega arith }

pub behind_turn : {k l m : Records} {i : ℕ} → BehindFirst k i l → 0 < l.count → RestOf l m → BehindFirst k (suc i) m
unfolding recs_of
behind_turn {k} {l} {m} {i} b h t =
    let e : recs_of l ≡ cons (tree_at l.levels l.tree.now l.at) (recs_of m) =
    rw (t.tree, t.place, t.levels, t.many) (read_all_more (tree_at l.levels l.tree.now) (end_at l.levels l.tree.now) l.count l.at h) in
    record {
      are = sym (behind-more i (recs_of k) (sym b.are ∙ e));
      tree = t.tree ∙ b.tree;
      place = rw (t.place, b.place, b.tree, b.levels) (sym (end-more (end_at k.levels k.tree.now) i k.at));
      behind_it = omega (arith, b.behind_it, t.behind);
      levels = t.levels ∙ b.levels;
      many = omega (arith, b.many, h, t.many);
    }

-- of the children of a record, those from the number i on
pub behind-from : {r : Record} {k l : Records} {i : ℕ} → ChildrenOf r k → BehindFirst k i l → From r i l
behind-from {r} {k} {l} {i} c b = record {
  are = b.are ∙ ap (behind i) c.are;
  many = omega (arith, c.many, b.many);
  tree = b.tree ∙ c.tree;
  place = rw (b.place, c.place, c.tree, c.levels) refl;
  behind_it = omega (arith, c.behind, b.behind_it);
  levels = b.levels ∙ c.levels;
  left = c.left;
}

-- ---- the children of a record

module _ (r : Record) where
  pub body_here : body_of r.at (head_of (rec_of r)) ≡ body_at r.tree.now r.at
  unfolding rec_of head_at
  body_here = rw (head_is r.levels r.tree.now r.at, text-length r.levels r.tree.now r.at (accepted r))

  pub parts_here : children_of r.levels r.tree.now r.at ≡ parts_in r
  parts_here = rw (kids_here r, body_here, mark_here r)

-- a plain record, and a name, by the bytes where it stands
module _ (r : Record) {m : ℕ} (e : m ≡ mark_at r.tree.now r.at) where
  pub plain_here : PlainAt r.tree.now r.at m → Plain (rec_of r)
  plain_here p = record { kind = rw (← mark_here r, ← e) p.kind; alone = sym (count_here r) ∙ p.alone }

  pub name_here : NameAt r.tree.now r.at m → Name (rec_of r)
  name_here n = record {
    kind = sym (mark_here r) ∙ sym e ∙ n.kind;
    required = ap (has_flag 1) (sym (flags_here r)) ∙ n.required;
    alone = sym (count_here r) ∙ n.alone;
  }

pub parts_are : {r : Record} {k : Records} → ChildrenOf r k → parts_of (is_oc (rec_of r)) k ≡ parts_in r
parts_are {r} c = rw (c.are, c.place, body_here r)

-- those from the number i on
pub parts_behind : {r : Record} {i : ℕ} {k : Records} → From r i k → parts_of (is_oc (rec_of r)) k ≡ drop i (parts_in r)
unfolding recs_of
parts_behind {r} {i} {k} f =
    let n : k.count ≡ count_at r.tree.now r.at - i = omega (arith, f.many, count_here r) in
    rw (← parts_here r, ← mark_here r, f.tree, f.place, f.levels, n)
    (sym (drop-is (r.levels - 1) r.tree.now (is_chain r.tree.now r.at) i (count_at r.tree.now r.at) (body_at r.tree.now r.at) (kids r.levels r.tree.now r.at (accepted r)) (omega (arith, f.many, count_here r))))

-- the one with the number i
pub part_is : {r : Record} {i : ℕ} {x : Record} → ChildIs r i x → nth i (parts_in r) ≡ part_of (is_oc (rec_of r)) x
unfolding rec_of
part_is {r} {i} {x} c =
    rw (← parts_here r, ← mark_here r, kid_at r.levels r.tree.now r.at (accepted r) i (omega (arith, c.there, count_here r)), c.tree, c.place, c.levels)

pub no_part : (r : Record) {i : ℕ} → count (kids_of (rec_of r)) ≤ i → nth i (parts_in r) ≡ no_child
no_part r {i} h = rw (← parts_here r) (kid-none r.levels r.tree.now r.at (accepted r) i (omega (arith, h, count_here r)))

-- ---- by the trees alone

pub parts_nil : (ks : Recs) (under : Bool) (b : ℕ) → count ks ≤ 0 → children ks under b ≡ []
unfolding children
parts_nil nil under b h = refl
parts_nil (cons k ks) under b h = absurd (omega arith)

parts_many : (ks : Recs) (under : Bool) (b : ℕ) → length (children ks under b) ≡ count ks
unfolding children
parts_many nil under b = refl
parts_many (cons k ks) under b = ap suc (parts_many ks under (b + size_of k))

pub parts_past : (ks : Recs) (under : Bool) (b n : ℕ) → count ks ≤ n → drop n (children ks under b) ≡ []
parts_past ks under b n h = drop_of_length-le (children ks under b) {i = n} (omega (arith, parts_many ks under b))

-- the tokens of a record, by its row and its children
pub tokens_are : (r : Record) (under : Bool) → tokens (rec_of r) under r.at ≡ row_tokens (row_in text_rows (mark_of (rec_of r))) under r.at (head_of (rec_of r)) (parts_in r)
unfolding tokens
tokens_are r under = go (rec_of r) under r.at
  where
    go : (y : Rec) (under : Bool) (at : ℕ) → tokens y under at ≡ row_tokens (row_in text_rows (mark_of y)) under at (head_of y) (children (kids_of y) (is_oc y) (body_of at (head_of y)))
    go (rec h ks) under at = refl
