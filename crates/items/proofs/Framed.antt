-- Laws beside those of crate output: the first two children of a record whose front was written, a second child that stays, records that are counted.
use mathlib.Core.Path.{◌≡◌, refl, sym, ap, ◌∙◌, subst}
use Prim.Native.Nat.{ℕ, ◌-◌, ◌<◌, ◌≤◌}
use native.Mathlib.Omega.{arith}
use Rattle.definition.specs.Tree.{Head, Rec, Recs, nil, cons, count, end_at, read_all, tree_at}
use Rattle.definition.specs.Record.{kids_of, one, Out, pure, on_value, single, wrap, at_kid}
use Rattle.definition.proofs.Children.{read_all_more}
use Rattle.records.specs.declared.tree.Record.{Record}
use Rattle.records.specs.declared.tree.Records.{Records}
use Rattle.records.specs.Views.{rec_of, recs_of, FirstOf, RestOf, ChildIs}
use Rattle.records.proofs.Records.{from_children, from_rest, child_is}
use Rattle.prescan.specs.declared.module_names.Scope.{Scope}
use Rattle.output.specs.declared.Output.{Output}
use Rattle.output.specs.Outputs.{Keeps, KeepsAll, Makes, MakesCounted}
use Rattle.output.specs.Kids.{Begun, Kept}
use Rattle.output.proofs.Kept.{keeps_more, keeps_front}
use Rattle.output.proofs.Framing.{makes-as, makes-keeps, kept-as, keeps-counter, all_none, all_one, kids-one}
use Rattle.typing.specs.Values.{Ready, ReadyAll}
use Rattle.typing.proofs.ReadyFor.{ready_kids, ready_child}

-- ---- records, as the first of them and those behind it

-- x is the first of k
pub record Behind (k : Records) (x : Record) : Type 0 where
  pub others : Recs
  pub are : recs_of k ≡ cons (rec_of x) others

pub split_first : {k : Records} {x : Record} → 0 < k.count → FirstOf k x → Behind k x
unfolding recs_of rec_of
split_first {k} {x} h t = record {
  others = read_all (tree_at k.levels k.tree.now) (end_at k.levels k.tree.now) (k.count - 1) (end_at k.levels k.tree.now k.at);
  are = rw (t.tree, t.place, t.levels) (read_all_more (tree_at k.levels k.tree.now) (end_at k.levels k.tree.now) k.count k.at h);
}

-- l are those of k behind the first
pub split_rest : {k l : Records} → 0 < k.count → RestOf k l → recs_of k ≡ cons (tree_at k.levels k.tree.now k.at) (recs_of l)
unfolding recs_of
split_rest {k} {l} h t = rw (t.tree, t.place, t.levels, t.many) (read_all_more (tree_at k.levels k.tree.now) (end_at k.levels k.tree.now) k.count k.at h)

-- in a loop over k, of which l are left
pub loop_ready : {o p : Output} {k l : Records} {x : Record} {scope : Scope} → ReadyAll o k scope → l.tree ≡ k.tree → p.names.id_counter ≤ l.at → FirstOf l x → Ready p x scope
loop_ready y t h e = record { low = omega (arith, h, e.place); same = y.same ∙ sym (e.tree ∙ t) }

-- ---- the children of a record whose front was written

module _ {a b : Output} {r : Record} {h : Head} {k : Records} (g : Begun a b r h k) where
  -- so many there are
  pub some_left : {n : ℕ} → n ≤ count (kids_of (rec_of r)) → n ≤ k.count
  some_left e = omega (arith, e, g.kids.many)

  pub first_child : 0 < k.count → {x : Record} → FirstOf k x → ChildIs r 0 x
  first_child m e = child_is (from_children g.kids) m e

  module _ {scope : Scope} (y : Ready a r scope) where
    pub kids_ready : ReadyAll b k scope
    kids_ready = ready_kids y g.kids (keeps-counter g.front)

    pub first_ready : 0 < k.count → {x : Record} → FirstOf k x → Ready b x scope
    first_ready m e = ready_child y (first_child m e) (keeps-counter g.front)

  module _ {b' : Output} {l : Records} {F : Rec → Rec} (p : Kept b b' k l F) where
    -- a second is left
    pub second_left : 2 ≤ count (kids_of (rec_of r)) → 0 < l.count
    second_left e = omega (arith, e, g.kids.many, p.rest.many)

    module _ (m : 0 < l.count) {x : Record} (e : FirstOf l x) where
      pub second_child : ChildIs r 1 x
      second_child = child_is (from_rest (from_children g.kids) (omega (arith, m, p.rest.many)) p.rest) m e

      pub second_ready : {scope : Scope} → Ready a r scope → Ready b' x scope
      second_ready y = ready_child y second_child (keeps-counter p.put ∙ keeps-counter g.front)

    pub second_counter : b'.names.id_counter ≡ a.names.id_counter
    second_counter = keeps-counter p.put ∙ keeps-counter g.front

  -- the second child stays as it is
  pub second_kept : (x : Rec → ℕ → Out Rec) {b' : Output} {l : Records} → Kept b b' k l (λ r. r) → 0 < l.count → {f : Record} → FirstOf l f → pure (rec_of f) a.names.id_counter ≡ x (rec_of f) a.names.id_counter
      → {c : Output} → KeepsAll b' c (recs_of l) → Makes a c (wrap h (at_kid 1 x (kids_of (rec_of r)) a.names.id_counter))
  second_kept x {l = l} p m {f} e s w =
      let q : Behind l f = split_first m e in
      let ks : kids_of (rec_of r) ≡ cons (rec_of p.first) (cons (rec_of f) q.others) = kids-one g (omega (arith, m, p.rest.many)) p.is p.rest ∙ ap (cons (rec_of p.first)) q.are in
      makes-as
      (makes-keeps _ (keeps_front g (cons (rec_of p.first) (cons (rec_of f) q.others)) (ap count (sym ks) ∙ sym g.kids.many) (keeps_more _ _ p.put (kept-as w q.are))))
      (ap (λ (y : Out Rec). wrap h (on_value (λ (v : Rec). cons (rec_of p.first) (cons v q.others)) y)) s ∙ ap (λ (ks : Recs). wrap h (at_kid 1 x ks a.names.id_counter)) (sym ks))

-- ---- records that are counted

pub counted-as : {a b : Output} {n : ℕ} {x y : Out Recs} → MakesCounted a b n x → x ≡ y → MakesCounted a b n y
counted-as {a} {b} {n} w e = subst (λ (z : Out Recs). MakesCounted a b n z) e w

pub counted_one : {a b : Output} {x : Out Rec} {y : Out Recs} → Makes a b x → single x ≡ y → MakesCounted a b 1 y
counted_one w e = counted-as (record { many = refl; made = all_one w }) e

pub counted_kept : {a b : Output} (r : Rec) {y : Out Recs} → Keeps a b r → pure (one r) a.names.id_counter ≡ y → MakesCounted a b 1 y
counted_kept r w e = counted_one (makes-keeps r w) e

pub counted_none : (o : Output) {y : Out Recs} → pure nil o.names.id_counter ≡ y → MakesCounted o o 0 y
counted_none o e = counted-as (record { many = refl; made = all_none o }) e
