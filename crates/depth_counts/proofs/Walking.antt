-- The walk over the items: a dry run of one, and all of them one after the other.
use mathlib.Core.Path.{◌≡◌, refl, sym, ap, ◌∙◌, subst}
use mathlib.Core.List.{List, [], ◌∷◌, ◌++◌, append-nil, append_assoc}
use mathlib.Core.Bool.{Bool, false, ◌&&◌}
use Prim.Native.Nat.{ℕ, suc, ◌+◌, ◌*◌, ◌-◌, ◌/◌, ◌<◌, ◌≤◌, ◌^◌}
use native.Mathlib.Omega.{arith}
use lib.Dec.{eqb}
use lib.ListN.{length, get_or, length-append}
use Rattle.definition.specs.Tree.{Rec, Recs, nil, end_at}
use Rattle.definition.specs.Record.{kids_of, Diag, diagnostic_marks, diags_bytes, Out}
use Rattle.definition.specs.Marked.{Kinds}
use Rattle.definition.specs.Items.{transform_module_items}
use Rattle.definition.specs.Depths.{Placed, all_at, what_of, items_placed, count_of}
use Rattle.definition.proofs.Calls.{length-diags_bytes}
use Rattle.definition.proofs.Places.{At, at_left, at_right}
use Rattle.definition.proofs.Depths.{what-all, what_append, length-what}
use Rattle.definition.proofs.Counting.{expr_to_ts_type-within}
use Rattle.definition.proofs.CountingItems.{item-within}
use Rattle.records.specs.declared.tree.Record.{Record}
use Rattle.records.specs.declared.tree.Records.{Records}
use Rattle.records.specs.Views.{rec_of, recs_of, ChildrenOf, FirstOf, RestOf}
use Rattle.records.proofs.Records.{recs_none, recs_step}
use Rattle.records.proofs.Views.{accepted}
use Rattle.output.specs.declared.Output.{Output}
use Rattle.output.specs.Outputs.{MakesCounted}
use Rattle.output.proofs.Counter.{records-within}
use Rattle.output.proofs.Steps.{diags_append}
use Rattle.typing.specs.Values.{ids_in, typing_in}
use Rattle.items.specs.InScope.{item_in, items_in}
use Rattle.depth_counts.specs.declared.walk.Walk.{Walk}
use Rattle.depth_counts.specs.Tables.{Shape, Small, Adds, diags_at, Holds}
use Rattle.depth_counts.specs.Walks.{Spaced, Flat, IsBlock, SpaceOf, item_from, items_from, Ready, ReadyAll, Counts}
use Rattle.depth_counts.proofs.Cells.{one_most, held-kinds, held-adds}

length-all : (d : ℕ) (xs : List Diag) → length (all_at d xs) ≡ length xs
unfolding all_at
length-all d [] = refl
length-all d (x ∷ xs) = ap suc (length-all d xs)

-- ---- a dry run

-- from where the walk a stands to `end`
module _ (a : Walk) {o o' : Output} {made : ℕ} {x : Out Recs} (w : MakesCounted o o' made x) (e : o.diagnostics.now.at ≡ a.at) {end : ℕ} (f : end ≡ o'.diagnostics.now.at) (h : Holds a.diagnostics.now a.at x.1) (short : length a.diagnostics.now < 2 ^ 64) where
  dry_end : end ≡ a.at + 10 * length x.1
  dry_end = omega (arith, w.made.step.diagnostics.position, e, f, h.fits, length-diags_bytes x.1)

  module _ (k : Kinds x.1) {n : ℕ} (m : n ≡ (end - a.at) / 10) where
    many : n ≡ length x.1
    many = omega (arith, dry_end)

    pub dry_asked : Small a.table a.at → Small a.table a.at × Kinds (diags_at a.diagnostics.now a.at n)
    dry_asked z = (z, rw many (held-kinds a.diagnostics.now a.at x.1 k h))

    pub dry_done : (depth : ℕ) {u : List (List ℕ)} → Adds a.table u (all_at depth (diags_at a.diagnostics.now a.at n))
        → Counts a (record { list = a.list; scope = a.scope; diagnostics = a.diagnostics; at = end; table = u; id_counter = o'.names.id_counter }) (all_at depth x.1) x.2
    dry_done depth {u} g = record {
      adds = held-adds a.diagnostics.now a.at x.1 k h depth (subst (λ (j : ℕ). Adds a.table u (all_at depth (diags_at a.diagnostics.now a.at j))) many g);
      place = omega (arith, dry_end, length-all depth x.1);
      counter = w.made.step.counter;
      list = refl;
      scope = refl;
      diagnostics = refl;
    }

-- ---- counts one after the other

count_append : (m d : ℕ) (xs ys : List Placed) → count_of m d (xs ++ ys) ≡ count_of m d xs + count_of m d ys
unfolding count_of
count_append m d [] ys = omega arith
count_append m d (x ∷ xs) ys = omega (arith, count_append m d xs ys)

count_most : (m d : ℕ) (xs : List Placed) → count_of m d xs ≤ length xs
unfolding count_of
count_most m d [] = omega arith
count_most m d (x ∷ xs) = omega (arith, count_most m d xs, one_most (eqb x.what.mark m && eqb x.depth d))

adds_none : {t : List (List ℕ)} → Shape t → Adds t t []
unfolding count_of
adds_none s = record { shape = s; cells = λ r d hr hd. omega arith }

adds_then : {t u v : List (List ℕ)} (xs ys : List Placed) → Adds t u xs → Adds u v ys → Adds t v (xs ++ ys)
adds_then xs ys a b = record {
  shape = b.shape;
  cells = λ r d hr hd. omega (arith, a.cells r d hr hd, b.cells r d hr hd, count_append (get_or diagnostic_marks r 0) d xs ys);
}

small-after : {t u : List (List ℕ)} {p q : ℕ} (xs : List Placed) → Small t p → Adds t u xs → q ≡ p + 10 * length xs → Small u q
small-after xs s a e = record {
  shape = a.shape;
  cells = λ r d hr hd. omega (arith, s.cells r d hr hd, a.cells r d hr hd, count_most (get_or diagnostic_marks r 0) d xs, e);
}

-- nothing is counted
pub counts-none : (w : Walk) → Shape w.table → Counts w w [] w.id_counter
counts-none w z = record { adds = adds_none z; place = omega arith; counter = refl; list = refl; scope = refl; diagnostics = refl }

pub counts-as : {w v : Walk} {xs ys : List Placed} {n m : ℕ} → Counts w v xs n → xs ≡ ys → n ≡ m → Counts w v ys m
counts-as c e f = rw (← e, ← f) c

-- ---- the buffer one after the other

bytes_of : (xs : List Placed) → length (diags_bytes (what_of xs)) ≡ 10 * length xs
bytes_of xs = length-diags_bytes (what_of xs) ∙ ap (λ (k : ℕ). 10 * k) (length-what xs)

split : {g : List ℕ} {p : ℕ} (xs ys : List Placed) → Holds g p (what_of (xs ++ ys)) → At g p (diags_bytes (what_of xs) ++ diags_bytes (what_of ys))
split {g} {p} xs ys h = subst (At g p) (ap diags_bytes (what_append xs ys) ∙ diags_append (what_of xs) (what_of ys)) (record { fits = h.fits; same = h.same })

holds-first : {g : List ℕ} {p : ℕ} (xs ys : List Placed) → Holds g p (what_of (xs ++ ys)) → Holds g p (what_of xs)
holds-first {g} {p} xs ys h = let a = at_left g p (diags_bytes (what_of xs)) (diags_bytes (what_of ys)) (split xs ys h) in record { fits = a.fits; same = a.same }

holds-rest : {g : List ℕ} {p q : ℕ} (xs ys : List Placed) → Holds g p (what_of (xs ++ ys)) → q ≡ p + 10 * length xs → Holds g q (what_of ys)
holds-rest {g} {p} {q} xs ys h e =
    let a = at_right g p (diags_bytes (what_of xs)) (diags_bytes (what_of ys)) (split xs ys h) in
    subst (λ (k : ℕ). Holds g k (what_of ys)) (omega (arith, e, bytes_of xs)) (record { fits = a.fits; same = a.same })

-- ---- one item

module _ (w : Walk) (r : Rec) (top : Bool) (d : ℕ) where
  -- one that is no Ns
  pub plain-holds : Flat r → {g : List ℕ} {p : ℕ} → Holds g p (what_of (item_from w r top d)) → Holds g p (item_in w.list.now w.scope top r w.id_counter).1
  plain-holds f {g} {p} h =
      subst (Holds g p)
      (ap what_of (f.placed w.list.now w.scope.unresolved (typing_in w.scope) top d w.id_counter) ∙ what-all d (item_in w.list.now w.scope top r w.id_counter).1)
      h

  pub plain-counts : Flat r → {v : Walk} {n : ℕ} → Counts w v (all_at d (item_in w.list.now w.scope top r w.id_counter).1) n → Counts w v (item_from w r top d) n
  plain-counts f c = counts-as c (sym (f.placed w.list.now w.scope.unresolved (typing_in w.scope) top d w.id_counter)) refl

  -- an Ns without items
  pub empty_counts : Spaced r nil → Shape w.table → Counts w w (item_from w r top d) (item_in w.list.now w.scope top r w.id_counter).2
  unfolding items_placed transform_module_items
  empty_counts f z =
      counts-as (counts-none w z) (sym (f.placed w.list.now w.scope.unresolved (typing_in w.scope) top d w.id_counter))
      (sym (f.counter w.list.now w.scope.unresolved (typing_in w.scope) top w.id_counter))

  -- an Ns with items
  module _ {block : Record} {items : Records} (f : Spaced r (kids_of (rec_of block))) (k : ChildrenOf block items) {deeper : ℕ} (z : deeper ≡ d + 1) where
    its_placed : item_from w r top d ≡ items_from w (recs_of items) false deeper
    its_placed =
        f.placed w.list.now w.scope.unresolved (typing_in w.scope) top d w.id_counter
        ∙ (ap (λ (ks : Recs). items_from w ks false (suc d)) (sym k.are) ∙ ap (items_from w (recs_of items) false) (omega arith))

    pub block-holds : {g : List ℕ} {p : ℕ} → Holds g p (what_of (item_from w r top d)) → Holds g p (what_of (items_from w (recs_of items) false deeper))
    block-holds {g} {p} h = subst (λ (xs : List Placed). Holds g p (what_of xs)) its_placed h

    pub block-counts : {v : Walk} → Counts w v (items_from w (recs_of items) false deeper) (items_in w.list.now w.scope false (recs_of items) w.id_counter).2
        → Counts w v (item_from w r top d) (item_in w.list.now w.scope top r w.id_counter).2
    block-counts c =
        counts-as c (sym its_placed)
        (ap (λ (ks : Recs). (items_in w.list.now w.scope false ks w.id_counter).2) k.are ∙ sym (f.counter w.list.now w.scope.unresolved (typing_in w.scope) top w.id_counter))

-- the items of the Nb that was found in an item have two levels less
pub block_ready : {w : Walk} {item space block : Record} {items : Records} {d deeper : ℕ} → Ready w item d → SpaceOf item space → IsBlock (space.levels - 1) space block → ChildrenOf block items → deeper ≡ d + 1
    → ReadyAll w items deeper
block_ready q s i k z = record {
  low = omega (arith, q.low, s.place, i.place, k.behind);
  same = q.same ∙ sym (k.tree ∙ (i.tree ∙ s.tree));
  levels = omega (arith, q.levels, s.levels, i.levels, k.levels, k.left);
}

-- ---- the items one after the other

-- those of k are left, and those before them are counted
pub record Walking (top : Bool) (depth levels : ℕ) (total : List Placed) (last : ℕ) (a b : Walk) (k : Records) : Type 0 where
  pub done : List Placed
  pub counts : Counts a b done b.id_counter
  pub small : Small b.table b.at
  pub ready : ReadyAll b k depth
  pub level : k.levels ≡ levels
  pub holds : Holds b.diagnostics.now b.at (what_of (items_from b (recs_of k) top depth))
  pub placed : done ++ items_from b (recs_of k) top depth ≡ total
  pub counter : (items_in b.list.now b.scope top (recs_of k) b.id_counter).2 ≡ last

pub walking_start : (top : Bool) (depth : ℕ) (a : Walk) (k : Records) → ReadyAll a k depth → Small a.table a.at → Holds a.diagnostics.now a.at (what_of (items_from a (recs_of k) top depth))
    → Walking top depth k.levels (items_from a (recs_of k) top depth) (items_in a.list.now a.scope top (recs_of k) a.id_counter).2 a a k
walking_start top depth a k r z h = record {
  done = [];
  counts = counts-none a z.shape;
  small = z;
  ready = r;
  level = refl;
  holds = h;
  placed = refl;
  counter = refl;
}

module _ {top : Bool} {depth levels : ℕ} {total : List Placed} {last : ℕ} {a b : Walk} {k : Records} (i : Walking top depth levels total last a b k) where
  module _ {x : Record} {l : Records} (n : (0 < k.count) × FirstOf k x × RestOf k l) where
    abbrev its_counter : ℕ
    its_counter = (item_in b.list.now b.scope top (rec_of x) b.id_counter).2

    abbrev others_placed : List Placed
    others_placed = items_placed b.list.now b.scope.unresolved (typing_in b.scope) (recs_of l) top depth its_counter

    first-split : items_from b (recs_of k) top depth ≡ item_from b (rec_of x) top depth ++ others_placed
    unfolding items_placed
    first-split = ap (λ (ks : Recs). items_from b ks top depth) (recs_step n.0 n.1 n.2)

    split-holds : Holds b.diagnostics.now b.at (what_of (item_from b (rec_of x) top depth ++ others_placed))
    split-holds = subst (λ (xs : List Placed). Holds b.diagnostics.now b.at (what_of xs)) first-split i.holds

    pub walking_ready : Ready b x depth
    walking_ready = record {
      low = omega (arith, i.ready.low, n.1.place);
      same = i.ready.same ∙ sym n.1.tree;
      levels = omega (arith, i.ready.levels, n.1.levels);
    }

    pub walking_holds : Holds b.diagnostics.now b.at (what_of (item_from b (rec_of x) top depth))
    walking_holds = holds-first (item_from b (rec_of x) top depth) others_placed split-holds

    module _ {c : Walk} (w : Counts b c (item_from b (rec_of x) top depth) its_counter) where
      moved : items_from c (recs_of l) top depth ≡ others_placed
      moved = rw (w.list, w.scope, w.counter) refl

      low : c.id_counter ≤ l.at
      unfolding rec_of ids_in
      low =
          let p : end_at x.levels x.tree.now x.at ≡ l.at = rw (n.1.levels, n.1.tree, n.1.place) (sym n.2.place) in
          omega (arith, w.counter, (item-within (typing_in b.scope) (expr_to_ts_type-within (ids_in b.scope) b.scope.unresolved) b.list.now b.scope.unresolved (rec_of x) top b.id_counter).high, i.ready.low, n.1.place, p, records-within x.levels x.tree.now x.at (accepted x))

      pub walking_turn : Walking top depth levels total last a c l
      unfolding transform_module_items
      walking_turn = record {
        done = i.done ++ item_from b (rec_of x) top depth;
        counts = record {
          adds = adds_then i.done (item_from b (rec_of x) top depth) i.counts.adds w.adds;
          place = omega (arith, w.place, i.counts.place, length-append i.done (item_from b (rec_of x) top depth));
          counter = refl;
          list = w.list ∙ i.counts.list;
          scope = w.scope ∙ i.counts.scope;
          diagnostics = w.diagnostics ∙ i.counts.diagnostics;
        };
        small = small-after (item_from b (rec_of x) top depth) i.small w.adds w.place;
        ready = record {
          low = low;
          same = rw (w.scope, n.2.tree) i.ready.same;
          levels = omega (arith, i.ready.levels, n.2.levels);
        };
        level = n.2.levels ∙ i.level;
        holds = rw (w.diagnostics, moved) (holds-rest (item_from b (rec_of x) top depth) others_placed split-holds w.place);
        placed =
            ap (λ (ys : List Placed). (i.done ++ item_from b (rec_of x) top depth) ++ ys) moved
            ∙ (append_assoc i.done (item_from b (rec_of x) top depth) others_placed ∙ (ap (λ (ys : List Placed). i.done ++ ys) (sym first-split) ∙ i.placed));
        counter = rw (w.list, w.scope, w.counter) (sym (ap (λ (ks : Recs). (items_in b.list.now b.scope top ks b.id_counter).2) (recs_step n.0 n.1 n.2)) ∙ i.counter);
      }

  pub walking_done : k.count ≡ 0 → Counts a b total last
  unfolding items_placed transform_module_items
  walking_done h =
      let e = recs_none k h in
      counts-as i.counts
      (sym (append-nil i.done) ∙ (ap (λ (ks : Recs). i.done ++ items_from b ks top depth) (sym e) ∙ i.placed))
      (ap (λ (ks : Recs). (items_in b.list.now b.scope top ks b.id_counter).2) (sym e) ∙ i.counter)
