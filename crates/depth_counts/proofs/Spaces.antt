-- The namespaces that the walk meets.
use mathlib.Core.Path.{◌≡◌, refl, sym, ap, ◌∙◌, subst}
use Prim.Native.Nat.{ℕ, ◌-◌, ◌≤◌}
use native.Mathlib.Omega.{arith}
use Rattle.std.specs.Prelude.{Option, Some, None}
use Rattle.definition.specs.Tree.{Rec, Recs, nil, count}
use Rattle.definition.specs.Grammar.{mark}
use Rattle.definition.specs.Record.{kids_of, mark_of, kid}
use Rattle.definition.specs.Items.{transform_module_items, transform_ts_ns_body}
use Rattle.definition.specs.Depths.{items_placed, body_placed}
use Rattle.definition.proofs.Depths.{item-space, item_space_counter, item_export, item_export_counter, item-other, in_block, in_block_counter, in_nested, in_nested_counter, in_none, in_none_counter}
use Rattle.records.specs.declared.tree.Record.{Record}
use Rattle.records.specs.Views.{rec_of, ChildIs}
use Rattle.records.proofs.Records.{enough}
use Rattle.depth_counts.specs.Walks.{Holding, Spaced, FoundBody, SpaceOf, FoundSpace}

-- an Ns has a name and a body, and an Nd too; an Ed has a declaration
pub space_parts : (r : Record) → mark_of (rec_of r) ≡ mark "Ns" → 2 ≤ count (kids_of (rec_of r))
space_parts r m = enough r m

pub nested_parts : (r : Record) → mark_of (rec_of r) ≡ mark "Nd" → 2 ≤ count (kids_of (rec_of r))
nested_parts r m = enough r m

pub export_part : (r : Record) → mark_of (rec_of r) ≡ mark "Ed" → 1 ≤ count (kids_of (rec_of r))
export_part r m = enough r m

-- ---- a body

pub body-block : (r : Record) → mark_of (rec_of r) ≡ mark "Nb" → FoundBody r.levels r (rec_of r) (Some r)
body-block r m = (
  record { block = m; tree = refl; place = omega arith; levels = omega arith },
  record { placed = λ list ctx ty d n. in_block list ctx ty (rec_of r) m d n; counter = λ list ctx ty n. in_block_counter list ctx ty (rec_of r) m n },
)

pub body-none : (r : Record) → (mark_of (rec_of r) ≡ mark "Nb" → ⊥) → (mark_of (rec_of r) ≡ mark "Nd" → ⊥) → FoundBody r.levels r (rec_of r) None
unfolding items_placed transform_module_items
body-none r e f = record { placed = λ list ctx ty d n. in_none list ctx ty (rec_of r) e f d n; counter = λ list ctx ty n. in_none_counter list ctx ty (rec_of r) e f n }

-- what was found in a child, where what that one holds is what another body holds
found-in : {r x : Record} (c : ChildIs r 1 x) {levels : ℕ} → x.levels ≤ levels → (b : Rec) → ((ks : Recs) → Holding (rec_of x) ks → Holding b ks) → (f : Option Record) → FoundBody x.levels x (rec_of x) f → FoundBody levels r b f
found-in c h b g None f = g nil f
found-in c h b g (Some y) f = (record { block = f.0.block; tree = f.0.tree ∙ c.tree; place = omega (arith, f.0.place, c.behind_it); levels = omega (arith, f.0.levels, h) }, g (kids_of (rec_of y)) f.1)

-- what is found in the body of an Nd is found in the Nd
pub found-nested : {r x : Record} → mark_of (rec_of r) ≡ mark "Nd" → ChildIs r 1 x → (f : Option Record) → FoundBody x.levels x (rec_of x) f → FoundBody r.levels r (rec_of r) f
found-nested {r} {x} m c = found-in c (omega (arith, c.levels)) (rec_of r)
    (λ ks h. record {
      placed = λ list ctx ty d n. in_nested list ctx ty (rec_of r) m d n ∙ (ap (λ (b : Rec). body_placed list ctx ty b d n) (sym c.is) ∙ h.placed list ctx ty d n);
      counter = λ list ctx ty n. in_nested_counter list ctx ty (rec_of r) m n ∙ (ap (λ (b : Rec). (transform_ts_ns_body list ctx ty b n).2) (sym c.is) ∙ h.counter list ctx ty n);
    })

-- what is found in the second child of an Ns is found in its body
pub found-body : {r x : Record} → ChildIs r 1 x → (f : Option Record) → FoundBody x.levels x (rec_of x) f → FoundBody (r.levels - 1) r (kid 1 (kids_of (rec_of r))) f
found-body {r} {x} c = found-in c (omega (arith, c.levels)) (kid 1 (kids_of (rec_of r))) (λ ks h. subst (λ (b : Rec). Holding b ks) c.is h)

-- ---- an item

-- an Ns
pub space-itself : (r : Record) → mark_of (rec_of r) ≡ mark "Ns" → SpaceOf r r
space-itself r m = record {
  is = m;
  tree = refl;
  place = omega arith;
  levels = omega arith;
  placed = λ list ctx ty top d n. item-space list ctx ty (rec_of r) m top d n;
  counter = λ list ctx ty top n. item_space_counter list ctx ty (rec_of r) m top n;
}

-- an Ed
module _ {r x : Record} (m : mark_of (rec_of r) ≡ mark "Ed") (c : ChildIs r 0 x) where
  -- that holds an Ns
  pub space-exported : mark_of (rec_of x) ≡ mark "Ns" → SpaceOf r x
  space-exported e = record {
    is = e;
    tree = c.tree;
    place = omega (arith, c.behind_it);
    levels = omega (arith, c.levels);
    placed = λ list ctx ty top d n. rw c.is (item_export list ctx ty (rec_of r) m (ap mark_of (sym c.is) ∙ e) top d n);
    counter = λ list ctx ty top n. rw c.is (item_export_counter list ctx ty (rec_of r) m (ap mark_of (sym c.is) ∙ e) top n);
  }

  -- that holds another declaration
  pub export-other : (mark_of (rec_of x) ≡ mark "Ns" → ⊥) → FoundSpace r None
  export-other n = record {
    placed = λ list ctx ty top d k. item-other list ctx ty (rec_of r) (λ q. absurd (let z : mark "Ed" ≡ mark "Ns" = sym m ∙ q in omega arith)) (λ q z. n (ap mark_of c.is ∙ z)) top d k;
  }

-- another item
pub found-other : (r : Record) → (mark_of (rec_of r) ≡ mark "Ns" → ⊥) → (mark_of (rec_of r) ≡ mark "Ed" → ⊥) → FoundSpace r None
found-other r e f = record { placed = λ list ctx ty top d n. item-other list ctx ty (rec_of r) e (λ q z. f q) top d n }

-- an Ns whose body was found to hold the items ks holds them
pub holds_items : {item space : Record} → SpaceOf item space → (ks : Recs) → Holding (kid 1 (kids_of (rec_of space))) ks → Spaced (rec_of item) ks
holds_items s ks h = record {
  placed = λ list ctx ty top d n. s.placed list ctx ty top d n ∙ h.placed list ctx ty _ n;
  counter = λ list ctx ty top n. s.counter list ctx ty top n ∙ h.counter list ctx ty n;
}
