-- The items of a module or a namespace, as records: one gives at most two records, and one comes after the other.
use mathlib.Core.Path.{◌≡◌, refl, ap, ◌∙◌}
use mathlib.Core.List.{List}
use mathlib.Core.Bool.{Bool, true, false}
use mathlib.Core.Option.{Option, none, some}
use Prim.Native.Nat.{ℕ, suc, ◌+◌, ◌≤◌, ◌<◌}
use native.Mathlib.Omega.{arith}
use Rattle.definition.specs.Tree.{Head, Rec, Recs, rec, nil, cons, count}
use Rattle.definition.specs.Record.{mark_of, is, kid, listed, Out, Typing, if_m, flat}
use Rattle.definition.specs.Items.{Item, i_kept, i_dropped, i_export, i_default, i_default_expr, i_decl, item_kind, Decl, d_class, d_fn, d_var, d_enum, d_module, d_using, d_type, decl_kind, Default, x_class, x_fn, x_other, default_kind, default_typed, export_of as export_with, stmt_of as stmt_with, decl_to_type_decl, transform_module_stmt, export_decl, export_default_decl, export_default_expr, item_by, transform_module_items, transform_module_item, exported}
use Rattle.definition.proofs.Counting.{expr_to_ts_type-within}
use Rattle.definition.proofs.CountingItems.{item-within}
use Rattle.records.specs.declared.tree.Record.{Record}
use Rattle.records.specs.declared.tree.Records.{Records}
use Rattle.records.specs.Views.{rec_of, recs_of, FirstOf, RestOf}
use Rattle.prescan.specs.declared.module_names.Scope.{Scope}
use Rattle.output.specs.declared.Output.{Output}
use Rattle.output.specs.Outputs.{MakesCounted}
use Rattle.output.proofs.Each.{both, Numbering, numbering_start, numbering_turn, numbering_count, making_done}
use Rattle.typing.specs.Values.{typing_in, ids_in}
use Rattle.items.specs.InScope.{item_in, items_in}
use Rattle.items.proofs.Framed.{counted-as}

-- ---- an item gives at most two records

few-if : (k : ℕ) (b : Bool) (f g : ℕ → Out Recs) (n : ℕ) → count (f n).0 ≤ k → count (g n).0 ≤ k → count (if_m b f g n).0 ≤ k
few-if k true f g n p q = p
few-if k false f g n p q = q

few-export : (h : Head) (ops : Recs) (o : Out (Option Rec)) → count (export_with h ops o).0 ≤ 2
few-export h ops o = go o.0
  where
    go : (v : Option Rec) → count (export_with h ops (v, o.1, o.2)).0 ≤ 2
    go none = omega arith
    go (some d) = omega arith

few-stmt : (h : Head) (o : Out (Option Rec)) → count (stmt_with h o).0 ≤ 2
few-stmt h o = go o.0
  where
    go : (v : Option Rec) → count (stmt_with h (v, o.1, o.2)).0 ≤ 2
    go none = omega arith
    go (some d) = omega arith

few-typed : (h : Head) (ks : Recs) (i : ℕ) (v : Option Rec) → count (default_typed h ks i v) ≤ 2
unfolding default_typed
few-typed h ks i none = omega arith
few-typed h ks i (some t) = omega arith

module _ (list : List ℕ) (ctx : ℕ) (ty : Typing) where
  few-decl : (k : Decl) (h : Head) (ks : Recs) (top : Bool) (ns : ℕ → Out Recs) (n : ℕ) → count (transform_module_stmt list ctx ty k h ks top ns n).0 ≤ 2
  unfolding transform_module_stmt
  few-decl d_fn h ks top ns n = few-if 2 (listed list h) _ _ n (omega arith) (few-stmt h (decl_to_type_decl list ctx ty d_fn h ks top ns n))
  few-decl d_class h ks top ns n = few-stmt h (decl_to_type_decl list ctx ty d_class h ks top ns n)
  few-decl d_var h ks top ns n = few-stmt h (decl_to_type_decl list ctx ty d_var h ks top ns n)
  few-decl d_enum h ks top ns n = few-stmt h (decl_to_type_decl list ctx ty d_enum h ks top ns n)
  few-decl d_module h ks top ns n = few-stmt h (decl_to_type_decl list ctx ty d_module h ks top ns n)
  few-decl d_using h ks top ns n = omega arith
  few-decl d_type h ks top ns n = omega arith

  few-exported : (k : Decl) (h dh : Head) (ks ops : Recs) (top : Bool) (ns : ℕ → Out Recs) (n : ℕ) → count (export_decl list ctx ty k h dh ks ops top ns n).0 ≤ 2
  unfolding export_decl
  few-exported d_fn h dh ks ops top ns n = few-if 2 (listed list h) _ _ n (omega arith) (few-export h ops (decl_to_type_decl list ctx ty d_fn dh ks top ns n))
  few-exported d_class h dh ks ops top ns n = few-export h ops (decl_to_type_decl list ctx ty d_class dh ks top ns n)
  few-exported d_var h dh ks ops top ns n = few-export h ops (decl_to_type_decl list ctx ty d_var dh ks top ns n)
  few-exported d_enum h dh ks ops top ns n = few-export h ops (decl_to_type_decl list ctx ty d_enum dh ks top ns n)
  few-exported d_module h dh ks ops top ns n = few-export h ops (decl_to_type_decl list ctx ty d_module dh ks top ns n)
  few-exported d_using h dh ks ops top ns n = few-export h ops (decl_to_type_decl list ctx ty d_using dh ks top ns n)
  few-exported d_type h dh ks ops top ns n = few-export h ops (decl_to_type_decl list ctx ty d_type dh ks top ns n)

  few-default : (k : Default) (h : Head) (ks : Recs) (n : ℕ) → count (export_default_decl list ctx ty k h ks n).0 ≤ 2
  unfolding export_default_decl
  few-default x_class h ks n = omega arith
  few-default x_fn h ks n = few-if 2 (listed list h) _ _ n (omega arith) (omega arith)
  few-default x_other h ks n = omega arith

  few-expr : (h : Head) (ks : Recs) (n : ℕ) → count (export_default_expr list ctx ty h ks n).0 ≤ 2
  unfolding export_default_expr
  few-expr h ks n = few-if 2 (is "Id" (kid 0 ks)) _ _ n (omega arith) (few-typed h ks (suc n) (ty (kid 0 ks) false true (suc n)).0)

  few-kids : (ks : Recs) (h : Head) (top : Bool) (n : ℕ) → count (exported list ctx ty ks h top n).0 ≤ 2
  unfolding exported
  few-kids nil h top n = omega arith
  few-kids (cons (rec dh ks) ops) h top n = few-exported (decl_kind dh.mark) h dh ks ops top _ n

  few-by : (k : Item) (h : Head) (ks : Recs) (top : Bool) (ns export : ℕ → Out Recs) (n : ℕ) → count (export n).0 ≤ 2 → count (item_by list ctx ty k h ks top ns export n).0 ≤ 2
  unfolding item_by
  few-by i_kept h ks top ns export n p = omega arith
  few-by i_dropped h ks top ns export n p = omega arith
  few-by i_export h ks top ns export n p = p
  few-by i_default h ks top ns export n p = few-default (default_kind (mark_of (kid 0 ks))) h ks n
  few-by i_default_expr h ks top ns export n p = few-expr h ks n
  few-by i_decl h ks top ns export n p = few-decl (decl_kind h.mark) h ks top ns n

  few-item : (r : Rec) (top : Bool) (n : ℕ) → count (transform_module_item list ctx ty r top n).0 ≤ 2
  unfolding transform_module_item
  few-item (rec h ks) top n = few-by (item_kind h.mark) h ks top _ _ n (few-kids ks h top n)

-- ---- the items, one after the other

items-flat : (list : List ℕ) (scope : Scope) (top : Bool) (ks : Recs) (n : ℕ) → flat (item_in list scope top) ks n ≡ items_in list scope top ks n
unfolding flat transform_module_items
items-flat list scope top nil n = refl
items-flat list scope top (cons r rs) n = ap (both (item_in list scope top r n)) (items-flat list scope top rs (item_in list scope top r n).2)

-- of `whole` k are left, and n records were made
pub record Itemizing (list : List ℕ) (scope : Scope) (top : Bool) (whole : Records) (a b : Output) (k : Records) (n : ℕ) : Type 0 where
  pub numbering : Numbering 0 2 131070 (item_in list scope top) (flat (item_in list scope top) (recs_of whole) a.names.id_counter) a b k n
  pub tree : k.tree ≡ whole.tree
  pub levels : k.levels ≡ whole.levels

pub itemizing_start : (list : List ℕ) (scope : Scope) (top : Bool) (o : Output) (k : Records) → o.names.id_counter ≤ k.at → k.count < 65536 → Itemizing list scope top k o o k 0
itemizing_start list scope top o k l h = record { numbering = numbering_start (item_in list scope top) 0 2 131070 o k l (omega (arith, h)); tree = refl; levels = refl }

module _ {list : List ℕ} {scope : Scope} {top : Bool} {whole : Records} {a b : Output} {k : Records} {n : ℕ} (i : Itemizing list scope top whole a b k n) where
  -- one turn gives few
  pub itemizing_few : (r : Record) → count (item_in list scope top (rec_of r) b.names.id_counter).0 ≤ 2
  itemizing_few r = few-item list scope.unresolved (typing_in scope) (rec_of r) top b.names.id_counter

  pub itemizing_turn : {x : Record} {l : Records} {c : Output} {m : ℕ} → (0 < k.count) × FirstOf k x × RestOf k l → MakesCounted b c m (item_in list scope top (rec_of x) b.names.id_counter) → Itemizing list scope top whole a c l (n + m)
  itemizing_turn {x} p w = record {
    numbering =
        numbering_turn (item_in list scope top) i.numbering p
        (item-within (typing_in scope) (expr_to_ts_type-within (ids_in scope) scope.unresolved) list scope.unresolved (rec_of x) top b.names.id_counter).high (itemizing_few x) w.made w.many;
    tree = p.2.tree ∙ i.tree;
    levels = p.2.levels ∙ i.levels;
  }

  pub itemizing_done : k.count ≡ 0 → MakesCounted a b n (items_in list scope top (recs_of whole) a.names.id_counter)
  itemizing_done h =
      counted-as
      (record { many = omega (arith, numbering_count (item_in list scope top) i.numbering h); made = making_done (item_in list scope top) i.numbering.making h })
      (items-flat list scope top (recs_of whole) a.names.id_counter)
