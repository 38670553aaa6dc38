-- Which kind a mark is of, and what the transform makes by the mark: of an item and of the body of a namespace.
use mathlib.Core.Path.{◌≡◌, refl}
use mathlib.Core.List.{List}
use mathlib.Core.Bool.{Bool, true, false, cond, ◌||◌}
use mathlib.Core.Logic.{◌⊎◌, inl, inr, ⊎_elim}
use Prim.Native.Nat.{ℕ}
use lib.Dec.{eqb}
use borrow.Author.Tests.{eqb-true, ne_eqb}
use Rattle.definition.specs.Tree.{Head, Rec, Recs, rec, cons}
use Rattle.definition.specs.Grammar.{mark}
use Rattle.definition.specs.Record.{head_of, kids_of, mark_of, one, Typing, pure, on_value, wrap}
use Rattle.definition.specs.Items.{
  Item,
  i_kept,
  i_dropped,
  i_export,
  i_default,
  i_default_expr,
  i_decl,
  item_kind,
  d_class,
  d_fn,
  d_var,
  d_enum,
  d_module,
  d_using,
  d_type,
  decl_kind,
  b_block,
  b_nested,
  b_other,
  body_kind,
  declared,
  decl_to_type_decl,
  transform_module_stmt,
  export_decl,
  item_by,
  body_by,
  transform_module_items,
  transform_module_item,
  exported,
  exported_decl,
  ns_parts,
  transform_ts_ns_body,
}

-- ---- kinds by their marks

module _ (m : ℕ) where
  pub kind-kept : (m ≡ mark "Im") ⊎ (m ≡ mark "Op") → item_kind m ≡ i_kept
  unfolding item_kind
  kind-kept = ⊎_elim (λ e. rw e) (λ e. rw e)

  pub kind_dropped : m ≡ mark "St" → item_kind m ≡ i_dropped
  unfolding item_kind
  kind_dropped e = rw e

  pub kind_export : m ≡ mark "Ed" → item_kind m ≡ i_export
  unfolding item_kind
  kind_export e = rw e

  pub kind-default : m ≡ mark "Xd" → item_kind m ≡ i_default
  unfolding item_kind
  kind-default e = rw e

  pub kind_expr : m ≡ mark "Xe" → item_kind m ≡ i_default_expr
  unfolding item_kind
  kind_expr e = rw e

  pub kind-decl : ((m ≡ mark "Im") ⊎ (m ≡ mark "Op") → ⊥) → (m ≡ mark "St" → ⊥) → (m ≡ mark "Ed" → ⊥) → (m ≡ mark "Xd" → ⊥) → (m ≡ mark "Xe" → ⊥) → item_kind m ≡ i_decl
  unfolding item_kind
  kind-decl a b c d e = rw (ne_eqb _ _ (λ q. a (inl q)), ne_eqb _ _ (λ q. a (inr q)), ne_eqb _ _ b, ne_eqb _ _ c, ne_eqb _ _ d, ne_eqb _ _ e)

  pub kind-class : m ≡ mark "Cd" → decl_kind m ≡ d_class
  unfolding decl_kind
  kind-class e = rw e

  pub kind-fn : m ≡ mark "Fd" → decl_kind m ≡ d_fn
  unfolding decl_kind
  kind-fn e = rw e

  pub kind-var : m ≡ mark "Vd" → decl_kind m ≡ d_var
  unfolding decl_kind
  kind-var e = rw e

  pub kind-enum : m ≡ mark "En" → decl_kind m ≡ d_enum
  unfolding decl_kind
  kind-enum e = rw e

  pub kind_module : m ≡ mark "Ns" → decl_kind m ≡ d_module
  unfolding decl_kind
  kind_module e = rw e

  pub kind_using : m ≡ mark "Us" → decl_kind m ≡ d_using
  unfolding decl_kind
  kind_using e = rw e

  pub kind-type : (m ≡ mark "Cd" → ⊥) → (m ≡ mark "Fd" → ⊥) → (m ≡ mark "Vd" → ⊥) → (m ≡ mark "En" → ⊥) → (m ≡ mark "Ns" → ⊥) → (m ≡ mark "Us" → ⊥) → decl_kind m ≡ d_type
  unfolding decl_kind
  kind-type a b c d e f = rw (ne_eqb _ _ a, ne_eqb _ _ b, ne_eqb _ _ c, ne_eqb _ _ d, ne_eqb _ _ e, ne_eqb _ _ f)

  pub kind-block : m ≡ mark "Nb" → body_kind m ≡ b_block
  unfolding body_kind
  kind-block e = rw e

  pub kind-nested : m ≡ mark "Nd" → body_kind m ≡ b_nested
  unfolding body_kind
  kind-nested e = rw e

  -- a function and a namespace, where they are items
  pub fn-item : m ≡ mark "Fd" → item_kind m ≡ i_decl
  unfolding item_kind
  fn-item e = rw e

  pub module_item : m ≡ mark "Ns" → item_kind m ≡ i_decl
  unfolding item_kind
  module_item e = rw e

-- ---- and the other way round

item-chain : (a b c d e : Bool) (k : Item) → cond a i_kept (cond b i_dropped (cond c i_export (cond d i_default (cond e i_default_expr i_decl)))) ≡ k → (k ≡ i_export → c ≡ true) × (k ≡ i_default_expr → e ≡ true)
item-chain true b c d e k q = (λ p. cc, λ p. cc)
item-chain false true c d e k q = (λ p. cc, λ p. cc)
item-chain false false true d e k q = (λ p. refl, λ p. cc)
item-chain false false false true e k q = (λ p. cc, λ p. cc)
item-chain false false false false true k q = (λ p. cc, λ p. refl)
item-chain false false false false false k q = (λ p. cc, λ p. cc)

body-chain : (a b : Bool) → cond a b_block (cond b b_nested b_other) ≡ b_block → a ≡ true
body-chain true b q = refl
body-chain false true q = cc
body-chain false false q = cc

module _ (m : ℕ) where
  item_tests : (item_kind m ≡ i_export → eqb m (mark "Ed") ≡ true) × (item_kind m ≡ i_default_expr → eqb m (mark "Xe") ≡ true)
  unfolding item_kind
  item_tests = item-chain (eqb m (mark "Im") || eqb m (mark "Op")) (eqb m (mark "St")) (eqb m (mark "Ed")) (eqb m (mark "Xd")) (eqb m (mark "Xe")) _ refl

  pub ed_mark : item_kind m ≡ i_export → m ≡ mark "Ed"
  ed_mark q = eqb-true m (mark "Ed") (item_tests.0 q)

  pub xe-mark : item_kind m ≡ i_default_expr → m ≡ mark "Xe"
  xe-mark q = eqb-true m (mark "Xe") (item_tests.1 q)

  pub nb_mark : body_kind m ≡ b_block → m ≡ mark "Nb"
  unfolding body_kind
  nb_mark q = eqb-true m (mark "Nb") (body-chain (eqb m (mark "Nb")) (eqb m (mark "Nd")) q)

-- ---- what the transform makes

module _ (list : List ℕ) (ctx : ℕ) (ty : Typing) where
  -- of an item
  pub space-becomes : (r : Rec) (top : Bool) (n : ℕ) → mark_of r ≡ mark "Ns" →
      transform_module_item list ctx ty r top n ≡ on_value (λ (ks : Recs). one (rec (declared top (head_of r)) ks)) (ns_parts list ctx ty (kids_of r) n)
  unfolding transform_module_item item_by transform_module_stmt decl_to_type_decl
  space-becomes (rec h ks) top n e = rw (module_item h.mark e, kind_module h.mark e) refl

  pub export_becomes : (r : Rec) (top : Bool) (n : ℕ) → mark_of r ≡ mark "Ed" → transform_module_item list ctx ty r top n ≡ exported list ctx ty (kids_of r) (head_of r) top n
  unfolding transform_module_item item_by
  export_becomes (rec h ks) top n e = rw (kind_export h.mark e) refl

  -- of a namespace d that is exported by a record at h
  pub exported-becomes : (d : Rec) (h : Head) (ops : Recs) (top : Bool) (n : ℕ) → mark_of d ≡ mark "Ns" →
      exported_decl list ctx ty d h ops top n ≡ on_value (λ (ks : Recs). one (rec h (cons (rec (declared top (head_of d)) ks) ops))) (ns_parts list ctx ty (kids_of d) n)
  unfolding exported_decl export_decl decl_to_type_decl
  exported-becomes (rec dh ks) h ops top n e = rw (kind_module dh.mark e) refl

  -- of the body of a namespace
  pub block-becomes : (b : Rec) (n : ℕ) → mark_of b ≡ mark "Nb" → transform_ts_ns_body list ctx ty b n ≡ wrap (head_of b) (transform_module_items list ctx ty (kids_of b) false n)
  unfolding transform_ts_ns_body body_by
  block-becomes (rec h ks) n e = rw (kind-block h.mark e) refl

  pub nested-becomes : (b : Rec) (n : ℕ) → mark_of b ≡ mark "Nd" → transform_ts_ns_body list ctx ty b n ≡ wrap (head_of b) (ns_parts list ctx ty (kids_of b) n)
  unfolding transform_ts_ns_body body_by
  nested-becomes (rec h ks) n e = rw (kind-nested h.mark e) refl

  pub other-becomes : (b : Rec) (n : ℕ) → eqb (mark_of b) (mark "Nb") ≡ false → eqb (mark_of b) (mark "Nd") ≡ false → transform_ts_ns_body list ctx ty b n ≡ pure b n
  unfolding transform_ts_ns_body body_by body_kind
  other-becomes (rec h ks) n e f = rw (e, f) refl
