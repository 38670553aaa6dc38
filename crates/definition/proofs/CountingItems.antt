-- What the transform of a module costs, counted in records: "There are never more diagnostics than records read".
use mathlib.Core.Path.{◌≡◌, refl, ap}
use mathlib.Core.List.{List, [], ◌∷◌}
use mathlib.Core.Bool.{Bool, true, false, ◌&&◌, ◌||◌}
use mathlib.Core.Option.{Option, none, some}
use Prim.Native.Nat.{ℕ, zero, suc, ◌*◌, ◌≤◌, ◌<◌}
use native.Mathlib.Omega.{arith}
use lib.Dec.{leb}
use lib.ListN.{length}
use Rattle.definition.specs.Tree.{Head, Rec, Recs, rec, nil, cons, Bytes, head_size, encode, tree_at}
use Rattle.definition.specs.Check.{Checked, Checked.fine, Checked.refused as rejected, check_tree, deepest}
use Rattle.definition.specs.Record.{head_of, kids_of, mark_of, is, is_no, dummy_sp, kid, Diag, diag, diags_bytes, listed, Out, Typing, pure, each, flat, at_kid, second}
use Rattle.definition.specs.Helpers.{any_type_ann}
use Rattle.definition.specs.Names.{valid_prop_name}
use Rattle.definition.specs.Prescan.{prescan_module_ids}
use Rattle.definition.specs.Typing.{expr_to_ts_type}
use Rattle.definition.specs.Classes.{
  type_or,
  handle_func_param_ident,
  Pattern,
  p_ident,
  p_assign,
  p_box,
  p_other,
  pattern_kind,
  infer_expr_fallback_any,
  handle_func_param_assign,
  handle_pattern_by,
  handle_pattern,
  handle_func_param,
  function_part,
  handle_function,
  constructor_part,
  constructor,
  method,
  prop_type,
  class_prop,
  Member,
  m_constructor,
  m_method,
  m_prop,
  m_dropped,
  m_kept,
  member_kind,
  member_by,
  member,
  class_body_to_type,
  class,
}
use Rattle.definition.specs.Enums.{enum_init, enum_member}
use Rattle.definition.specs.Items.{
  Item,
  i_kept,
  i_dropped,
  i_export,
  i_default,
  i_default_expr,
  i_decl,
  item_kind,
  Decl,
  d_class,
  d_fn,
  d_var,
  d_enum,
  d_module,
  d_using,
  d_type,
  decl_kind,
  Default,
  x_class,
  x_fn,
  x_other,
  default_kind,
  Body,
  b_block,
  b_nested,
  b_other,
  body_kind,
  declarator_type,
  declarator_pattern,
  declarator,
  body_part,
  without_body,
  export_of,
  decl_to_type_decl,
  transform_module_stmt,
  export_decl,
  export_default_decl,
  export_default_expr,
  item_by,
  body_by,
  transform_module_items,
  transform_module_item,
  exported,
  exported_decl,
  ns_parts,
  ns_body_first,
  transform_ts_ns_body,
}
use Rattle.definition.specs.Transform.{transform_by, transform, done, refused, texts_fit, written, call_by, call}
use Rattle.definition.specs.Counting.{records, all_records, below, Within}
use Rattle.definition.proofs.Converse.{read-accepted}
use Rattle.definition.proofs.Counting.{records-below, records-bytes, within-pure, within-value, within_wider, within_if, within_more, within-cons, within-own, within_first, within-others, within-or_any, expr_to_ts_type-within}
use Rattle.definition.proofs.Calls.{length-diags_bytes}

-- ---- children

-- a child has no more records than all; one that is not there has none below it
kid-below : (i : ℕ) (ks : Recs) → below (kid i ks) ≤ all_records ks
unfolding all_records
kid-below i nil = omega arith
kid-below zero (cons r rs) = omega (arith, records-below r)
kid-below (suc i) (cons r rs) = omega (arith, kid-below i rs)

-- a step on one child, that costs at most what stands below it, or its records
at_kid-below : (i : ℕ) (f : Rec → ℕ → Out Rec) (ks : Recs) (n : ℕ) → Within n (below (kid i ks)) (f (kid i ks) n) → Within n (all_records ks) (at_kid i f ks n)
at_kid-below i f ks n w = within-value (f (kid i ks) n) (within_wider (all_records ks) w (kid-below i ks))

at_kid-within : (i : ℕ) (f : Rec → ℕ → Out Rec) (ks : Recs) (n : ℕ) → Within n (records (kid i ks)) (f (kid i ks) n) → Within n (suc (all_records ks)) (at_kid i f ks n)
at_kid-within i f ks n w = within-value (f (kid i ks) n) (within_wider _ w (omega (arith, records-below (kid i ks), kid-below i ks)))

each_within : (f : ℕ → Rec → ℕ → Out Rec) → ((i : ℕ) (r : Rec) (n : ℕ) → Within n (records r) (f i r n)) → (i : ℕ) (ks : Recs) (n : ℕ) → Within n (all_records ks) (each f i ks n)
unfolding each
each_within f p i nil n = within-pure nil n _
each_within f p i (cons r rs) n = within-cons r rs _ (f i r n) _ (p i r n) (each_within f p (suc i) rs (f i r n).2)

flat-within : (f : Rec → ℕ → Out Recs) → ((r : Rec) (n : ℕ) → Within n (records r) (f r n)) → (ks : Recs) (n : ℕ) → Within n (all_records ks) (flat f ks n)
unfolding flat
flat-within f p nil n = within-pure nil n _
flat-within f p (cons r rs) n = within-cons r rs _ (f r n) _ (p r n) (flat-within f p rs (f r n).2)

second-within : (f : Rec → ℕ → Out Rec) (r : Rec) (n : ℕ) → ((r : Rec) (n : ℕ) → Within n (below r) (f r n)) → Within n (below r) (second f r n)
unfolding second
second-within f r n p = within-value (at_kid 1 f (kids_of r) n) (at_kid-below 1 f (kids_of r) n (p (kid 1 (kids_of r)) n))

type_or-within : (f : ℕ → Out Rec) (t : Rec) (n m : ℕ) → Within n m (f n) → Within n m (type_or f t n)
type_or-within f t n m w = within_if (is_no t) f (pure t) n m w (within-pure t n m)

-- a step that marks one diagnostic
marked : {A : Type 0} (a : A) (d : Diag) (n m : ℕ) → Within n (suc m) (a, d ∷ [], n)
marked a d n m = record { diagnostics = omega arith; low = omega arith; high = omega arith }

-- a typing that costs at most the records below what it types
abbrev pub Modest : Typing → Type 0
Modest ty = (e : Rec) (c r : Bool) (n : ℕ) → Within n (below e) (ty e c r n)

-- ---- parameters and class members

handle_func_param_ident-within : (p : Rec) (n m : ℕ) → Within n (suc m) (handle_func_param_ident p n)
unfolding handle_func_param_ident
handle_func_param_ident-within p n m =
    within-value (type_or _ (kid 1 (kids_of p)) n) (type_or-within _ (kid 1 (kids_of p)) n (suc m) (marked (any_type_ann dummy_sp) (diag "d2" (head_of p)) n m))

module _ (ty : Typing) (modest : Modest ty) where
  infer-within : (e : Rec) (n : ℕ) → Within n (suc (below e)) (infer_expr_fallback_any ty e n)
  infer-within e n = within_wider (suc (below e)) (within-or_any (ty e false false n) (diag "d2" (head_of e) ∷ []) (modest e false false n)) (omega arith)

  handle_func_param_assign-within : (k : Pattern) (left right whole : Rec) (n : ℕ) → Within n (suc (below right)) (handle_func_param_assign ty k left right whole n)
  unfolding handle_func_param_assign
  handle_func_param_assign-within p_ident left right whole n = within-value (type_or _ (kid 1 (kids_of left)) n) (type_or-within _ (kid 1 (kids_of left)) n _ (infer-within right n))
  handle_func_param_assign-within p_box left right whole n = within-value (type_or _ (kid 0 (kids_of left)) n) (type_or-within _ (kid 0 (kids_of left)) n _ (infer-within right n))
  handle_func_param_assign-within p_assign left right whole n = within-pure whole n _
  handle_func_param_assign-within p_other left right whole n = within-pure whole n _

  handle_pattern_by-within : (k : Pattern) (p : Rec) (n : ℕ) → Within n (records p) (handle_pattern_by ty k p n)
  unfolding handle_pattern_by
  handle_pattern_by-within p_ident p n = within_wider (records p) (handle_func_param_ident-within p n (below p)) (omega (arith, records-below p))
  handle_pattern_by-within p_assign p n =
      let left : Rec = kid 0 (kids_of p) in
      within_wider (records p) (handle_func_param_assign-within (pattern_kind (mark_of left)) left (kid 1 (kids_of p)) p n)
      (omega (arith, records-below p, kid-below 1 (kids_of p)))
  handle_pattern_by-within p_box p n = within-pure p n _
  handle_pattern_by-within p_other p n = within-pure p n _

  pub handle_func_param-within : (p : Rec) (n : ℕ) → Within n (records p) (handle_func_param ty p n)
  unfolding handle_func_param
  handle_func_param-within p n =
      let first : Rec = kid 0 (kids_of p) in
      within_if (is "Pa" p || is "Pp" p) _ _ n (records p)
      (within-value (at_kid 0 (handle_pattern ty) (kids_of p) n)
      (within_wider (records p) (at_kid-within 0 (handle_pattern ty) (kids_of p) n (handle_pattern_by-within (pattern_kind (mark_of first)) first n)) (omega (arith, records-below p))))
      (within-pure p n (records p))

  function_part-within : (setter : Bool) (i : ℕ) (r : Rec) (n : ℕ) → Within n (records r) (function_part ty setter i r n)
  unfolding function_part
  function_part-within setter zero r n = within-pure _ n _
  function_part-within setter (suc zero) r n = within-pure _ n _
  function_part-within setter (suc (suc zero)) r n = within-pure _ n _
  function_part-within setter (suc (suc (suc i))) r n = handle_func_param-within r n

  pub handle_function-within : (setter : Bool) (r : Rec) (n : ℕ) → Within n (below r) (handle_function ty setter r n)
  unfolding handle_function
  handle_function-within setter r n = within-value _ (each_within (function_part ty setter) (function_part-within setter) 0 (kids_of r) n)

  constructor_part-within : (i : ℕ) (r : Rec) (n : ℕ) → Within n (records r) (constructor_part ty i r n)
  unfolding constructor_part
  constructor_part-within zero r n = within-pure _ n _
  constructor_part-within (suc i) r n = handle_func_param-within r n

  constructor-within : (r : Rec) (n : ℕ) → Within n (below r) (constructor ty r n)
  unfolding constructor
  constructor-within r n = within-value _ (each_within (constructor_part ty) constructor_part-within 0 (kids_of r) n)

  method-within : (r : Rec) (key : Option Rec) (n : ℕ) → Within n (below r) (method ty r key n)
  unfolding method
  method-within r none n = within-pure nil n _
  method-within r (some key) n = within-value _ (at_kid-below 1 (handle_function ty _) (kids_of r) n (handle_function-within _ (kid 1 (kids_of r)) n))

  prop_type-within : (value t : Rec) (n : ℕ) → Within n (below value) (prop_type ty value t n)
  prop_type-within value t n =
      within_if (is_no value) _ _ n _ (within-pure t n _)
      (type_or-within _ t n _ (within_wider _ (within-or_any (ty value false false n) [] (modest value false false n)) (omega arith)))

  class_prop-within : (r : Rec) (key : Option Rec) (n : ℕ) → Within n (below r) (class_prop ty r key n)
  unfolding class_prop
  class_prop-within r none n = within-pure nil n _
  class_prop-within r (some key) n =
      let value : Rec = kid 2 (kids_of r) in
      within-value _ (within_wider (below r) (prop_type-within value (kid 1 (kids_of r)) n) (kid-below 2 (kids_of r)))

  module _ (list : List ℕ) (ctx : ℕ) where
    pub member_by-within : (k : Member) (r : Rec) (n : ℕ) → Within n (below r) (member_by list ctx ty k r n)
    unfolding member_by
    member_by-within m_constructor r n = within_if (listed list (head_of r)) _ _ n _ (within-pure nil n _) (constructor-within r n)
    member_by-within m_method r n = within_if (listed list (head_of r)) _ _ n _ (within-pure nil n _) (method-within r (valid_prop_name ctx (kid 0 (kids_of r))) n)
    member_by-within m_prop r n = class_prop-within r (valid_prop_name ctx (kid 0 (kids_of r))) n
    member_by-within m_dropped r n = within-pure nil n _
    member_by-within m_kept r n = within-pure _ n _

    class_body_to_type-within : (ks : Recs) (n : ℕ) → Within n (all_records ks) (class_body_to_type list ctx ty ks n)
    unfolding class_body_to_type
    class_body_to_type-within nil n = within-pure nil n _
    class_body_to_type-within (cons tps ms) n =
        within-value _ (within-others tps ms (flat-within (member list ctx ty) (λ r n. within-own r (member_by-within (member_kind (mark_of r)) r n)) ms n))

    pub class-within : (r : Rec) (n : ℕ) → Within n (below r) (class list ctx ty r n)
    unfolding class
    class-within r n = within-value _ (class_body_to_type-within (kids_of r) n)

-- ---- declarations

enum_member-within : (r : Rec) (n m : ℕ) → Within n m (enum_member r n)
unfolding enum_member second enum_init
enum_member-within r n m = within_if (is "Em" r) _ _ n m (within-value (pure r n) (within-pure r n m)) (within-pure r n m)

body_part-within : (i : ℕ) (r : Rec) (n m : ℕ) → Within n m (body_part i r n)
body_part-within zero r n m = within-pure _ n m
body_part-within (suc zero) r n m = within-pure _ n m
body_part-within (suc (suc zero)) r n m = within-pure _ n m
body_part-within (suc (suc (suc i))) r n m = within-pure _ n m

without_body-within : (r : Rec) (n : ℕ) → Within n (below r) (without_body r n)
unfolding without_body
without_body-within r n = within-value _ (each_within body_part (λ i r n. body_part-within i r n (records r)) 0 (kids_of r) n)

-- a declaration that goes leaves a diagnostic at its export
export_of_within : {n m : ℕ} (h : Head) (ops : Recs) (o : Out (Option Rec)) → Within n m o → Within n (suc m) (export_of h ops o)
export_of_within {n} {m} h ops o w = go o.0 o.1 o.2 w
  where
    go : (x : Option Rec) (ds : List Diag) (c : ℕ) → Within n m (x, ds, c) → Within n (suc m) (export_of h ops (x, ds, c))
    go none ds c w = within_wider (suc m) (within_more nil (none, ds, c) (diag "d1" h ∷ []) w) (omega arith)
    go (some d) ds c w = within_wider (suc m) (within-value (some d, ds, c) w) (omega arith)

module _ (ty : Typing) (modest : Modest ty) where
  declarator_type-within : (h : Head) (init : Rec) (n : ℕ) → Within n (suc (below init)) (declarator_type ty h init n)
  declarator_type-within h init n =
      within_if (is_no init) _ _ n _ (marked (any_type_ann dummy_sp) (diag "d2" h) n (below init))
      (within_wider _ (within-or_any (ty init false true n) (diag "d2" h ∷ []) (modest init false true n)) (omega arith))

  declarator_pattern-within : (h : Head) (init p : Rec) (n : ℕ) → Within n (suc (below init)) (declarator_pattern ty h init p n)
  unfolding declarator_pattern
  declarator_pattern-within h init p n =
      within_if (is "Bd" p) _ _ n _
      (within-value (type_or _ (kid 1 (kids_of p)) n) (type_or-within _ (kid 1 (kids_of p)) n _ (declarator_type-within (head_of p) init n)))
      (marked p (diag "d1" h) n (below init))

  pub declarator-within : (r : Rec) (n : ℕ) → Within n (records r) (declarator ty r n)
  unfolding declarator
  declarator-within r n =
      let init : Rec = kid 1 (kids_of r) in
      within_if (is "Vr" r) _ _ n (records r)
      (within-value _
      (within_wider (records r) (declarator_pattern-within (head_of r) init (kid 0 (kids_of r)) n) (omega (arith, records-below r, kid-below 1 (kids_of r)))))
      (within-pure r n (records r))

  module _ (list : List ℕ) (ctx : ℕ) where
    -- a declaration with the children ks, other than using
    module _ (h : Head) (ks : Recs) (top : Bool) (ns : ℕ → Out Recs) (n : ℕ) (p : Within n (all_records ks) (ns n)) where
      class-decl : Within n (all_records ks) (decl_to_type_decl list ctx ty d_class h ks top ns n)
      unfolding decl_to_type_decl
      class-decl = within-value _ (at_kid-below 1 (class list ctx ty) ks n (class-within ty modest list ctx (kid 1 ks) n))

      fn-decl : Within n (all_records ks) (decl_to_type_decl list ctx ty d_fn h ks top ns n)
      unfolding decl_to_type_decl
      fn-decl = within-value _ (at_kid-below 1 (handle_function ty false) ks n (handle_function-within ty modest false (kid 1 ks) n))

      var-decl : Within n (all_records ks) (decl_to_type_decl list ctx ty d_var h ks top ns n)
      unfolding decl_to_type_decl
      var-decl = within-value _ (each_within (λ i. declarator ty) (λ i. declarator-within) 0 ks n)

      enum-decl : Within n (all_records ks) (decl_to_type_decl list ctx ty d_enum h ks top ns n)
      unfolding decl_to_type_decl
      enum-decl = within-value _ (each_within (λ i. enum_member) (λ i r n. enum_member-within r n (records r)) 0 ks n)

      module_decl : Within n (all_records ks) (decl_to_type_decl list ctx ty d_module h ks top ns n)
      unfolding decl_to_type_decl
      module_decl = within-value _ p

      -- a statement: whatever goes does so silently
      stmt_within : (k : Decl) → Within n (all_records ks) (transform_module_stmt list ctx ty k h ks top ns n)
      unfolding transform_module_stmt decl_to_type_decl
      stmt_within d_fn = within_if (listed list h) _ _ n _ (within-pure nil n _) (within-value _ fn-decl)
      stmt_within d_class = within-value _ class-decl
      stmt_within d_var = within-value _ var-decl
      stmt_within d_enum = within-value _ enum-decl
      stmt_within d_module = within-value _ module_decl
      stmt_within d_using = within-pure _ n _
      stmt_within d_type = within-pure _ n _

      -- an exported one: d1 at the export, and d5 at a using
      export_within : (k : Decl) (eh : Head) (ops : Recs) → Within n (suc (suc (all_records ks))) (export_decl list ctx ty k eh h ks ops top ns n)
      unfolding export_decl decl_to_type_decl
      export_within d_fn eh ops = within_if (listed list eh) _ _ n _ (within-pure nil n _) (export_of_within eh ops _ (within_wider _ fn-decl (omega arith)))
      export_within d_class eh ops = export_of_within eh ops _ (within_wider _ class-decl (omega arith))
      export_within d_var eh ops = export_of_within eh ops _ (within_wider _ var-decl (omega arith))
      export_within d_enum eh ops = export_of_within eh ops _ (within_wider _ enum-decl (omega arith))
      export_within d_module eh ops = export_of_within eh ops _ (within_wider _ module_decl (omega arith))
      export_within d_using eh ops = export_of_within eh ops _ (marked none (diag "d5" h) n (all_records ks))
      export_within d_type eh ops = within-pure _ n _

    default-within : (k : Default) (h : Head) (ks : Recs) (n : ℕ) → Within n (all_records ks) (export_default_decl list ctx ty k h ks n)
    unfolding export_default_decl
    default-within x_class h ks n =
        within-value _ (at_kid-below 0 (second (class list ctx ty)) ks n (second-within (class list ctx ty) (kid 0 ks) n (class-within ty modest list ctx)))
    default-within x_fn h ks n =
        within_if (listed list h) _ _ n _ (within-pure nil n _)
        (within-value _ (at_kid-below 0 (second without_body) ks n (second-within without_body (kid 0 ks) n without_body-within)))
    default-within x_other h ks n = within-pure _ n _

    -- a name is made for an Xe
    default_expr_within : (h : Head) (ks : Recs) (n : ℕ) → Within n (suc (all_records ks)) (export_default_expr list ctx ty h ks n)
    unfolding export_default_expr
    default_expr_within h ks n =
        let o : Out (Option Rec) = ty (kid 0 ks) false true (suc n) in
        let w : Within (suc n) (below (kid 0 ks)) o = modest (kid 0 ks) false true (suc n) in
        let l = kid-below 0 ks in
        within_if (is "Id" (kid 0 ks)) _ _ n _ (within-pure _ n _) (record { diagnostics = omega arith; low = omega arith; high = omega arith })

    -- ---- items

    item_by-within : (k : Item) (h : Head) (ks : Recs) (top : Bool) (ns export : ℕ → Out Recs) (n : ℕ) → Within n (all_records ks) (ns n) → Within n (suc (all_records ks)) (export n) →
        Within n (suc (all_records ks)) (item_by list ctx ty k h ks top ns export n)
    unfolding item_by
    item_by-within i_kept h ks top ns export n p q = within-pure _ n _
    item_by-within i_dropped h ks top ns export n p q = within-pure nil n _
    item_by-within i_export h ks top ns export n p q = q
    item_by-within i_default h ks top ns export n p q = within_wider _ (default-within (default_kind (mark_of (kid 0 ks))) h ks n) (omega arith)
    item_by-within i_default_expr h ks top ns export n p q = default_expr_within h ks n
    item_by-within i_decl h ks top ns export n p q = within_wider _ (stmt_within h ks top ns n p (decl_kind h.mark)) (omega arith)

    body_by-within : (k : Body) (h : Head) (ks : Recs) (items parts : ℕ → Out Recs) (n m : ℕ) → Within n m (items n) → Within n m (parts n) →
        Within n m (body_by list ctx ty k h ks items parts n)
    unfolding body_by
    body_by-within b_block h ks items parts n m p q = within-value _ p
    body_by-within b_nested h ks items parts n m p q = within-value _ q
    body_by-within b_other h ks items parts n m p q = within-pure _ n m

    mutual
      unfolding transform_module_items records

      pub items-within : (rs : Recs) (top : Bool) (n : ℕ) → Within n (all_records rs) (transform_module_items list ctx ty rs top n)
      items-within nil top n = within-pure nil n 0
      items-within (cons r rs) top n = within-cons r rs _ _ _ (item-within r top n) (items-within rs top (transform_module_item list ctx ty r top n).2)

      pub item-within : (r : Rec) (top : Bool) (n : ℕ) → Within n (records r) (transform_module_item list ctx ty r top n)
      item-within (rec h ks) top n = item_by-within (item_kind h.mark) h ks top _ _ n (parts_within ks n) (exported-within ks h top n)

      exported-within : (ks : Recs) (h : Head) (top : Bool) (n : ℕ) → Within n (suc (all_records ks)) (exported list ctx ty ks h top n)
      exported-within nil h top n = within-pure _ n 1
      exported-within (cons d ops) h top n = within_wider _ (exported_decl-within d h ops top n) (omega arith)

      exported_decl-within : (d : Rec) (h : Head) (ops : Recs) (top : Bool) (n : ℕ) → Within n (suc (records d)) (exported_decl list ctx ty d h ops top n)
      exported_decl-within (rec dh ks) h ops top n = export_within dh ks top _ n (parts_within ks n) (decl_kind dh.mark) h ops

      parts_within : (ks : Recs) (n : ℕ) → Within n (all_records ks) (ns_parts list ctx ty ks n)
      parts_within nil n = within-pure nil n 0
      parts_within (cons name rs) n = within-value _ (within-others name rs (body_first_within rs n))

      body_first_within : (ks : Recs) (n : ℕ) → Within n (all_records ks) (ns_body_first list ctx ty ks n)
      body_first_within nil n = within-pure nil n 0
      body_first_within (cons b ops) n = within-value _ (within_first b ops (within-own b (body-within b n)))

      body-within : (b : Rec) (n : ℕ) → Within n (below b) (transform_ts_ns_body list ctx ty b n)
      body-within (rec h ks) n = body_by-within (body_kind h.mark) h ks _ _ n (all_records ks) (items-within ks false n) (parts_within ks n)

-- ---- the whole module

pub transform-within : (list : List ℕ) (ctx : ℕ) (r : Rec) → Within 0 (below r) (transform list ctx r)
unfolding transform transform_by
transform-within list ctx r =
    let ty : Typing = expr_to_ts_type (prescan_module_ids (kids_of r)) ctx in
    within-value _ (items-within ty (expr_to_ts_type-within (prescan_module_ids (kids_of r)) ctx) list ctx (kids_of r) true 0)

-- "There are never more diagnostics than records read"; and never more names are made
pub never_more_diagnostics : (list : List ℕ) (ctx : ℕ) (r : Rec) → length (transform list ctx r).1 < records r
never_more_diagnostics list ctx r = omega (arith, (transform-within list ctx r).diagnostics, records-below r)

pub never_more_names : (list : List ℕ) (ctx : ℕ) (r : Rec) → (transform list ctx r).2 < records r
never_more_names list ctx r = omega (arith, (transform-within list ctx r).high, records-below r)

-- for an accepted tree: at most one for each head that the tree has room for; so ten bytes for each fifteen of the tree are enough for them
pub diagnostics_of_bytes : (tree list : List ℕ) (ctx e : ℕ) → Bytes tree → check_tree tree list ≡ fine e →
    head_size * length (transform list ctx (tree_at deepest tree 0)).1 < length tree
diagnostics_of_bytes tree list ctx e b f =
    let r : Rec = tree_at deepest tree 0 in
    omega (arith, never_more_diagnostics list ctx r, records-bytes r, ap length (read-accepted tree list e b f).same)

-- as `declares` has it: a tree of 32,768 bytes, 21,840 for diagnostics
pub declares_has_room : (tree list : List ℕ) (ctx e : ℕ) → Bytes tree → check_tree tree list ≡ fine e → length tree ≤ 32768 →
    length (diags_bytes (transform list ctx (tree_at deepest tree 0)).1) ≤ 21840
declares_has_room tree list ctx e b f short =
    omega (arith, diagnostics_of_bytes tree list ctx e b f, length-diags_bytes (transform list ctx (tree_at deepest tree 0)).1)

-- the count that a call answers with
written_count : (r : Rec) (ds : List Diag) (out diags : List ℕ) (bytes k : ℕ) → (written r ds out diags).answer ≡ done bytes k → k ≡ length ds
unfolding written
written_count r ds out diags bytes k e = go (texts_fit r && leb (length (encode r)) (length out)) (leb (length (diags_bytes ds)) (length diags)) refl refl
  where
    go : (a b : Bool) → (texts_fit r && leb (length (encode r)) (length out)) ≡ a → leb (length (diags_bytes ds)) (length diags) ≡ b → k ≡ length ds
    go true true p q = let z : done (length (encode r)) (length ds) ≡ done bytes k = rw (p, q) at e in cc
    go true false p q = let z : refused 10 0 ≡ done bytes k = rw (p, q) at e in cc
    go false b p q = let z : refused 9 0 ≡ done bytes k = rw p at e in cc

pub call-count : (tree list : List ℕ) (ctx : ℕ) (out diags : List ℕ) (bytes k : ℕ) → (call tree list ctx out diags).answer ≡ done bytes k →
    k < records (tree_at deepest tree 0)
unfolding call call_by
call-count tree list ctx out diags bytes k e = go (check_tree tree list) e
  where
    go : (c : Checked) → (call_by c tree list ctx out diags).answer ≡ done bytes k → k < records (tree_at deepest tree 0)
    go (rejected number place) q = absurd (let z : ◌≡◌ {A = ℕ} 0 1 = cc in omega arith)
    go (fine end) q =
        omega (arith, written_count _ _ out diags bytes k q, never_more_diagnostics list ctx (tree_at deepest tree 0))
