-- The diagnostics of the transform are marked at records of the tree: what holds of the five at every record of an item holds of all of its
-- diagnostics; and each of them is one of the five.
use mathlib.Core.Path.{◌≡◌, refl}
use mathlib.Core.List.{List, [], ◌∷◌}
use mathlib.Core.Bool.{Bool, true, false, ◌||◌}
use mathlib.Core.Option.{Option, none, some}
use Prim.Native.Nat.{ℕ, zero, suc}
use Rattle.definition.specs.Tree.{Head, Rec, Recs, rec, nil, cons}
use Rattle.definition.specs.Grammar as Grammar
use Rattle.definition.specs.Record.{head_of, kids_of, mark_of, is, is_no, absent, kid, Diag, diag, diagnostic_marks, listed, Out, Typing, pure, each, flat, second}
use Rattle.definition.specs.Names.{valid_prop_name}
use Rattle.definition.specs.Prescan.{PrescannedModuleIds, prescan_module_ids}
use Rattle.definition.specs.Typing.{expr_to_ts_type, expr_by, expr_kind}
use Rattle.definition.specs.Transform.{transform_by, transform}
use Rattle.definition.specs.Marked.{All, Kinds, At, Asked, Everywhere, AllEverywhere}
use Rattle.definition.specs.Classes.{
  type_or,
  handle_func_param_ident,
  Pattern,
  p_ident,
  p_assign,
  p_box,
  p_other,
  pattern_kind,
  infer_expr_fallback_any,
  handle_func_param_assign,
  handle_pattern_by,
  handle_pattern,
  handle_func_param,
  function_part,
  handle_function,
  constructor_part,
  constructor,
  method,
  prop_type,
  class_prop,
  Member,
  m_constructor,
  m_method,
  m_prop,
  m_dropped,
  m_kept,
  member_kind,
  member_by,
  member,
  class_body_to_type,
  class,
}
use Rattle.definition.specs.Enums.{enum_init, enum_member}
use Rattle.definition.specs.Items.{
  Item,
  i_kept,
  i_dropped,
  i_export,
  i_default,
  i_default_expr,
  i_decl,
  item_kind,
  Decl,
  d_class,
  d_fn,
  d_var,
  d_enum,
  d_module,
  d_using,
  d_type,
  decl_kind,
  Default,
  x_class,
  x_fn,
  x_other,
  default_kind,
  Body,
  b_block,
  b_nested,
  b_other,
  body_kind,
  declarator_type,
  declarator_pattern,
  declarator,
  body_part,
  without_body,
  export_of,
  decl_to_type_decl,
  transform_module_stmt,
  export_decl,
  export_default_decl,
  export_default_expr,
  item_by,
  body_by,
  transform_module_items,
  transform_module_item,
  exported,
  exported_decl,
  ns_parts,
  ns_body_first,
  transform_ts_ns_body,
}
use Rattle.definition.proofs.Marked.{all_append, all_if, all-or_any, own, at-kid, expr_to_ts_type-all}

module _ (P : Diag → Type 0) where
  -- a typing whose diagnostics have P where it holds everywhere in what is typed, and which marks none at a child that is not there
  pub record Typed (ty : Typing) : Type 0 where
    pub there : (e : Rec) (c r : Bool) (n : ℕ) → Everywhere P e → All P (ty e c r n).1
    pub missing : (c r : Bool) (n : ℕ) → All P (ty absent c r n).1

  -- ---- children

  each_all : (f : ℕ → Rec → ℕ → Out Rec) → ((i : ℕ) (r : Rec) (n : ℕ) → Everywhere P r → All P (f i r n).1) → (i : ℕ) (ks : Recs) (n : ℕ) → AllEverywhere P ks → All P (each f i ks n).1
  unfolding each Everywhere
  each_all f p i nil n w = tt
  each_all f p i (cons r rs) n w = all_append P (f i r n).1 _ (p i r n w.0) (each_all f p (suc i) rs (f i r n).2 w.1)

  flat-all : (f : Rec → ℕ → Out Recs) → ((r : Rec) (n : ℕ) → Everywhere P r → All P (f r n).1) → (ks : Recs) (n : ℕ) → AllEverywhere P ks → All P (flat f ks n).1
  unfolding flat Everywhere
  flat-all f p nil n w = tt
  flat-all f p (cons r rs) n w = all_append P (f r n).1 _ (p r n w.0) (flat-all f p rs (f r n).2 w.1)

  below : (r : Rec) → Everywhere P r → AllEverywhere P (kids_of r)
  unfolding Everywhere
  below (rec h ks) w = w.2

  asked : (r : Rec) → Everywhere P r → Asked P (head_of r) (kids_of r)
  unfolding Everywhere
  asked (rec h ks) w = w.1

  type_or-all : (f : ℕ → Out Rec) (t : Rec) (n : ℕ) → All P (f n).1 → All P (type_or f t n).1
  type_or-all f t n p = all_if P (is_no t) f (pure t) n p tt

  -- ---- parameters and class members

  module _ (ty : Typing) (typed : Typed ty) where
    infer-all : (e : Rec) (n : ℕ) → At P (head_of e) → All P (ty e false false n).1 → All P (infer_expr_fallback_any ty e n).1
    infer-all e n a p = all-or_any P (ty e false false n) (diag "d2" (head_of e) ∷ []) p (a.1, tt)

    assign_all : (k : Pattern) (left right whole : Rec) (n : ℕ) → At P (head_of right) → All P (ty right false false n).1 → All P (handle_func_param_assign ty k left right whole n).1
    unfolding handle_func_param_assign
    assign_all p_ident left right whole n a p = type_or-all _ (kid 1 (kids_of left)) n (infer-all right n a p)
    assign_all p_box left right whole n a p = type_or-all _ (kid 0 (kids_of left)) n (infer-all right n a p)
    assign_all p_assign left right whole n a p = tt
    assign_all p_other left right whole n a p = tt

    pattern_by_all : (k : Pattern) (p : Rec) (n : ℕ) → pattern_kind (mark_of p) ≡ k → Everywhere P p → All P (handle_pattern_by ty k p n).1
    unfolding handle_pattern_by handle_func_param_ident
    pattern_by_all p_ident p n e w = type_or-all _ (kid 1 (kids_of p)) n ((own P p w).1, tt)
    pattern_by_all p_assign p n e w =
        assign_all (pattern_kind (mark_of (kid 0 (kids_of p)))) (kid 0 (kids_of p)) (kid 1 (kids_of p)) p n ((asked p w).right e)
        (at-kid P (λ e n. ty e false false n) (λ e n v. typed.there e false false n v) (λ n. typed.missing false false n) 1 (kids_of p) n (below p w))
    pattern_by_all p_box p n e w = tt
    pattern_by_all p_other p n e w = tt

    no_pattern : (n : ℕ) → All P (handle_pattern ty absent n).1
    unfolding handle_pattern_by pattern_kind
    no_pattern n = tt

    param-all : (p : Rec) (n : ℕ) → Everywhere P p → All P (handle_func_param ty p n).1
    unfolding handle_func_param
    param-all p n w =
        all_if P (is "Pa" p || is "Pp" p) _ _ n
        (at-kid P (handle_pattern ty) (λ q n v. pattern_by_all (pattern_kind (mark_of q)) q n refl v) no_pattern 0 (kids_of p) n (below p w))
        tt

    function_part-all : (setter : Bool) (i : ℕ) (r : Rec) (n : ℕ) → Everywhere P r → All P (function_part ty setter i r n).1
    unfolding function_part
    function_part-all setter zero r n w = tt
    function_part-all setter (suc zero) r n w = tt
    function_part-all setter (suc (suc zero)) r n w = tt
    function_part-all setter (suc (suc (suc i))) r n w = param-all r n w

    function-all : (setter : Bool) (r : Rec) (n : ℕ) → Everywhere P r → All P (handle_function ty setter r n).1
    unfolding handle_function
    function-all setter r n w = each_all (function_part ty setter) (function_part-all setter) 0 (kids_of r) n (below r w)

    no_function : (setter : Bool) (n : ℕ) → All P (handle_function ty setter absent n).1
    unfolding handle_function each
    no_function setter n = tt

    constructor_part-all : (i : ℕ) (r : Rec) (n : ℕ) → Everywhere P r → All P (constructor_part ty i r n).1
    unfolding constructor_part
    constructor_part-all zero r n w = tt
    constructor_part-all (suc i) r n w = param-all r n w

    constructor-all : (r : Rec) (n : ℕ) → Everywhere P r → All P (constructor ty r n).1
    unfolding constructor
    constructor-all r n w = each_all (constructor_part ty) constructor_part-all 0 (kids_of r) n (below r w)

    method-all : (r : Rec) (key : Option Rec) (n : ℕ) → Everywhere P r → All P (method ty r key n).1
    unfolding method
    method-all r none n w = tt
    method-all r (some key) n w = at-kid P (handle_function ty _) (function-all _) (no_function _) 1 (kids_of r) n (below r w)

    prop_type-all : (value t : Rec) (n : ℕ) → All P (ty value false false n).1 → All P (prop_type ty value t n).1
    prop_type-all value t n p = all_if P (is_no value) _ _ n tt (type_or-all _ t n (all-or_any P (ty value false false n) [] p tt))

    class_prop-all : (r : Rec) (key : Option Rec) (n : ℕ) → Everywhere P r → All P (class_prop ty r key n).1
    unfolding class_prop
    class_prop-all r none n w = tt
    class_prop-all r (some key) n w =
        prop_type-all (kid 2 (kids_of r)) (kid 1 (kids_of r)) n
        (at-kid P (λ e n. ty e false false n) (λ e n v. typed.there e false false n v) (λ n. typed.missing false false n) 2 (kids_of r) n (below r w))

    module _ (list : List ℕ) (ctx : ℕ) where
      member_by-all : (k : Member) (r : Rec) (n : ℕ) → Everywhere P r → All P (member_by list ctx ty k r n).1
      unfolding member_by
      member_by-all m_constructor r n w = all_if P (listed list (head_of r)) _ _ n tt (constructor-all r n w)
      member_by-all m_method r n w = all_if P (listed list (head_of r)) _ _ n tt (method-all r (valid_prop_name ctx (kid 0 (kids_of r))) n w)
      member_by-all m_prop r n w = class_prop-all r (valid_prop_name ctx (kid 0 (kids_of r))) n w
      member_by-all m_dropped r n w = tt
      member_by-all m_kept r n w = tt

      members-all : (ks : Recs) (n : ℕ) → AllEverywhere P ks → All P (class_body_to_type list ctx ty ks n).1
      unfolding class_body_to_type Everywhere
      members-all nil n w = tt
      members-all (cons tps ms) n w = flat-all (member list ctx ty) (λ r n v. member_by-all (member_kind (mark_of r)) r n v) ms n w.1

      class-all : (r : Rec) (n : ℕ) → Everywhere P r → All P (class list ctx ty r n).1
      unfolding class
      class-all r n w = members-all (kids_of r) n (below r w)

      no_class : (n : ℕ) → All P (class list ctx ty absent n).1
      unfolding class class_body_to_type
      no_class n = tt

  -- ---- declarations

  enum_member-all : (r : Rec) (n : ℕ) → All P (enum_member r n).1
  unfolding enum_member second enum_init
  enum_member-all r n = all_if P (is "Em" r) _ _ n tt tt

  body_part-all : (i : ℕ) (r : Rec) (n : ℕ) → Everywhere P r → All P (body_part i r n).1
  body_part-all zero r n w = tt
  body_part-all (suc zero) r n w = tt
  body_part-all (suc (suc zero)) r n w = tt
  body_part-all (suc (suc (suc i))) r n w = tt

  without_body-all : (r : Rec) (n : ℕ) → Everywhere P r → All P (without_body r n).1
  unfolding without_body
  without_body-all r n w = each_all body_part body_part-all 0 (kids_of r) n (below r w)

  no_body : (n : ℕ) → All P (without_body absent n).1
  unfolding without_body each
  no_body n = tt

  -- a step on the second child of a record that may not be there
  second-all : (f : Rec → ℕ → Out Rec) → ((r : Rec) (n : ℕ) → Everywhere P r → All P (f r n).1) → ((n : ℕ) → All P (f absent n).1) → (i : ℕ) (ks : Recs) (n : ℕ) → AllEverywhere P ks →
      All P (second f (kid i ks) n).1
  unfolding second
  second-all f good gone i ks n w = at-kid P (second f) (λ r n v. at-kid P f good gone 1 (kids_of r) n (below r v)) gone i ks n w

  -- a declaration that goes leaves a diagnostic at its export
  export_of_all : (h : Head) (ops : Recs) (o : Out (Option Rec)) → At P h → All P o.1 → All P (export_of h ops o).1
  export_of_all h ops o a p = go o.0
    where
      go : (x : Option Rec) → All P (export_of h ops (x, o.1, o.2)).1
      go none = all_append P o.1 (diag "d1" h ∷ []) p (a.0, tt)
      go (some d) = p

  module _ (ty : Typing) (typed : Typed ty) where
    declarator_type-all : (h : Head) (init : Rec) (n : ℕ) → At P h → All P (ty init false true n).1 → All P (declarator_type ty h init n).1
    declarator_type-all h init n a p =
        all_if P (is_no init) _ _ n (a.1, tt) (all-or_any P (ty init false true n) (diag "d2" h ∷ []) p (a.1, tt))

    pattern_of_lem : (h : Head) (init p : Rec) (n : ℕ) → At P h → At P (head_of p) → All P (ty init false true n).1 → All P (declarator_pattern ty h init p n).1
    unfolding declarator_pattern
    pattern_of_lem h init p n a b q =
        all_if P (is "Bd" p) _ _ n (type_or-all _ (kid 1 (kids_of p)) n (declarator_type-all (head_of p) init n b q)) (a.0, tt)

    no_pattern_of : (h : Head) (init : Rec) (n : ℕ) → At P h → All P (declarator_pattern ty h init absent n).1
    unfolding declarator_pattern
    no_pattern_of h init n a = (a.0, tt)

    declarator-all : (r : Rec) (n : ℕ) → Everywhere P r → All P (declarator ty r n).1
    unfolding declarator
    declarator-all r n w =
        all_if P (is "Vr" r) _ _ n
        (at-kid P (declarator_pattern ty (head_of r) (kid 1 (kids_of r))) pattern-all no_pattern_all 0 (kids_of r) n (below r w))
        tt
      where
        init-all : (n : ℕ) → All P (ty (kid 1 (kids_of r)) false true n).1
        init-all n = at-kid P (λ e n. ty e false true n) (λ e n v. typed.there e false true n v) (λ n. typed.missing false true n) 1 (kids_of r) n (below r w)

        pattern-all : (p : Rec) (n : ℕ) → Everywhere P p → All P (declarator_pattern ty (head_of r) (kid 1 (kids_of r)) p n).1
        pattern-all p n v = pattern_of_lem (head_of r) (kid 1 (kids_of r)) p n (own P r w) (own P p v) (init-all n)

        no_pattern_all : (n : ℕ) → All P (declarator_pattern ty (head_of r) (kid 1 (kids_of r)) absent n).1
        no_pattern_all n = no_pattern_of (head_of r) (kid 1 (kids_of r)) n (own P r w)

    module _ (list : List ℕ) (ctx : ℕ) where
      -- a declaration with the head h and the children ks; `ns` transforms those of an Ns
      module _ (h : Head) (ks : Recs) (top : Bool) (ns : ℕ → Out Recs) (n : ℕ) (a : At P h) (w : AllEverywhere P ks) (p : All P (ns n).1) where
        decl-all : (k : Decl) → All P (decl_to_type_decl list ctx ty k h ks top ns n).1
        unfolding decl_to_type_decl
        decl-all d_class = at-kid P (class list ctx ty) (class-all ty typed list ctx) (no_class ty typed list ctx) 1 ks n w
        decl-all d_fn = at-kid P (handle_function ty false) (function-all ty typed false) (no_function ty typed false) 1 ks n w
        decl-all d_var = each_all (λ i. declarator ty) (λ i. declarator-all) 0 ks n w
        decl-all d_enum = each_all (λ i. enum_member) (λ i r n v. enum_member-all r n) 0 ks n w
        decl-all d_module = p
        decl-all d_using = (a.4, tt)
        decl-all d_type = tt

        stmt_all : (k : Decl) → All P (transform_module_stmt list ctx ty k h ks top ns n).1
        unfolding transform_module_stmt decl_to_type_decl
        stmt_all d_fn = all_if P (listed list h) _ _ n tt (decl-all d_fn)
        stmt_all d_class = decl-all d_class
        stmt_all d_var = decl-all d_var
        stmt_all d_enum = decl-all d_enum
        stmt_all d_module = p
        stmt_all d_using = tt
        stmt_all d_type = tt

        export_of_lem : (k : Decl) (eh : Head) (ops : Recs) → At P eh → All P (export_of eh ops (decl_to_type_decl list ctx ty k h ks top ns n)).1
        export_of_lem k eh ops b = export_of_all eh ops (decl_to_type_decl list ctx ty k h ks top ns n) b (decl-all k)

        export_all : (k : Decl) (eh : Head) (ops : Recs) → At P eh → All P (export_decl list ctx ty k eh h ks ops top ns n).1
        unfolding export_decl
        export_all d_fn eh ops b = all_if P (listed list eh) _ _ n tt (export_of_lem d_fn eh ops b)
        export_all d_class eh ops b = export_of_lem d_class eh ops b
        export_all d_var eh ops b = export_of_lem d_var eh ops b
        export_all d_enum eh ops b = export_of_lem d_enum eh ops b
        export_all d_module eh ops b = export_of_lem d_module eh ops b
        export_all d_using eh ops b = export_of_lem d_using eh ops b
        export_all d_type eh ops b = export_of_lem d_type eh ops b

      default-all : (k : Default) (h : Head) (ks : Recs) (n : ℕ) → AllEverywhere P ks → All P (export_default_decl list ctx ty k h ks n).1
      unfolding export_default_decl
      default-all x_class h ks n w = second-all (class list ctx ty) (class-all ty typed list ctx) (no_class ty typed list ctx) 0 ks n w
      default-all x_fn h ks n w = all_if P (listed list h) _ _ n tt (second-all without_body without_body-all no_body 0 ks n w)
      default-all x_other h ks n w = tt

      default_expr_all : (h : Head) (ks : Recs) (n : ℕ) → AllEverywhere P ks → All P (export_default_expr list ctx ty h ks n).1
      unfolding export_default_expr
      default_expr_all h ks n w =
          all_if P (is "Id" (kid 0 ks)) _ _ n tt
          (at-kid P (λ e n. ty e false true n) (λ e n v. typed.there e false true n v) (λ n. typed.missing false true n) 0 ks (suc n) w)

      -- ---- items

      item_by-all : (k : Item) (h : Head) (ks : Recs) (top : Bool) (ns export : ℕ → Out Recs) (n : ℕ) → At P h → AllEverywhere P ks → All P (ns n).1 → All P (export n).1 →
          All P (item_by list ctx ty k h ks top ns export n).1
      unfolding item_by
      item_by-all i_kept h ks top ns export n a w p q = tt
      item_by-all i_dropped h ks top ns export n a w p q = tt
      item_by-all i_export h ks top ns export n a w p q = q
      item_by-all i_default h ks top ns export n a w p q = default-all (default_kind (mark_of (kid 0 ks))) h ks n w
      item_by-all i_default_expr h ks top ns export n a w p q = default_expr_all h ks n w
      item_by-all i_decl h ks top ns export n a w p q = stmt_all h ks top ns n a w p (decl_kind h.mark)

      body_by-all : (k : Body) (h : Head) (ks : Recs) (items parts : ℕ → Out Recs) (n : ℕ) → All P (items n).1 → All P (parts n).1 →
          All P (body_by list ctx ty k h ks items parts n).1
      unfolding body_by
      body_by-all b_block h ks items parts n p q = p
      body_by-all b_nested h ks items parts n p q = q
      body_by-all b_other h ks items parts n p q = tt

      mutual
        unfolding transform_module_items Everywhere

        pub items-all : (rs : Recs) (top : Bool) (n : ℕ) → AllEverywhere P rs → All P (transform_module_items list ctx ty rs top n).1
        items-all nil top n w = tt
        items-all (cons r rs) top n w =
            all_append P (transform_module_item list ctx ty r top n).1 _ (item-all r top n w.0) (items-all rs top (transform_module_item list ctx ty r top n).2 w.1)

        pub item-all : (r : Rec) (top : Bool) (n : ℕ) → Everywhere P r → All P (transform_module_item list ctx ty r top n).1
        item-all (rec h ks) top n w = item_by-all (item_kind h.mark) h ks top _ _ n w.0 w.2 (parts_all ks n w.2) (exported-all ks h top n w.0 w.2)

        exported-all : (ks : Recs) (h : Head) (top : Bool) (n : ℕ) → At P h → AllEverywhere P ks → All P (exported list ctx ty ks h top n).1
        exported-all nil h top n a w = tt
        exported-all (cons d ops) h top n a w = exported_decl-all d h ops top n a w.0

        exported_decl-all : (d : Rec) (h : Head) (ops : Recs) (top : Bool) (n : ℕ) → At P h → Everywhere P d → All P (exported_decl list ctx ty d h ops top n).1
        exported_decl-all (rec dh ks) h ops top n a w = export_all dh ks top _ n w.0 w.2 (parts_all ks n w.2) (decl_kind dh.mark) h ops a

        parts_all : (ks : Recs) (n : ℕ) → AllEverywhere P ks → All P (ns_parts list ctx ty ks n).1
        parts_all nil n w = tt
        parts_all (cons name rs) n w = body_first_all rs n w.1

        body_first_all : (ks : Recs) (n : ℕ) → AllEverywhere P ks → All P (ns_body_first list ctx ty ks n).1
        body_first_all nil n w = tt
        body_first_all (cons b ops) n w = body-all b n w.0

        body-all : (b : Rec) (n : ℕ) → Everywhere P b → All P (transform_ts_ns_body list ctx ty b n).1
        body-all (rec h ks) n w = body_by-all (body_kind h.mark) h ks _ _ n (items-all ks false n w.2) (parts_all ks n w.2)

-- ---- the whole module

pub typed-all : (P : Diag → Type 0) (ids : PrescannedModuleIds) (ctx : ℕ) → Typed P (expr_to_ts_type ids ctx)
unfolding expr_to_ts_type expr_by expr_kind Grammar.marks Grammar.member
typed-all P ids ctx = record { there = expr_to_ts_type-all P ids ctx; missing = λ c r n. tt }

-- each diagnostic is one of the five
abbrev One : Diag → Type 0
One d = Grammar.member d.mark diagnostic_marks ≡ true

one_at : (h : Head) → At One h
unfolding Grammar.member
one_at h = (refl, refl, refl, refl, refl)

mutual
  unfolding Everywhere

  one-everywhere : (r : Rec) → Everywhere One r
  one-everywhere (rec h ks) = (one_at h, record { value = λ e. one_at (head_of (kid 1 ks)); expression = λ e. one_at (head_of (kid 0 ks)); right = λ e. one_at (head_of (kid 1 ks)) }, all_one ks)

  all_one : (rs : Recs) → AllEverywhere One rs
  all_one nil = tt
  all_one (cons r rs) = (one-everywhere r, all_one rs)

pub item-kinds : (list : List ℕ) (ctx : ℕ) (ids : PrescannedModuleIds) (r : Rec) (top : Bool) (n : ℕ) → Kinds (transform_module_item list ctx (expr_to_ts_type ids ctx) r top n).1
item-kinds list ctx ids r top n = item-all One (expr_to_ts_type ids ctx) (typed-all One ids ctx) list ctx r top n (one-everywhere r)

pub transform-kinds : (list : List ℕ) (ctx : ℕ) (r : Rec) → Kinds (transform list ctx r).1
unfolding transform transform_by
transform-kinds list ctx r =
    let ids : PrescannedModuleIds = prescan_module_ids (kids_of r) in
    items-all One (expr_to_ts_type ids ctx) (typed-all One ids ctx) list ctx (kids_of r) true 0 (all_one (kids_of r))
