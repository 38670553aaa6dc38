-- Items, declarations and namespaces: `transform_module_items`, `transform_module_stmt`, `decl_to_type_decl`, `transform_ts_ns_body`.
-- The typing of expressions is a parameter.
use Rattle.std.specs.Prelude.{ℕ, zero, suc, List, [], ◌∷◌, ◌++◌, Bool, true, false, cond, ◌||◌, eqb}
use Rattle.std.proofs.Math.Option.{Option, none, some}
use Rattle.definition.specs.Tree.{Head, Rec, Recs, rec, nil, cons}
use Rattle.definition.specs.Grammar.{mark}
use Rattle.definition.specs.Record.{head_of, kids_of, mark_of, is, is_no, dummy_sp, fresh, absent, ident, with_flags, flag1, kid, set_kid, one, join, given, gone, diag, listed, Out, Typing, pure, if_m, on_value, wrap, single, each, at_kid, second}
use Rattle.definition.specs.Helpers.{any_type_ann}
use Rattle.definition.specs.Names.{gen_unique_name}
use Rattle.definition.specs.Typing.{or_any}
use Rattle.definition.specs.Classes.{type_or, handle_function, class}
use Rattle.definition.specs.Enums.{enum_member}
use Rattle.definition.specs.ChildNames.{xd_declaration, xe_expression, fd_function, cd_class, vr_pattern, vr_init, bd_type}

-- ---- kinds

-- an item: Im stays, and so do trailing Ops; St goes
pub data Item : Type 0 where
  i_kept i_dropped i_export i_default i_default_expr i_decl : Item

unfoldable pub item_kind : ℕ → Item
item_kind m =
    cond (eqb m (mark "Im") || eqb m (mark "Op")) i_kept
    (cond (eqb m (mark "St")) i_dropped
    (cond (eqb m (mark "Ed")) i_export (cond (eqb m (mark "Xd")) i_default (cond (eqb m (mark "Xe")) i_default_expr i_decl))))

-- a declaration; d_type is In or Ty
pub data Decl : Type 0 where
  d_class d_fn d_var d_enum d_module d_using d_type : Decl

unfoldable pub decl_kind : ℕ → Decl
decl_kind m =
    cond (eqb m (mark "Cd")) d_class
    (cond (eqb m (mark "Fd")) d_fn
    (cond (eqb m (mark "Vd")) d_var
    (cond (eqb m (mark "En")) d_enum (cond (eqb m (mark "Ns")) d_module (cond (eqb m (mark "Us")) d_using d_type)))))

-- what an Xd holds; x_other is In
pub data Default : Type 0 where
  x_class x_fn x_other : Default

unfoldable pub default_kind : ℕ → Default
default_kind m = cond (eqb m (mark "Cx")) x_class (cond (eqb m (mark "Fx")) x_fn x_other)

-- a namespace's body; b_other is No
pub data Body : Type 0 where
  b_block b_nested b_other : Body

unfoldable pub body_kind : ℕ → Body
body_kind m = cond (eqb m (mark "Nb")) b_block (cond (eqb m (mark "Nd")) b_nested b_other)

-- ---- `Decl::Var`

module _ (ty : Typing) where
  -- the type of a Bd at h without one, from the init: "typed (c off, r on), else any and d2 at the pattern"
  abbrev pub declarator_type : Head → Rec → ℕ → Out Rec
  declarator_type h init n = if_m (is_no init) (λ n. (any_type_ann dummy_sp, diag "d2" h ∷ [], n)) (λ n. or_any (ty init false true n) (diag "d2" h ∷ [])) n

  -- the pattern of a Vr at h: "Other patterns give d1 at Vr"
  unfoldable pub declarator_pattern : Head → Rec → Rec → ℕ → Out Rec
  declarator_pattern h init p n =
      if_m (is "Bd" p) (λ n. wrap (head_of p) (at_kid bd_type (type_or (declarator_type (head_of p) init)) (kids_of p) n)) (λ n. (p, diag "d1" h ∷ [], n)) n

  -- a Vr: "Every init goes"; an Op is left as it is
  unfoldable pub declarator : Rec → ℕ → Out Rec
  declarator r n =
      let init : Rec = kid vr_init (kids_of r) in
      if_m (is "Vr" r)
      (λ n. on_value (λ (ks : Recs). rec (head_of r) (set_kid vr_init (gone init) ks)) (at_kid vr_pattern (declarator_pattern (head_of r) init) (kids_of r) n))
      (pure r)
      n

-- ---- `ExportDefaultDecl`: "Xd functions lose the body only; their parameters are untouched"

-- the part of a Fu at each place: only that at `fu_body` goes
abbrev pub body_part : ℕ → Rec → ℕ → Out Rec
body_part zero r n = pure r n
body_part (suc zero) r n = pure r n
body_part (suc (suc zero)) r n = pure (gone r) n
body_part (suc (suc (suc i))) r n = pure r n

unfoldable pub without_body : Rec → ℕ → Out Rec
without_body r n = wrap (head_of r) (each body_part 0 (kids_of r) n)

-- ---- `ExportDefaultExpr`: "a declared const, named _dts_1 at the first, with that type precedes `Xe` of that name"

abbrev pub const_of : ℕ → Rec → Rec
const_of i t =
    rec (fresh "Vd" 3 []) (one (rec (fresh "Vr" 0 []) (cons (rec (fresh "Bd" 0 []) (cons (ident dummy_sp (gen_unique_name i)) (one t))) (one absent))))

-- an Xe with the type of its expression, and the number of the name: "Untyped: kept whole, no diagnostic of its own"
unfoldable pub default_typed : Head → Recs → ℕ → Option Rec → Recs
default_typed h ks i none = one (rec h ks)
default_typed h ks i (some t) = cons (const_of i t) (one (rec h (set_kid xe_expression (ident dummy_sp (gen_unique_name i)) ks)))

-- "get declare at module level and lose it inside Nb"
abbrev pub declared : Bool → Head → Head
declared top h = with_flags h (flag1 top h.flags)

-- an Ed at h with the Ops after its declaration, once that has become another, or none: then "d1 at Ed"
abbrev pub export_of : Head → Recs → Out (Option Rec) → Out Recs
export_of h ops o = given o.0 (nil, o.1 ++ (diag "d1" h ∷ []), o.2) (λ d. (one (rec h (cons d ops)), o.1, o.2))

-- a statement at h, once its declaration has become another, or none
abbrev pub stmt_of : Head → Out (Option Rec) → Out Recs
stmt_of h o = given o.0 (nil, o.1 ++ (diag "d1" h ∷ []), o.2) (λ d. (one d, o.1, o.2))

module _ (list : List ℕ) (ctx : ℕ) (ty : Typing) where
  -- `decl_to_type_decl`; `ns` transforms the children of an Ns. "Exported Us gives d5 at Us"
  unfoldable pub decl_to_type_decl : Decl → Head → Recs → Bool → (ℕ → Out Recs) → ℕ → Out (Option Rec)
  decl_to_type_decl d_class h ks top ns n = on_value some (wrap (declared top h) (at_kid cd_class (class list ctx ty) ks n))
  decl_to_type_decl d_fn h ks top ns n = on_value some (wrap (declared top h) (at_kid fd_function (handle_function ty false) ks n))
  decl_to_type_decl d_var h ks top ns n = on_value some (wrap (declared top h) (each (λ i. declarator ty) 0 ks n))
  decl_to_type_decl d_enum h ks top ns n = on_value some (wrap (declared top h) (each (λ i. enum_member) 0 ks n))
  decl_to_type_decl d_module h ks top ns n = on_value some (wrap (declared top h) (ns n))
  decl_to_type_decl d_using h ks top ns n = (none, diag "d5" h ∷ [], n)
  decl_to_type_decl d_type h ks top ns n = pure (some (rec h ks)) n

  -- `transform_module_stmt`: "Fd .. goes if the range of the outermost of Ed, Xd, Fd is in the overload list"; "In, Ty and a
  -- bare Us pass"
  unfoldable pub transform_module_stmt : Decl → Head → Recs → Bool → (ℕ → Out Recs) → ℕ → Out Recs
  transform_module_stmt d_fn h ks top ns n = if_m (listed list h) (pure nil) (λ n. stmt_of h (decl_to_type_decl d_fn h ks top ns n)) n
  transform_module_stmt d_class h ks top ns n = stmt_of h (decl_to_type_decl d_class h ks top ns n)
  transform_module_stmt d_var h ks top ns n = stmt_of h (decl_to_type_decl d_var h ks top ns n)
  transform_module_stmt d_enum h ks top ns n = stmt_of h (decl_to_type_decl d_enum h ks top ns n)
  transform_module_stmt d_module h ks top ns n = stmt_of h (decl_to_type_decl d_module h ks top ns n)
  transform_module_stmt d_using h ks top ns n = pure (one (rec h ks)) n
  transform_module_stmt d_type h ks top ns n = pure (one (rec h ks)) n

  -- `ModuleDecl::ExportDecl` at h, over a declaration with the head dh and the children ks
  unfoldable pub export_decl : Decl → Head → Head → Recs → Recs → Bool → (ℕ → Out Recs) → ℕ → Out Recs
  export_decl d_fn h dh ks ops top ns n =
      if_m (listed list h) (pure nil) (λ n. export_of h ops (decl_to_type_decl d_fn dh ks top ns n)) n
  export_decl d_class h dh ks ops top ns n = export_of h ops (decl_to_type_decl d_class dh ks top ns n)
  export_decl d_var h dh ks ops top ns n = export_of h ops (decl_to_type_decl d_var dh ks top ns n)
  export_decl d_enum h dh ks ops top ns n = export_of h ops (decl_to_type_decl d_enum dh ks top ns n)
  export_decl d_module h dh ks ops top ns n = export_of h ops (decl_to_type_decl d_module dh ks top ns n)
  export_decl d_using h dh ks ops top ns n = export_of h ops (decl_to_type_decl d_using dh ks top ns n)
  export_decl d_type h dh ks ops top ns n = export_of h ops (decl_to_type_decl d_type dh ks top ns n)

  -- `ModuleDecl::ExportDefaultDecl`: "Xd with Fx, goes if the range .. is in the overload list"
  unfoldable pub export_default_decl : Default → Head → Recs → ℕ → Out Recs
  export_default_decl x_class h ks n = single (wrap h (at_kid xd_declaration (second (class list ctx ty)) ks n))
  export_default_decl x_fn h ks n = if_m (listed list h) (pure nil) (λ n. single (wrap h (at_kid xd_declaration (second without_body) ks n))) n
  export_default_decl x_other h ks n = pure (one (rec h ks)) n

  -- `ModuleDecl::ExportDefaultExpr`: "Xe of Id passes. Else the name counter rises (1 first)" and the expression is typed "(off, on)"
  unfoldable pub export_default_expr : Head → Recs → ℕ → Out Recs
  export_default_expr h ks n =
      if_m (is "Id" (kid xe_expression ks)) (pure (one (rec h ks))) (λ n. on_value (default_typed h ks (suc n)) (ty (kid xe_expression ks) false true (suc n))) n

  -- the arms of `transform_module_items`; `ns` transforms the children of an Ns, `export` those of an Ed
  unfoldable pub item_by : Item → Head → Recs → Bool → (ℕ → Out Recs) → (ℕ → Out Recs) → ℕ → Out Recs
  item_by i_kept h ks top ns export n = pure (one (rec h ks)) n
  item_by i_dropped h ks top ns export n = pure nil n
  item_by i_export h ks top ns export n = export n
  item_by i_default h ks top ns export n = export_default_decl (default_kind (mark_of (kid xd_declaration ks))) h ks n
  item_by i_default_expr h ks top ns export n = export_default_expr h ks n
  item_by i_decl h ks top ns export n = transform_module_stmt (decl_kind h.mark) h ks top ns n

  -- the body of a namespace: `items` transforms the children of an Nb, `parts` those of an Nd. "Nd keeps its name and its body is transformed
  -- within it" (document 02, §2; the Rust puts its innermost Nb in its place)
  unfoldable pub body_by : Body → Head → Recs → (ℕ → Out Recs) → (ℕ → Out Recs) → ℕ → Out Rec
  body_by b_block h ks items parts n = wrap h (items n)
  body_by b_nested h ks items parts n = wrap h (parts n)
  body_by b_other h ks items parts n = pure (rec h ks) n

  -- `top` is is_top_level
  unfoldable mutual
    pub transform_module_items : Recs → Bool → ℕ → Out Recs
    transform_module_items nil top n = pure nil n
    transform_module_items (cons r rs) top n =
        let a : Out Recs = transform_module_item r top n in
        let b : Out Recs = transform_module_items rs top a.2 in
        (join a.0 b.0, a.1 ++ b.1, b.2)

    pub transform_module_item : Rec → Bool → ℕ → Out Recs
    transform_module_item (rec h ks) top n =
        item_by (item_kind h.mark) h ks top (λ n. ns_parts ks n) (λ n. exported ks h top n) n

    -- the children of an Ed at h: a declaration, then Ops
    pub exported : Recs → Head → Bool → ℕ → Out Recs
    exported nil h top n = pure (one (rec h nil)) n
    exported (cons d ops) h top n = exported_decl d h ops top n

    pub exported_decl : Rec → Head → Recs → Bool → ℕ → Out Recs
    exported_decl (rec dh ks) h ops top n = export_decl (decl_kind dh.mark) h dh ks ops top (λ n. ns_parts ks n) n

    -- the children of an Ns or an Nd: its name, its body, Ops
    pub ns_parts : Recs → ℕ → Out Recs
    ns_parts nil n = pure nil n
    ns_parts (cons name rs) n = on_value (cons name) (ns_body_first rs n)

    pub ns_body_first : Recs → ℕ → Out Recs
    ns_body_first nil n = pure nil n
    ns_body_first (cons b ops) n = on_value (λ (b : Rec). cons b ops) (transform_ts_ns_body b n)

    pub transform_ts_ns_body : Rec → ℕ → Out Rec
    transform_ts_ns_body (rec h ks) n =
        body_by (body_kind h.mark) h ks (λ n. transform_module_items ks false n) (λ n. ns_parts ks n) n
