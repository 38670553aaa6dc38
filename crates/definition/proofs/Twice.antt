-- A second pass changes nothing: enums, variables, declarations, items, namespaces, modules. `twice` is demand 3 on trees.
use mathlib.Core.Path.{◌≡◌, refl, ap, ap₂, sym, ◌∙◌}
use mathlib.Core.List.{List, [], ◌∷◌}
use mathlib.Core.Bool.{Bool, true, false, true≢false, ◌||◌, ◌&&◌}
use mathlib.Core.Option.{Option, none, some}
use Prim.Native.Nat.{ℕ, zero, suc, ◌+◌, ◌/◌}
use native.Mathlib.Omega.{arith}
use lib.Dec.{eqb}
use lib.ListN.{length}
use borrow.Author.Tests.{eqb-true, eq-eqb}
use Rattle.definition.specs.Tree.{Head, Rec, Recs, rec, nil, cons, u32_at}
use Rattle.definition.specs.Grammar.{mark}
use Rattle.definition.specs.Check.{entry_size}
use Rattle.definition.specs.Record.{head_of, kids_of, mark_of, is, is_no, dummy_sp, absent, ident, with_flags, flag1, kid, set_kid, one, join, gone, diag, entries_have, listed, Out, Typing, pure, if_m, single, wrap, each, at_kid, second}
use Rattle.definition.specs.Helpers.{any_type_ann}
use Rattle.definition.specs.Names.{gen_unique_name}
use Rattle.definition.specs.Typing.{or_any}
use Rattle.definition.specs.Classes.{type_or, handle_function, class}
use Rattle.definition.specs.Enums.{valid_enum_init_expr, enum_init, enum_member}
use Rattle.definition.specs.Items.{
  Item,
  i_kept,
  i_dropped,
  i_export,
  i_default,
  i_default_expr,
  i_decl,
  item_kind,
  Decl,
  d_class,
  d_fn,
  d_var,
  d_enum,
  d_module,
  d_using,
  d_type,
  decl_kind,
  Default,
  x_class,
  x_fn,
  x_other,
  default_kind,
  Body,
  b_block,
  b_nested,
  b_other,
  body_kind,
  declarator_type,
  declarator_pattern,
  declarator,
  body_part,
  without_body,
  const_of,
  default_typed,
  declared,
  export_of,
  stmt_of,
  decl_to_type_decl,
  transform_module_stmt,
  export_decl,
  export_default_decl,
  export_default_expr,
  item_by,
  body_by,
  transform_module_items,
  transform_module_item,
  exported,
  exported_decl,
  ns_parts,
  ns_body_first,
  transform_ts_ns_body,
}
use Rattle.definition.specs.Transform.{transform_by}
use Rattle.definition.specs.Demand3.{ExportsIds, AllExportIds, SpacesExportIds, AllSpacesExportIds}
use Rattle.definition.proofs.ItemKinds.{xe-mark, nb_mark}
use Rattle.definition.proofs.Stable.{Stable, Typed, or_any-there, each_stable, at_kid_stable, second_stable, join_assoc, gone-gone, type_or_stable, function_stable}
use Rattle.definition.proofs.StableMembers.{class_stable}

-- ---- heads

flag1-twice : (top : Bool) (f : ℕ) → flag1 top (flag1 top f) ≡ flag1 top f
flag1-twice true f = omega arith
flag1-twice false f = omega arith

pub declared-twice : (top : Bool) (h : Head) → declared top (declared top h) ≡ declared top h
declared-twice top h = ap (with_flags h) (flag1-twice top h.flags)

-- the overload list asks for the range only
have_range : (k : ℕ) (l : List ℕ) (at : ℕ) (h : Head) (f : ℕ) → entries_have k l at (with_flags h f) ≡ entries_have k l at h
unfolding entries_have
have_range zero l at h f = refl
have_range (suc k) l at h f =
    ap (λ (b : Bool). (eqb (u32_at l (at + 2)) h.start && eqb (u32_at l (at + 6)) h.end) || b) (have_range k l (at + entry_size) h f)

listed-declared : (l : List ℕ) (top : Bool) (h : Head) → listed l (declared top h) ≡ listed l h
unfolding listed
listed-declared l top h = have_range (length l / entry_size) l 0 h (flag1 top h.flags)

-- ---- enums, bodies, variables

enum_init_stable : Stable enum_init enum_init
unfolding enum_init
enum_init_stable r n n' = go (is_no r || valid_enum_init_expr r) refl
  where
    go : (b : Bool) → (is_no r || valid_enum_init_expr r) ≡ b → (enum_init (enum_init r n).0 n').0 ≡ (enum_init r n).0
    go true e = rw (e, e)
    go false e = rw e

enum_member_stable : Stable enum_member enum_member
unfolding enum_member second
enum_member_stable r n n' = go (is "Em" r) refl
  where
    go : (b : Bool) → is "Em" r ≡ b → (enum_member (enum_member r n).0 n').0 ≡ (enum_member r n).0
    go true e = rw (e, e) (second_stable enum_init enum_init enum_init_stable r n n')
    go false e = rw (e, e)

body_part_stable : (i : ℕ) → Stable (body_part i) (body_part i)
body_part_stable zero r n n' = refl
body_part_stable (suc zero) r n n' = refl
body_part_stable (suc (suc zero)) r n n' = gone-gone r
body_part_stable (suc (suc (suc i))) r n n' = refl

without_body_stable : Stable without_body without_body
unfolding without_body
without_body_stable r n n' = ap (rec (head_of r)) (each_stable body_part body_part body_part_stable (kids_of r) 0 n n')

module _ (ty₁ ty₂ : Typing) (there : Typed ty₁) where
  declarator_type-there : (h : Head) (init : Rec) (n : ℕ) → is_no (declarator_type ty₁ h init n).0 ≡ false
  declarator_type-there h init n = go (is_no init)
    where
      go : (b : Bool) → is_no (if_m b (λ n. (any_type_ann dummy_sp, diag "d2" h ∷ [], n)) (λ n. or_any (ty₁ init false true n) (diag "d2" h ∷ [])) n).0 ≡ false
      go true = refl
      go false = or_any-there (ty₁ init false true n) (diag "d2" h ∷ []) (there init false true n)

  declarator_pattern_stable : (h : Head) (init init' : Rec) → Stable (declarator_pattern ty₁ h init) (declarator_pattern ty₂ h init')
  unfolding declarator_pattern
  declarator_pattern_stable h init init' p n n' = go (is "Bd" p) refl
    where
      F : ℕ → Out Rec
      F = declarator_type ty₁ (head_of p) init

      G : ℕ → Out Rec
      G = declarator_type ty₂ (head_of p) init'

      go : (b : Bool) → is "Bd" p ≡ b → (declarator_pattern ty₂ h init' (declarator_pattern ty₁ h init p n).0 n').0 ≡ (declarator_pattern ty₁ h init p n).0
      go true e =
          rw (e, e) (ap (rec (head_of p)) (at_kid_stable (type_or F) (type_or G) (type_or_stable F G (declarator_type-there (head_of p) init)) 1 (kids_of p) n n'))
      go false e = rw (e, e)

  -- the children of a Vr
  abbrev declarator_kids : Typing → Head → Recs → ℕ → Recs
  declarator_kids ty h ks n = set_kid 1 (gone (kid 1 ks)) (at_kid 0 (declarator_pattern ty h (kid 1 ks)) ks n).0

  declarator-kids : (h : Head) (ks : Recs) (n n' : ℕ) → declarator_kids ty₂ h (declarator_kids ty₁ h ks n) n' ≡ declarator_kids ty₁ h ks n
  declarator-kids h nil n n' = refl
  declarator-kids h (cons p nil) n n' = ap one (declarator_pattern_stable h absent absent p n n')
  declarator-kids h (cons p (cons v rs)) n n' = ap₂ (λ (x y : Rec). cons x (cons y rs)) (declarator_pattern_stable h v (gone v) p n n') (gone-gone v)

  declarator_stable : Stable (declarator ty₁) (declarator ty₂)
  unfolding declarator
  declarator_stable r n n' = go (is "Vr" r) refl
    where
      go : (b : Bool) → is "Vr" r ≡ b → (declarator ty₂ (declarator ty₁ r n).0 n').0 ≡ (declarator ty₁ r n).0
      go true e = rw (e, e) (ap (rec (head_of r)) (declarator-kids (head_of r) (kids_of r) n n'))
      go false e = rw (e, e)

  module _ (list : List ℕ) (ctx : ℕ) where
    -- ---- lists of items

    -- items that the second pass leaves as they are
    abbrev ItemsFix : Bool → Recs → ℕ → Type 0
    ItemsFix top rs n' = (transform_module_items list ctx ty₂ rs top n').0 ≡ rs

    items-join : (xs ys : Recs) (top : Bool) (n : ℕ) → (transform_module_items list ctx ty₂ (join xs ys) top n).0
        ≡ join (transform_module_items list ctx ty₂ xs top n).0 (transform_module_items list ctx ty₂ ys top (transform_module_items list ctx ty₂ xs top n).2).0
    unfolding transform_module_items
    items-join nil ys top n = refl
    items-join (cons x xs) ys top n =
        ap (join (transform_module_item list ctx ty₂ x top n).0) (items-join xs ys top (transform_module_item list ctx ty₂ x top n).2)
        ∙ sym (join_assoc (transform_module_item list ctx ty₂ x top n).0 _ _)

    join_fix : (xs ys : Recs) (top : Bool) (n' : ℕ) → ItemsFix top xs n' → ((n : ℕ) → ItemsFix top ys n) → ItemsFix top (join xs ys) n'
    join_fix xs ys top n' p q = items-join xs ys top n' ∙ ap₂ join p (q _)

    one_fix : (r : Rec) (top : Bool) (n' : ℕ) → (transform_module_item list ctx ty₂ r top n').0 ≡ one r → ItemsFix top (one r) n'
    unfolding transform_module_items
    one_fix r top n' p = ap (λ (x : Recs). join x nil) p

    -- an item that is listed has gone; b is an argument, so that its two cases compute
    listing_fix : (f : ℕ → Out Recs) (b top : Bool) (n n' : ℕ) → (b ≡ false → ItemsFix top (f n).0 n') → ItemsFix top (if_m b (pure nil) f n).0 n'
    unfolding transform_module_items
    listing_fix f true top n n' h = refl
    listing_fix f false top n n' h = h refl

    exports-join : (xs ys : Recs) → AllExportIds (join xs ys) → AllExportIds xs × AllExportIds ys
    exports-join nil ys h = (tt, h)
    exports-join (cons x xs) ys h = ((h.0, (exports-join xs ys h.1).0), (exports-join xs ys h.1).1)

    -- ---- declarations: what each kind makes is made again

    class-again : (h : Head) (ks : Recs) (top : Bool) (n n' : ℕ) →
        rec (declared top (declared top h)) (at_kid 1 (class list ctx ty₂) (at_kid 1 (class list ctx ty₁) ks n).0 n').0
        ≡ rec (declared top h) (at_kid 1 (class list ctx ty₁) ks n).0
    class-again h ks top n n' =
        ap₂ rec (declared-twice top h) (at_kid_stable (class list ctx ty₁) (class list ctx ty₂) (class_stable ty₁ ty₂ there list ctx) 1 ks n n')

    fn-again : (h : Head) (ks : Recs) (top : Bool) (n n' : ℕ) →
        rec (declared top (declared top h)) (at_kid 1 (handle_function ty₂ false) (at_kid 1 (handle_function ty₁ false) ks n).0 n').0
        ≡ rec (declared top h) (at_kid 1 (handle_function ty₁ false) ks n).0
    fn-again h ks top n n' =
        ap₂ rec (declared-twice top h) (at_kid_stable (handle_function ty₁ false) (handle_function ty₂ false) (function_stable ty₁ ty₂ there false) 1 ks n n')

    var-again : (h : Head) (ks : Recs) (top : Bool) (n n' : ℕ) →
        rec (declared top (declared top h)) (each (λ i. declarator ty₂) 0 (each (λ i. declarator ty₁) 0 ks n).0 n').0
        ≡ rec (declared top h) (each (λ i. declarator ty₁) 0 ks n).0
    var-again h ks top n n' =
        ap₂ rec (declared-twice top h) (each_stable (λ i. declarator ty₁) (λ i. declarator ty₂) (λ i. declarator_stable) ks 0 n n')

    enum-again : (h : Head) (ks : Recs) (top : Bool) (n n' : ℕ) →
        rec (declared top (declared top h)) (each (λ i. enum_member) 0 (each (λ i. enum_member) 0 ks n).0 n').0
        ≡ rec (declared top h) (each (λ i. enum_member) 0 ks n).0
    enum-again h ks top n n' = ap₂ rec (declared-twice top h) (each_stable (λ i. enum_member) (λ i. enum_member) (λ i. enum_member_stable) ks 0 n n')

    -- what stands below a namespace, if its exports are Ids
    abbrev NsFix : Recs → ℕ → ℕ → Type 0
    NsFix ks n n' = AllExportIds (ns_parts list ctx ty₁ ks n).0 → (ns_parts list ctx ty₂ (ns_parts list ctx ty₁ ks n).0 n').0 ≡ (ns_parts list ctx ty₁ ks n).0

    module_again : (h : Head) (ks : Recs) (top : Bool) (n n' : ℕ) → NsFix ks n n' → AllExportIds (ns_parts list ctx ty₁ ks n).0 →
        rec (declared top (declared top h)) (ns_parts list ctx ty₂ (ns_parts list ctx ty₁ ks n).0 n').0
        ≡ rec (declared top h) (ns_parts list ctx ty₁ ks n).0
    module_again h ks top n n' ns xs = ap₂ rec (declared-twice top h) (ns xs)

    -- ---- declarations as statements

    abbrev stmts : Decl → Head → Recs → Bool → ℕ → Recs
    stmts k h ks top n = (transform_module_stmt list ctx ty₁ k h ks top (λ n. ns_parts list ctx ty₁ ks n) n).0

    fn_fix : (h : Head) (ks : Recs) (top : Bool) (n n' : ℕ) → item_kind h.mark ≡ i_decl → decl_kind h.mark ≡ d_fn → ItemsFix top (stmts d_fn h ks top n) n'
    unfolding transform_module_items item_by transform_module_stmt decl_to_type_decl
    fn_fix h ks top n n' e d =
        listing_fix (λ n. stmt_of h (decl_to_type_decl list ctx ty₁ d_fn h ks top (λ n. ns_parts list ctx ty₁ ks n) n)) (listed list h) top n n'
        (λ l. rw (e, d, listed-declared list top h, l) (ap one (fn-again h ks top n n')))

    stmt_fix : (k : Decl) (h : Head) (ks : Recs) (top : Bool) (n n' : ℕ) → item_kind h.mark ≡ i_decl → decl_kind h.mark ≡ k → NsFix ks n n' →
        AllExportIds (stmts k h ks top n) → ItemsFix top (stmts k h ks top n) n'
    unfolding transform_module_items item_by transform_module_stmt decl_to_type_decl
    stmt_fix d_class h ks top n n' e d ns xs = rw (e, d) (ap one (class-again h ks top n n'))
    stmt_fix d_fn h ks top n n' e d ns xs = fn_fix h ks top n n' e d
    stmt_fix d_var h ks top n n' e d ns xs = rw (e, d) (ap one (var-again h ks top n n'))
    stmt_fix d_enum h ks top n n' e d ns xs = rw (e, d) (ap one (enum-again h ks top n n'))
    stmt_fix d_module h ks top n n' e d ns xs = rw (e, d) (ap one (module_again h ks top n n' ns xs.0.1))
    stmt_fix d_using h ks top n n' e d ns xs = rw (e, d)
    stmt_fix d_type h ks top n n' e d ns xs = rw (e, d)

    -- ---- declarations in an Ed

    abbrev held : Decl → Head → Head → Recs → Recs → Bool → ℕ → Recs
    held k h dh ks ops top n = (export_decl list ctx ty₁ k h dh ks ops top (λ n. ns_parts list ctx ty₁ ks n) n).0

    -- an Ed over a declaration
    abbrev over : Head → Recs → Rec → Recs
    over h ops d = one (rec h (cons d ops))

    export_fn_fix : (h dh : Head) (ks ops : Recs) (top : Bool) (n n' : ℕ) → item_kind h.mark ≡ i_export → decl_kind dh.mark ≡ d_fn →
        ItemsFix top (held d_fn h dh ks ops top n) n'
    unfolding transform_module_items item_by export_decl decl_to_type_decl
    export_fn_fix h dh ks ops top n n' e d =
        listing_fix (λ n. export_of h ops (decl_to_type_decl list ctx ty₁ d_fn dh ks top (λ n. ns_parts list ctx ty₁ ks n) n)) (listed list h) top n n'
        (λ l. rw (e, d, l) (ap (over h ops) (fn-again dh ks top n n')))

    export_fix : (k : Decl) (h dh : Head) (ks ops : Recs) (top : Bool) (n n' : ℕ) → item_kind h.mark ≡ i_export → decl_kind dh.mark ≡ k → NsFix ks n n' →
        AllExportIds (held k h dh ks ops top n) → ItemsFix top (held k h dh ks ops top n) n'
    unfolding transform_module_items item_by export_decl decl_to_type_decl
    export_fix d_class h dh ks ops top n n' e d ns xs = rw (e, d) (ap (over h ops) (class-again dh ks top n n'))
    export_fix d_fn h dh ks ops top n n' e d ns xs = export_fn_fix h dh ks ops top n n' e d
    export_fix d_var h dh ks ops top n n' e d ns xs = rw (e, d) (ap (over h ops) (var-again dh ks top n n'))
    export_fix d_enum h dh ks ops top n n' e d ns xs = rw (e, d) (ap (over h ops) (enum-again dh ks top n n'))
    export_fix d_module h dh ks ops top n n' e d ns xs = rw (e, d) (ap (over h ops) (module_again dh ks top n n' ns xs.0.1.0.1))
    export_fix d_using h dh ks ops top n n' e d ns xs = refl
    export_fix d_type h dh ks ops top n n' e d ns xs = rw (e, d)

    exported-nil : (h : Head) (top : Bool) (n' : ℕ) → item_kind h.mark ≡ i_export → ItemsFix top (one (rec h nil)) n'
    unfolding transform_module_items item_by
    exported-nil h top n' e = rw e

    -- ---- Xd

    -- its class or function is a record that a step made, over the same head
    held-default : (x : Default) (f g : Rec → ℕ → Out Rec) → Stable f g → (h : Head) (ks : Recs) (top : Bool) (n n' : ℕ) → item_kind h.mark ≡ i_default →
        default_kind (mark_of (kid 0 ks)) ≡ x →
        ((ks : Recs) (n : ℕ) → export_default_decl list ctx ty₂ x h ks n ≡ single (wrap h (at_kid 0 (second g) ks n))) →
        ItemsFix top (one (rec h (at_kid 0 (second f) ks n).0)) n'
    unfolding transform_module_items item_by second
    held-default x f g st h nil top n n' e q def = rw (e, q, def nil n')
    held-default x f g st h (cons a rs) top n n' e q def =
        rw (e, q) (ap (λ (o : Out Recs). join o.0 nil) (def _ n') ∙ ap (λ (y : Rec). one (rec h (cons y rs))) (second_stable f g st a n n'))

    default_fix : (x : Default) (h : Head) (ks : Recs) (top : Bool) (n n' : ℕ) → item_kind h.mark ≡ i_default → default_kind (mark_of (kid 0 ks)) ≡ x →
        ItemsFix top (export_default_decl list ctx ty₁ x h ks n).0 n'
    unfolding transform_module_items item_by export_default_decl
    default_fix x_class h ks top n n' e q =
        held-default x_class (class list ctx ty₁) (class list ctx ty₂) (class_stable ty₁ ty₂ there list ctx) h ks top n n' e q (λ ks n. refl)
    default_fix x_fn h ks top n n' e q =
        listing_fix (λ n. single (wrap h (at_kid 0 (second without_body) ks n))) (listed list h) top n n'
        (λ l. held-default x_fn without_body without_body without_body_stable h ks top n n' e q
        (λ ks n. ap (λ (b : Bool). if_m b (pure nil) (λ n. single (wrap h (at_kid 0 (second without_body) ks n))) n) l))
    default_fix x_other h ks top n n' e q = rw (e, q)

    -- ---- Xe

    const_fix : (i : ℕ) (t : Rec) (n' : ℕ) → is_no t ≡ false → (transform_module_item list ctx ty₂ (const_of i t) true n').0 ≡ one (const_of i t)
    unfolding transform_module_items item_by item_kind decl_kind transform_module_stmt decl_to_type_decl each declarator declarator_pattern
    const_fix i t n' e = rw e

    id_fix : (h : Head) (ks : Recs) (top : Bool) (n' : ℕ) → item_kind h.mark ≡ i_default_expr → mark_of (kid 0 ks) ≡ mark "Id" →
        (transform_module_item list ctx ty₂ (rec h ks) top n').0 ≡ one (rec h ks)
    unfolding transform_module_items item_by export_default_expr
    id_fix h ks top n' e q = rw (e, eq-eqb (mark_of (kid 0 ks)) (mark "Id") q)

    -- an Xe at module level, with the type of its expression
    typed_fix : (h : Head) (ks : Recs) (i : ℕ) (o : Option Rec) (n' : ℕ) → item_kind h.mark ≡ i_default_expr → ((t : Rec) → o ≡ some t → is_no t ≡ false) →
        AllExportIds (default_typed h ks i o) → ItemsFix true (default_typed h ks i o) n'
    unfolding default_typed
    typed_fix h ks i none n' e t xs = one_fix (rec h ks) true n' (id_fix h ks true n' e (xs.0.0 (xe-mark h.mark e)))
    typed_fix h ks i (some y) n' e t xs =
        let made : Recs = set_kid 0 (ident dummy_sp (gen_unique_name i)) ks in
        join_fix (one (const_of i y)) (one (rec h made)) true n' (one_fix (const_of i y) true n' (const_fix i y n' (t y refl)))
        (λ n. one_fix (rec h made) true n (id_fix h made true n e (xs.1.0.0 (xe-mark h.mark e))))

    expr_fix : (h : Head) (ks : Recs) (top : Bool) (n n' : ℕ) → item_kind h.mark ≡ i_default_expr → (top ≡ false → mark_of (kid 0 ks) ≡ mark "Id") →
        AllExportIds (export_default_expr list ctx ty₁ h ks n).0 → ItemsFix top (export_default_expr list ctx ty₁ h ks n).0 n'
    unfolding export_default_expr
    expr_fix h ks top n n' e inner = go top (is "Id" (kid 0 ks)) refl refl
      where
        go : (t b : Bool) → top ≡ t → is "Id" (kid 0 ks) ≡ b → AllExportIds (export_default_expr list ctx ty₁ h ks n).0 →
            ItemsFix top (export_default_expr list ctx ty₁ h ks n).0 n'
        go t true p q = rw q (λ xs. one_fix (rec h ks) top n' (id_fix h ks top n' e (eqb-true (mark_of (kid 0 ks)) (mark "Id") q)))
        go false false p q = absurd (true≢false (sym (eq-eqb (mark_of (kid 0 ks)) (mark "Id") (inner p)) ∙ q))
        go true false p q =
            rw (q, p) (λ xs. typed_fix h ks (suc n) (ty₁ (kid 0 ks) false true (suc n)).0 n' e (there (kid 0 ks) false true (suc n)) xs)

    -- ---- items

    item_fix_by : (k : Item) (h : Head) (ks : Recs) (top : Bool) (n n' : ℕ) → item_kind h.mark ≡ k → NsFix ks n n' →
        (item_kind h.mark ≡ i_export → AllExportIds (exported list ctx ty₁ ks h top n).0 → ItemsFix top (exported list ctx ty₁ ks h top n).0 n') →
        (top ≡ false → ExportsIds (rec h ks)) →
        let made : Recs = (item_by list ctx ty₁ k h ks top (λ n. ns_parts list ctx ty₁ ks n) (λ n. exported list ctx ty₁ ks h top n) n).0 in
        AllExportIds made → ItemsFix top made n'
    unfolding transform_module_items item_by
    item_fix_by i_kept h ks top n n' e ns ex inner xs = rw e
    item_fix_by i_dropped h ks top n n' e ns ex inner xs = refl
    item_fix_by i_export h ks top n n' e ns ex inner xs = ex e xs
    item_fix_by i_default h ks top n n' e ns ex inner xs = default_fix (default_kind (mark_of (kid 0 ks))) h ks top n n' e refl
    item_fix_by i_default_expr h ks top n n' e ns ex inner xs = expr_fix h ks top n n' e (λ t. (inner t).0 (xe-mark h.mark e)) xs
    item_fix_by i_decl h ks top n n' e ns ex inner xs = stmt_fix (decl_kind h.mark) h ks top n n' e refl ns xs

    -- ---- the body of a namespace

    abbrev BodyFix : Rec → ℕ → Type 0
    BodyFix r n' = (transform_ts_ns_body list ctx ty₂ r n').0 ≡ r

    block_fix : (h : Head) (ks : Recs) (n' : ℕ) → body_kind h.mark ≡ b_block → ItemsFix false ks n' → BodyFix (rec h ks) n'
    unfolding transform_ts_ns_body body_by
    block_fix h ks n' e p = rw e (ap (rec h) p)

    other_fix : (h : Head) (ks : Recs) (n' : ℕ) → body_kind h.mark ≡ b_other → BodyFix (rec h ks) n'
    unfolding transform_ts_ns_body body_by
    other_fix h ks n' e = rw e

    abbrev PartsFix : Recs → ℕ → Type 0
    PartsFix ks n' = (ns_parts list ctx ty₂ ks n').0 ≡ ks

    nested_fix : (h : Head) (ks : Recs) (n' : ℕ) → body_kind h.mark ≡ b_nested → PartsFix ks n' → BodyFix (rec h ks) n'
    unfolding transform_ts_ns_body body_by
    nested_fix h ks n' e p = rw e (ap (rec h) p)

    body_fix_by : (k : Body) (h : Head) (ks : Recs) (n n' : ℕ) → body_kind h.mark ≡ k →
        (body_kind h.mark ≡ b_block → AllExportIds (transform_module_items list ctx ty₁ ks false n).0 → ItemsFix false (transform_module_items list ctx ty₁ ks false n).0 n') →
        (AllExportIds (ns_parts list ctx ty₁ ks n).0 → PartsFix (ns_parts list ctx ty₁ ks n).0 n') →
        let made : Rec = (body_by list ctx ty₁ k h ks (λ n. transform_module_items list ctx ty₁ ks false n) (λ n. ns_parts list ctx ty₁ ks n) n).0 in
        ExportsIds made → BodyFix made n'
    unfolding body_by
    body_fix_by b_block h ks n n' e p q xs = block_fix h (transform_module_items list ctx ty₁ ks false n).0 n' e (p e xs.1)
    body_fix_by b_nested h ks n n' e p q xs = nested_fix h (ns_parts list ctx ty₁ ks n).0 n' e (q xs.1)
    body_fix_by b_other h ks n n' e p q xs = other_fix h ks n' e

    -- ---- all of it

    mutual
      unfolding transform_module_items

      items_fix : (rs : Recs) (top : Bool) (n n' : ℕ) → AllSpacesExportIds rs → (top ≡ false → AllExportIds rs) →
          AllExportIds (transform_module_items list ctx ty₁ rs top n).0 → ItemsFix top (transform_module_items list ctx ty₁ rs top n).0 n'
      items_fix nil top n n' sp inner xs = refl
      items_fix (cons r rs) top n n' sp inner xs =
          let a : Out Recs = transform_module_item list ctx ty₁ r top n in
          let b : Out Recs = transform_module_items list ctx ty₁ rs top a.2 in
          let both : AllExportIds a.0 × AllExportIds b.0 = exports-join a.0 b.0 xs in
          join_fix a.0 b.0 top n' (item_fix r top n n' sp.0 (λ t. (inner t).0) both.0)
          (λ n''. items_fix rs top a.2 n'' sp.1 (λ t. (inner t).1) both.1)

      item_fix : (r : Rec) (top : Bool) (n n' : ℕ) → SpacesExportIds r → (top ≡ false → ExportsIds r) →
          AllExportIds (transform_module_item list ctx ty₁ r top n).0 → ItemsFix top (transform_module_item list ctx ty₁ r top n).0 n'
      item_fix (rec h ks) top n n' sp inner xs =
          item_fix_by (item_kind h.mark) h ks top n n' refl (λ x. parts_fix ks n n' sp.1 x) (λ e x. exported_fix ks h top n n' sp.1 e x) inner xs

      exported_fix : (rs : Recs) (h : Head) (top : Bool) (n n' : ℕ) → AllSpacesExportIds rs → item_kind h.mark ≡ i_export →
          AllExportIds (exported list ctx ty₁ rs h top n).0 → ItemsFix top (exported list ctx ty₁ rs h top n).0 n'
      exported_fix nil h top n n' sp e xs = exported-nil h top n' e
      exported_fix (cons d ops) h top n n' sp e xs = exported_decl_fix d h ops top n n' sp.0 e xs

      exported_decl_fix : (d : Rec) (h : Head) (ops : Recs) (top : Bool) (n n' : ℕ) → SpacesExportIds d → item_kind h.mark ≡ i_export →
          AllExportIds (exported_decl list ctx ty₁ d h ops top n).0 → ItemsFix top (exported_decl list ctx ty₁ d h ops top n).0 n'
      exported_decl_fix (rec dh ks) h ops top n n' sp e xs =
          export_fix (decl_kind dh.mark) h dh ks ops top n n' e refl (λ x. parts_fix ks n n' sp.1 x) xs

      parts_fix : (rs : Recs) (n n' : ℕ) → AllSpacesExportIds rs → AllExportIds (ns_parts list ctx ty₁ rs n).0 → PartsFix (ns_parts list ctx ty₁ rs n).0 n'
      parts_fix nil n n' sp xs = refl
      parts_fix (cons name rs) n n' sp xs = ap (cons name) (body_first_fix rs n n' sp.1 xs.1)

      body_first_fix : (rs : Recs) (n n' : ℕ) → AllSpacesExportIds rs → AllExportIds (ns_body_first list ctx ty₁ rs n).0 →
          (ns_body_first list ctx ty₂ (ns_body_first list ctx ty₁ rs n).0 n').0 ≡ (ns_body_first list ctx ty₁ rs n).0
      body_first_fix nil n n' sp xs = refl
      body_first_fix (cons b ops) n n' sp xs = ap (λ (x : Rec). cons x ops) (body_fix b n n' sp.0 xs.0)

      body_fix : (r : Rec) (n n' : ℕ) → SpacesExportIds r → ExportsIds (transform_ts_ns_body list ctx ty₁ r n).0 → BodyFix (transform_ts_ns_body list ctx ty₁ r n).0 n'
      body_fix (rec h ks) n n' sp xs =
          body_fix_by (body_kind h.mark) h ks n n' refl
          (λ e x. items_fix ks false n n' sp.1 (λ t. sp.0 (nb_mark h.mark e)) x) (λ x. parts_fix ks n n' sp.1 x) xs

    -- demand 3 on trees, for any two typings
    pub twice : (r : Rec) → SpacesExportIds r → ExportsIds (transform_by list ctx ty₁ r).0 →
        (transform_by list ctx ty₂ (transform_by list ctx ty₁ r).0).0 ≡ (transform_by list ctx ty₁ r).0
    unfolding transform_by
    twice (rec h ks) sp xs = ap (rec h) (items_fix ks true 0 0 sp.1 (λ t. absurd (true≢false t)) xs.1)
