-- Something else in place of each Nd: the transform of such a module is the module's own, with the same in place of its Nds, where that is so of one
-- Nd (`replaced-agree`). So with the innermost Nb of each, as the Rust has it (`without_chains_agree`): what is known of trees without an Nd is
-- known of the others too.
use mathlib.Core.Path.{◌≡◌, refl, ap, ap₂, sym, ◌∙◌, fun_ext}
use mathlib.Core.List.{List, ◌++◌}
use mathlib.Core.Bool.{Bool, true, false, ◌||◌}
use mathlib.Core.Option.{Option, none, some}
use Prim.Native.Nat.{ℕ, suc}
use lib.Dec.{eqb}
use borrow.Author.Tests.{eqb-true, eq-eqb}
use Rattle.definition.specs.Tree.{Head, Rec, Recs, rec, nil, cons}
use Rattle.definition.specs.Grammar.{mark}
use Rattle.definition.specs.Record.{dummy_sp, ident, head_of, kids_of, is, kid, set_kid, one, join, Out, Typing, pure, if_m, on_value, wrap, listed}
use Rattle.definition.specs.Prescan.{Question, typeof_safe, non_generic_class, array_typed, declared_kind, add_decl_by, add_decl, add_item, asked, PrescannedModuleIds, prescan_module_ids}
use Rattle.definition.specs.Names.{gen_unique_name}
use Rattle.definition.specs.Typing.{expr_to_ts_type}
use Rattle.definition.specs.Items.{
  Item,
  i_kept,
  i_dropped,
  i_export,
  i_default,
  i_default_expr,
  i_decl,
  item_kind,
  Decl,
  d_class,
  d_fn,
  d_var,
  d_enum,
  d_module,
  d_using,
  d_type,
  decl_kind,
  Default,
  x_class,
  x_fn,
  x_other,
  body_kind,
  const_of,
  default_typed,
  declared,
  decl_to_type_decl,
  transform_module_stmt,
  export_decl,
  export_default_decl,
  export_default_expr,
  item_by,
  body_by,
  transform_module_items,
  transform_module_item,
  exported,
  exported_decl,
  ns_parts,
  ns_body_first,
  transform_ts_ns_body,
}
use Rattle.definition.specs.Transform.{transform_by, transform}
use Rattle.definition.specs.Dotted.{
  replaced_items,
  replaced_item,
  replaced_exported,
  replaced_decl,
  replaced_parts,
  replaced_first,
  replaced_body,
  replaced,
  innermost,
  without_chains,
}
use Rattle.definition.proofs.Tests.{never}
use Rattle.definition.proofs.ItemKinds.{ed_mark, space-becomes, export_becomes, exported-becomes, block-becomes, nested-becomes, other-becomes}

-- ---- kinds

-- an export is no namespace, and an Nd no block
no_space : (m : ℕ) → m ≡ mark "Ed" → eqb m (mark "Ns") ≡ false
no_space m e = rw e

no_block : (m : ℕ) → m ≡ mark "Nd" → eqb m (mark "Nb") ≡ false
no_block m e = rw e

-- two steps, one after the other
abbrev both : Out Recs → Out Recs → Out Recs
both a b = (join a.0 b.0, a.1 ++ b.1, b.2)

-- a namespace is nothing to the prescan
decl-adds : (q : Question) (name : List ℕ) (h : Head) (ks js : Recs) → h.mark ≡ mark "Ns" → add_decl q name (rec h js) ≡ add_decl q name (rec h ks)
unfolding declared_kind add_decl_by
decl-adds q name h ks js e = rw e refl

space-adds : (q : Question) (name : List ℕ) (h : Head) (ks js : Recs) → h.mark ≡ mark "Ns" → add_item q name (rec h js) ≡ add_item q name (rec h ks)
unfolding declared_kind add_decl_by
space-adds q name h ks js e = rw e refl

module _ (f : Head → Recs → Rec) where
  -- ---- what stands there instead, by the mark

  replaced-join : (xs ys : Recs) → replaced_items f (join xs ys) ≡ join (replaced_items f xs) (replaced_items f ys)
  unfolding replaced_items
  replaced-join nil ys = refl
  replaced-join (cons x xs) ys = ap (cons (replaced_item f x)) (replaced-join xs ys)

  module _ (h : Head) (ks : Recs) where
    replaced-space : h.mark ≡ mark "Ns" → replaced_item f (rec h ks) ≡ rec h (replaced_parts f ks)
    unfolding replaced_item
    replaced-space e = rw (eq-eqb _ _ e) refl

    replaced_export : h.mark ≡ mark "Ed" → replaced_item f (rec h ks) ≡ rec h (replaced_exported f ks)
    unfolding replaced_item
    replaced_export e = rw (no_space h.mark e, eq-eqb _ _ e) refl

    item-plain : eqb h.mark (mark "Ns") ≡ false → eqb h.mark (mark "Ed") ≡ false → replaced_item f (rec h ks) ≡ rec h ks
    unfolding replaced_item
    item-plain a b = rw (a, b) refl

    decl-space : h.mark ≡ mark "Ns" → replaced_decl f (rec h ks) ≡ rec h (replaced_parts f ks)
    unfolding replaced_decl
    decl-space e = rw (eq-eqb _ _ e) refl

    decl-plain : eqb h.mark (mark "Ns") ≡ false → replaced_decl f (rec h ks) ≡ rec h ks
    unfolding replaced_decl
    decl-plain a = rw a refl

    replaced-block : h.mark ≡ mark "Nb" → replaced_body f (rec h ks) ≡ rec h (replaced_items f ks)
    unfolding replaced_body
    replaced-block e = rw (eq-eqb _ _ e) refl

    replaced-nested : h.mark ≡ mark "Nd" → replaced_body f (rec h ks) ≡ f h (replaced_parts f ks)
    unfolding replaced_body
    replaced-nested e = rw (no_block h.mark e, eq-eqb _ _ e) refl

    body-plain : eqb h.mark (mark "Nb") ≡ false → eqb h.mark (mark "Nd") ≡ false → replaced_body f (rec h ks) ≡ rec h ks
    unfolding replaced_body
    body-plain a b = rw (a, b) refl

  -- ---- what stays as it is

  -- nothing, or what it would have been
  listing-plain : (l : Bool) (g : ℕ → Out Recs) (n : ℕ) → replaced_items f (g n).0 ≡ (g n).0 → replaced_items f (if_m l (pure nil) g n).0 ≡ (if_m l (pure nil) g n).0
  unfolding replaced_items
  listing-plain true g n e = refl
  listing-plain false g n e = e

  module _ (list : List ℕ) (ctx : ℕ) (ty : Typing) where
    -- the records that another item becomes
    module _ (h : Head) (ks : Recs) (top : Bool) (ns : ℕ → Out Recs) (n : ℕ) (a : eqb h.mark (mark "Ns") ≡ false) (b : eqb h.mark (mark "Ed") ≡ false) where
      one_plain : (ks : Recs) → replaced_items f (one (rec h ks)) ≡ one (rec h ks)
      unfolding replaced_items
      one_plain ks = ap one (item-plain h ks a b)

      declared-plain : (ks : Recs) → replaced_items f (one (rec (declared top h) ks)) ≡ one (rec (declared top h) ks)
      unfolding replaced_items
      declared-plain ks = ap one (item-plain (declared top h) ks a b)

      stmt_plain : (k : Decl) → replaced_items f (transform_module_stmt list ctx ty k h ks top ns n).0 ≡ (transform_module_stmt list ctx ty k h ks top ns n).0
      unfolding transform_module_stmt decl_to_type_decl replaced_items
      stmt_plain d_class = declared-plain _
      stmt_plain d_fn = listing-plain (listed list h) _ n (declared-plain _)
      stmt_plain d_var = declared-plain _
      stmt_plain d_enum = declared-plain _
      stmt_plain d_module = declared-plain _
      stmt_plain d_using = one_plain ks
      stmt_plain d_type = one_plain ks

      default-plain : (k : Default) → replaced_items f (export_default_decl list ctx ty k h ks n).0 ≡ (export_default_decl list ctx ty k h ks n).0
      unfolding export_default_decl
      default-plain x_class = one_plain _
      default-plain x_fn = listing-plain (listed list h) _ n (one_plain _)
      default-plain x_other = one_plain ks

      typed-plain : (i : ℕ) (t : Option Rec) → replaced_items f (default_typed h ks i t) ≡ default_typed h ks i t
      unfolding default_typed replaced_items
      typed-plain i none = one_plain ks
      typed-plain i (some t) = ap (cons (const_of i t)) (one_plain (set_kid 0 (ident dummy_sp (gen_unique_name i)) ks))

      expr_plain : replaced_items f (export_default_expr list ctx ty h ks n).0 ≡ (export_default_expr list ctx ty h ks n).0
      unfolding export_default_expr
      expr_plain = go (is "Id" (kid 0 ks))
        where
          go : (b : Bool) → replaced_items f (if_m b (pure (one (rec h ks))) (λ n. on_value (default_typed h ks (suc n)) (ty (kid 0 ks) false true (suc n))) n).0
              ≡ (if_m b (pure (one (rec h ks))) (λ n. on_value (default_typed h ks (suc n)) (ty (kid 0 ks) false true (suc n))) n).0
          go true = one_plain ks
          go false = typed-plain (suc n) _

      made_plain : (k : Item) → item_kind h.mark ≡ k → (export : ℕ → Out Recs) → replaced_items f (item_by list ctx ty k h ks top ns export n).0 ≡ (item_by list ctx ty k h ks top ns export n).0
      unfolding item_by replaced_items
      made_plain i_kept e export = one_plain ks
      made_plain i_dropped e export = refl
      made_plain i_export e export = absurd (never (sym b ∙ eq-eqb _ _ (ed_mark h.mark e)))
      made_plain i_default e export = default-plain _
      made_plain i_default_expr e export = expr_plain
      made_plain i_decl e export = stmt_plain _

    -- an export of what is no namespace
    module _ (h dh : Head) (ks ops : Recs) (top : Bool) (ns : ℕ → Out Recs) (n : ℕ) (e : h.mark ≡ mark "Ed") (a : eqb dh.mark (mark "Ns") ≡ false) where
      held_plain : (dh : Head) (ks : Recs) → eqb dh.mark (mark "Ns") ≡ false → replaced_items f (one (rec h (cons (rec dh ks) ops))) ≡ one (rec h (cons (rec dh ks) ops))
      unfolding replaced_items
      held_plain dh ks a = rw (no_space h.mark e, eq-eqb _ _ e, a) refl

      export_plain : (k : Decl) → replaced_items f (export_decl list ctx ty k h dh ks ops top ns n).0 ≡ (export_decl list ctx ty k h dh ks ops top ns n).0
      unfolding export_decl decl_to_type_decl replaced_items
      export_plain d_class = held_plain (declared top dh) _ a
      export_plain d_fn = listing-plain (listed list h) _ n (held_plain (declared top dh) _ a)
      export_plain d_var = held_plain (declared top dh) _ a
      export_plain d_enum = held_plain (declared top dh) _ a
      export_plain d_module = held_plain (declared top dh) _ a
      export_plain d_using = refl
      export_plain d_type = held_plain dh ks a

  -- ---- a step of what was replaced gives what the step gave, replaced

  -- that it is so of one Nd: its parts stand in what f made of it, and are transformed there
  abbrev pub Steps : Type 0
  Steps = (list : List ℕ) (ctx : ℕ) (ty : Typing) (h : Head) (ks : Recs) (n : ℕ) → transform_ts_ns_body list ctx ty (f h ks) n ≡ on_value (f h) (ns_parts list ctx ty ks n)

  module _ (steps : Steps) (list : List ℕ) (ctx : ℕ) (ty : Typing) where
    space-replaced : (h : Head) (ks : Recs) (top : Bool) (n : ℕ) → h.mark ≡ mark "Ns" → ns_parts list ctx ty (replaced_parts f ks) n ≡ on_value (replaced_parts f) (ns_parts list ctx ty ks n) →
        transform_module_item list ctx ty (replaced_item f (rec h ks)) top n ≡ on_value (replaced_items f) (transform_module_item list ctx ty (rec h ks) top n)
    unfolding replaced_items
    space-replaced h ks top n e p =
        ap (λ (r : Rec). transform_module_item list ctx ty r top n) (replaced-space h ks e)
        ∙ (space-becomes list ctx ty (rec h (replaced_parts f ks)) top n e
        ∙ (ap (on_value (λ (ks : Recs). one (rec (declared top h) ks))) p
        ∙ (ap (λ (r : Rec). on_value (λ (ks : Recs). one r) (ns_parts list ctx ty ks n)) (sym (replaced-space (declared top h) (ns_parts list ctx ty ks n).0 e))
        ∙ ap (on_value (replaced_items f)) (sym (space-becomes list ctx ty (rec h ks) top n e)))))

    export_replaced : (h : Head) (ks : Recs) (top : Bool) (n : ℕ) → h.mark ≡ mark "Ed" → exported list ctx ty (replaced_exported f ks) h top n ≡ on_value (replaced_items f) (exported list ctx ty ks h top n) →
        transform_module_item list ctx ty (replaced_item f (rec h ks)) top n ≡ on_value (replaced_items f) (transform_module_item list ctx ty (rec h ks) top n)
    export_replaced h ks top n e p =
        ap (λ (r : Rec). transform_module_item list ctx ty r top n) (replaced_export h ks e)
        ∙ (export_becomes list ctx ty (rec h (replaced_exported f ks)) top n e ∙ (p ∙ ap (on_value (replaced_items f)) (sym (export_becomes list ctx ty (rec h ks) top n e))))

    other-replaced : (h : Head) (ks : Recs) (top : Bool) (n : ℕ) → eqb h.mark (mark "Ns") ≡ false → eqb h.mark (mark "Ed") ≡ false →
        transform_module_item list ctx ty (replaced_item f (rec h ks)) top n ≡ on_value (replaced_items f) (transform_module_item list ctx ty (rec h ks) top n)
    unfolding transform_module_item
    other-replaced h ks top n a b =
        ap (λ (r : Rec). transform_module_item list ctx ty r top n) (item-plain h ks a b)
        ∙ ap (λ (rs : Recs). on_value (λ (x : Recs). rs) (transform_module_item list ctx ty (rec h ks) top n)) (sym (made_plain list ctx ty h ks top _ n a b (item_kind h.mark) refl _))

    held-replaced : (h dh : Head) (ks ops : Recs) (top : Bool) (n : ℕ) → h.mark ≡ mark "Ed" → dh.mark ≡ mark "Ns" →
        ns_parts list ctx ty (replaced_parts f ks) n ≡ on_value (replaced_parts f) (ns_parts list ctx ty ks n) →
        exported_decl list ctx ty (replaced_decl f (rec dh ks)) h ops top n ≡ on_value (replaced_items f) (exported_decl list ctx ty (rec dh ks) h ops top n)
    unfolding replaced_items
    held-replaced h dh ks ops top n e s p =
        ap (λ (d : Rec). exported_decl list ctx ty d h ops top n) (decl-space dh ks s)
        ∙ (exported-becomes list ctx ty (rec dh (replaced_parts f ks)) h ops top n s
        ∙ (ap (on_value (λ (ks : Recs). one (rec h (cons (rec (declared top dh) ks) ops)))) p
        ∙ (ap (λ (d : Rec). on_value (λ (ks : Recs). one (rec h (cons d ops))) (ns_parts list ctx ty ks n)) (sym (decl-space (declared top dh) (ns_parts list ctx ty ks n).0 s))
        ∙ (ap (λ (r : Rec). on_value (λ (ks : Recs). one r) (ns_parts list ctx ty ks n)) (sym (replaced_export h (cons (rec (declared top dh) (ns_parts list ctx ty ks n).0) ops) e))
        ∙ ap (on_value (replaced_items f)) (sym (exported-becomes list ctx ty (rec dh ks) h ops top n s))))))

    other_held_replaced : (h dh : Head) (ks ops : Recs) (top : Bool) (n : ℕ) → h.mark ≡ mark "Ed" → eqb dh.mark (mark "Ns") ≡ false →
        exported_decl list ctx ty (replaced_decl f (rec dh ks)) h ops top n ≡ on_value (replaced_items f) (exported_decl list ctx ty (rec dh ks) h ops top n)
    unfolding exported_decl
    other_held_replaced h dh ks ops top n e a =
        ap (λ (d : Rec). exported_decl list ctx ty d h ops top n) (decl-plain dh ks a)
        ∙ ap (λ (rs : Recs). on_value (λ (x : Recs). rs) (exported_decl list ctx ty (rec dh ks) h ops top n)) (sym (export_plain list ctx ty h dh ks ops top _ n e a (decl_kind dh.mark)))

    block-replaced : (h : Head) (ks : Recs) (n : ℕ) → h.mark ≡ mark "Nb" → transform_module_items list ctx ty (replaced_items f ks) false n ≡ on_value (replaced_items f) (transform_module_items list ctx ty ks false n) →
        transform_ts_ns_body list ctx ty (replaced_body f (rec h ks)) n ≡ on_value (replaced_body f) (transform_ts_ns_body list ctx ty (rec h ks) n)
    block-replaced h ks n e p =
        ap (λ (b : Rec). transform_ts_ns_body list ctx ty b n) (replaced-block h ks e)
        ∙ (block-becomes list ctx ty (rec h (replaced_items f ks)) n e
        ∙ (ap (wrap h) p
        ∙ (ap (λ (b : Rec). on_value (λ (ks : Recs). b) (transform_module_items list ctx ty ks false n)) (sym (replaced-block h (transform_module_items list ctx ty ks false n).0 e))
        ∙ ap (on_value (replaced_body f)) (sym (block-becomes list ctx ty (rec h ks) n e)))))

    nested-replaced : (h : Head) (ks : Recs) (n : ℕ) → h.mark ≡ mark "Nd" → ns_parts list ctx ty (replaced_parts f ks) n ≡ on_value (replaced_parts f) (ns_parts list ctx ty ks n) →
        transform_ts_ns_body list ctx ty (replaced_body f (rec h ks)) n ≡ on_value (replaced_body f) (transform_ts_ns_body list ctx ty (rec h ks) n)
    nested-replaced h ks n e p =
        ap (λ (b : Rec). transform_ts_ns_body list ctx ty b n) (replaced-nested h ks e)
        ∙ (steps list ctx ty h (replaced_parts f ks) n
        ∙ (ap (on_value (f h)) p
        ∙ (ap (λ (b : Rec). on_value (λ (ks : Recs). b) (ns_parts list ctx ty ks n)) (sym (replaced-nested h (ns_parts list ctx ty ks n).0 e))
        ∙ ap (on_value (replaced_body f)) (sym (nested-becomes list ctx ty (rec h ks) n e)))))

    other_body_replaced : (h : Head) (ks : Recs) (n : ℕ) → eqb h.mark (mark "Nb") ≡ false → eqb h.mark (mark "Nd") ≡ false →
        transform_ts_ns_body list ctx ty (replaced_body f (rec h ks)) n ≡ on_value (replaced_body f) (transform_ts_ns_body list ctx ty (rec h ks) n)
    other_body_replaced h ks n a b =
        ap (λ (b : Rec). transform_ts_ns_body list ctx ty b n) (body-plain h ks a b)
        ∙ (other-becomes list ctx ty (rec h ks) n a b ∙ (ap (λ (b : Rec). pure b n) (sym (body-plain h ks a b)) ∙ ap (on_value (replaced_body f)) (sym (other-becomes list ctx ty (rec h ks) n a b))))

    mutual
      unfolding replaced_items transform_module_items

      items-replaced : (rs : Recs) (top : Bool) (n : ℕ) → transform_module_items list ctx ty (replaced_items f rs) top n ≡ on_value (replaced_items f) (transform_module_items list ctx ty rs top n)
      items-replaced nil top n = refl
      items-replaced (cons r rs) top n =
          let a : Out Recs = transform_module_item list ctx ty r top n in
          let b : Out Recs = transform_module_items list ctx ty rs top a.2 in
          ap (λ (o : Out Recs). both o (transform_module_items list ctx ty (replaced_items f rs) top o.2)) (item-replaced r top n)
          ∙ (ap (both (on_value (replaced_items f) a)) (items-replaced rs top a.2) ∙ ap (λ (ks : Recs). (ks, a.1 ++ b.1, b.2)) (sym (replaced-join a.0 b.0)))

      item-replaced : (r : Rec) (top : Bool) (n : ℕ) → transform_module_item list ctx ty (replaced_item f r) top n ≡ on_value (replaced_items f) (transform_module_item list ctx ty r top n)
      item-replaced (rec h ks) top n = go (eqb h.mark (mark "Ns")) (eqb h.mark (mark "Ed")) refl refl (parts-replaced ks n) (λ e. exported-replaced ks h top n e)
        where
          go : (a b : Bool) → eqb h.mark (mark "Ns") ≡ a → eqb h.mark (mark "Ed") ≡ b
              → ns_parts list ctx ty (replaced_parts f ks) n ≡ on_value (replaced_parts f) (ns_parts list ctx ty ks n)
              → (h.mark ≡ mark "Ed" → exported list ctx ty (replaced_exported f ks) h top n ≡ on_value (replaced_items f) (exported list ctx ty ks h top n))
              → transform_module_item list ctx ty (replaced_item f (rec h ks)) top n ≡ on_value (replaced_items f) (transform_module_item list ctx ty (rec h ks) top n)
          go true b p q x y = space-replaced h ks top n (eqb-true _ _ p) x
          go false true p q x y = export_replaced h ks top n (eqb-true _ _ q) (y (eqb-true _ _ q))
          go false false p q x y = other-replaced h ks top n p q

      exported-replaced : (ks : Recs) (h : Head) (top : Bool) (n : ℕ) → h.mark ≡ mark "Ed" → exported list ctx ty (replaced_exported f ks) h top n ≡ on_value (replaced_items f) (exported list ctx ty ks h top n)
      exported-replaced nil h top n e = ap (λ (r : Rec). pure (one r) n) (sym (replaced_export h nil e))
      exported-replaced (cons d ops) h top n e = decl-replaced d h ops top n e

      decl-replaced : (d : Rec) (h : Head) (ops : Recs) (top : Bool) (n : ℕ) → h.mark ≡ mark "Ed" → exported_decl list ctx ty (replaced_decl f d) h ops top n ≡ on_value (replaced_items f) (exported_decl list ctx ty d h ops top n)
      decl-replaced (rec dh ks) h ops top n e = go (eqb dh.mark (mark "Ns")) refl (parts-replaced ks n)
        where
          go : (a : Bool) → eqb dh.mark (mark "Ns") ≡ a → ns_parts list ctx ty (replaced_parts f ks) n ≡ on_value (replaced_parts f) (ns_parts list ctx ty ks n)
              → exported_decl list ctx ty (replaced_decl f (rec dh ks)) h ops top n ≡ on_value (replaced_items f) (exported_decl list ctx ty (rec dh ks) h ops top n)
          go true p x = held-replaced h dh ks ops top n e (eqb-true _ _ p) x
          go false p x = other_held_replaced h dh ks ops top n e p

      parts-replaced : (ks : Recs) (n : ℕ) → ns_parts list ctx ty (replaced_parts f ks) n ≡ on_value (replaced_parts f) (ns_parts list ctx ty ks n)
      parts-replaced nil n = refl
      parts-replaced (cons name rs) n = ap (on_value (cons name)) (first-replaced rs n)

      first-replaced : (ks : Recs) (n : ℕ) → ns_body_first list ctx ty (replaced_first f ks) n ≡ on_value (replaced_first f) (ns_body_first list ctx ty ks n)
      first-replaced nil n = refl
      first-replaced (cons b ops) n = ap (on_value (λ (b : Rec). cons b ops)) (body-replaced b n)

      body-replaced : (b : Rec) (n : ℕ) → transform_ts_ns_body list ctx ty (replaced_body f b) n ≡ on_value (replaced_body f) (transform_ts_ns_body list ctx ty b n)
      body-replaced (rec h ks) n = go (eqb h.mark (mark "Nb")) (eqb h.mark (mark "Nd")) refl refl (items-replaced ks false n) (parts-replaced ks n)
        where
          go : (a b : Bool) → eqb h.mark (mark "Nb") ≡ a → eqb h.mark (mark "Nd") ≡ b
              → transform_module_items list ctx ty (replaced_items f ks) false n ≡ on_value (replaced_items f) (transform_module_items list ctx ty ks false n)
              → ns_parts list ctx ty (replaced_parts f ks) n ≡ on_value (replaced_parts f) (ns_parts list ctx ty ks n)
              → transform_ts_ns_body list ctx ty (replaced_body f (rec h ks)) n ≡ on_value (replaced_body f) (transform_ts_ns_body list ctx ty (rec h ks) n)
          go true b p q x y = block-replaced h ks n (eqb-true _ _ p) x
          go false true p q x y = nested-replaced h ks n (eqb-true _ _ q) y
          go false false p q x y = other_body_replaced h ks n p q

  -- ---- a module

  export_adds : (q : Question) (name : List ℕ) (h : Head) (ks : Recs) → h.mark ≡ mark "Ed" → add_item q name (rec h (replaced_exported f ks)) ≡ add_item q name (rec h ks)
  unfolding declared_kind add_decl_by replaced_exported
  export_adds q name h nil e = refl
  export_adds q name h (cons (rec dh ks) ops) e = rw (eq-eqb _ _ e) (go (eqb dh.mark (mark "Ns")) refl)
    where
      go : (a : Bool) → eqb dh.mark (mark "Ns") ≡ a → add_decl q name (replaced_decl f (rec dh ks)) ≡ add_decl q name (rec dh ks)
      go true p = ap (add_decl q name) (decl-space dh ks (eqb-true _ _ p)) ∙ decl-adds q name dh ks (replaced_parts f ks) (eqb-true _ _ p)
      go false p = ap (add_decl q name) (decl-plain dh ks p)

  added-replaced : (q : Question) (name : List ℕ) (r : Rec) → add_item q name (replaced_item f r) ≡ add_item q name r
  added-replaced q name (rec h ks) = go (eqb h.mark (mark "Ns")) (eqb h.mark (mark "Ed")) refl refl
    where
      go : (a b : Bool) → eqb h.mark (mark "Ns") ≡ a → eqb h.mark (mark "Ed") ≡ b → add_item q name (replaced_item f (rec h ks)) ≡ add_item q name (rec h ks)
      go true b p r = ap (add_item q name) (replaced-space h ks (eqb-true _ _ p)) ∙ space-adds q name h ks (replaced_parts f ks) (eqb-true _ _ p)
      go false true p r = ap (add_item q name) (replaced_export h ks (eqb-true _ _ r)) ∙ export_adds q name h ks (eqb-true _ _ r)
      go false false p r = ap (add_item q name) (item-plain h ks p r)

  asked-replaced : (q : Question) (rs : Recs) (name : List ℕ) → asked q (replaced_items f rs) name ≡ asked q rs name
  unfolding asked replaced_items
  asked-replaced q nil name = refl
  asked-replaced q (cons r rs) name = ap₂ ◌||◌ (added-replaced q name r) (asked-replaced q rs name)

  prescan_replaced : (rs : Recs) → prescan_module_ids (replaced_items f rs) ≡ prescan_module_ids rs
  prescan_replaced rs =
      let us : Recs = replaced_items f rs in
      ap (λ (x : List ℕ → Bool). record { typeof_safe = x; non_generic_classes = asked non_generic_class us; array_typed = asked array_typed us }) (fun_ext (asked-replaced typeof_safe rs))
      ∙ (ap (λ (x : List ℕ → Bool). record { typeof_safe = asked typeof_safe rs; non_generic_classes = x; array_typed = asked array_typed us }) (fun_ext (asked-replaced non_generic_class rs))
      ∙ ap (λ (x : List ℕ → Bool). record { typeof_safe = asked typeof_safe rs; non_generic_classes = asked non_generic_class rs; array_typed = x }) (fun_ext (asked-replaced array_typed rs)))

  -- with the same diagnostics, in order, and as many made names
  pub replaced-agree : Steps → (list : List ℕ) (ctx : ℕ) (r : Rec) → transform list ctx (replaced f r) ≡ on_value (replaced f) (transform list ctx r)
  unfolding transform transform_by
  replaced-agree steps list ctx r =
      ap (λ (ids : PrescannedModuleIds). wrap (head_of r) (transform_module_items list ctx (expr_to_ts_type ids ctx) (replaced_items f (kids_of r)) true 0)) (prescan_replaced (kids_of r))
      ∙ ap (wrap (head_of r)) (items-replaced steps list ctx (expr_to_ts_type (prescan_module_ids (kids_of r)) ctx) (kids_of r) true 0)

-- ---- the innermost Nb

innermost_steps : Steps innermost
unfolding transform_module_items body_by body_kind
innermost_steps list ctx ty h nil n = refl
innermost_steps list ctx ty h (cons name nil) n = refl
innermost_steps list ctx ty h (cons name (cons b ops)) n = refl

-- "the Rust's answer to the tree whose Nd chain is cut out": cut out of the tree or of what it becomes, it is the same
pub without_chains_agree : (list : List ℕ) (ctx : ℕ) (r : Rec) → transform list ctx (without_chains r) ≡ on_value without_chains (transform list ctx r)
without_chains_agree list ctx r = replaced-agree innermost innermost_steps list ctx r
