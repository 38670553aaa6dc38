-- What the transform of a module makes fits: declarations, items, namespaces.
use mathlib.Core.Path.{◌≡◌, refl}
use mathlib.Core.List.{List, [], ◌∷◌, ◌++◌}
use mathlib.Core.Bool.{Bool, true, false, cond, ◌||◌}
use mathlib.Core.Option.{Option, none, some}
use Prim.Native.Nat.{ℕ, zero, suc, ◌+◌, ◌*◌, ◌≤◌, ◌<◌}
use native.Mathlib.Omega.{arith}
use lib.Dec.{eqb}
use lib.ListN.{length}
use Rattle.definition.specs.Tree.{Head, Rec, Recs, rec, nil, cons, count, head_size, encode}
use Rattle.definition.specs.Grammar.{mark}
use Rattle.definition.specs.Check.{longest_tree}
use Rattle.definition.specs.Counting.{records, all_records}
use Rattle.definition.specs.Record.{mark_of, is, is_no, dummy_sp, fresh, absent, ident, kid, set_kid, one, given, gone, diag, listed, flag1, Out, Typing, pure, on_value, single, wrap, each, at_kid, second}
use Rattle.definition.specs.Helpers.{any_type_ann}
use Rattle.definition.specs.Names.{gen_unique_name}
use Rattle.definition.specs.Typing.{or_any}
use Rattle.definition.specs.Classes.{type_or, handle_function, class}
use Rattle.definition.specs.Enums.{valid_enum_init_expr, enum_init, enum_member}
use Rattle.definition.specs.Items.{Item, i_kept, i_dropped, i_export, i_default, i_default_expr, i_decl, item_kind, Decl, d_class, d_fn, d_var, d_enum, d_module, d_using, d_type, decl_kind, Default, x_class, x_fn, x_other, default_kind, Body, b_block, b_nested, b_other, body_kind, declarator_type, declarator_pattern, declarator, body_part, without_body, const_of, default_typed, declared, export_of, stmt_of, decl_to_type_decl, transform_module_stmt, export_decl, export_default_decl, export_default_expr, item_by, body_by, transform_module_items, transform_module_item, exported, exported_decl, ns_parts, ns_body_first, transform_ts_ns_body}
use Rattle.definition.specs.Transform.{transform_by}
use Rattle.definition.proofs.Texts.{bytes-none}
use Rattle.definition.proofs.Fit.{weight, names, all_names, kid-names, Keys, AllKeys, kid_keys, Room, Sound, Fit, FitAll, Few, Given, Makes, one-made, none_made, at_most, fresh-sound, recount, reflag, flag1-fits, absent-fits, any-fits, over-two, ident-fits, kid-fits, set_kid-fits, join-fits, gone-fits, rehead, all-few, pure-makes, more, on_value-makes, if_m-makes, or_any-makes, Step, each_makes, at_kid-makes, wrap-makes, second-makes}
use Rattle.definition.proofs.FitClasses.{TypesFit, type_or-makes, each_in_makes, function-makes, class-makes}
use Rattle.definition.proofs.Counting.{records-bytes}
use Rattle.definition.proofs.ItemKinds.{xe-mark}

-- ---- never more names than records

weight-one : (m : ℕ) → weight m ≤ 1
weight-one m = go (eqb m (mark "Xe") || eqb m (mark "Ag"))
  where
    go : (b : Bool) → cond b 1 0 ≤ 1
    go true = omega arith
    go false = omega arith

mutual
  unfolding records

  pub names-records : (r : Rec) → names r ≤ records r
  names-records (rec h ks) = omega (arith, weight-one h.mark, all_names-all_records ks)

  all_names-all_records : (rs : Recs) → all_names rs ≤ all_records rs
  all_names-all_records nil = omega arith
  all_names-all_records (cons r rs) = omega (arith, names-records r, all_names-all_records rs)

xe-weight : (m : ℕ) → item_kind m ≡ i_default_expr → weight m ≡ 1
xe-weight m e = rw (xe-mark m e)

module _ (x : ℕ) where
  -- ---- enums, bodies

  enum_init-makes : Step x enum_init
  unfolding enum_init
  enum_init-makes r n g q l = pure-makes (go (is_no r || valid_enum_init_expr r))
    where
      go : (b : Bool) → Fit x (cond b r absent)
      go true = g
      go false = absent-fits x

  enum_member-makes : Step x enum_member
  unfolding enum_member
  enum_member-makes r n g q l = if_m-makes (is "Em" r) (second enum_init r) (pure r) (second-makes x enum_init enum_init-makes r n g q l) (pure-makes g)

  body_part-makes : (i : ℕ) → Step x (body_part i)
  body_part-makes zero r n g q l = pure-makes g
  body_part-makes (suc zero) r n g q l = pure-makes g
  body_part-makes (suc (suc zero)) r n g q l = pure-makes (gone-fits x r g)
  body_part-makes (suc (suc (suc i))) r n g q l = pure-makes g

  -- ---- the const of an Xe

  const_fits : (i : ℕ) (t : Rec) → i + 10 < 65536 → Fit x t → Fit x (const_of i t)
  const_fits i t l g =
      let name : Rec = ident dummy_sp (gen_unique_name i) in
      let p : Rec = rec (fresh "Bd" 0 []) (cons name (one t)) in
      let v : Fit x (rec (fresh "Vr" 0 []) (cons p (one absent))) =
      over-two x "Vr" refl 0 (omega arith) p absent (over-two x "Bd" refl 0 (omega arith) name t (ident-fits x i l) g) (absent-fits x) in
      (fresh-sound x "Vd" refl 3 (omega arith) [] (omega arith) bytes-none 1 (omega arith), (v, tt))

  -- an Xe with the type of its expression, if it holds one
  typed-fits : (h : Head) (ks : Recs) (i : ℕ) (o : Option Rec) → Fit x (rec h ks) → i + 10 < 65536 → Given (Fit x) o → (ks ≡ nil → o ≡ none) →
      Few x (suc (all_records ks)) (default_typed h ks i o)
  unfolding default_typed records
  typed-fits h ks i none g l t e = ((g, tt), omega arith)
  typed-fits h nil i (some t) g l f e = absurd (let p : ◌≡◌ {A = Option Rec} (some t) none = e refl in let z : ◌≡◌ {A = ℕ} 0 1 = cc in omega arith)
  typed-fits h (cons (rec h' ks') rs) i (some t) g l f e =
      let ks : Recs = cons (rec h' ks') rs in
      let made : Recs = set_kid 0 (ident dummy_sp (gen_unique_name i)) ks in
      let named : Fit x (rec h made) =
      rehead x h (count ks) made g.0 (set_kid-fits x 0 (ident dummy_sp (gen_unique_name i)) ks (count ks) (ident-fits x i l) (all-few x ks g.1)) in
      ((const_fits i t l f, (named, tt)), omega arith)

  -- ---- lists of one

  stmt_of_makes : (h : Head) (n w : ℕ) (o : Out (Option Rec)) → Makes (Given (Fit x)) n w o → Makes (Few x 1) n w (stmt_of h o)
  stmt_of_makes h n w o m = go o.0 m.value
    where
      go : (d : Option Rec) → Given (Fit x) d → Makes (Few x 1) n w (given d (nil, o.1 ++ (diag "d1" h ∷ []), o.2) (λ d. (one d, o.1, o.2)))
      go none g = record { value = (tt, omega arith); counter = m.counter }
      go (some d) g = record { value = one-made x d g; counter = m.counter }

  export_of_makes : (h : Head) (d : Rec) (ops : Recs) (n w : ℕ) (o : Out (Option Rec)) → Fit x (rec h (cons d ops)) → Makes (Given (Fit x)) n w o →
      Makes (Few x 1) n w (export_of h ops o)
  export_of_makes h d ops n w o g m = go o.0 m.value
    where
      go : (e : Option Rec) → Given (Fit x) e → Makes (Few x 1) n w (given e (nil, o.1 ++ (diag "d1" h ∷ []), o.2) (λ e. (one (rec h (cons e ops)), o.1, o.2)))
      go none f = record { value = (tt, omega arith); counter = m.counter }
      go (some e) f = record { value = one-made x (rec h (cons e ops)) (g.0, (f, g.1.1)); counter = m.counter }

  declared-sound : (top : Bool) (h : Head) (m : ℕ) → Sound x h m → Sound x (declared top h) m
  declared-sound top h m g = reflag x h (flag1 top h.flags) m (flag1-fits x top h.flags g.flags) g

module _ (x : ℕ) (ty : Typing) (fit : TypesFit x ty) (nothing : (a b : Bool) (n : ℕ) → (ty absent a b n).0 ≡ none) where
  -- ---- variables

  declarator_type-makes : (h : Head) (init : Rec) (n : ℕ) → Fit x init → Keys x init → Room n (names init) → Makes (Fit x) n (names init) (declarator_type ty h init n)
  declarator_type-makes h init n g q l =
      if_m-makes (is_no init) (λ n. (any_type_ann dummy_sp, diag "d2" h ∷ [], n)) (λ n. or_any (ty init false true n) (diag "d2" h ∷ []))
      (record { value = any-fits x; counter = omega arith }) (or_any-makes x (ty init false true n) (diag "d2" h ∷ []) (fit init false true n g q l))

  declarator_pattern-makes : (h : Head) (init p : Rec) (n : ℕ) → Fit x init → Keys x init → Fit x p → Room n (names init) →
      Makes (Fit x) n (names init) (declarator_pattern ty h init p n)
  unfolding declarator_pattern
  declarator_pattern-makes h init (rec ph ks) n g q k l =
      if_m-makes (is "Bd" (rec ph ks)) (λ n. wrap ph (at_kid 1 (type_or F) ks n)) (λ n. (rec ph ks, diag "d1" h ∷ [], n))
      (wrap-makes x ph (count ks) n _ (at_kid 1 (type_or F) ks n) k.0
      (at_kid-makes x 1 (type_or F) ks n _ k.1 (type_or-makes x F (kid 1 ks) n _ (kid-fits x 1 ks k.1) (declarator_type-makes ph init n g q l))))
      (record { value = k; counter = omega arith })
    where
      F : ℕ → Out Rec
      F = declarator_type ty ph init

  declarator-makes : Step x (declarator ty)
  unfolding declarator
  declarator-makes (rec h ks) n g q l =
      let init : Rec = kid 1 ks in
      let s : names init ≤ all_names ks = kid-names 1 ks in
      let i : Fit x init = kid-fits x 1 ks g.1 in
      if_m-makes (is "Vr" (rec h ks))
      (λ n. on_value (λ (ks : Recs). rec h (set_kid 1 (gone init) ks)) (at_kid 0 (declarator_pattern ty h init) ks n)) (pure (rec h ks))
      (on_value-makes (λ (ks : Recs). rec h (set_kid 1 (gone init) ks))
      (λ ks m. rehead x h _ (set_kid 1 (gone init) ks) g.0 (set_kid-fits x 1 (gone init) ks _ (gone-fits x init i) m))
      (at_kid-makes x 0 (declarator_pattern ty h init) ks n _ g.1
      (more (declarator_pattern-makes h init (kid 0 ks) n i (kid_keys x 1 ks q.1) (kid-fits x 0 ks g.1) (omega arith)) (omega arith))))
      (pure-makes g)

  without_body-makes : Step x without_body
  unfolding without_body
  without_body-makes r n g q l = each_in_makes x ty fit body_part (body_part-makes x) r n g q l

  module _ (list : List ℕ) (ctx : ℕ) where
    -- ---- declarations

    decl-makes : (k : Decl) (h : Head) (ks : Recs) (top : Bool) (ns : ℕ → Out Recs) (n : ℕ) → Fit x (rec h ks) → AllKeys x ks → Room n (all_names ks) →
        Makes (Few x (count ks)) n (all_names ks) (ns n) → Makes (Given (Fit x)) n (all_names ks) (decl_to_type_decl list ctx ty k h ks top ns n)
    unfolding decl_to_type_decl
    decl-makes d_class h ks top ns n g q l m =
        let s : names (kid 1 ks) ≤ all_names ks = kid-names 1 ks in
        on_value-makes some (λ r g. g)
        (wrap-makes x (declared top h) (count ks) n _ (at_kid 1 (class list ctx ty) ks n) (declared-sound x top h (count ks) g.0)
        (at_kid-makes x 1 (class list ctx ty) ks n _ g.1
        (more (class-makes x ty fit list ctx (kid 1 ks) n (kid-fits x 1 ks g.1) (kid_keys x 1 ks q) (omega arith)) s)))
    decl-makes d_fn h ks top ns n g q l m =
        let s : names (kid 1 ks) ≤ all_names ks = kid-names 1 ks in
        on_value-makes some (λ r g. g)
        (wrap-makes x (declared top h) (count ks) n _ (at_kid 1 (handle_function ty false) ks n) (declared-sound x top h (count ks) g.0)
        (at_kid-makes x 1 (handle_function ty false) ks n _ g.1
        (more (function-makes x ty fit false (kid 1 ks) n (kid-fits x 1 ks g.1) (kid_keys x 1 ks q) (omega arith)) s)))
    decl-makes d_var h ks top ns n g q l m =
        on_value-makes some (λ r g. g)
        (wrap-makes x (declared top h) (count ks) n _ (each (λ i. declarator ty) 0 ks n) (declared-sound x top h (count ks) g.0)
        (each_makes x (λ i. declarator ty) (λ i. declarator-makes) 0 ks n g.1 q l))
    decl-makes d_enum h ks top ns n g q l m =
        on_value-makes some (λ r g. g)
        (wrap-makes x (declared top h) (count ks) n _ (each (λ i. enum_member) 0 ks n) (declared-sound x top h (count ks) g.0)
        (each_makes x (λ i. enum_member) (λ i. enum_member-makes x) 0 ks n g.1 q l))
    decl-makes d_module h ks top ns n g q l m =
        on_value-makes some (λ r g. g) (wrap-makes x (declared top h) (count ks) n _ (ns n) (declared-sound x top h (count ks) g.0) m)
    decl-makes d_using h ks top ns n g q l m = record { value = tt; counter = omega arith }
    decl-makes d_type h ks top ns n g q l m = pure-makes g

    stmt_makes : (k : Decl) (h : Head) (ks : Recs) (top : Bool) (ns : ℕ → Out Recs) (n : ℕ) → Fit x (rec h ks) → AllKeys x ks → Room n (all_names ks) →
        Makes (Few x (count ks)) n (all_names ks) (ns n) → Makes (Few x 1) n (all_names ks) (transform_module_stmt list ctx ty k h ks top ns n)
    unfolding transform_module_stmt
    stmt_makes d_fn h ks top ns n g q l m =
        if_m-makes (listed list h) (pure nil) (λ n. stmt_of h (decl_to_type_decl list ctx ty d_fn h ks top ns n)) (none_made x 1 n _)
        (stmt_of_makes x h n _ _ (decl-makes d_fn h ks top ns n g q l m))
    stmt_makes d_class h ks top ns n g q l m = stmt_of_makes x h n _ _ (decl-makes d_class h ks top ns n g q l m)
    stmt_makes d_var h ks top ns n g q l m = stmt_of_makes x h n _ _ (decl-makes d_var h ks top ns n g q l m)
    stmt_makes d_enum h ks top ns n g q l m = stmt_of_makes x h n _ _ (decl-makes d_enum h ks top ns n g q l m)
    stmt_makes d_module h ks top ns n g q l m = stmt_of_makes x h n _ _ (decl-makes d_module h ks top ns n g q l m)
    stmt_makes d_using h ks top ns n g q l m = pure-makes (one-made x (rec h ks) g)
    stmt_makes d_type h ks top ns n g q l m = pure-makes (one-made x (rec h ks) g)

    export_makes : (k : Decl) (h dh : Head) (ks ops : Recs) (top : Bool) (ns : ℕ → Out Recs) (n : ℕ) → Fit x (rec h (cons (rec dh ks) ops)) → AllKeys x ks →
        Room n (all_names ks) → Makes (Few x (count ks)) n (all_names ks) (ns n) → Makes (Few x 1) n (all_names ks) (export_decl list ctx ty k h dh ks ops top ns n)
    unfolding export_decl
    export_makes d_fn h dh ks ops top ns n g q l m =
        if_m-makes (listed list h) (pure nil) (λ n. export_of h ops (decl_to_type_decl list ctx ty d_fn dh ks top ns n)) (none_made x 1 n _)
        (export_of_makes x h (rec dh ks) ops n _ _ g (decl-makes d_fn dh ks top ns n g.1.0 q l m))
    export_makes d_class h dh ks ops top ns n g q l m = export_of_makes x h (rec dh ks) ops n _ _ g (decl-makes d_class dh ks top ns n g.1.0 q l m)
    export_makes d_var h dh ks ops top ns n g q l m = export_of_makes x h (rec dh ks) ops n _ _ g (decl-makes d_var dh ks top ns n g.1.0 q l m)
    export_makes d_enum h dh ks ops top ns n g q l m = export_of_makes x h (rec dh ks) ops n _ _ g (decl-makes d_enum dh ks top ns n g.1.0 q l m)
    export_makes d_module h dh ks ops top ns n g q l m = export_of_makes x h (rec dh ks) ops n _ _ g (decl-makes d_module dh ks top ns n g.1.0 q l m)
    export_makes d_using h dh ks ops top ns n g q l m = export_of_makes x h (rec dh ks) ops n _ _ g (decl-makes d_using dh ks top ns n g.1.0 q l m)
    export_makes d_type h dh ks ops top ns n g q l m = export_of_makes x h (rec dh ks) ops n _ _ g (decl-makes d_type dh ks top ns n g.1.0 q l m)

    -- ---- Xd and Xe

    held-makes : (f : Rec → ℕ → Out Rec) → Step x f → (h : Head) (ks : Recs) (n : ℕ) → Fit x (rec h ks) → AllKeys x ks → Room n (all_names ks) →
        Makes (Few x 1) n (all_names ks) (single (wrap h (at_kid 0 (second f) ks n)))
    held-makes f st h ks n g q l =
        let s : names (kid 0 ks) ≤ all_names ks = kid-names 0 ks in
        on_value-makes one (λ r g. one-made x r g)
        (wrap-makes x h (count ks) n _ (at_kid 0 (second f) ks n) g.0
        (at_kid-makes x 0 (second f) ks n _ g.1 (more (second-makes x f st (kid 0 ks) n (kid-fits x 0 ks g.1) (kid_keys x 0 ks q) (omega arith)) s)))

    default-makes : (k : Default) (h : Head) (ks : Recs) (n : ℕ) → Fit x (rec h ks) → AllKeys x ks → Room n (all_names ks) →
        Makes (Few x 1) n (all_names ks) (export_default_decl list ctx ty k h ks n)
    unfolding export_default_decl
    default-makes x_class h ks n g q l = held-makes (class list ctx ty) (class-makes x ty fit list ctx) h ks n g q l
    default-makes x_fn h ks n g q l =
        if_m-makes (listed list h) (pure nil) (λ n. single (wrap h (at_kid 0 (second without_body) ks n))) (none_made x 1 n _) (held-makes without_body without_body-makes h ks n g q l)
    default-makes x_other h ks n g q l = pure-makes (one-made x (rec h ks) g)

    nothing-held : (ks : Recs) (n : ℕ) → ks ≡ nil → (ty (kid 0 ks) false true n).0 ≡ none
    nothing-held nil n e = nothing false true n
    nothing-held (cons r rs) n e = absurd (let z : ◌≡◌ {A = ℕ} 0 1 = cc in omega arith)

    expr_makes : (h : Head) (ks : Recs) (n w : ℕ) → w ≡ 1 → Fit x (rec h ks) → AllKeys x ks → Room n (w + all_names ks) →
        Makes (Few x (suc (all_records ks))) n (w + all_names ks) (export_default_expr list ctx ty h ks n)
    unfolding export_default_expr
    expr_makes h ks n w e g q l =
        let s : names (kid 0 ks) ≤ all_names ks = kid-names 0 ks in
        let t = fit (kid 0 ks) false true (suc n) (kid-fits x 0 ks g.1) (kid_keys x 0 ks q) (omega arith) in
        if_m-makes (is "Id" (kid 0 ks)) (pure (one (rec h ks))) (λ n. on_value (default_typed h ks (suc n)) (ty (kid 0 ks) false true (suc n)))
        (pure-makes ((g, tt), omega arith))
        (record {
          value = typed-fits x h ks (suc n) (ty (kid 0 ks) false true (suc n)).0 g (omega arith) t.value (nothing-held ks (suc n));
          counter = omega (arith, t.counter);
        })

    -- ---- items

    item_makes_by : (k : Item) (h : Head) (ks : Recs) (top : Bool) (ns export : ℕ → Out Recs) (n : ℕ) → item_kind h.mark ≡ k → Fit x (rec h ks) → AllKeys x ks →
        Room n (weight h.mark + all_names ks) → Makes (Few x (count ks)) n (all_names ks) (ns n) → Makes (Few x 1) n (all_names ks) (export n) →
        Makes (Few x (suc (all_records ks))) n (weight h.mark + all_names ks) (item_by list ctx ty k h ks top ns export n)
    unfolding item_by
    item_makes_by i_kept h ks top ns export n e g q l m o = pure-makes ((g, tt), omega arith)
    item_makes_by i_dropped h ks top ns export n e g q l m o = pure-makes (tt, omega arith)
    item_makes_by i_export h ks top ns export n e g q l m o = at_most x o (omega arith) (omega arith)
    item_makes_by i_default h ks top ns export n e g q l m o =
        at_most x (default-makes (default_kind (mark_of (kid 0 ks))) h ks n g q (omega arith)) (omega arith) (omega arith)
    item_makes_by i_default_expr h ks top ns export n e g q l m o = expr_makes h ks n (weight h.mark) (xe-weight h.mark e) g q l
    item_makes_by i_decl h ks top ns export n e g q l m o = at_most x (stmt_makes (decl_kind h.mark) h ks top ns n g q (omega arith) m) (omega arith) (omega arith)

    -- ---- the body of a namespace

    body_makes_by : (k : Body) (h : Head) (ks : Recs) (items parts : ℕ → Out Recs) (n : ℕ) → Fit x (rec h ks) → all_records ks < 65536 →
        Makes (Few x (all_records ks)) n (all_names ks) (items n) → Makes (Few x (count ks)) n (all_names ks) (parts n) →
        Makes (Fit x) n (all_names ks) (body_by list ctx ty k h ks items parts n)
    unfolding body_by
    body_makes_by b_block h ks items parts n g s m o = wrap-makes x h (all_records ks) n _ (items n) (recount x h (count ks) (all_records ks) g.0 s) m
    body_makes_by b_nested h ks items parts n g s m o = wrap-makes x h (count ks) n _ (parts n) g.0 o
    body_makes_by b_other h ks items parts n g s m o = pure-makes g

    -- ---- all of it

    mutual
      unfolding transform_module_items records

      items_make : (rs : Recs) (top : Bool) (n : ℕ) → FitAll x rs → AllKeys x rs → all_records rs < 65536 → Room n (all_names rs) →
          Makes (Few x (all_records rs)) n (all_names rs) (transform_module_items list ctx ty rs top n)
      items_make nil top n g q s l = none_made x 0 n 0
      items_make (cons r rs) top n g q s l =
          let a = item-makes r top n g.0 q.0 (omega arith) (omega arith) in
          let b = items_make rs top (transform_module_item list ctx ty r top n).2 g.1 q.1 (omega arith) (omega (arith, a.counter)) in
          record { value = join-fits x (transform_module_item list ctx ty r top n).0 _ (records r) (all_records rs) a.value b.value; counter = omega (arith, a.counter, b.counter) }

      item-makes : (r : Rec) (top : Bool) (n : ℕ) → Fit x r → Keys x r → records r < 65536 → Room n (names r) →
          Makes (Few x (records r)) n (names r) (transform_module_item list ctx ty r top n)
      item-makes (rec h ks) top n g q s l =
          item_makes_by (item_kind h.mark) h ks top _ _ n refl g q.1 l (parts_make ks n g.1 q.1 (omega arith) (omega arith))
          (exported-makes ks h top n g q.1 (omega arith) (omega arith))

      exported-makes : (rs : Recs) (h : Head) (top : Bool) (n : ℕ) → Fit x (rec h rs) → AllKeys x rs → all_records rs < 65536 → Room n (all_names rs) →
          Makes (Few x 1) n (all_names rs) (exported list ctx ty rs h top n)
      exported-makes nil h top n g q s l = pure-makes (one-made x (rec h nil) g)
      exported-makes (cons d ops) h top n g q s l = at_most x (exported_decl-makes d h ops top n g q.0 (omega arith) (omega arith)) (omega arith) (omega arith)

      exported_decl-makes : (d : Rec) (h : Head) (ops : Recs) (top : Bool) (n : ℕ) → Fit x (rec h (cons d ops)) → Keys x d → records d < 65536 → Room n (names d) →
          Makes (Few x 1) n (names d) (exported_decl list ctx ty d h ops top n)
      exported_decl-makes (rec dh ks) h ops top n g q s l =
          at_most x
          (export_makes (decl_kind dh.mark) h dh ks ops top _ n g q.1 (omega arith) (parts_make ks n g.1.0.1 q.1 (omega arith) (omega arith)))
          (omega arith) (omega arith)

      parts_make : (rs : Recs) (n : ℕ) → FitAll x rs → AllKeys x rs → all_records rs < 65536 → Room n (all_names rs) →
          Makes (Few x (count rs)) n (all_names rs) (ns_parts list ctx ty rs n)
      parts_make nil n g q s l = none_made x 0 n 0
      parts_make (cons name rs) n g q s l =
          on_value-makes (cons name) (λ ks m. ((g.0, m.0), omega (arith, m.1))) (more (body_first_makes rs n g.1 q.1 (omega arith) (omega arith)) (omega arith))

      body_first_makes : (rs : Recs) (n : ℕ) → FitAll x rs → AllKeys x rs → all_records rs < 65536 → Room n (all_names rs) →
          Makes (Few x (count rs)) n (all_names rs) (ns_body_first list ctx ty rs n)
      body_first_makes nil n g q s l = none_made x 0 n 0
      body_first_makes (cons b ops) n g q s l =
          on_value-makes (λ (b : Rec). cons b ops) (λ b m. ((m, g.1), omega arith)) (more (body-makes b n g.0 q.0 (omega arith) (omega arith)) (omega arith))

      body-makes : (b : Rec) (n : ℕ) → Fit x b → Keys x b → records b < 65536 → Room n (names b) → Makes (Fit x) n (names b) (transform_ts_ns_body list ctx ty b n)
      body-makes (rec h ks) n g q s l =
          more
          (body_makes_by (body_kind h.mark) h ks _ _ n g (omega arith) (items_make ks false n g.1 q.1 (omega arith) (omega arith))
          (parts_make ks n g.1 q.1 (omega arith) (omega arith)))
          (omega arith)

    -- a module of at most 524,288 bytes
    pub transform_by-fits : (r : Rec) → Fit x r → Keys x r → length (encode r) ≤ longest_tree → Fit x (transform_by list ctx ty r).0
    unfolding transform_by records
    transform_by-fits (rec h ks) g q l =
        let s : head_size * records (rec h ks) ≤ length (encode (rec h ks)) = records-bytes (rec h ks) in
        let w : names (rec h ks) ≤ records (rec h ks) = names-records (rec h ks) in
        let m = items_make ks true 0 g.1 q.1 (omega arith) (omega arith) in
        rehead x h (all_records ks) (transform_module_items list ctx ty ks true 0).0 (recount x h (count ks) (all_records ks) g.0 (omega arith)) m.value
