-- No member of an object literal of a module is left out in silence: the diagnostics of whatever the transform types are among those that it gives.
use mathlib.Core.Path.{◌≡◌, refl, ap}
use mathlib.Core.List.{List, [], ◌∷◌}
use mathlib.Core.Bool.{Bool, true, false, ◌||◌}
use mathlib.Core.Option.{Option, none, some}
use Prim.Native.Nat.{ℕ, suc}
use native.Mathlib.Omega.{arith}
use lib.Dec.{eqb}
use borrow.Author.Tests.{eqb-true, ne_eqb}
use mathlib.Core.Logic.{◌⊎◌, inl, inr, ⊎_elim}
use Rattle.definition.specs.Tree.{Head, Rec, Recs, rec, nil, cons}
use Rattle.definition.specs.Grammar.{mark, marks, member}
use Rattle.definition.specs.Record.{head_of, kids_of, mark_of, among, is_no, dummy_sp, Diag, diag, listed, Out, Typing, each, flat, second, text, fresh, ident, absent, one}
use Rattle.definition.specs.Prescan.{prescan_module_ids}
use Rattle.definition.specs.Typing.{element_kind, expr_to_ts_type}
use Rattle.definition.specs.Classes.{
  p_box,
  pattern_kind,
  handle_func_param_assign,
  handle_pattern_by,
  handle_pattern,
  handle_func_param,
  function_part,
  handle_function,
  constructor_part,
  constructor,
  method,
  class_prop,
  m_constructor,
  m_method,
  m_prop,
  member_kind,
  member_by,
  class_body_to_type,
  class,
}
use Rattle.definition.specs.Items.{i_decl, item_kind, Decl, d_class, d_fn, d_var, d_module, decl_kind, default_kind, declarator_pattern, declarator, export_of, stmt_of, decl_to_type_decl, transform_module_stmt, export_decl, export_default_decl, export_default_expr, item_by, transform_module_items, transform_module_item, ns_parts, transform_ts_ns_body}
use Rattle.definition.specs.Transform.{transform_by, transform}
use Rattle.definition.specs.Silence.{OneOf, here, there, Piece, Given, Told, now, Meets}
use Rattle.definition.specs.Typed.{InPattern, InParam, InFunction, InMember, InClass, InDecl, InBody, InItem}
use Rattle.definition.proofs.ItemKinds.{kind_export, block-becomes, nested-becomes}
use Rattle.definition.proofs.Silence.{piece-whole, piece-left, piece-right, piece_of, or_any-piece, told_more, no_silence}

-- one of two marks
pub either : (m a b : ℕ) → member m (a ∷ b ∷ []) ≡ true → (m ≡ a) ⊎ (m ≡ b)
unfolding member
either m a b e = go (eqb m a) (eqb m b) refl refl
  where
    go : (x y : Bool) → eqb m a ≡ x → eqb m b ≡ y → (m ≡ a) ⊎ (m ≡ b)
    go true y p q = inl (eqb-true m a p)
    go false true p q = inr (eqb-true m b q)
    go false false p q = absurd (let z : false ≡ true = rw (p, q) at e in let y : ◌≡◌ {A = ℕ} 0 1 = cc in omega arith)

box-kind : (m : ℕ) → among "Pb Po" m ≡ true → pattern_kind m ≡ p_box
unfolding pattern_kind marks
box-kind m e = ⊎_elim (λ q. rw q) (λ q. rw q) (either m (mark "Pb") (mark "Po") e)

param_test : (m : ℕ) → among "Pa Pp" m ≡ true → (eqb m (mark "Pa") || eqb m (mark "Pp")) ≡ true
unfolding marks
param_test m e = ⊎_elim (λ q. rw q) (λ q. rw q) (either m (mark "Pa") (mark "Pp") e)

pub member_co : (m : ℕ) → m ≡ mark "Co" → member_kind m ≡ m_constructor
unfolding member_kind
member_co m e = rw e

pub member_me : (m : ℕ) → m ≡ mark "Me" → member_kind m ≡ m_method
unfolding member_kind
member_me m e = rw e

member_cp : (m : ℕ) → m ≡ mark "Cp" → member_kind m ≡ m_prop
unfolding member_kind
member_cp m e = rw e

module _ (ty : Typing) where
  -- the diagnostics of some typing of e are among ds
  record Heard (e : Rec) (r : Bool) (ds : List Diag) : Type 0 where
    counter : ℕ
    piece : Piece (ty e false r counter).1 ds

  heard-more : {e : Rec} {r : Bool} {ds es : List Diag} → Heard e r ds → Piece ds es → Heard e r es
  heard-more h p = record { counter = h.counter; piece = piece_of h.piece p }

  -- ---- parameters

  in_pattern : {e p : Rec} → InPattern e p → (n : ℕ) → Heard e false (handle_pattern ty p n).1
  unfolding handle_pattern_by pattern_kind handle_func_param_assign
  in_pattern {e} (InPattern.name a b t) n = record { counter = n; piece = rw (a, b, t) (or_any-piece (ty e false false n) (diag "d2" (head_of e) ∷ [])) }
  in_pattern {e} (InPattern.box {ph} {bh} a b t) n =
      record { counter = n; piece = rw a (rw (box-kind bh.mark b, t) (or_any-piece (ty e false false n) (diag "d2" (head_of e) ∷ []))) }

  in_param : {e q : Rec} → InParam e q → (n : ℕ) → Heard e false (handle_func_param ty q n).1
  unfolding handle_func_param
  in_param (InParam.param {h} m p) n = rw (param_test h.mark m) (in_pattern p n)

  -- the parameters of a function, and of a constructor
  function-piece : {q : Rec} {ks : Recs} → OneOf q ks → (setter : Bool) (i n : ℕ) →
      (m : ℕ) × Piece (handle_func_param ty q m).1 (each (function_part ty setter) (suc (suc (suc i))) ks n).1
  unfolding each function_part
  function-piece here setter i n = (n, piece-left _ (piece-whole _))
  function-piece (there {q} k) setter i n =
      let rest = function-piece k setter (suc i) (handle_func_param ty q n).2 in
      (rest.0, piece-right (handle_func_param ty q n).1 rest.1)

  constructor-piece : {q : Rec} {ks : Recs} → OneOf q ks → (i n : ℕ) → (m : ℕ) × Piece (handle_func_param ty q m).1 (each (constructor_part ty) (suc i) ks n).1
  unfolding each constructor_part
  constructor-piece here i n = (n, piece-left _ (piece-whole _))
  constructor-piece (there {q} k) i n =
      let rest = constructor-piece k (suc i) (handle_func_param ty q n).2 in
      (rest.0, piece-right (handle_func_param ty q n).1 rest.1)

  in_function : {e f : Rec} → InFunction e f → (setter : Bool) (n : ℕ) → Heard e false (handle_function ty setter f n).1
  unfolding handle_function each function_part
  in_function (InFunction.function i p) setter n =
      let a = function-piece i setter 0 n in
      heard-more (in_param p a.0) a.1

  -- ---- members of classes

  flat-piece : (f : Rec → ℕ → Out Recs) {q : Rec} {ks : Recs} → OneOf q ks → (n : ℕ) → (m : ℕ) × Piece (f q m).1 (flat f ks n).1
  unfolding flat
  flat-piece f here n = (n, piece-left _ (piece-whole _))
  flat-piece f (there {q} k) n =
      let rest = flat-piece f k (f q n).2 in
      (rest.0, piece-right (f q n).1 rest.1)

  module _ (list : List ℕ) (ctx : ℕ) where
    in_member : {e m : Rec} → InMember list ctx e m → (n : ℕ) → Heard e false (Rattle.definition.specs.Classes.member list ctx ty m n).1
    unfolding member_by constructor each constructor_part method class_prop
    in_member (InMember.constructor {h} k l i p) n =
        let a = constructor-piece i 0 n in
        rw (member_co h.mark k, l) (heard-more (in_param p a.0) a.1)
    in_member (InMember.method {h} key k l v f) n = rw (member_me h.mark k, l, v) (in_function f _ n)
    in_member {e} (InMember.property {h} key k v t p) n =
        record { counter = n; piece = rw (member_cp h.mark k, v, p, t) (or_any-piece (ty e false false n) []) }

    in_class : {e c : Rec} → InClass list ctx e c → (n : ℕ) → Heard e false (class list ctx ty c n).1
    unfolding class class_body_to_type
    in_class (InClass.class i m) n =
        let a = flat-piece (Rattle.definition.specs.Classes.member list ctx ty) i n in
        heard-more (in_member m a.0) a.1

    -- ---- declarations and items

    declarator-piece : {q : Rec} {ks : Recs} → OneOf q ks → (i n : ℕ) → (m : ℕ) × Piece (declarator ty q m).1 (each (λ i. declarator ty) i ks n).1
    unfolding each
    declarator-piece here i n = (n, piece-left _ (piece-whole _))
    declarator-piece (there {q} k) i n =
        let rest = declarator-piece k (suc i) (declarator ty q n).2 in
        (rest.0, piece-right (declarator ty q n).1 rest.1)

    in_declarator : (e : Rec) (vh bh : Head) (i t : Rec) (ops more : Recs) → vh.mark ≡ mark "Vr" → bh.mark ≡ mark "Bd" → is_no t ≡ true → is_no e ≡ false →
        (n : ℕ) → Piece (ty e false true n).1 (declarator ty (rec vh (cons (rec bh (cons i (cons t ops))) (cons e more))) n).1
    unfolding declarator declarator_pattern
    in_declarator e vh bh i t ops more v b a p n = rw (v, b, a, p) (or_any-piece (ty e false true n) (diag "d2" bh ∷ []))

    -- a statement, or an export, with what its declaration gives
    stmt_piece : (h : Head) (o : Out (Option Rec)) → Piece o.1 (stmt_of h o).1
    stmt_piece h o = go o.0 o.1 o.2
      where
        go : (x : Option Rec) (l : List Diag) (m : ℕ) → Piece l (stmt_of h (x, l, m)).1
        go none l m = piece-left _ (piece-whole l)
        go (some d) l m = piece-whole l

    export_piece : (h : Head) (ops : Recs) (o : Out (Option Rec)) → Piece o.1 (export_of h ops o).1
    export_piece h ops o = go o.0 o.1 o.2
      where
        go : (x : Option Rec) (l : List Diag) (m : ℕ) → Piece l (export_of h ops (x, l, m)).1
        go none l m = piece-left _ (piece-whole l)
        go (some d) l m = piece-whole l

    -- the declarations in which something is typed
    data TypedDecl : Decl → Type 0 where
      t_class : TypedDecl d_class
      t_function : TypedDecl d_fn
      t_variable : TypedDecl d_var
      t_namespace : TypedDecl d_module

    module _ (h : Head) (ks : Recs) (top : Bool) (ns : ℕ → Out Recs) (n : ℕ) where
      stmt_says : {k : Decl} → TypedDecl k → (k ≡ d_fn → listed list h ≡ false) →
          Piece (decl_to_type_decl list ctx ty k h ks top ns n).1 (transform_module_stmt list ctx ty k h ks top ns n).1
      unfolding transform_module_stmt
      stmt_says t_class f = stmt_piece h (decl_to_type_decl list ctx ty d_class h ks top ns n)
      stmt_says t_function f = let l : listed list h ≡ false = f refl in rw l (stmt_piece h (decl_to_type_decl list ctx ty d_fn h ks top ns n))
      stmt_says t_variable f = stmt_piece h (decl_to_type_decl list ctx ty d_var h ks top ns n)
      stmt_says t_namespace f = stmt_piece h (decl_to_type_decl list ctx ty d_module h ks top ns n)

      export_says : {k : Decl} (eh : Head) (ops : Recs) → TypedDecl k → (k ≡ d_fn → listed list eh ≡ false) →
          Piece (decl_to_type_decl list ctx ty k h ks top ns n).1 (export_decl list ctx ty k eh h ks ops top ns n).1
      unfolding export_decl
      export_says eh ops t_class f = export_piece eh ops (decl_to_type_decl list ctx ty d_class h ks top ns n)
      export_says eh ops t_function f = let l : listed list eh ≡ false = f refl in rw l (export_piece eh ops (decl_to_type_decl list ctx ty d_fn h ks top ns n))
      export_says eh ops t_variable f = export_piece eh ops (decl_to_type_decl list ctx ty d_var h ks top ns n)
      export_says eh ops t_namespace f = export_piece eh ops (decl_to_type_decl list ctx ty d_module h ks top ns n)

    -- what the mark of such a declaration says of its kinds
    record Marked (m : ℕ) : Type 0 where
      item : item_kind m ≡ i_decl
      decl : TypedDecl (decl_kind m)
      function : decl_kind m ≡ d_fn → m ≡ mark "Fd"

    marked : {e d : Rec} {r : Bool} → InDecl list ctx e r d → Marked (mark_of d)
    unfolding item_kind decl_kind
    marked (InDecl.class k c) = rw k (record { item = refl; decl = t_class; function = λ z. cc })
    marked (InDecl.function k c) = rw k (record { item = refl; decl = t_function; function = λ z. refl })
    marked (InDecl.variable vh bh i t ops more k a b c d e) = rw k (record { item = refl; decl = t_variable; function = λ z. cc })
    marked (InDecl.namespace k c) = rw k (record { item = refl; decl = t_namespace; function = λ z. cc })

    -- what a record gives is what its part gives
    class-says : (h : Head) (i cl : Rec) (ops : Recs) (top : Bool) (ns : ℕ → Out Recs) (n : ℕ) → h.mark ≡ mark "Cd" →
        (decl_to_type_decl list ctx ty (decl_kind h.mark) h (cons i (cons cl ops)) top ns n).1 ≡ (class list ctx ty cl n).1
    unfolding decl_to_type_decl decl_kind
    class-says h i cl ops top ns n e = ap (λ (m : ℕ). (decl_to_type_decl list ctx ty (decl_kind m) h (cons i (cons cl ops)) top ns n).1) e

    function-says : (h : Head) (i f : Rec) (ops : Recs) (top : Bool) (ns : ℕ → Out Recs) (n : ℕ) → h.mark ≡ mark "Fd" →
        (decl_to_type_decl list ctx ty (decl_kind h.mark) h (cons i (cons f ops)) top ns n).1 ≡ (handle_function ty false f n).1
    unfolding decl_to_type_decl decl_kind
    function-says h i f ops top ns n e = ap (λ (m : ℕ). (decl_to_type_decl list ctx ty (decl_kind m) h (cons i (cons f ops)) top ns n).1) e

    variable-says : (h : Head) (ks : Recs) (top : Bool) (ns : ℕ → Out Recs) (n : ℕ) → h.mark ≡ mark "Vd" →
        (decl_to_type_decl list ctx ty (decl_kind h.mark) h ks top ns n).1 ≡ (each (λ i. declarator ty) 0 ks n).1
    unfolding decl_to_type_decl decl_kind
    variable-says h ks top ns n e = ap (λ (m : ℕ). (decl_to_type_decl list ctx ty (decl_kind m) h ks top ns n).1) e

    namespace-says : (h : Head) (name b : Rec) (ops : Recs) (top : Bool) (n : ℕ) → h.mark ≡ mark "Ns" →
        (decl_to_type_decl list ctx ty (decl_kind h.mark) h (cons name (cons b ops)) top (λ n. ns_parts list ctx ty (cons name (cons b ops)) n) n).1
        ≡ (transform_ts_ns_body list ctx ty b n).1
    unfolding decl_to_type_decl decl_kind ns_parts
    namespace-says h name b ops top n e =
        ap (λ (m : ℕ). (decl_to_type_decl list ctx ty (decl_kind m) h (cons name (cons b ops)) top (λ n. ns_parts list ctx ty (cons name (cons b ops)) n) n).1) e

    nested-says : (h : Head) (name b : Rec) (ops : Recs) (n : ℕ) → h.mark ≡ mark "Nd" →
        (transform_ts_ns_body list ctx ty (rec h (cons name (cons b ops))) n).1 ≡ (transform_ts_ns_body list ctx ty b n).1
    unfolding ns_parts
    nested-says h name b ops n e = ap (λ (o : Out Rec). o.1) (nested-becomes list ctx ty (rec h (cons name (cons b ops))) n e)

    items-piece : {i : Rec} {ks : Recs} → OneOf i ks → (top : Bool) (n : ℕ) →
        (m : ℕ) × Piece (transform_module_item list ctx ty i top m).1 (transform_module_items list ctx ty ks top n).1
    unfolding transform_module_items
    items-piece here top n = (n, piece-left _ (piece-whole _))
    items-piece (there {q} k) top n =
        let rest = items-piece k top (transform_module_item list ctx ty q top n).2 in
        (rest.0, piece-right (transform_module_item list ctx ty q top n).1 rest.1)

    -- the declaration d, as its own statement, and exported
    abbrev declares : Rec → Bool → ℕ → Out (Option Rec)
    declares d top n = decl_to_type_decl list ctx ty (decl_kind (mark_of d)) (head_of d) (kids_of d) top (λ n. ns_parts list ctx ty (kids_of d) n) n

    bare-piece : (d : Rec) (top : Bool) (n : ℕ) → Marked (mark_of d) → (mark_of d ≡ mark "Fd" → listed list (head_of d) ≡ false) →
        Piece (declares d top n).1 (transform_module_item list ctx ty d top n).1
    unfolding transform_module_item item_by
    bare-piece (rec h ks) top n m f =
        let e : item_kind h.mark ≡ i_decl = m.item in
        rw e (stmt_says h ks top (λ n. ns_parts list ctx ty ks n) n m.decl (λ k. f (m.function k)))

    exported-piece : (h : Head) (d : Rec) (ops : Recs) (top : Bool) (n : ℕ) → h.mark ≡ mark "Ed" → Marked (mark_of d) → (mark_of d ≡ mark "Fd" → listed list h ≡ false) →
        Piece (declares d top n).1 (transform_module_item list ctx ty (rec h (cons d ops)) top n).1
    unfolding transform_module_item item_by
    exported-piece h (rec dh ks) ops top n e m f = rw (kind_export h.mark e) (export_says dh ks top (λ n. ns_parts list ctx ty ks n) n h ops m.decl (λ k. f (m.function k)))

    default_class_says : (h xh : Head) (i cl : Rec) (ops more : Recs) (top : Bool) (n : ℕ) → h.mark ≡ mark "Xd" → xh.mark ≡ mark "Cx" →
        (transform_module_item list ctx ty (rec h (cons (rec xh (cons i (cons cl more))) ops)) top n).1 ≡ (class list ctx ty cl n).1
    unfolding transform_module_item item_by item_kind export_default_decl default_kind second
    default_class_says h xh i cl ops more top n e f = rw (e, f)

    default_expr_says : (h : Head) (e : Rec) (ops : Recs) (top : Bool) (n : ℕ) → h.mark ≡ mark "Xe" → (mark_of e ≡ mark "Id" → ⊥) →
        (transform_module_item list ctx ty (rec h (cons e ops)) top n).1 ≡ (ty e false true (suc n)).1
    unfolding transform_module_item item_by item_kind export_default_expr
    default_expr_says h e ops top n k l = rw k (rw (ne_eqb (mark_of e) (mark "Id") l))

    mutual
      in_decl : {e d : Rec} {r : Bool} → InDecl list ctx e r d → (top : Bool) (n : ℕ) → Heard e r (declares d top n).1
      in_decl (InDecl.class {h} {i} {cl} {ops} k c) top n = rw (class-says h i cl ops top _ n k) (in_class c n)
      in_decl (InDecl.function {h} {i} {f} {ops} k c) top n = rw (function-says h i f ops top _ n k) (in_function c false n)
      in_decl {e} (InDecl.variable {h} {ks} vh bh i t ops more k m a b c d) top n =
          let p = declarator-piece m 0 n in
          rw (variable-says h ks top _ n k) (record { counter = p.0; piece = piece_of (in_declarator e vh bh i t ops more a b c d p.0) p.1 })
      in_decl (InDecl.namespace {h} {name} {b} {ops} k w) top n = rw (namespace-says h name b ops top n k) (in_body w n)

      in_body : {e b : Rec} {r : Bool} → InBody list ctx e r b → (n : ℕ) → Heard e r (transform_ts_ns_body list ctx ty b n).1
      in_body (InBody.block {h} {ks} i k m w) n =
          let p = items-piece m false n in
          rw (block-becomes list ctx ty (rec h ks) n k) (heard-more (in_item w false p.0) p.1)
      in_body (InBody.nested {h} {name} {b} {ops} k w) n = rw (nested-says h name b ops n k) (in_body w n)

      in_item : {e i : Rec} {r : Bool} → InItem list ctx e r i → (top : Bool) (n : ℕ) → Heard e r (transform_module_item list ctx ty i top n).1
      in_item (InItem.declaration {d} f w) top n = heard-more (in_decl w top n) (bare-piece d top n (marked w) f)
      in_item (InItem.exported {h} {d} {ops} k f w) top n = heard-more (in_decl w top n) (exported-piece h d ops top n k (marked w) f)
      in_item (InItem.default_class {h} {xh} {i} {cl} {ops} {more} k l w) top n = rw (default_class_says h xh i cl ops more top n k l) (in_class w n)
      in_item {e} (InItem.default_expr {h} {ops} k l) top n = rw (default_expr_says h e ops top n k l) (record { counter = suc n; piece = piece-whole _ })

-- No member of an object literal of a module is left out in silence: whatever expression e an item has typed, the diagnostics of the whole transform tell
-- of every Sp, Pq and untyped Sh of every object literal that this typing meets
pub no_silence_in_module : {i e : Rec} {r c' r' : Bool} (list : List ℕ) (ctx : ℕ) (h : Head) (items : Recs) → OneOf i items → InItem list ctx e r i →
    (oh : Head) (ks : Recs) → oh.mark ≡ mark "Ob" → Meets (prescan_module_ids items) ctx (rec oh ks) c' r' e false r →
    Told (prescan_module_ids items) ctx c' ks (Given (transform list ctx (rec h items)).1)
unfolding transform transform_by
no_silence_in_module list ctx h items m i oh ks o w =
    let p = items-piece (expr_to_ts_type (prescan_module_ids items) ctx) list ctx m true 0 in
    let a = in_item (expr_to_ts_type (prescan_module_ids items) ctx) list ctx i true p.0 in
    told_more (prescan_module_ids items) ctx (no_silence (prescan_module_ids items) ctx oh ks o w a.counter) (λ d g. piece_of g (piece_of a.piece p.1))

-- an example: `const a = [{ ...b }] as const;`, with the spread at 12 to 16, tells of it
abbrev example-spread : Rec
example-spread = rec (record { mark = mark "Sp"; flags = 0; start = 12; end = 16; text = [] }) (one (ident dummy_sp (text "b")))

abbrev example-value : Rec
example-value = rec (fresh "Tc" 0 []) (one (rec (fresh "Ar" 0 []) (one (rec (fresh "Ob" 0 []) (one example-spread)))))

abbrev example-items : Recs
example-items =
    one (rec (fresh "Vd" 2 []) (one (rec (fresh "Vr" 0 []) (cons (rec (fresh "Bd" 0 []) (cons (ident dummy_sp (text "a")) (one absent))) (one example-value)))))

example : (list : List ℕ) (ctx : ℕ) (h : Head) → Given (transform list ctx (rec h example-items)).1 (diag "d4" (head_of example-spread))
unfolding element_kind
example list ctx h =
    (no_silence_in_module list ctx h example-items here
    (InItem.declaration (λ e. absurd (omega arith)) (InDecl.variable (fresh "Vr" 0 []) (fresh "Bd" 0 []) (ident dummy_sp (text "a")) absent nil nil refl here refl refl refl refl))
    (fresh "Ob" 0 []) (one example-spread) refl
    (Meets.const refl (Meets.element (rec (fresh "Ob" 0 []) (one example-spread)) refl now refl Meets.itself))
    ).spreads example-spread here refl
