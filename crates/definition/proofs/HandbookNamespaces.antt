-- Where namespaces are those of the handbook: their names stay and their items are transformed, and a dotted name reads as one namespace within
-- another. `without_dots_agree` says it of whole modules.
use mathlib.Core.Path.{◌≡◌, refl, ap, ◌∙◌}
use mathlib.Core.List.{List, [], ◌++◌, append-nil}
use mathlib.Core.Bool.{Bool, false}
use Prim.Native.Nat.{ℕ}
use Rattle.definition.specs.Tree.{Head, Rec, Recs, rec, nil, cons}
use Rattle.definition.specs.Grammar.{mark}
use Rattle.definition.specs.Record.{ranged, one, Diag, Out, Typing, on_value}
use Rattle.definition.specs.Items.{item_kind, decl_kind, body_kind, declared, decl_to_type_decl, transform_module_stmt, export_decl, item_by, body_by, transform_module_items, transform_module_item, ns_parts, transform_ts_ns_body}
use Rattle.definition.specs.Transform.{transform}
use Rattle.definition.specs.Dotted.{replaced_items}
use Rattle.definition.specs.Handbook.{space_within, without_dots}
use Rattle.definition.proofs.ItemKinds.{kind_export, kind_module, kind-block, kind-nested, module_item}
use Rattle.definition.proofs.Twice.{declared-twice}
use Rattle.definition.proofs.Dotted.{replaced-agree}
use Rattle.definition.proofs.SmallTrees.{node, two, op, module_of}

-- ---- one namespace

module _ (list : List ℕ) (ctx : ℕ) (ty : Typing) where
  -- a namespace over a block keeps its name, and its items are transformed
  pub namespace_agrees : (h bh : Head) (name : Rec) (ks ops : Recs) (top : Bool) (n : ℕ) → h.mark ≡ mark "Ns" → bh.mark ≡ mark "Nb" →
      transform_module_item list ctx ty (rec h (cons name (cons (rec bh ks) ops))) top n
      ≡ on_value (λ (items : Recs). one (rec (declared top h) (cons name (cons (rec bh items) ops)))) (transform_module_items list ctx ty ks false n)
  unfolding transform_module_item item_by transform_module_stmt decl_to_type_decl body_by
  namespace_agrees h bh name ks ops top n m b = rw (module_item h.mark m, kind_module h.mark m, kind-block bh.mark b)

  pub exported_namespace_agrees : (eh h bh : Head) (name : Rec) (ks ops more : Recs) (top : Bool) (n : ℕ) → eh.mark ≡ mark "Ed" → h.mark ≡ mark "Ns" → bh.mark ≡ mark "Nb" →
      transform_module_item list ctx ty (rec eh (cons (rec h (cons name (cons (rec bh ks) ops))) more)) top n
      ≡ on_value (λ (items : Recs). one (rec eh (cons (rec (declared top h) (cons name (cons (rec bh items) ops))) more))) (transform_module_items list ctx ty ks false n)
  unfolding transform_module_item item_by export_decl decl_to_type_decl body_by
  exported_namespace_agrees eh h bh name ks ops more top n e m b = rw (kind_export eh.mark e, kind_module h.mark m, kind-block bh.mark b)

  -- `Ns(a, Nd(b, body))`: both names stay, and the body is transformed
  pub dotted_agrees : (h nh : Head) (a b body : Rec) (more ops : Recs) (top : Bool) (n : ℕ) → h.mark ≡ mark "Ns" → nh.mark ≡ mark "Nd" →
      transform_module_item list ctx ty (rec h (cons a (cons (rec nh (cons b (cons body more))) ops))) top n
      ≡ on_value (λ (made : Rec). one (rec (declared top h) (cons a (cons (rec nh (cons b (cons made more))) ops)))) (transform_ts_ns_body list ctx ty body n)
  unfolding transform_module_item item_by transform_module_stmt decl_to_type_decl body_by
  dotted_agrees h nh a b body more ops top n m d = rw (module_item h.mark m, kind_module h.mark m, kind-nested nh.mark d)

  -- `Ns(a, Nb(Ed(Ns(b, body))))`: the same, name for name, "but for the Ed, its range and flag 1"
  pub nested_agrees : (h bh eh sh : Head) (a b body : Rec) (more ops : Recs) (top : Bool) (n : ℕ) → h.mark ≡ mark "Ns" → bh.mark ≡ mark "Nb" → eh.mark ≡ mark "Ed" → sh.mark ≡ mark "Ns" →
      transform_module_item list ctx ty (rec h (cons a (cons (rec bh (one (rec eh (one (rec sh (cons b (cons body more))))))) ops))) top n
      ≡ on_value (λ (made : Rec). one (rec (declared top h) (cons a (cons (rec bh (one (rec eh (one (rec (declared false sh) (cons b (cons made more))))))) ops)))) (transform_ts_ns_body list ctx ty body n)
  unfolding transform_module_item item_by transform_module_stmt export_decl decl_to_type_decl body_by
  nested_agrees h bh eh sh a b body more ops top n m p e s =
      rw (module_item h.mark m, kind_module h.mark m, kind-block bh.mark p, kind_export eh.mark e, kind_module sh.mark s)
      (ap (λ (ds : List Diag). (one (rec (declared top h) (cons a (cons (rec bh (one (rec eh (one (rec (declared false sh) (cons b (cons (transform_ts_ns_body list ctx ty body n).0 more))))))) ops))), ds, (transform_ts_ns_body list ctx ty body n).2))
      (append-nil (transform_ts_ns_body list ctx ty body n).1))

-- ---- a module

-- a namespace within a block: its head stays, for it has no declare
within : (list : List ℕ) (ctx : ℕ) (ty : Typing) (h : Head) (ks : Recs) (n : ℕ) → transform_ts_ns_body list ctx ty (space_within h ks) n ≡ on_value (space_within h) (ns_parts list ctx ty ks n)
unfolding transform_ts_ns_body body_by body_kind transform_module_item item_by item_kind export_decl decl_kind decl_to_type_decl
within list ctx ty h ks n =
    let o : Out Recs = ns_parts list ctx ty ks n in
    let sh : Head = record { mark = mark "Ns"; flags = h.flags; start = h.start; end = h.end; text = h.text } in
    ap (λ (sh : Head). (rec (ranged "Nb" h []) (one (rec (ranged "Ed" h []) (one (rec sh o.0)))), o.1 ++ [], o.2)) (declared-twice false sh)
    ∙ ap (λ (ds : List Diag). (space_within h o.0, ds, o.2)) (append-nil o.1)

-- "The handbook reads the dotted name as one namespace within another": the transform of a module without dots is the module's own, without dots, with
-- the same diagnostics, in order, and as many made names
pub without_dots_agree : (list : List ℕ) (ctx : ℕ) (r : Rec) → transform list ctx (without_dots r) ≡ on_value without_dots (transform list ctx r)
without_dots_agree list ctx r = replaced-agree space_within within list ctx r

-- `namespace A.B.C {}` is `namespace A { export namespace B { export namespace C {} } }`
abbrev within_block : Rec → Rec
within_block space = node "Nb" (one (node "Ed" (one space)))

read_without_dots : without_dots (module_of (node "Ns" (two (op "A") (node "Nd" (two (op "B") (node "Nd" (two (op "C") (node "Nb" nil))))))))
    ≡ module_of (node "Ns" (two (op "A") (within_block (node "Ns" (two (op "B") (within_block (node "Ns" (two (op "C") (node "Nb" nil)))))))))
unfolding replaced_items
read_without_dots = refl
