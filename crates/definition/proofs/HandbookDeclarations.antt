-- Where declarations are those of the handbook: types that are written stay as they are written.
use mathlib.Core.Path.{◌≡◌, refl, sym, ap, ◌∙◌, subst}
use mathlib.Core.List.{List, []}
use mathlib.Core.Bool.{Bool, true, false, ◌||◌}
use mathlib.Core.Option.{Option, some}
use mathlib.Core.Logic.{⊎_elim}
use Prim.Native.Nat.{ℕ}
use native.Mathlib.Omega.{arith}
use lib.Dec.{eqb}
use borrow.Author.Tests.{eqb-true, eq-eqb}
use Rattle.definition.specs.Tree.{Head, Rec, Recs, rec, nil, cons}
use Rattle.definition.specs.Grammar.{mark, marks, member}
use Rattle.definition.specs.Record.{kids_of, mark_of, among, is_no, flagged, kid, set_kid, one, present, gone, listed, Out, Typing, each, second}
use Rattle.definition.specs.Prescan.{PrescannedModuleIds}
use Rattle.definition.specs.Typing.{x_as, x_fn, x_arrow, expr_kind, expr_by, expr_to_ts_type, arrow_params, fn_params, fn_type, param_kind, param_by, pat_to_ts_fn_param}
use Rattle.definition.specs.Classes.{p_ident, p_box, pattern_kind, handle_func_param_ident, handle_func_param_assign, handle_pattern_by, handle_pattern, handle_func_param, function_part, handle_function, prop_type, class_prop}
use Rattle.definition.specs.Items.{i_decl, item_kind, d_type, decl_kind, x_fn as x_function, x_other, default_kind, declarator_pattern, declarator, without_body, decl_to_type_decl, transform_module_stmt, export_decl, export_default_decl, item_by, transform_module_item}
use Rattle.definition.proofs.Handbook.{no_some}
use Rattle.definition.proofs.ItemKinds.{kind_export, kind-default}
use Rattle.definition.proofs.SilenceModule.{either}
use Rattle.definition.specs.Handbook.{Annotated, a_first, a_second, a_pattern, annotated_kind, annotation_by, annotation, annotation_first}

-- ---- written types stay as written

-- a part that is there
there : (r t : Rec) → present r ≡ some t → (r ≡ t) × (is_no r ≡ false)
there r t e = go (is_no r) refl
  where
    go : (b : Bool) → is_no r ≡ b → (r ≡ t) × (is_no r ≡ false)
    go true p = no_some (rw p at e)
    go false p = let z : some r ≡ some t = rw p at e in (cc, p)

-- a second child that is there
second-there : (ks : Recs) (t : Rec) → present (kid 1 ks) ≡ some t → (a : Rec) × (rest : Recs) × (ks ≡ cons a (cons t rest)) × (is_no t ≡ false)
second-there nil t e = no_some e
second-there (cons a nil) t e = no_some e
second-there (cons a (cons b rest)) t e =
    let p = there b t e in
    (a, rest, ap {B = Recs} (λ (x : Rec). cons a (cons x rest)) p.0, subst (λ (x : Rec). is_no x ≡ false) p.0 p.1)

first-there : (ks : Recs) (t : Rec) → present (kid 0 ks) ≡ some t → (rest : Recs) × (ks ≡ cons t rest) × (is_no t ≡ false)
first-there nil t e = no_some e
first-there (cons b rest) t e =
    let p = there b t e in
    (rest, ap {B = Recs} (λ (x : Rec). cons x rest) p.0, subst (λ (x : Rec). is_no x ≡ false) p.0 p.1)

-- what is written of a record with a mark
annotated : (r : Rec) (m : ℕ) → mark_of r ≡ m → annotation r ≡ annotation_by (annotated_kind m) (kids_of r) (annotation_first (kids_of r))
unfolding annotation
annotated (rec h ks) m e = ap (λ (x : ℕ). annotation_by (annotated_kind x) ks (annotation_first ks)) e

annotated-second : (r : Rec) (m : ℕ) → mark_of r ≡ m → annotated_kind m ≡ a_second → annotation r ≡ present (kid 1 (kids_of r))
unfolding annotation_by
annotated-second r m e k = annotated r m e ∙ ap (λ (x : Annotated). annotation_by x (kids_of r) (annotation_first (kids_of r))) k

annotated-first : (r : Rec) (m : ℕ) → mark_of r ≡ m → annotated_kind m ≡ a_first → annotation r ≡ present (kid 0 (kids_of r))
unfolding annotation_by
annotated-first r m e k = annotated r m e ∙ ap (λ (x : Annotated). annotation_by x (kids_of r) (annotation_first (kids_of r))) k

annotated-pattern : (r : Rec) (m : ℕ) → mark_of r ≡ m → annotated_kind m ≡ a_pattern → annotation r ≡ annotation_first (kids_of r)
unfolding annotation_by
annotated-pattern r m e k = annotated r m e ∙ ap (λ (x : Annotated). annotation_by x (kids_of r) (annotation_first (kids_of r))) k

-- the kinds of the marks that are asked below
kind-bd : annotated_kind (mark "Bd") ≡ a_second
unfolding annotated_kind marks member
kind-bd = refl

kind_ag : annotated_kind (mark "Ag") ≡ a_pattern
unfolding annotated_kind marks member
kind_ag = refl

kind_pb : annotated_kind (mark "Pb") ≡ a_first
unfolding annotated_kind marks member
kind_pb = refl

kind_po : annotated_kind (mark "Po") ≡ a_first
unfolding annotated_kind marks member
kind_po = refl

kind-vr : annotated_kind (mark "Vr") ≡ a_pattern
unfolding annotated_kind marks member
kind-vr = refl

kind_pa : annotated_kind (mark "Pa") ≡ a_pattern
unfolding annotated_kind marks member
kind_pa = refl

kind_pp : annotated_kind (mark "Pp") ≡ a_pattern
unfolding annotated_kind marks member
kind_pp = refl

kind_cp : annotated_kind (mark "Cp") ≡ a_second
unfolding annotated_kind marks member
kind_cp = refl

kind_fu : annotated_kind (mark "Fu") ≡ a_second
unfolding annotated_kind marks member
kind_fu = refl

kind-as : annotated_kind (mark "As") ≡ a_second
unfolding annotated_kind marks member
kind-as = refl

kind_aw : annotated_kind (mark "Aw") ≡ a_second
unfolding annotated_kind marks member
kind_aw = refl

kind_ft : annotated_kind (mark "Ft") ≡ a_second
unfolding annotated_kind marks member
kind_ft = refl

-- the kinds of the transform
type-item : (m : ℕ) → among "In Ty" m ≡ true → item_kind m ≡ i_decl
unfolding marks item_kind
type-item m e = ⊎_elim (λ q. rw q) (λ q. rw q) (either m (mark "In") (mark "Ty") e)

type-decl : (m : ℕ) → among "In Ty" m ≡ true → decl_kind m ≡ d_type
unfolding marks decl_kind
type-decl m e = ⊎_elim (λ q. rw q) (λ q. rw q) (either m (mark "In") (mark "Ty") e)

pub default_fx : (m : ℕ) → m ≡ mark "Fx" → default_kind m ≡ x_function
unfolding default_kind
default_fx m e = rw e

default_in : (m : ℕ) → m ≡ mark "In" → default_kind m ≡ x_other
unfolding default_kind
default_in m e = rw e

expr_as : (m : ℕ) → m ≡ mark "As" → expr_kind m ≡ x_as
unfolding expr_kind marks member
expr_as m e = rw e

expr_fx : (m : ℕ) → m ≡ mark "Fx" → expr_kind m ≡ x_fn
unfolding expr_kind marks member
expr_fx m e = rw e

expr_aw : (m : ℕ) → m ≡ mark "Aw" → expr_kind m ≡ x_arrow
unfolding expr_kind marks member
expr_aw m e = rw e

-- a typed name has its type behind it, a typed pattern has it inside
typed-name : (h : Head) (ks : Recs) (t : Rec) → h.mark ≡ mark "Bd" → annotation (rec h ks) ≡ some t → (a : Rec) × (rest : Recs) × (ks ≡ cons a (cons t rest)) × (is_no t ≡ false)
typed-name h ks t m e = second-there ks t (sym (annotated-second (rec h ks) (mark "Bd") m kind-bd) ∙ e)

module _ (ty : Typing) where
  -- a variable whose pattern has a type: the pattern stays as it is
  pattern-kept : (h : Head) (init p t : Rec) (n : ℕ) → annotation p ≡ some t → (declarator_pattern ty h init p n).0 ≡ p
  unfolding declarator_pattern
  pattern-kept h init (rec ph ks) t n e = go (eqb ph.mark (mark "Bd")) refl
    where
      named : eqb ph.mark (mark "Bd") ≡ true → (a : Rec) (rest : Recs) → is_no t ≡ false → (declarator_pattern ty h init (rec ph (cons a (cons t rest))) n).0 ≡ rec ph (cons a (cons t rest))
      named p a rest i = rw (p, i)

      go : (b : Bool) → eqb ph.mark (mark "Bd") ≡ b → (declarator_pattern ty h init (rec ph ks) n).0 ≡ rec ph ks
      go true p =
          let s = typed-name ph ks t (eqb-true _ _ p) e in
          subst (λ (ks : Recs). (declarator_pattern ty h init (rec ph ks) n).0 ≡ rec ph ks) (sym s.2) (named p s.0 s.1 s.3)
      go false p = rw p

  pub variable-written : (v t : Rec) (n : ℕ) → mark_of v ≡ mark "Vr" → annotation v ≡ some t → annotation (declarator ty v n).0 ≡ some t
  unfolding declarator annotation_first
  variable-written (rec h nil) t n m e = no_some (sym (annotated-pattern (rec h nil) (mark "Vr") m kind-vr) ∙ e)
  variable-written (rec h (cons p rest)) t n m e =
      let q : annotation p ≡ some t = sym (annotated-pattern (rec h (cons p rest)) (mark "Vr") m kind-vr) ∙ e in
      rw (eq-eqb h.mark (mark "Vr") m)
      (annotated-pattern (rec h (cons (declarator_pattern ty h (kid 0 rest) p n).0 (set_kid 0 (gone (kid 0 rest)) rest))) (mark "Vr") m kind-vr
      ∙ (ap annotation (pattern-kept h (kid 0 rest) p t n q) ∙ q))

  -- a parameter with a default: the left side keeps its type
  default-name : (h : Head) (ks : Recs) (right whole t : Rec) (n : ℕ) → h.mark ≡ mark "Bd" → annotation (rec h ks) ≡ some t →
      annotation (handle_func_param_assign ty p_ident (rec h ks) right whole n).0 ≡ some t
  unfolding handle_func_param_assign
  default-name h ks right whole t n m e =
      let s = typed-name h ks t m e in
      subst (λ (ks : Recs). annotation (handle_func_param_assign ty p_ident (rec h ks) right whole n).0 ≡ some t) (sym s.2) (made s.0 s.1 s.3)
    where
      made : (a : Rec) (rest : Recs) → is_no t ≡ false → annotation (handle_func_param_assign ty p_ident (rec h (cons a (cons t rest))) right whole n).0 ≡ some t
      made a rest i = rw i (annotated-second (rec h (cons (flagged a) (cons t rest))) (mark "Bd") m kind-bd ∙ rw i)

  default-box : (h : Head) (ks : Recs) (right whole t : Rec) (n k : ℕ) → h.mark ≡ k → annotated_kind k ≡ a_first → annotation (rec h ks) ≡ some t →
      annotation (handle_func_param_assign ty p_box (rec h ks) right whole n).0 ≡ some t
  unfolding handle_func_param_assign
  default-box h ks right whole t n k m q e =
      let s = first-there ks t (sym (annotated-first (rec h ks) k m q) ∙ e) in
      subst (λ (ks : Recs). annotation (handle_func_param_assign ty p_box (rec h ks) right whole n).0 ≡ some t) (sym s.1) (made s.0 s.2)
    where
      made : (rest : Recs) → is_no t ≡ false → annotation (handle_func_param_assign ty p_box (rec h (cons t rest)) right whole n).0 ≡ some t
      made rest i = rw i (annotated-first (flagged (rec h (cons t rest))) k m q ∙ rw i)

  default-written : (left right whole t : Rec) (n : ℕ) → annotation left ≡ some t → annotation whole ≡ some t →
      annotation (handle_func_param_assign ty (pattern_kind (mark_of left)) left right whole n).0 ≡ some t
  unfolding pattern_kind handle_func_param_assign
  default-written (rec h ks) right whole t n e w =
      go (eqb h.mark (mark "Bd")) (eqb h.mark (mark "Ag")) (eqb h.mark (mark "Pb")) (eqb h.mark (mark "Po")) refl refl refl refl
    where
      go : (a b c d : Bool) → eqb h.mark (mark "Bd") ≡ a → eqb h.mark (mark "Ag") ≡ b → eqb h.mark (mark "Pb") ≡ c → eqb h.mark (mark "Po") ≡ d →
          annotation (handle_func_param_assign ty (pattern_kind h.mark) (rec h ks) right whole n).0 ≡ some t
      go true b c d p q r s = rw p (default-name h ks right whole t n (eqb-true _ _ p) e)
      go false true c d p q r s = rw (p, q) w
      go false false true d p q r s = rw (p, q, r) (default-box h ks right whole t n (mark "Pb") (eqb-true _ _ r) kind_pb e)
      go false false false true p q r s = rw (p, q, r, s) (default-box h ks right whole t n (mark "Po") (eqb-true _ _ s) kind_po e)
      go false false false false p q r s = rw (p, q, r, s) w

  -- the pattern of a parameter: a name, a default, or any other
  ident-written : (h : Head) (ks : Recs) (t : Rec) (n : ℕ) → h.mark ≡ mark "Bd" → annotation (rec h ks) ≡ some t → (handle_func_param_ident (rec h ks) n).0 ≡ rec h ks
  unfolding handle_func_param_ident
  ident-written h ks t n m e =
      let s = typed-name h ks t m e in
      subst (λ (ks : Recs). (handle_func_param_ident (rec h ks) n).0 ≡ rec h ks) (sym s.2) (made s.0 s.1 s.3)
    where
      made : (a : Rec) (rest : Recs) → is_no t ≡ false → (handle_func_param_ident (rec h (cons a (cons t rest))) n).0 ≡ rec h (cons a (cons t rest))
      made a rest i = rw i

  handled_written : (p t : Rec) (n : ℕ) → annotation p ≡ some t → annotation (handle_pattern ty p n).0 ≡ some t
  unfolding handle_pattern_by pattern_kind annotation_first
  handled_written (rec h ks) t n e = go (eqb h.mark (mark "Bd")) (eqb h.mark (mark "Ag")) (eqb h.mark (mark "Pb") || eqb h.mark (mark "Po")) refl refl refl
    where
      assigned : (ks : Recs) → h.mark ≡ mark "Ag" → annotation (rec h ks) ≡ some t →
          annotation (handle_func_param_assign ty (pattern_kind (mark_of (kid 0 ks))) (kid 0 ks) (kid 1 ks) (rec h ks) n).0 ≡ some t
      assigned nil m e = no_some (sym (annotated-pattern (rec h nil) (mark "Ag") m kind_ag) ∙ e)
      assigned (cons left rest) m e =
          default-written left (kid 0 rest) (rec h (cons left rest)) t n (sym (annotated-pattern (rec h (cons left rest)) (mark "Ag") m kind_ag) ∙ e) e

      go : (a b c : Bool) → eqb h.mark (mark "Bd") ≡ a → eqb h.mark (mark "Ag") ≡ b → (eqb h.mark (mark "Pb") || eqb h.mark (mark "Po")) ≡ c →
          annotation (handle_pattern ty (rec h ks) n).0 ≡ some t
      go true b c p q r = rw p (ap annotation (ident-written h ks t n (eqb-true _ _ p) e) ∙ e)
      go false true c p q r = rw (p, q) (assigned ks (eqb-true _ _ q) e)
      go false false true p q r = rw (p, q, r) e
      go false false false p q r = rw (p, q, r) e

  pub param-written : (p t : Rec) (n : ℕ) → annotation p ≡ some t → annotation (handle_func_param ty p n).0 ≡ some t
  unfolding handle_func_param annotation_first
  param-written (rec h ks) t n e = go (eqb h.mark (mark "Pa")) (eqb h.mark (mark "Pp")) refl refl
    where
      held : (ks : Recs) (m : ℕ) → h.mark ≡ m → annotated_kind m ≡ a_pattern → annotation (rec h ks) ≡ some t →
          annotation (rec h (set_kid 0 (handle_pattern ty (kid 0 ks) n).0 ks)) ≡ some t
      held nil m k q e = no_some (sym (annotated-pattern (rec h nil) m k q) ∙ e)
      held (cons p ops) m k q e =
          annotated-pattern (rec h (cons (handle_pattern ty p n).0 ops)) m k q ∙ handled_written p t n (sym (annotated-pattern (rec h (cons p ops)) m k q) ∙ e)

      go : (a b : Bool) → eqb h.mark (mark "Pa") ≡ a → eqb h.mark (mark "Pp") ≡ b → annotation (handle_func_param ty (rec h ks) n).0 ≡ some t
      go true b p q = rw p (held ks (mark "Pa") (eqb-true _ _ p) kind_pa e)
      go false true p q = rw (p, q) (held ks (mark "Pp") (eqb-true _ _ q) kind_pp e)
      go false false p q = rw (p, q) e

  -- a class property whose key stands
  pub property-written : (r key t : Rec) (n : ℕ) → mark_of r ≡ mark "Cp" → annotation r ≡ some t → annotation (kid 0 (class_prop ty r (some key) n).0) ≡ some t
  unfolding class_prop
  property-written (rec h ks) key t n m e =
      let s = second-there ks t (sym (annotated-second (rec h ks) (mark "Cp") m kind_cp) ∙ e) in
      subst (λ (ks : Recs). annotation (kid 0 (class_prop ty (rec h ks) (some key) n).0) ≡ some t) (sym s.2) (made s.0 s.1 s.3)
    where
      typed : (value : Rec) → is_no t ≡ false → (prop_type ty value t n).0 ≡ t
      typed value i = go (is_no value) refl
        where
          go : (b : Bool) → is_no value ≡ b → (prop_type ty value t n).0 ≡ t
          go true p = rw p
          go false p = rw (p, i)

      made : (a : Rec) (rest : Recs) → is_no t ≡ false → annotation (kid 0 (class_prop ty (rec h (cons a (cons t rest))) (some key) n).0) ≡ some t
      made a rest i = rw (typed (kid 0 rest) i) (annotated-second _ (mark "Cp") m kind_cp ∙ rw i)

  -- what a function returns
  pub return_written : (f t : Rec) (n : ℕ) → mark_of f ≡ mark "Fu" → annotation f ≡ some t → annotation (handle_function ty false f n).0 ≡ some t
  unfolding handle_function each function_part
  return_written (rec h ks) t n m e =
      let s = second-there ks t (sym (annotated-second (rec h ks) (mark "Fu") m kind_fu) ∙ e) in
      subst (λ (ks : Recs). annotation (handle_function ty false (rec h ks) n).0 ≡ some t) (sym s.2) (made s.0 s.1 s.3)
    where
      made : (a : Rec) (rest : Recs) → is_no t ≡ false → annotation (handle_function ty false (rec h (cons a (cons t rest))) n).0 ≡ some t
      made a rest i = annotated-second (handle_function ty false (rec h (cons a (cons t rest))) n).0 (mark "Fu") m kind_fu ∙ rw i

  -- what a function returns that is exported as default
  default_return_kept : (f t : Rec) (n : ℕ) → mark_of f ≡ mark "Fu" → annotation f ≡ some t → annotation (without_body f n).0 ≡ some t
  unfolding without_body each
  default_return_kept (rec h ks) t n m e =
      let s = second-there ks t (sym (annotated-second (rec h ks) (mark "Fu") m kind_fu) ∙ e) in
      subst (λ (ks : Recs). annotation (without_body (rec h ks) n).0 ≡ some t) (sym s.2) (made s.0 s.1 s.3)
    where
      made : (a : Rec) (rest : Recs) → is_no t ≡ false → annotation (without_body (rec h (cons a (cons t rest))) n).0 ≡ some t
      made a rest i = annotated-second (without_body (rec h (cons a (cons t rest))) n).0 (mark "Fu") m kind_fu ∙ rw i

  pub default_return_written : (list : List ℕ) (ctx : ℕ) (h xh : Head) (name f : Rec) (more ops : Recs) (t : Rec) (top : Bool) (n : ℕ) →
      h.mark ≡ mark "Xd" → xh.mark ≡ mark "Fx" → listed list h ≡ false → mark_of f ≡ mark "Fu" → annotation f ≡ some t →
      (g : Rec)
      × ((transform_module_item list ctx ty (rec h (cons (rec xh (cons name (cons f more))) ops)) top n).0
      ≡ one (rec h (cons (rec xh (cons name (cons g more))) ops)))
      × (annotation g ≡ some t)
  unfolding transform_module_item item_by export_default_decl second
  default_return_written list ctx h xh name f more ops t top n m x l k e = ((without_body f n).0, rw (kind-default h.mark m, default_fx xh.mark x, l), default_return_kept f t n k e)

  -- interfaces and type aliases pass, alone, exported, and as default
  pub types_pass : (list : List ℕ) (ctx : ℕ) (r : Rec) (top : Bool) (n : ℕ) → among "In Ty" (mark_of r) ≡ true → transform_module_item list ctx ty r top n ≡ (one r, [], n)
  unfolding transform_module_item item_by transform_module_stmt
  types_pass list ctx (rec h ks) top n e = rw (type-item h.mark e, type-decl h.mark e)

  pub exported_types_pass : (list : List ℕ) (ctx : ℕ) (h : Head) (d : Rec) (ops : Recs) (top : Bool) (n : ℕ) → h.mark ≡ mark "Ed" → among "In Ty" (mark_of d) ≡ true →
      transform_module_item list ctx ty (rec h (cons d ops)) top n ≡ (one (rec h (cons d ops)), [], n)
  unfolding transform_module_item item_by export_decl decl_to_type_decl
  exported_types_pass list ctx h (rec dh ks) ops top n m e = rw (kind_export h.mark m, type-decl dh.mark e)

  pub default_interface_passes : (list : List ℕ) (ctx : ℕ) (r : Rec) (top : Bool) (n : ℕ) → mark_of r ≡ mark "Xd" → mark_of (kid 0 (kids_of r)) ≡ mark "In" →
      transform_module_item list ctx ty r top n ≡ (one r, [], n)
  unfolding transform_module_item item_by export_default_decl
  default_interface_passes list ctx (rec h ks) top n m e = rw (kind-default h.mark m, default_in (mark_of (kid 0 ks)) e)

module _ (ids : PrescannedModuleIds) (ctx : ℕ) where
  -- "as": what is asserted is the type
  pub assertion_written : (e t : Rec) (c r : Bool) (n : ℕ) → mark_of e ≡ mark "As" → annotation e ≡ some t → expr_to_ts_type ids ctx e c r n ≡ (some t, [], n)
  unfolding expr_to_ts_type expr_by
  assertion_written (rec h ks) t c r n m e =
      rw (expr_as h.mark m) (ap {B = Out (Option Rec)} (λ (x : Option Rec). (x, [], n)) (sym (annotated-second (rec h ks) (mark "As") m kind-as) ∙ e))

  -- what an arrow returns, and what a function expression does
  fn_type_written : (h : Head) (ks ps : Recs) (t : Rec) → present (kid 1 ks) ≡ some t → annotation (fn_type h ks ps) ≡ some t
  fn_type_written h ks ps t e =
      let i = there (kid 1 ks) t e in
      annotated-second (fn_type h ks ps) (mark "Ft") refl kind_ft
      ∙ rw e (subst (λ (x : Rec). present x ≡ some x) i.0 (rw i.1))

  pub arrow-written : (e t : Rec) (c r : Bool) (n : ℕ) → mark_of e ≡ mark "Aw" → annotation e ≡ some t →
      (f : Rec) × ((expr_to_ts_type ids ctx e c r n).0 ≡ some f) × (annotation f ≡ some t)
  unfolding expr_to_ts_type expr_by
  arrow-written (rec h ks) t c r n m e =
      let ps : Recs = (arrow_params ids ctx ks 2 n).0 in
      (fn_type h ks ps, rw (expr_aw h.mark m), fn_type_written h ks ps t (sym (annotated-second (rec h ks) (mark "Aw") m kind_aw) ∙ e))

  pub function_return_written : (h : Head) (name f : Rec) (ops : Recs) (t : Rec) (c r : Bool) (n : ℕ) → h.mark ≡ mark "Fx" → mark_of f ≡ mark "Fu" → annotation f ≡ some t →
      (g : Rec) × ((expr_to_ts_type ids ctx (rec h (cons name (cons f ops))) c r n).0 ≡ some g) × (annotation g ≡ some t)
  unfolding expr_to_ts_type expr_by
  function_return_written h name (rec fh fs) ops t c r n m k e =
      let ps : Recs = (fn_params ids ctx fs 3 n).0 in
      (fn_type fh fs ps, rw (expr_fx h.mark m), fn_type_written fh fs ps t (sym (annotated-second (rec fh fs) (mark "Fu") k kind_fu) ∙ e))

  -- a parameter of either that has no default stays, with the type that is written
  pub parameter-kept : (p : Rec) (n : ℕ) → among "Bd Pb Rs Po" (mark_of p) ≡ true → pat_to_ts_fn_param ids ctx p n ≡ (one p, [], n)
  unfolding pat_to_ts_fn_param param_by param_kind marks member
  parameter-kept (rec h ks) n e =
      go (eqb h.mark (mark "Bd")) (eqb h.mark (mark "Pb")) (eqb h.mark (mark "Rs")) (eqb h.mark (mark "Po")) refl refl refl refl
    where
      go : (a b c d : Bool) → eqb h.mark (mark "Bd") ≡ a → eqb h.mark (mark "Pb") ≡ b → eqb h.mark (mark "Rs") ≡ c → eqb h.mark (mark "Po") ≡ d →
          pat_to_ts_fn_param ids ctx (rec h ks) n ≡ (one (rec h ks), [], n)
      go true b c d p q s t = rw p
      go false true c d p q s t = rw (p, q)
      go false false true d p q s t = rw (p, q, s)
      go false false false true p q s t = rw (p, q, s, t)
      go false false false false p q s t = absurd (let z : false ≡ true = rw (p, q, s, t) at e in let y : ◌≡◌ {A = ℕ} 0 1 = cc in omega arith)
