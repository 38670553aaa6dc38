-- The texts of the types that leaves have fit the two bytes of their lengths, where those of the expression do; and those of the Ids that are made.
use mathlib.Core.Path.{◌≡◌, refl, ◌∙◌}
use mathlib.Core.List.{List}
use mathlib.Core.Bool.{Bool, true, false, cond, ◌&&◌, ◌||◌}
use mathlib.Core.Option.{Option, none, some}
use Prim.Native.Nat.{ℕ, zero, suc, ◌≤◌, ◌<◌}
use native.Mathlib.Omega.{arith}
use lib.Dec.{eqb, ltb}
use lib.ListN.{length, length-drop}
use borrow.Author.Tests.{lt-ltb, ltb-true}
use Rattle.definition.specs.Tree.{Head, Rec, Recs, rec, nil, cons}
use Rattle.definition.specs.Record.{text, same_text, head_of, kids_of, mark_of, text_of, is, is_no, context_of, symbol_of, dummy_sp, fresh, ident_at, flagged, kid, given}
use Rattle.definition.specs.Helpers.{
  ts_keyword_type,
  ts_readonly,
  ts_type_query,
  reference_to,
  Lit,
  l_str,
  l_bool,
  l_null,
  l_num,
  l_big_int,
  l_regex,
  l_jsx_text,
  lit_kind,
  maybe_lit_to_ts_type,
  tpl_to_ts_type,
  no_exprs,
  first_cooked,
  ts_lit_type,
}
use Rattle.definition.specs.Prescan.{PrescannedModuleIds}
use Rattle.definition.specs.Typing.{
  Frozen,
  f_type_lit,
  f_array,
  f_same,
  f_other,
  frozen_kind,
  plain_members,
  readonly_members,
  readonly_of_by,
  readonly_of,
  turned,
  turned_integer,
  respelled,
  minus_by,
  global_type,
  ident_to_ts_type,
  new_type,
  Expr,
  x_array,
  x_object,
  x_lit,
  x_const,
  x_satisfies,
  x_as,
  x_fn,
  x_arrow,
  x_tpl,
  x_ident,
  x_unary,
  x_call,
  x_new,
  x_other,
  expr_kind,
}
use Rattle.definition.specs.Transform.{texts_fit, all_texts_fit}
use Rattle.definition.proofs.Texts.{turned-length, turned_integer-length}
use Rattle.output.specs.Outputs.{fit_of}
use Rattle.typing.specs.declared.exprs.Mode.{Mode}
use Rattle.typing.specs.Values.{ids_in}
use Rattle.typing.specs.Parts.{as_type}
use Rattle.typing.specs.Leaves.{leaf_by, leaf_of}
use Rattle.definition.proofs.Tests.{and-true}

-- ---- the parts of what fits

text-fits : (t : Rec) → texts_fit t ≡ true → ltb (length (text_of t)) 65536 ≡ true
unfolding texts_fit
text-fits (rec h ks) e = (and-true (ltb (length h.text) 65536) (all_texts_fit ks) e).0

pub kids-fit : (t : Rec) → texts_fit t ≡ true → all_texts_fit (kids_of t) ≡ true
unfolding texts_fit
kids-fit (rec h ks) e = (and-true (ltb (length h.text) 65536) (all_texts_fit ks) e).1

pub kid-fits : (i : ℕ) (ks : Recs) → all_texts_fit ks ≡ true → texts_fit (kid i ks) ≡ true
unfolding texts_fit all_texts_fit
kid-fits zero nil e = refl
kid-fits (suc i) nil e = refl
kid-fits zero (cons r rs) e = (and-true (texts_fit r) (all_texts_fit rs) e).0
kid-fits (suc i) (cons r rs) e = kid-fits i rs (and-true (texts_fit r) (all_texts_fit rs) e).1

-- ---- small types

module _ (t : Rec) (e : texts_fit t ≡ true) where
  lit_type_fits : texts_fit (ts_lit_type dummy_sp t) ≡ true
  unfolding texts_fit all_texts_fit
  lit_type_fits = rw e

  pub query_fits : texts_fit (ts_type_query dummy_sp t) ≡ true
  unfolding texts_fit all_texts_fit
  query_fits = rw e

  reference-fits : texts_fit (reference_to dummy_sp t) ≡ true
  unfolding texts_fit all_texts_fit
  reference-fits = rw e

  pub readonly_fits : texts_fit (ts_readonly dummy_sp t) ≡ true
  unfolding texts_fit all_texts_fit
  readonly_fits = rw e

lit-fits : (k : Lit) (l : Rec) (c : Bool) → texts_fit l ≡ true → fit_of (maybe_lit_to_ts_type k l c) ≡ true
unfolding maybe_lit_to_ts_type texts_fit all_texts_fit
lit-fits l_str l true e = lit_type_fits l e
lit-fits l_bool l true e = lit_type_fits l e
lit-fits l_null l true e = refl
lit-fits l_num l true e = lit_type_fits l e
lit-fits l_big_int l true e = lit_type_fits l e
lit-fits l_regex l true e = refl
lit-fits l_jsx_text l true e = refl
lit-fits l_str l false e = refl
lit-fits l_bool l false e = refl
lit-fits l_null l false e = refl
lit-fits l_num l false e = refl
lit-fits l_big_int l false e = refl
lit-fits l_regex l false e = refl
lit-fits l_jsx_text l false e = refl

-- a literal with another text of the same length
respelled-fits : (l : Rec) (t : List ℕ) → length t ≡ length (text_of l) → texts_fit l ≡ true → texts_fit (ts_lit_type dummy_sp (respelled l t)) ≡ true
unfolding texts_fit all_texts_fit
respelled-fits l t n e = rw (n, text-fits l e)

minus-fits : (k : Lit) (l : Rec) (c : Bool) → texts_fit l ≡ true → fit_of (minus_by k l c) ≡ true
unfolding minus_by texts_fit all_texts_fit
minus-fits l_str l c e = refl
minus-fits l_bool l c e = refl
minus-fits l_null l c e = refl
minus-fits l_num l true e = respelled-fits l (turned (text_of l)) (turned-length (text_of l)) e
minus-fits l_num l false e = refl
minus-fits l_big_int l true e = respelled-fits l (turned_integer (text_of l)) (turned_integer-length (text_of l)) e
minus-fits l_big_int l false e = refl
minus-fits l_regex l c e = refl
minus-fits l_jsx_text l c e = refl

cond-fits : (b : Bool) (x y : Option Rec) → fit_of x ≡ true → fit_of y ≡ true → fit_of (cond b x y) ≡ true
cond-fits true x y h k = h
cond-fits false x y h k = k

either-fits : (b : Bool) (x y : Rec) → texts_fit x ≡ true → texts_fit y ≡ true → texts_fit (cond b x y) ≡ true
either-fits true x y h k = h
either-fits false x y h k = k

tpl_fits : (ks : Recs) (c : Bool) → all_texts_fit ks ≡ true → texts_fit (tpl_to_ts_type ks c) ≡ true
unfolding tpl_to_ts_type texts_fit all_texts_fit
tpl_fits ks true e =
    either-fits (no_exprs ks && first_cooked ks) (ts_lit_type dummy_sp (rec (fresh "Ss" 0 (text_of (kid 0 ks))) nil)) (ts_keyword_type dummy_sp "string") (rw (text-fits (kid 0 ks) (kid-fits 0 ks e))) refl
tpl_fits ks false e = refl

module _ (ids : PrescannedModuleIds) (ctx : ℕ) where
  pub ident-fits : (i : Rec) (c : Bool) → texts_fit i ≡ true → fit_of (ident_to_ts_type ids ctx i c) ≡ true
  unfolding ident_to_ts_type global_type texts_fit all_texts_fit
  ident-fits i c e =
      cond-fits (eqb (context_of i) ctx) (global_type ids ctx (symbol_of i) c) _
      (cond-fits (same_text (symbol_of i) (text "undefined") && c) (some (ts_keyword_type dummy_sp "undefined")) _ refl
      (cond-fits (same_text (symbol_of i) (text "NaN") || same_text (symbol_of i) (text "Infinity")) (some (ts_keyword_type dummy_sp "number")) none refl refl))
      (cond-fits (ids.typeof_safe (text_of i)) (some (ts_type_query dummy_sp i)) none (query_fits i e) refl)

  new-fits : (ks : Recs) → all_texts_fit ks ≡ true → fit_of (new_type ids ctx ks) ≡ true
  unfolding new_type
  new-fits ks e =
      cond-fits (is "Id" (kid 0 ks) && (is_no (kid 1 ks) && ids.non_generic_classes (text_of (kid 0 ks)))) (some (reference_to dummy_sp (kid 0 ks))) none
      (reference-fits (kid 0 ks) (kid-fits 0 ks e)) refl

  leaf_by_fits : (k : Expr) (t : Rec) (c : Bool) → texts_fit t ≡ true → fit_of (leaf_by ids ctx k t c) ≡ true
  unfolding leaf_by
  leaf_by_fits x_array t c e = refl
  leaf_by_fits x_object t c e = refl
  leaf_by_fits x_lit t c e = lit-fits (lit_kind (mark_of t)) t c e
  leaf_by_fits x_const t c e = refl
  leaf_by_fits x_satisfies t c e = refl
  leaf_by_fits x_as t c e = refl
  leaf_by_fits x_fn t c e = refl
  leaf_by_fits x_arrow t c e = refl
  leaf_by_fits x_tpl t c e = tpl_fits (kids_of t) c (kids-fit t e)
  leaf_by_fits x_ident t c e = ident-fits t c e
  leaf_by_fits x_unary t c e = minus-fits (lit_kind (mark_of (kid 0 (kids_of t)))) (kid 0 (kids_of t)) c (kid-fits 0 (kids_of t) (kids-fit t e))
  leaf_by_fits x_call t c e = refl
  leaf_by_fits x_new t c e = new-fits (kids_of t) (kids-fit t e)
  leaf_by_fits x_other t c e = refl

pub leaf-fits : (m : Mode) (t : Rec) → texts_fit t ≡ true → fit_of (leaf_of m t) ≡ true
unfolding leaf_of
leaf-fits m t e = leaf_by_fits (ids_in m.scope) m.scope.unresolved (expr_kind (mark_of t)) t m.as_const e

-- ---- `readonly_of`

flagged-fits : (m : Rec) → texts_fit (flagged m) ≡ texts_fit m
unfolding texts_fit
flagged-fits (rec h ks) = refl

member-fits : (b : Bool) (m : Rec) → texts_fit (cond b m (flagged m)) ≡ texts_fit m
member-fits true m = refl
member-fits false m = flagged-fits m

pub members-fit : (ms : Recs) → all_texts_fit (readonly_members ms) ≡ all_texts_fit ms
unfolding readonly_members all_texts_fit
members-fit nil = refl
members-fit (cons m ms) = rw (member-fits (is "Op" m) m, members-fit ms)

rec-fits : (t : Rec) (ms : Recs) → texts_fit t ≡ true → all_texts_fit ms ≡ true → texts_fit (rec (head_of t) ms) ≡ true
unfolding texts_fit
rec-fits (rec h ks) ms e f = rw (text-fits (rec h ks) e, f)

readonly_by_fits : (k : Frozen) (t : Rec) → texts_fit t ≡ true → fit_of (readonly_of_by k t) ≡ true
unfolding readonly_of_by
readonly_by_fits f_type_lit t e =
    cond-fits (plain_members (kids_of t)) (some (rec (head_of t) (readonly_members (kids_of t)))) none (rec-fits t (readonly_members (kids_of t)) e (members-fit (kids_of t) ∙ kids-fit t e)) refl
readonly_by_fits f_array t e = readonly_fits t e
readonly_by_fits f_same t e = e
readonly_by_fits f_other t e = refl

or_fits : (v : Option Rec) (t : Rec) → fit_of v ≡ true → texts_fit t ≡ true → texts_fit (given v t (λ r. r)) ≡ true
or_fits none t f e = e
or_fits (some r) t f e = f

pub as_fits : (b : Bool) (t : Rec) → texts_fit t ≡ true → texts_fit (as_type b t) ≡ true
as_fits false t e = e
as_fits true t e = or_fits (readonly_of t) t (readonly_by_fits (frozen_kind (mark_of t)) t e) e

pub query_fits_if : (b : Bool) (t : Rec) → texts_fit t ≡ true → fit_of (cond b (some (ts_type_query dummy_sp t)) none) ≡ true
query_fits_if b t e = cond-fits b (some (ts_type_query dummy_sp t)) none (query_fits t e) refl

-- ---- Ids that are made

pub name-fits : (h : Head) (name : List ℕ) → length name ≤ 65531 → texts_fit (ident_at h name) ≡ true
unfolding texts_fit all_texts_fit
name-fits h name l = rw (lt-ltb (suc (suc (suc (suc (length name))))) 65536 (omega arith))

-- of the symbol of an Id of the tree
pub symbol-fits : (h : Head) (t : Rec) → texts_fit t ≡ true → texts_fit (ident_at h (symbol_of t)) ≡ true
symbol-fits h t f =
    let z : length (text_of t) < 65536 = ltb-true (length (text_of t)) 65536 (text-fits t f) in
    name-fits h (symbol_of t) (rw length-drop (omega arith))
