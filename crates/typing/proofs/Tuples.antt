-- Arrays: the elements one after the other, up to one that fails; the definition's step by the kind of an element, and what the code does for each; the
-- loop over the children of an array.
use mathlib.Core.Path.{◌≡◌, refl, sym, ap, ◌∙◌, subst}
use mathlib.Core.List.{List, [], ◌∷◌, ◌++◌, append-nil, append_assoc}
use mathlib.Core.Bool.{Bool, true, false, cond}
use mathlib.Core.Option.{Option, none, some}
use Prim.Native.Nat.{ℕ, ◌+◌, ◌≤◌, ◌<◌}
use native.Mathlib.Omega.{arith}
use lib.Dec.{eqb}
use Rattle.std.specs.Prelude.{Option as Answer, Some, None}
use Rattle.definition.specs.Tree.{Head, Rec, Recs, rec, nil, cons, count, head_size, encodes, end_at}
use Rattle.definition.specs.Grammar.{mark}
use Rattle.definition.specs.Record.{head_of, kids_of, mark_of, text_of, ranged, dummy_sp, kid, one, join, given, Diag, diag, Out, pure, on_value}
use Rattle.definition.specs.Counting.{records, all_records}
use Rattle.definition.specs.Helpers.{any_type_ann, ts_readonly, ts_tuple_element, ts_type_query}
use Rattle.definition.specs.Prescan.{PrescannedModuleIds}
use Rattle.definition.specs.Typing.{
  ts_rest_type,
  or_any,
  element,
  Element,
  e_hole,
  e_spread,
  e_expr,
  e_op,
  element_kind,
  element_by,
  Spread,
  s_ident,
  s_array,
  s_other,
  spread_kind,
  spread_by,
  expr_to_ts_type,
  elements,
  spread_type,
  spread_first,
}
use Rattle.definition.specs.Transform.{texts_fit, all_texts_fit}
use Rattle.definition.proofs.Counting.{elements-within}
use Rattle.records.specs.declared.Head.{Head as Fields}
use Rattle.records.specs.declared.Range.{Range as Span}
use Rattle.records.specs.declared.tree.Record.{Record}
use Rattle.records.specs.declared.tree.Records.{Records}
use Rattle.records.specs.Fields.{field_bytes, range_of, made_fields}
use Rattle.records.specs.Views.{rec_of, recs_of, FirstOf, RestOf, ChildrenOf}
use Rattle.records.specs.Writers.{Skips, Fronts}
use Rattle.records.proofs.Records.{recs_none, recs_step}
use Rattle.records.proofs.Fronts.{recs_front}
use Rattle.records.proofs.Views.{accepted}
use Rattle.swc_helpers.specs.Made.{ts_readonly_front, ts_tuple_element_front, ts_rest_type_front}
use Rattle.swc_helpers.proofs.Made.{readonly_is, tuple_element_is, rest_type_is}
use Rattle.output.specs.declared.Output.{Output}
use Rattle.output.specs.declared.Start.{Start}
use Rattle.output.specs.Outputs.{start_of, Puts, Keeps, Marks, Returned, Step, Makes, MakesAll, MakesMaybe, Filled}
use Rattle.output.proofs.Steps.{and-true, step_then, step-as, step-none, step-puts, step-marks, step_back, filled, IsSome, IsNone, maybe-some, maybe-none, maybe-as}
use Rattle.output.proofs.Counter.{records-within}
use Rattle.output.proofs.Recs.{join-nil, join_assoc, count-join, encodes_one, fits_one}
use Rattle.output.proofs.Framing.{makes-keeps, keeps-counter, all_join}
use Rattle.typing.specs.declared.exprs.Mode.{Mode}
use Rattle.typing.specs.Values.{ids_in, type_of}
use Rattle.typing.specs.Steps.{tuple_type, element_type, rest_type, bytes_of_all, fit_of_all, number_of, MakesSome}
use Rattle.output.proofs.Kept.{Lends}
use Rattle.typing.proofs.Options.{Front, makes_wrapped, gone_back, step_skipped, made_around}

-- ---- steps over records, up to the first that fails

-- records before those of the rest, or the failure of the rest
abbrev prepend : Recs → List Diag → Out (Option Recs) → Out (Option Recs)
prepend ts ds o = (given o.0 none (λ us. some (join ts us)), ds ++ o.1, o.2)

abbrev and_then : Out (Option Recs) → (ℕ → Out (Option Recs)) → Out (Option Recs)
and_then x k = given x.0 (none, x.1, x.2) (λ ts. prepend ts x.1 (k x.2))

unfoldable pub all : (Rec → ℕ → Out (Option Recs)) → Recs → ℕ → Out (Option Recs)
all G nil n = (some nil, [], n)
all G (cons r rs) n = and_then (G r n) (λ n. all G rs n)

prepend-none : (x : Out (Option Recs)) → prepend nil [] x ≡ x
prepend-none x = λ i. (go x.0 i, x.1, x.2)
  where
    go : (v : Option Recs) → given v none (λ us. some (join nil us)) ≡ v
    go none = refl
    go (some us) = refl

prepend-prepend : (ts us : Recs) (ds es : List Diag) (x : Out (Option Recs)) → prepend ts ds (prepend us es x) ≡ prepend (join ts us) (ds ++ es) x
prepend-prepend ts us ds es x = λ i. (go x.0 i, sym (append_assoc ds es x.1) i, x.2)
  where
    go : (v : Option Recs) → given (given v none (λ ws. some (join us ws))) none (λ ws. some (join ts ws)) ≡ given v none (λ ws. some (join (join ts us) ws))
    go none = refl
    go (some ws) = ap some (sym (join_assoc ts us ws))

element_then : (k : Element) (h : Head) (typed spread : ℕ → Out (Option Rec)) (more : ℕ → Out (Option Recs)) (n : ℕ)
    → element_by k h typed spread more n ≡ and_then (element_by k h typed spread (λ n. pure (some nil) n) n) more
unfolding element_by
element_then e_hole h typed spread more n = refl
element_then e_spread h typed spread more n = go (spread n).0
  where
    go : (v : Option Rec)
        → given {B = Out (Option Recs)} v (none, (spread n).1 ++ (diag "d4" h ∷ []), (spread n).2) (λ t. element (ts_rest_type dummy_sp t) (spread n).1 (more (spread n).2))
        ≡ and_then (given {B = Out (Option Recs)} v (none, (spread n).1 ++ (diag "d4" h ∷ []), (spread n).2) (λ t. element (ts_rest_type dummy_sp t) (spread n).1 (pure (some nil) (spread n).2))) more
    go none = refl
    go (some t) = λ i. (
      given (more (spread n).2).0 none (λ ts. some (cons (ts_tuple_element dummy_sp (ts_rest_type dummy_sp t)) ts)),
      sym (append-nil (spread n).1) i ++ (more (spread n).2).1,
      (more (spread n).2).2,
    )
element_then e_expr h typed spread more n =
    let o : Out Rec = or_any (typed n) (diag "d1" h ∷ []) in
    λ i. (given (more o.2).0 none (λ ts. some (cons (ts_tuple_element dummy_sp o.0) ts)), sym (append-nil o.1) i ++ (more o.2).1, (more o.2).2)
element_then e_op h typed spread more n = λ i. (go (more n).0 i, (more n).1, (more n).2)
  where
    go : (v : Option Recs) → v ≡ given v none (λ us. some (join nil us))
    go none = refl
    go (some us) = refl

and_then_as : (x : Out (Option Recs)) (k l : ℕ → Out (Option Recs)) → k x.2 ≡ l x.2 → and_then x k ≡ and_then x l
and_then_as x k l e = go x.0
  where
    go : (v : Option Recs) → and_then (v, x.1, x.2) k ≡ and_then (v, x.1, x.2) l
    go none = refl
    go (some us) = ap (prepend us x.1) e

module _ (m : Mode) where
  abbrev ids : PrescannedModuleIds
  ids = ids_in m.scope

  abbrev ctx : ℕ
  ctx = m.scope.unresolved

  -- all the children of an array
  elements-all : (ks : Recs) (n : ℕ) → elements ids ctx ks m.as_const m.as_readonly n ≡ all (element_type m) ks n
  unfolding elements all element_type
  elements-all nil n = refl
  elements-all (cons e es) n =
      element_then (element_kind (mark_of e)) (head_of e) (λ n. expr_to_ts_type ids ctx e m.as_const m.as_readonly n) (λ n. spread_type ids ctx e m.as_const n) (λ n. elements ids ctx es m.as_const m.as_readonly n) n
      ∙ and_then_as (elements ids ctx (one e) m.as_const m.as_readonly n) (λ n. elements ids ctx es m.as_const m.as_readonly n) (λ n. all (element_type m) es n) (elements-all es (elements ids ctx (one e) m.as_const m.as_readonly n).2)

  few-by : (k : Element) (h : Head) (typed spread : ℕ → Out (Option Rec)) (n : ℕ) (us : Recs) → (element_by k h typed spread (λ n. pure (some nil) n) n).0 ≡ some us → count us ≤ 1
  unfolding element_by
  few-by e_hole h typed spread n us e = let z : cons (ts_tuple_element dummy_sp (any_type_ann dummy_sp)) nil ≡ us = cc in omega (arith, ap count z)
  few-by e_spread h typed spread n us e = go (spread n).0 e
    where
      go : (v : Option Rec)
          → (given {B = Out (Option Recs)} v (none, (spread n).1 ++ (diag "d4" h ∷ []), (spread n).2) (λ t. element (ts_rest_type dummy_sp t) (spread n).1 (pure (some nil) (spread n).2))).0 ≡ some us
          → count us ≤ 1
      go none q = absurd (let z : ◌≡◌ {A = ℕ} 0 1 = cc in omega arith)
      go (some t) q = let z : cons (ts_tuple_element dummy_sp (ts_rest_type dummy_sp t)) nil ≡ us = cc in omega (arith, ap count z)
  few-by e_expr h typed spread n us e = let z : cons (ts_tuple_element dummy_sp (or_any (typed n) (diag "d1" h ∷ [])).0) nil ≡ us = cc in omega (arith, ap count z)
  few-by e_op h typed spread n us e = let z : nil ≡ us = cc in omega (arith, ap count z)

  -- one child gives one element at most, and makes at most as many names as it has records
  few-elements : (e : Rec) (n : ℕ) (us : Recs) → (element_type m e n).0 ≡ some us → count us ≤ 1
  unfolding elements element_type
  few-elements e n us q = few-by (element_kind (mark_of e)) (head_of e) (λ n. expr_to_ts_type ids ctx e m.as_const m.as_readonly n) (λ n. spread_type ids ctx e m.as_const n) n us q

  high-elements : (e : Rec) (n : ℕ) → (element_type m e n).2 ≤ n + records e
  unfolding element_type all_records
  high-elements e n = let z = (elements-within ids ctx (one e) m.as_const m.as_readonly n).high in omega (arith, z)

-- ---- the kinds of elements

module _ (m : Mode) (t : Rec) (n : ℕ) where
  abbrev typed : Out (Option Rec)
  typed = expr_to_ts_type (ids m) (ctx m) t m.as_const m.as_readonly n

  element-by : (k : Element) → element_kind (mark_of t) ≡ k
      → element_by k (head_of t) (λ n. expr_to_ts_type (ids m) (ctx m) t m.as_const m.as_readonly n) (λ n. spread_type (ids m) (ctx m) t m.as_const n) (λ n. pure (some nil) n) n ≡ element_type m t n
  unfolding element_type elements
  element-by k e =
      sym (ap (λ (x : Element). element_by x (head_of t) (λ n. expr_to_ts_type (ids m) (ctx m) t m.as_const m.as_readonly n) (λ n. spread_type (ids m) (ctx m) t m.as_const n) (λ n. pure (some nil) n) n) e)

  element_op : mark_of t ≡ mark "Op" → (some nil, [], n) ≡ element_type m t n
  unfolding element_kind element_by
  element_op e = element-by e_op (rw e)

  element_hole : mark_of t ≡ mark "No" → (some (one (ts_tuple_element dummy_sp (any_type_ann dummy_sp))), [], n) ≡ element_type m t n
  unfolding element_kind element_by
  element_hole e = element-by e_hole (rw e)

  element_expr : eqb (mark_of t) (mark "Op") ≡ false → eqb (mark_of t) (mark "Sp") ≡ false → eqb (mark_of t) (mark "No") ≡ false
      → on_value (λ ty. some (one (ts_tuple_element dummy_sp ty))) (or_any typed (diag "d1" (head_of t) ∷ [])) ≡ element_type m t n
  unfolding element_kind element_by
  element_expr a b c =
      let x : Out Rec = or_any typed (diag "d1" (head_of t) ∷ []) in
      (λ i. (some (one (ts_tuple_element dummy_sp x.0)), sym (append-nil x.1) i, x.2)) ∙ element-by e_expr (rw (c, b, a))

  -- a spread, by what it spreads
  abbrev spread_of : Out (Option Rec) → Out (Option Recs)
  spread_of o = given o.0 (none, o.1 ++ (diag "d4" (head_of t) ∷ []), o.2) (λ ty. (some (one (ts_tuple_element dummy_sp (ts_rest_type dummy_sp ty))), o.1, o.2))

  spread-by : (o : Out (Option Rec))
      → spread_of o ≡ given {B = Out (Option Recs)} o.0 (none, o.1 ++ (diag "d4" (head_of t) ∷ []), o.2) (λ ty. element (ts_rest_type dummy_sp ty) o.1 (pure (some nil) o.2))
  spread-by o = go o.0
    where
      go : (v : Option Rec) → spread_of (v, o.1, o.2) ≡ given {B = Out (Option Recs)} v (none, o.1 ++ (diag "d4" (head_of t) ∷ []), o.2) (λ ty. element (ts_rest_type dummy_sp ty) o.1 (pure (some nil) o.2))
      go none = refl
      go (some ty) = λ i. (some (one (ts_tuple_element dummy_sp (ts_rest_type dummy_sp ty))), sym (append-nil o.1) i, o.2)

  first-spread : (h : Head) (ks : Recs) → 0 < count ks
      → spread_type (ids m) (ctx m) (rec h ks) m.as_const n ≡ spread_by (ids m) (ctx m) (spread_kind (mark_of (kid 0 ks))) (kid 0 ks) (λ n. expr_to_ts_type (ids m) (ctx m) (kid 0 ks) m.as_const false n) n
  unfolding spread_type spread_first
  first-spread h nil l = absurd (omega arith)
  first-spread h (cons e es) l = refl

  rec_eta : (t : Rec) → rec (head_of t) (kids_of t) ≡ t
  rec_eta (rec h ks) = refl

  element_spread : mark_of t ≡ mark "Sp" → 0 < count (kids_of t) → {x : Rec} → x ≡ kid 0 (kids_of t) → spread_of (rest_type m x n) ≡ element_type m t n
  unfolding element_kind element_by rest_type
  element_spread e l {x} k =
      let f : Rec → Out (Option Rec) = λ (y : Rec). spread_by (ids m) (ctx m) (spread_kind (mark_of y)) y (λ n. expr_to_ts_type (ids m) (ctx m) y m.as_const false n) n in
      ap spread_of (ap f k ∙ (sym (first-spread (head_of t) (kids_of t) l) ∙ ap (λ (y : Rec). spread_type (ids m) (ctx m) y m.as_const n) (rec_eta t)))
      ∙ (spread-by (spread_type (ids m) (ctx m) t m.as_const n) ∙ element-by e_spread (rw e))

  -- ---- what is spread

  rest-by : (k : Spread) → spread_kind (mark_of t) ≡ k → spread_by (ids m) (ctx m) k t (λ n. expr_to_ts_type (ids m) (ctx m) t m.as_const false n) n ≡ rest_type m t n
  unfolding rest_type
  rest-by k e = sym (ap (λ (x : Spread). spread_by (ids m) (ctx m) x t (λ n. expr_to_ts_type (ids m) (ctx m) t m.as_const false n) n) e)

  pub rest_ident : mark_of t ≡ mark "Id" → (cond ((ids_in m.scope).array_typed (text_of t)) (some (ts_type_query dummy_sp t)) none, [], n) ≡ rest_type m t n
  unfolding spread_kind spread_by
  rest_ident e = rest-by s_ident (rw e)

  pub rest_array : mark_of t ≡ mark "Ar" → type_of (record { scope = m.scope; as_const = m.as_const; as_readonly = false; frozen = false }) t n ≡ rest_type m t n
  unfolding spread_kind spread_by type_of
  rest_array e = rest-by s_array (rw e)

  pub rest_other : eqb (mark_of t) (mark "Id") ≡ false → eqb (mark_of t) (mark "Ar") ≡ false → (none, [], n) ≡ rest_type m t n
  unfolding spread_kind spread_by
  rest_other a b = rest-by s_other (rw (a, b))

-- ---- fronts

pub readonly_front : Front (ts_readonly_front dummy_sp) true (ts_readonly dummy_sp)
unfolding texts_fit all_texts_fit
readonly_front = record { bytes = λ ty. sym (readonly_is dummy_sp ty); fits = λ ty. sym (and-true (texts_fit ty)) }

element_front : Front (ts_tuple_element_front dummy_sp) true (ts_tuple_element dummy_sp)
unfolding texts_fit all_texts_fit
element_front = record { bytes = λ ty. sym (tuple_element_is dummy_sp ty); fits = λ ty. sym (and-true (texts_fit ty)) }

rest_front : Front (ts_rest_type_front dummy_sp) true (ts_rest_type dummy_sp)
unfolding texts_fit all_texts_fit
rest_front = record { bytes = λ ty. sym (rest_type_is dummy_sp ty); fits = λ ty. sym (and-true (texts_fit ty)) }

-- ---- what the code does for each kind

pub some_as : {a b : Output} {r : Answer ℕ} {x y : Out (Option Recs)} → MakesSome a b r x → x ≡ y → MakesSome a b r y
some_as {a} {b} {r} w e = subst (λ (z : Out (Option Recs)). MakesSome a b r z) e w

some_one : {a b : Output} {x : Out Rec} → Makes a b x → MakesSome a b (Some 1) (on_value (λ t. some (one t)) x)
some_one {x = x} w = record { told = refl; step = step-as w.step (sym (encodes_one x.0)) refl refl (sym (fits_one x.0)) }

module _ (m : Mode) (t : Rec) where
  pub op_made : (o : Output) → mark_of t ≡ mark "Op" → MakesSome o o (Some 0) (element_type m t o.names.id_counter)
  unfolding encodes all_texts_fit
  op_made o e = some_as (record { told = refl; step = step-none o }) (element_op m t o.names.id_counter e)

  module _ {a b : Output} (front : Puts a b (ts_tuple_element_front dummy_sp) true) where
    pub hole_made : {c : Output} → Keeps b c (any_type_ann dummy_sp) → mark_of t ≡ mark "No" → MakesSome a c (Some 1) (element_type m t a.names.id_counter)
    hole_made w e =
        some_as (some_one (makes_wrapped front element_front (makes-keeps (any_type_ann dummy_sp) w)))
        ((λ i. (some (one (ts_tuple_element dummy_sp (any_type_ann dummy_sp))), [], keeps-counter front i)) ∙ element_hole m t a.names.id_counter e)

    pub expr_made : {c d : Output} {x : Answer (Unit {0})} → eqb (mark_of t) (mark "Op") ≡ false → eqb (mark_of t) (mark "Sp") ≡ false → eqb (mark_of t) (mark "No") ≡ false
        → MakesMaybe b c x (type_of (record { scope = m.scope; as_const = m.as_const; as_readonly = m.as_readonly; frozen = false }) t b.names.id_counter) → Filled c d x (diag "d1" (head_of t))
        → MakesSome a d (Some 1) (element_type m t a.names.id_counter)
    unfolding type_of
    expr_made {x = x} e f g w z =
        some_as (some_one (makes_wrapped front element_front (filled w z)))
        (ap (λ (n : ℕ). on_value (λ ty. some (one (ts_tuple_element dummy_sp ty))) (or_any (typed m t n) (diag "d1" (head_of t) ∷ []))) (keeps-counter front) ∙ element_expr m t a.names.id_counter e f g)

    module _ {c : Output} (inner : Puts b c (ts_rest_type_front dummy_sp) true) (e : mark_of t ≡ mark "Sp") (l : 0 < count (kids_of t)) {x : Rec} (k : x ≡ kid 0 (kids_of t)) where
      spread-as : element_type m t c.names.id_counter ≡ element_type m t a.names.id_counter
      spread-as = ap (element_type m t) (keeps-counter inner ∙ keeps-counter front)

      pub spread_made : {d : Output} → IsSome c d (rest_type m x c.names.id_counter) → MakesSome a d (Some 1) (element_type m t a.names.id_counter)
      spread_made {d} w =
          let y : Out (Option Rec) = rest_type m x c.names.id_counter in
          let z : Makes c d (w.type, y.1, y.2) = record { step = w.step } in
          some_as (some_one (makes_wrapped front element_front (makes_wrapped inner rest_front z)))
          (ap (λ (v : Option Rec). spread_of m t c.names.id_counter (v, y.1, y.2)) (sym w.same) ∙ (element_spread m t c.names.id_counter e l k ∙ spread-as))

      pub spread_failed : {d d' d'' : Output} {s : Start} → IsNone c d (rest_type m x c.names.id_counter) → s ≡ start_of a → Returned d d' s → Marks d' d'' (diag "d4" (head_of t))
          → MakesSome a d'' None (element_type m t a.names.id_counter)
      spread_failed {d' = d'} w q r u =
          let y : Out (Option Rec) = rest_type m x c.names.id_counter in
          let z = step_back (step_then (step-puts front) (step_then (step-puts inner) w.step)) (gone_back a q r) in
          some_as (record { told = refl; step = step-as (step_then z (step-marks u)) refl refl z.counter refl })
          (ap (λ (v : Option Rec). spread_of m t c.names.id_counter (v, y.1, y.2)) (sym w.same) ∙ (element_spread m t c.names.id_counter e l k ∙ spread-as))

-- ---- the loop over the children of an array

-- the records k are left; all before them gave n elements, and all give `total`
pub record Collecting (m : Mode) (total : Out (Option Recs)) (limit : ℕ) (a b : Output) (k : Records) (n : ℕ) : Type 0 where
  pub low : b.names.id_counter ≤ k.at
  pub few : n + k.count ≤ limit
  pub done : Out Recs
  pub makes : MakesAll a b done
  pub left : prepend done.0 done.1 (all (element_type m) (recs_of k) b.names.id_counter) ≡ total
  pub many : n ≡ count done.0

-- where the next record begins, and how many lie before it
next-low : {k l : Records} {x : Record} {n m : ℕ} → FirstOf k x → RestOf k l → n ≤ k.at → m ≤ n + records (rec_of x) → m ≤ l.at
unfolding rec_of
next-low {k} {l} {x} e q h g =
    let p : end_at x.levels x.tree.now x.at ≡ l.at = rw (e.levels, e.tree, e.place) (sym q.place) in
    omega (arith, records-within x.levels x.tree.now x.at (accepted x), p, e.place, h, g)

module _ (m : Mode) where
  collecting_start : (o : Output) {r : Record} {k : Records} (n : ℕ) → ChildrenOf r k → n ≤ r.at → n ≡ o.names.id_counter → Collecting m (all (element_type m) (kids_of (rec_of r)) n) (count (kids_of (rec_of r))) o o k 0
  unfolding encodes all_texts_fit
  collecting_start o {r} {k} n c l e = record {
    low = omega (arith, c.behind, l, e);
    few = omega (arith, c.many);
    done = pure nil o.names.id_counter;
    makes = record { step = step-none o };
    left = prepend-none (all (element_type m) (recs_of k) o.names.id_counter) ∙ (ap (λ (x : ℕ). all (element_type m) (recs_of k) x) (sym e) ∙ ap (λ (x : Recs). all (element_type m) x n) c.are);
    many = refl;
  }

  module _ {total : Out (Option Recs)} {limit : ℕ} {a b : Output} {k : Records} {n : ℕ} (i : Collecting m total limit a b k n) where
    abbrev given_by : Record → Out (Option Recs)
    given_by x = element_type m (rec_of x) b.names.id_counter

    first-is : (x : Record) {ks : Recs} → recs_of k ≡ cons (rec_of x) ks → {v : Option Recs} → (given_by x).0 ≡ v → prepend i.done.0 i.done.1 (and_then (v, (given_by x).1, (given_by x).2) (λ n. all (element_type m) ks n)) ≡ total
    unfolding all
    first-is x {ks} q e =
        ap (λ (v : Option Recs). prepend i.done.0 i.done.1 (and_then (v, (given_by x).1, (given_by x).2) (λ n. all (element_type m) ks n))) (sym e)
        ∙ (ap (λ (ks : Recs). prepend i.done.0 i.done.1 (all (element_type m) ks b.names.id_counter)) (sym q) ∙ i.left)

    -- one record more
    pub collecting_turn : {x : Record} {l : Records} → (0 < k.count) × FirstOf k x × RestOf k l → {c : Output} {r : Answer ℕ} {j : ℕ} → MakesSome b c r (given_by x) → r ≡ Some j → (n + j ≤ limit) × Collecting m total limit a c l (n + j)
    collecting_turn {x} {l} s {c} {r} {j} w q = go (given_by x).0 refl w.told w.step
      where
        go : (v : Option Recs) → (given_by x).0 ≡ v → r ≡ number_of v → Step b c (bytes_of_all v) (given_by x).1 (given_by x).2 (fit_of_all v) → (n + j ≤ limit) × Collecting m total limit a c l (n + j)
        go none e t z = absurd (let y : ◌≡◌ {A = ℕ} 0 1 = cc in omega arith)
        go (some us) e t z =
            let y : j ≡ count us = cc in
            let few = few-elements m (rec_of x) b.names.id_counter us e in (
              omega (arith, y, few, i.few, s.0),
              record {
                low = next-low s.1 s.2 i.low (omega (arith, z.counter, high-elements m (rec_of x) b.names.id_counter));
                few = omega (arith, y, few, i.few, s.0, s.2.many);
                done = (join i.done.0 us, i.done.1 ++ (given_by x).1, (given_by x).2);
                makes = all_join i.makes (record { step = z });
                left =
                    ap (λ (m' : ℕ). prepend (join i.done.0 us) (i.done.1 ++ (given_by x).1) (all (element_type m) (recs_of l) m')) z.counter
                    ∙ (sym (prepend-prepend i.done.0 us i.done.1 (given_by x).1 (all (element_type m) (recs_of l) (given_by x).2)) ∙ first-is x (recs_step s.0 s.1 s.2) e);
                many = omega (arith, count-join i.done.0 us, i.many, y);
              },
            )

    -- one fails, and the array is given up
    collecting_stop : {x : Record} → 0 < k.count → FirstOf k x → {c : Output} {r : Answer ℕ} → MakesSome b c r (given_by x) → r ≡ None → (ds : List Diag) × (e : ℕ) × (total ≡ (none, ds, e)) × (E : List ℕ) × (f : Bool) × Step a c E ds e f
    collecting_stop {x} h f {c} {r = r} w q = go (given_by x).0 refl w.told w.step
      where
        go : (v : Option Recs) → (given_by x).0 ≡ v → r ≡ number_of v → Step b c (bytes_of_all v) (given_by x).1 (given_by x).2 (fit_of_all v)
            → (ds : List Diag) × (e : ℕ) × (total ≡ (none, ds, e)) × (E : List ℕ) × (f : Bool) × Step a c E ds e f
        go (some us) e t z = absurd (let y : ◌≡◌ {A = ℕ} 0 1 = cc in omega arith)
        go none e t z = (i.done.1 ++ (given_by x).1, (given_by x).2, sym (first-is x (recs_front h f).1 e), _, _, step_then i.makes.step z)

  -- none is left
  collecting_done : {total : Out (Option Recs)} {limit : ℕ} {a b : Output} {k : Records} {n : ℕ} (i : Collecting m total limit a b k n) → k.count ≡ 0 → total ≡ (some i.done.0, i.done.1, b.names.id_counter)
  unfolding all
  collecting_done {b = b} {k = k} i h =
      sym i.left
      ∙ (ap (λ (ks : Recs). prepend i.done.0 i.done.1 (all (element_type m) ks b.names.id_counter)) (recs_none k h) ∙ λ j. (some (join-nil i.done.0 j), append-nil i.done.1 j, b.names.id_counter))

-- ---- the tuple

module _ (m : Mode) (r : Record) where
  abbrev whole : ℕ → Out (Option Recs)
  whole n = all (element_type m) (kids_of (rec_of r)) n

  tuple-of : (n : ℕ) {x : Out (Option Recs)} → whole n ≡ x → on_value (λ (ts : Option Recs). given ts none (λ ts. some (rec (ranged "Tu" (head_of (rec_of r)) []) ts))) x ≡ tuple_type m (rec_of r) n
  unfolding tuple_type
  tuple-of n e = ap (on_value (λ (ts : Option Recs). given ts none (λ ts. some (rec (ranged "Tu" (head_of (rec_of r)) []) ts)))) (sym (elements-all m (kids_of (rec_of r)) n ∙ e))

  -- what is written before the first element
  abbrev pub TupleLoop : Output → Output → Records → ℕ → Type 0
  TupleLoop a b k n = Collecting m (whole a.names.id_counter) (count (kids_of (rec_of r))) a b k n

  pub tuple_start : (o : Output) {k : Records} → ChildrenOf r k → o.names.id_counter ≤ r.at → TupleLoop o o k 0 × (k.levels < r.levels) × (k.tree ≡ r.tree)
  tuple_start o c l = (collecting_start m o o.names.id_counter c l refl, omega (arith, c.levels, c.left), c.tree)

  module _ {o a b : Output} {k : Records} {n : ℕ} (sk : Skips o.out.now a.out.now head_size) (os : Lends a o) (ad : a.diagnostics ≡ o.diagnostics) (an : a.names ≡ o.names) (af : a.fits ≡ o.fits) (i : TupleLoop a b k n) where
    pub tuple_failed : {x : Record} → 0 < k.count → FirstOf k x → {c d : Output} {t : Answer ℕ} {s : Start} → MakesSome b c t (element_type m (rec_of x) b.names.id_counter) → t ≡ None
        → s ≡ start_of o → Returned c d s → MakesMaybe o d None (tuple_type m (rec_of r) o.names.id_counter)
    tuple_failed h f w q e back =
        let u = collecting_stop m i h f w q in
        maybe-as (maybe-none (step_skipped sk os ad u.5 e back)) (tuple-of a.names.id_counter u.2 ∙ ap (λ x. tuple_type m (rec_of r) x.id_counter) an)

    pub tuple_made : {d : Output} {h : Fields} {range : Span} {s : Start} → k.count ≡ 0 → s ≡ start_of o → range ≡ range_of (head_of (rec_of r)) → h ≡ made_fields (mark "Tu") 0 range 0 n
        → Fronts b.out.now d.out.now s.at (field_bytes h ++ []) → Lends d b → d.diagnostics ≡ b.diagnostics → d.names ≡ b.names → d.fits ≡ b.fits → MakesMaybe o d (Some tt) (tuple_type m (rec_of r) o.names.id_counter)
    tuple_made {d} h e g q v ds dd dn df =
        let z : Makes o d (rec (ranged "Tu" (head_of (rec_of r)) []) i.done.0, i.done.1, i.done.2) = made_around r (mark "Tu") sk os ad an af i.makes e g q v ds dd dn df i.many in
        maybe-as (maybe-some z.step)
        ((λ j. (some (rec (ranged "Tu" (head_of (rec_of r)) []) i.done.0), i.done.1, sym i.makes.step.counter j))
        ∙ (tuple-of a.names.id_counter (collecting_done m i h) ∙ ap (λ x. tuple_type m (rec_of r) x.id_counter) an))
