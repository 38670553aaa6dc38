-- Functions: the definition's step by the kind of a parameter, what the code does for each, and the loop over the parameters.
use mathlib.Core.Path.{◌≡◌, refl, sym, ap, ◌∙◌, subst}
use mathlib.Core.List.{List, [], ◌∷◌, ◌++◌, append_assoc}
use mathlib.Core.Bool.{Bool, true, false, cond, ◌&&◌}
use mathlib.Core.Logic.{◌⊎◌, inl, inr}
use mathlib.Core.Option.{Option, none, some}
use Prim.Native.Nat.{ℕ, ◌+◌, ◌≤◌, ◌<◌}
use native.Mathlib.Numerals.{add-one}
use native.Mathlib.Omega.{arith}
use lib.Dec.{eqb}
use lib.ListN.{length}
use borrow.Author.Tests.{ne_eqb}
use Rattle.std.specs.Prelude.{Option as Answer, Some, None}
use Rattle.definition.specs.Tree.{Head, Rec, Recs, rec, nil, cons, count, head_size, encode, encodes, end_at, tree_at}
use Rattle.definition.specs.Grammar.{mark}
use Rattle.definition.specs.Record.{head_of, kids_of, mark_of, symbol_of, is, dummy_sp, kid, one, given, Diag, diag, Out, pure, if_m, on_value, flat}
use Rattle.definition.specs.Counting.{records}
use Rattle.definition.specs.Helpers.{any_type_ann}
use Rattle.definition.specs.Names.{gen_unique_name}
use Rattle.definition.specs.Prescan.{PrescannedModuleIds}
use Rattle.definition.specs.Typing.{Param, q_keep, q_assign, q_expr, q_other, param_kind, param_by, binding_ident, default_param, fn_type, expr_to_ts_type, type_second, fn_param, param_first, pat_to_ts_fn_param}
use Rattle.definition.specs.Transform.{texts_fit, all_texts_fit}
use Rattle.definition.proofs.Children.{end-inside}
use Rattle.definition.proofs.Counting.{fn_param-within, pat_to_ts_fn_param-within, counter-low, counter-high}
use Rattle.records.specs.declared.Head.{Head as Fields}
use Rattle.records.specs.declared.Range.{Range as Span}
use Rattle.records.specs.declared.marks.Mark.{Mark}
use Rattle.records.specs.declared.marks.Mark.TheVariants.{Bd, Pb, Rs, Po, Ag, Pe}
use Rattle.records.specs.declared.tree.Record.{Record}
use Rattle.records.specs.declared.tree.Records.{Records}
use Rattle.records.specs.Fields.{span, field_bytes, range_of, made_fields}
use Rattle.records.specs.Marks.{number_of}
use Rattle.records.specs.Views.{rec_of, behind, FirstOf, RestOf, From, ChildIs}
use Rattle.records.specs.Writers.{Skips, Fronts}
use Rattle.records.proofs.SameMarks.{marked, not_marked}
use Rattle.records.proofs.Views.{accepted}
use Rattle.prescan.specs.declared.module_names.Scope.{Scope}
use Rattle.output.specs.declared.Output.{Output}
use Rattle.output.specs.declared.Start.{Start}
use Rattle.output.specs.Outputs.{start_of, Puts, Keeps, Marks, Returned, Step, Makes, MakesAll, MakesCounted, bytes_of, fit_of, told_of}
use Rattle.output.proofs.Steps.{step_then, step-as, step-none, step-puts, step-marks, IsSome, IsNone, maybe-some, maybe-none}
use Rattle.output.proofs.Counter.{records-within}
use Rattle.output.proofs.Recs.{encodes_one, fits_one}
use Rattle.output.proofs.Framing.{makes-as, keeps-counter}
use Rattle.output.proofs.Each.{Numbering, numbering_start, numbering_turn, numbering_count, making_done}
use Rattle.typing.specs.Values.{ids_in, mutable_mode, type_of}
use Rattle.typing.specs.Parts.{return_type, binding_front, unique_front}
use Rattle.typing.specs.Unnamed.{Unnamed}
use Rattle.typing.specs.Steps.{pat_type, param_type, params_from, function_type, counted_of, MakesAtMostOne}
use Rattle.typing.proofs.ExprSteps.{second_is}
use Rattle.typing.proofs.Members.{counted_as, counted_none}
use Rattle.typing.proofs.KidSlots.{two_at_least}
use Rattle.typing.proofs.LeafTexts.{kids-fit, kid-fits, symbol-fits}
use Rattle.typing.proofs.BindingFronts.{named-made}
use Rattle.typing.proofs.Raised.{unnamed-made}
use Rattle.output.proofs.Kept.{Lends}
use Rattle.typing.proofs.Options.{step_gone, step_skipped, made_around}

-- ---- the kinds of patterns

-- the patterns that stay
abbrev pub Kept : Mark → Type 0
Kept m = (m ≡ Bd) ⊎ ((m ≡ Pb) ⊎ ((m ≡ Rs) ⊎ (m ≡ Po)))

module _ (scope : Scope) (t : Rec) (n : ℕ) where
  abbrev ctx : ℕ
  ctx = scope.unresolved

  abbrev ids : PrescannedModuleIds
  ids = ids_in scope

  pat_eta : (t : Rec) → pat_to_ts_fn_param ids ctx t n ≡ param_by (param_kind (mark_of t)) (head_of t) (kids_of t) (λ n. type_second ids ctx (kids_of t) false false n) n
  unfolding pat_to_ts_fn_param
  pat_eta (rec h ks) = refl

  rec_eta : (t : Rec) → t ≡ rec (head_of t) (kids_of t)
  rec_eta (rec h ks) = refl

  pat_by : (k : Param) → param_kind (mark_of t) ≡ k → param_by k (head_of t) (kids_of t) (λ n. type_second ids ctx (kids_of t) false false n) n ≡ pat_type scope t n
  unfolding pat_type
  pat_by k e = sym (pat_eta t ∙ ap (λ (x : Param). param_by x (head_of t) (kids_of t) (λ n. type_second ids ctx (kids_of t) false false n) n) e)

  kept-kind : {m : Mark} → number_of m ≡ mark_of t → Kept m → param_kind (mark_of t) ≡ q_keep
  unfolding param_kind
  kept-kind {m} q (inl e) = rw (marked m q e)
  kept-kind {m} q (inr (inl e)) = rw (marked m q e)
  kept-kind {m} q (inr (inr (inl e))) = rw (marked m q e)
  kept-kind {m} q (inr (inr (inr e))) = rw (marked m q e)

  pat_keep : {m : Mark} → number_of m ≡ mark_of t → Kept m → (one t, [], n) ≡ pat_type scope t n
  unfolding param_by
  pat_keep q e = ap (λ (r : Rec). (one r, [], n)) (rec_eta t) ∙ pat_by q_keep (kept-kind q e)

  pat_expr : mark_of t ≡ mark "Pe" → {x : Rec} → x ≡ kid 0 (kids_of t) → (nil, diag "d1" (head_of x) ∷ [], n) ≡ pat_type scope t n
  unfolding param_kind param_by
  pat_expr e k = ap (λ (r : Rec). (nil, diag "d1" (head_of r) ∷ [], n)) k ∙ pat_by q_expr (rw e)

  pat_other : {m : Mark} → number_of m ≡ mark_of t → (m ≡ Bd → ⊥) → (m ≡ Pb → ⊥) → (m ≡ Rs → ⊥) → (m ≡ Po → ⊥) → (m ≡ Ag → ⊥) → (m ≡ Pe → ⊥) → (nil, [], n) ≡ pat_type scope t n
  unfolding param_kind param_by
  pat_other {m} q a b c d e f =
      pat_by q_other (rw (not_marked m q Bd a, not_marked m q Pb b, not_marked m q Rs c, not_marked m q Po d, not_marked m q Ag e, not_marked m q Pe f))

  -- ---- defaults

  module _ (e : mark_of t ≡ mark "Ag") (l : 1 < count (kids_of t)) {x : Rec} (k : x ≡ kid 1 (kids_of t)) where
    -- the type of the default
    abbrev default : Out (Option Rec)
    default = type_of (mutable_mode scope) x n

    assign_is : given default.0 (nil, default.1, default.2) (λ ty. default_param (head_of t) (kid 0 (kids_of t)) ty default.1 default.2) ≡ pat_type scope t n
    unfolding param_kind param_by type_of
    assign_is =
        ap (λ (o : Out (Option Rec)). given {B = Out Recs} o.0 (nil, o.1, o.2) (λ ty. default_param (head_of t) (kid 0 (kids_of t)) ty o.1 o.2))
        (ap (λ (x : Rec). expr_to_ts_type ids ctx x false false n) k ∙ sym (second_is ids ctx (kids_of t) false false n l))
        ∙ pat_by q_assign (rw e)

    given-as : (v : Option Rec) (f f' : Rec → Out Recs) → ((ty : Rec) → f ty ≡ f' ty) → given v (nil, default.1, default.2) f ≡ given v (nil, default.1, default.2) f'
    given-as none f f' h = refl
    given-as (some ty) f f' h = h ty

    pat_untyped : default.0 ≡ none → (nil, default.1, default.2) ≡ pat_type scope t n
    pat_untyped z = ap (λ (v : Option Rec). given {B = Out Recs} v (nil, default.1, default.2) (λ ty. default_param (head_of t) (kid 0 (kids_of t)) ty default.1 default.2)) (sym z) ∙ assign_is

    pat_named : mark_of (kid 0 (kids_of t)) ≡ mark "Bd" → {ty : Rec} → default.0 ≡ some ty
        → (one (binding_ident (head_of t) (symbol_of (kid 0 (kids_of (kid 0 (kids_of t))))) ty), default.1, default.2) ≡ pat_type scope t n
    unfolding default_param
    pat_named f {ty} z =
        (let y : is "Bd" (kid 0 (kids_of t)) ≡ true = rw f in rw y refl)
        ∙ (ap (λ (v : Option Rec). given {B = Out Recs} v (nil, default.1, default.2) (λ ty. default_param (head_of t) (kid 0 (kids_of t)) ty default.1 default.2)) (sym z) ∙ assign_is)

    pat_unnamed : (mark_of (kid 0 (kids_of t)) ≡ mark "Bd" → ⊥) → {ty : Rec} → default.0 ≡ some ty
        → (one (binding_ident (head_of t) (gen_unique_name (default.2 + 1)) ty), default.1, default.2 + 1) ≡ pat_type scope t n
    unfolding default_param
    pat_unnamed f {ty} z =
        (let y : is "Bd" (kid 0 (kids_of t)) ≡ false = ne_eqb _ _ f in rw (y, add-one) refl)
        ∙ (ap (λ (v : Option Rec). given {B = Out Recs} v (nil, default.1, default.2) (λ ty. default_param (head_of t) (kid 0 (kids_of t)) ty default.1 default.2)) (sym z) ∙ assign_is)

-- ---- what the code does for each

pub most_as : {a b : Output} {r : Answer (Unit {0})} {x y : Out Recs} → MakesAtMostOne a b r x → x ≡ y → MakesAtMostOne a b r y
most_as {a} {b} {r} w e = subst (λ (z : Out Recs). MakesAtMostOne a b r z) e w

most_one : {a b : Output} {t : Rec} {ds : List Diag} {n : ℕ} → Step a b (encode t) ds n (texts_fit t) → MakesAtMostOne a b (Some tt) (one t, ds, n)
most_one {t = t} w = record { value = some t; same = refl; made = maybe-some w }

most_none : {a b : Output} {ds : List Diag} {n : ℕ} → Step a b [] ds n true → MakesAtMostOne a b None (nil, ds, n)
most_none w = record { value = none; same = refl; made = maybe-none w }

module _ (scope : Scope) (t : Rec) where
  pub pattern_kept : {a b : Output} {m : Mark} → Keeps a b t → number_of m ≡ mark_of t → Kept m → MakesAtMostOne a b (Some tt) (pat_type scope t a.names.id_counter)
  pattern_kept {a} w q e = most_as (most_one (step-puts w)) (pat_keep scope t a.names.id_counter q e)

  pub pattern_marked : {a b : Output} {x : Rec} → Marks a b (diag "d1" (head_of x)) → mark_of t ≡ mark "Pe" → x ≡ kid 0 (kids_of t) → MakesAtMostOne a b None (pat_type scope t a.names.id_counter)
  pattern_marked {a} w e k = most_as (most_none (step-marks w)) (pat_expr scope t a.names.id_counter e k)

  pub pattern_gone : (o : Output) {m : Mark} → number_of m ≡ mark_of t → (m ≡ Bd → ⊥) → (m ≡ Pb → ⊥) → (m ≡ Rs → ⊥) → (m ≡ Po → ⊥) → (m ≡ Ag → ⊥) → (m ≡ Pe → ⊥) → MakesAtMostOne o o None (pat_type scope t o.names.id_counter)
  pattern_gone o q a b c d e f = most_as (most_none (step-none o)) (pat_other scope t o.names.id_counter q a b c d e f)

  module _ (e : mark_of t ≡ mark "Ag") (l : 1 < count (kids_of t)) {x : Rec} (k : x ≡ kid 1 (kids_of t)) {a b : Output} where
    module _ (front : Puts a b (binding_front (span (range_of (head_of t))) (symbol_of (kid 0 (kids_of (kid 0 (kids_of t)))))) true) where
      same-names : pat_type scope t b.names.id_counter ≡ pat_type scope t a.names.id_counter
      same-names = ap (pat_type scope t) (keeps-counter front)

      pub named_made : {c : Output} → mark_of (kid 0 (kids_of t)) ≡ mark "Bd" → texts_fit t ≡ true → IsSome b c (type_of (mutable_mode scope) x b.names.id_counter)
          → MakesAtMostOne a c (Some tt) (pat_type scope t a.names.id_counter)
      named_made f g w =
          let name : Rec = kid 0 (kids_of (kid 0 (kids_of t))) in
          let fits : texts_fit name ≡ true = kid-fits 0 _ (kids-fit _ (kid-fits 0 _ (kids-fit t g))) in
          most_as (most_one (named-made (head_of t) (symbol_of name) front (symbol-fits (head_of t) name fits) w)) (pat_named scope t b.names.id_counter e l k f w.same ∙ same-names)

      pub named_failed : {c d : Output} {s : Start} → IsNone b c (type_of (mutable_mode scope) x b.names.id_counter) → s ≡ start_of a → Returned c d s → MakesAtMostOne a d None (pat_type scope t a.names.id_counter)
      named_failed w q r = most_as (most_none (step_gone front w q r)) (pat_untyped scope t b.names.id_counter e l k w.same ∙ same-names)

    module _ (sk : Skips a.out.now b.out.now (unique_front (a.names.id_counter + 1))) (bs : Lends b a) (bd : b.diagnostics ≡ a.diagnostics) (bn : b.names ≡ a.names) (bf : b.fits ≡ a.fits) where
      same-after : pat_type scope t b.names.id_counter ≡ pat_type scope t a.names.id_counter
      same-after = ap (λ x. pat_type scope t x.id_counter) bn

      pub unnamed_made : {c d : Output} {s : Start} → (mark_of (kid 0 (kids_of t)) ≡ mark "Bd" → ⊥) → IsSome b c (type_of (mutable_mode scope) x b.names.id_counter) → s ≡ start_of a
          → Unnamed c d s a.names.id_counter (span (range_of (head_of t))) → MakesAtMostOne a d (Some tt) (pat_type scope t a.names.id_counter)
      unnamed_made {c} {d} f w q u =
          let u' : Unnamed c d (start_of a) a.names.id_counter (span (range_of (head_of t))) = subst (λ (y : Start). Unnamed c d y a.names.id_counter (span (range_of (head_of t)))) q u in
          most_as (most_one (unnamed-made (head_of t) a.names.id_counter (record { same = ap (λ x. x.ghost_name) bs; skips = sk; diagnostics = bd; names = bn; fits = bf }) w u')) (pat_unnamed scope t b.names.id_counter e l k f w.same ∙ same-after)

      pub unnamed_failed : {c d : Output} {s : Start} → IsNone b c (type_of (mutable_mode scope) x b.names.id_counter) → s ≡ start_of a → Returned c d s → MakesAtMostOne a d None (pat_type scope t a.names.id_counter)
      unnamed_failed w q r = most_as (most_none (step_skipped sk bs bd w.step q r)) (pat_untyped scope t b.names.id_counter e l k w.same ∙ same-after)

-- how far the counter has come once the default has been typed
pub raised : (scope : Scope) {r x : Record} {i n : ℕ} {b c : Output} → ChildIs r i x → n ≤ r.at → IsSome b c (type_of (mutable_mode scope) (rec_of x) n) → (n ≤ c.names.id_counter) × (c.names.id_counter < length r.tree.now)
unfolding type_of rec_of
raised scope {r} {x} {n = n} k h w =
    let ids : PrescannedModuleIds = ids_in scope in
    let t : Rec = tree_at x.levels x.tree.now x.at in
    let last : end_at x.levels x.tree.now x.at ≤ length x.tree.now = end-inside x.levels x.tree.now x.at (accepted x) in (
      omega (arith, w.step.counter, counter-low ids scope.unresolved t false false n),
      omega (arith, w.step.counter, counter-high ids scope.unresolved t false false n, records-within x.levels x.tree.now x.at (accepted x), last, k.behind_it, h, ap (λ x. length x.now) k.tree),
    )

-- ---- one parameter

pub most_counted : {a b : Output} {t : Answer (Unit {0})} {k : ℕ} {x : Out Recs} → MakesAtMostOne a b t x → k ≡ counted_of t → MakesCounted a b k x
unfolding encodes all_texts_fit
most_counted {a} {b} {t} {k} {x} w e = go w.value w.same w.made.told w.made.step
  where
    go : (v : Option Rec) → x.0 ≡ given v nil one → t ≡ told_of v → Step a b (bytes_of v) x.1 x.2 (fit_of v) → MakesCounted a b k x
    go none q r z = rw (e, r, q) (record { many = refl; made = record { step = z } })
    go (some v) q r z = rw (e, r, q) (record { many = refl; made = record { step = step-as z (sym (encodes_one v)) refl refl (sym (fits_one v)) } })

module _ (scope : Scope) (t : Rec) (n : ℕ) where
  pub param_arrow : pat_type scope t n ≡ param_type scope false t n
  unfolding pat_type param_type
  param_arrow = refl

  param_eta : (t : Rec) → fn_param (ids_in scope) scope.unresolved t n ≡ if_m (eqb (mark_of t) (mark "Pa")) (λ n. param_first (ids_in scope) scope.unresolved (kids_of t) n) (pure nil) n
  unfolding fn_param
  param_eta (rec h ks) = refl

  first-param : (ks : Recs) → 0 < count ks → param_first (ids_in scope) scope.unresolved ks n ≡ pat_to_ts_fn_param (ids_in scope) scope.unresolved (kid 0 ks) n
  unfolding param_first
  first-param nil h = absurd (omega arith)
  first-param (cons p ps) h = refl

  pub param_pa : eqb (mark_of t) (mark "Pa") ≡ true → 0 < count (kids_of t) → {p : Rec} → p ≡ kid 0 (kids_of t) → pat_type scope p n ≡ param_type scope true t n
  unfolding pat_type param_type
  param_pa e h k =
      ap (λ (x : Rec). pat_to_ts_fn_param (ids_in scope) scope.unresolved x n) k
      ∙ sym (param_eta t ∙ (ap (λ (b : Bool). if_m b (λ n. param_first (ids_in scope) scope.unresolved (kids_of t) n) (pure nil) n) e ∙ first-param (kids_of t) h))

  param_other : eqb (mark_of t) (mark "Pa") ≡ false → (nil, [], n) ≡ param_type scope true t n
  unfolding param_type
  param_other e = sym (param_eta t ∙ rw e)

pub param_gone : (scope : Scope) (t : Rec) (o : Output) → eqb (mark_of t) (mark "Pa") ≡ false → MakesCounted o o 0 (param_type scope true t o.names.id_counter)
param_gone scope t o e = counted_as (counted_none o) (param_other scope t o.names.id_counter e)

-- ---- the loop over the parameters

few-cond : (b : Bool) (x y : Out Recs) → count x.0 ≤ 1 → count y.0 ≤ 1 → count (cond b x y).0 ≤ 1
few-cond true x y h k = h
few-cond false x y h k = k

few-if : (b : Bool) (f g : ℕ → Out Recs) (n : ℕ) → count (f n).0 ≤ 1 → count (g n).0 ≤ 1 → count (if_m b f g n).0 ≤ 1
few-if true f g n p q = p
few-if false f g n p q = q

few-default : (h : Head) (left ty : Rec) (ds : List Diag) (n : ℕ) → count (default_param h left ty ds n).0 ≤ 1
unfolding default_param
few-default h left ty ds n = few-cond (eqb (mark_of left) (mark "Bd")) _ _ (omega arith) (omega arith)

few-given : (v : Option Rec) (x : Out Recs) (f : Rec → Out Recs) → count x.0 ≤ 1 → ((ty : Rec) → count (f ty).0 ≤ 1) → count (given v x f).0 ≤ 1
few-given none x f h k = h
few-given (some ty) x f h k = k ty

few-param : (k : Param) (h : Head) (ks : Recs) (right : ℕ → Out (Option Rec)) (n : ℕ) → count (param_by k h ks right n).0 ≤ 1
unfolding param_by
few-param q_keep h ks right n = omega arith
few-param q_assign h ks right n = few-given (right n).0 _ _ (omega arith) (λ ty. few-default h (kid 0 ks) ty (right n).1 (right n).2)
few-param q_expr h ks right n = omega arith
few-param q_other h ks right n = omega arith

module _ (scope : Scope) where
  one-pat : (p : Rec) (n : ℕ) → count (pat_to_ts_fn_param (ids_in scope) scope.unresolved p n).0 ≤ 1
  unfolding pat_to_ts_fn_param
  one-pat (rec h ks) n = few-param (param_kind h.mark) h ks (λ n. type_second (ids_in scope) scope.unresolved ks false false n) n

  one-first : (ks : Recs) (n : ℕ) → count (param_first (ids_in scope) scope.unresolved ks n).0 ≤ 1
  unfolding param_first
  one-first nil n = omega arith
  one-first (cons p ps) n = one-pat p n

  one-fn-param : (p : Rec) (n : ℕ) → count (fn_param (ids_in scope) scope.unresolved p n).0 ≤ 1
  unfolding fn_param
  one-fn-param (rec h ks) n = few-if (eqb h.mark (mark "Pa")) _ _ n (one-first ks n) (omega arith)

  -- a parameter gives one at most, and makes at most as many names as it has records
  one-param : (fn : Bool) (p : Rec) (n : ℕ) → count (param_type scope fn p n).0 ≤ 1
  unfolding param_type
  one-param true p n = one-fn-param p n
  one-param false p n = one-pat p n

  high-param : (fn : Bool) (p : Rec) (n : ℕ) → (param_type scope fn p n).2 ≤ n + records p
  unfolding param_type
  high-param true p n = (fn_param-within (ids_in scope) scope.unresolved p n).high
  high-param false p n = (pat_to_ts_fn_param-within (ids_in scope) scope.unresolved p n).high

  -- k is left of the parameters of a function; those before it gave n records, with the two that stand before all
  abbrev pub ParamLoop : Bool → Rec → Output → Output → Records → ℕ → Type 0
  ParamLoop fn t a b k n = Numbering 2 1 (count (kids_of t)) (param_type scope fn) (flat (param_type scope fn) (behind (params_from fn) (kids_of t)) a.names.id_counter) a b k n

  pub params_start : (fn : Bool) (o : Output) {r : Record} {j k : Records} → From r (params_from fn) k → j ≡ k → o.names.id_counter ≤ r.at
      → ParamLoop fn (rec_of r) o o j 2 × (j.levels < r.levels) × (j.tree ≡ r.tree)
  params_start fn o {r} {j} {k} c e l =
      let i : ParamLoop fn (rec_of r) o o k 2 =
      subst (λ (ks : Recs). Numbering 2 1 (count (kids_of (rec_of r))) (param_type scope fn) (flat (param_type scope fn) ks o.names.id_counter) o o k 2) c.are
      (numbering_start (param_type scope fn) 2 1 (count (kids_of (rec_of r))) o k (omega (arith, l, c.behind_it)) (omega (arith, c.many, two_at_least fn))) in
      subst (λ (x : Records). ParamLoop fn (rec_of r) o o x 2 × (x.levels < r.levels) × (x.tree ≡ r.tree)) (sym e) (i, omega (arith, c.levels, c.left), c.tree)

  pub params_turn : (fn : Bool) (t : Rec) {a b c : Output} {k l : Records} {n j : ℕ} {x : Record} → ParamLoop fn t a b k n → (0 < k.count) × FirstOf k x × RestOf k l
      → MakesCounted b c j (param_type scope fn (rec_of x) b.names.id_counter) → ParamLoop fn t a c l (n + j)
  params_turn fn t {b = b} {x = x} i s w = numbering_turn (param_type scope fn) i s (high-param fn (rec_of x) b.names.id_counter) (one-param fn (rec_of x) b.names.id_counter) w.made w.many

  return-fits : (r : Rec) → texts_fit r ≡ true → texts_fit (return_type r) ≡ true
  unfolding texts_fit all_texts_fit
  return-fits r e = go (eqb (mark_of r) (mark "No"))
    where
      go : (b : Bool) → texts_fit (given (cond b none (some r)) (any_type_ann dummy_sp) (λ t. t)) ≡ true
      go true = refl
      go false = e

  pub function_made : (fn : Bool) (r : Record) {o a b c d : Output} {k : Records} {n : ℕ} {h : Fields} {range : Span} {s : Start} → texts_fit (rec_of r) ≡ true
      → Skips o.out.now a.out.now head_size → Lends a o → a.diagnostics ≡ o.diagnostics → a.names ≡ o.names → a.fits ≡ o.fits
      → Puts a b (encode (kid 0 (kids_of (rec_of r))) ++ encode (return_type (kid 1 (kids_of (rec_of r))))) true
      → ParamLoop fn (rec_of r) b c k n → k.count ≡ 0 → s ≡ start_of o → range ≡ range_of (head_of (rec_of r)) → h ≡ made_fields (mark "Ft") 0 range 0 n
      → Fronts c.out.now d.out.now s.at (field_bytes h ++ []) → Lends d c → d.diagnostics ≡ c.diagnostics → d.names ≡ c.names → d.fits ≡ c.fits → Makes o d (function_type scope fn (rec_of r) o.names.id_counter)
  unfolding function_type encodes all_texts_fit
  function_made fn r {o} {a} {b} {c} {d} {n = n} g sk os ad an af p i z e q v w ds dd dn df =
      let t : Rec = rec_of r in
      let k0 : Rec = kid 0 (kids_of t) in
      let k1 : Rec = return_type (kid 1 (kids_of t)) in
      let ps : Out Recs = flat (param_type scope fn) (behind (params_from fn) (kids_of t)) b.names.id_counter in
      let f0 : texts_fit k0 ≡ true = kid-fits 0 (kids_of t) (kids-fit t g) in
      let f1 : texts_fit k1 ≡ true = return-fits (kid 1 (kids_of t)) (kid-fits 1 (kids_of t) (kids-fit t g)) in
      let many : n ≡ count (cons k0 (cons k1 ps.0)) = (let y = numbering_count (param_type scope fn) i z in omega (arith, y)) in
      let made : MakesAll a c (cons k0 (cons k1 ps.0), ps.1, ps.2) = record {
        step = step-as (step_then (step-puts p) (making_done (param_type scope fn) i.making z).step) (append_assoc (encode k0) (encode k1) (encodes ps.0)) refl refl
            (sym (ap (λ (x : Bool). x && (texts_fit k1 && all_texts_fit ps.0)) f0 ∙ ap (λ (x : Bool). x && all_texts_fit ps.0) f1));
      } in
      makes-as (made_around r (mark "Ft") sk os ad an af made e q v w ds dd dn df many)
      (ap (λ (m : ℕ). on_value (λ (ps : Recs). fn_type (head_of t) (kids_of t) ps) (flat (param_type scope fn) (behind (params_from fn) (kids_of t)) m)) (keeps-counter p ∙ ap (λ x. x.id_counter) an))
