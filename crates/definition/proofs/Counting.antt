-- What the typing of expressions costs, counted in records: the name counter never falls, it rises by at most the number of records read, and there
-- are never more diagnostics than records read.
use mathlib.Core.Path.{◌≡◌, refl}
use mathlib.Core.List.{List, [], ◌∷◌, ◌++◌}
use mathlib.Core.Bool.{Bool, true, false, cond}
use mathlib.Core.Option.{Option, none, some}
use Prim.Native.Nat.{ℕ, zero, suc, ◌+◌, ◌*◌, ◌≤◌, ◌<◌}
use native.Mathlib.Omega.{arith}
use lib.Dec.{eqb}
use lib.ListN.{length, length-append}
use Rattle.definition.specs.Tree.{Head, Rec, Recs, rec, nil, cons, head_size, encode, encodes}
use Rattle.definition.specs.Grammar.{mark}
use Rattle.definition.specs.Record.{head_of, mark_of, is, dummy_sp, kid, given, Diag, diag, Out, pure, if_m}
use Rattle.definition.specs.Helpers.{any_type_ann, object_freeze_call_arg}
use Rattle.definition.specs.Prescan.{PrescannedModuleIds}
use Rattle.definition.specs.Typing.{
  element,
  or_any,
  ts_rest_type,
  Element,
  e_hole,
  e_spread,
  e_expr,
  e_op,
  element_kind,
  element_by,
  Spread,
  s_ident,
  s_array,
  s_other,
  spread_kind,
  spread_by,
  Prop,
  p_key_value,
  p_shorthand,
  p_spread,
  p_other,
  p_op,
  prop_kind,
  prop_by,
  shorthand,
  Param,
  q_keep,
  q_assign,
  q_expr,
  q_other,
  param_kind,
  param_by,
  default_param,
  Expr,
  x_array,
  x_object,
  x_lit,
  x_const,
  x_satisfies,
  x_as,
  x_fn,
  x_arrow,
  x_tpl,
  x_ident,
  x_unary,
  x_call,
  x_new,
  x_other,
  expr_kind,
  Below,
  ident_to_ts_type,
  expr_by,
  expr_to_ts_type,
  type_first,
  type_second,
  elements,
  spread_type,
  spread_first,
  props,
  prop,
  fn_second,
  fn_first,
  function_type,
  fn_params,
  fn_param,
  param_first,
  arrow_params,
  pat_to_ts_fn_param,
}
use Rattle.definition.proofs.Round.{length-head_bytes}
use Rattle.definition.specs.Counting.{records, all_records, below, Within}

-- ---- records and bytes

-- a record, and what stands below it
pub records-below : (r : Rec) → records r ≡ suc (below r)
unfolding records
records-below (rec h ks) = refl

-- "15-byte head": a tree's records, counted by its bytes
mutual
  unfolding records encode

  pub records-bytes : (r : Rec) → head_size * records r ≤ length (encode r)
  records-bytes (rec h ks) =
      simp (length-append, length-head_bytes) (omega (arith, all_records-bytes ks))

  pub all_records-bytes : (rs : Recs) → head_size * all_records rs ≤ length (encodes rs)
  all_records-bytes nil = omega arith
  all_records-bytes (cons r rs) = simp length-append (omega (arith, records-bytes r, all_records-bytes rs))

-- ---- steps

pub within-pure : {A : Type 0} (a : A) (n m : ℕ) → Within n m (pure a n)
within-pure a n m = record { diagnostics = omega arith; low = omega arith; high = omega arith }

-- the same cost, of another value
pub within-value : {A B : Type 0} {n m : ℕ} {b : B} (o : Out A) → Within n m o → Within n m (b, o.1, o.2)
within-value o w = record { diagnostics = w.diagnostics; low = w.low; high = w.high }

pub within_wider : {A : Type 0} {n m : ℕ} {o : Out A} (k : ℕ) → Within n m o → m ≤ k → Within n k o
within_wider k w le = record { diagnostics = omega arith; low = omega arith; high = omega arith }

-- one step after another
pub within_then : {A B C : Type 0} {n m k : ℕ} (c : C) (a : Out A) (b : Out B) → Within n m a → Within a.2 k b → Within n (m + k) (c, a.1 ++ b.1, b.2)
within_then c a b v w = record { diagnostics = simp length-append (omega arith); low = omega arith; high = omega arith }

pub within_if : {A : Type 0} (b : Bool) (f g : ℕ → Out A) (n m : ℕ) → Within n m (f n) → Within n m (g n) → Within n m (if_m b f g n)
within_if true f g n m v w = v
within_if false f g n m v w = w

-- diagnostics after a step that has failed
pub within_more : {A B : Type 0} {n m : ℕ} (b : B) (o : Out A) (ds : List Diag) → Within n m o → Within n (m + length ds) (b, o.1 ++ ds, o.2)
within_more b o ds w = record { diagnostics = simp length-append (omega arith); low = omega arith; high = omega arith }

-- a step on the first of some records, then one on the others
pub within-cons : {A B C : Type 0} {n : ℕ} (r : Rec) (rs : Recs) (c : C) (a : Out A) (b : Out B) → Within n (records r) a → Within a.2 (all_records rs) b →
    Within n (all_records (cons r rs)) (c, a.1 ++ b.1, b.2)
unfolding all_records
within-cons r rs c a b v w = within_then c a b v w

-- what is within the records below one is within its own; what is within those of the first, or of the others, is within those of all
pub within-own : {A : Type 0} {n : ℕ} {o : Out A} (r : Rec) → Within n (below r) o → Within n (records r) o
within-own r w = within_wider (records r) w (omega (arith, records-below r))

pub within_first : {A : Type 0} {n : ℕ} {o : Out A} (r : Rec) (rs : Recs) → Within n (records r) o → Within n (all_records (cons r rs)) o
unfolding all_records
within_first r rs w = within_wider _ w (omega arith)

pub within-others : {A : Type 0} {n : ℕ} {o : Out A} (r : Rec) (rs : Recs) → Within n (all_records rs) o → Within n (all_records (cons r rs)) o
unfolding all_records
within-others r rs w = within_wider _ w (omega arith)

-- a type, or any and more diagnostics
pub within-or_any : {n m : ℕ} (o : Out (Option Rec)) (ds : List Diag) → Within n m o → Within n (m + length ds) (or_any o ds)
within-or_any {n} {m} o ds w = go o.0 o.1 o.2 w
  where
    go : (x : Option Rec) (l : List Diag) (c : ℕ) → Within n m (x, l, c) → Within n (m + length ds) (or_any (x, l, c) ds)
    go none l c w = within_more (any_type_ann dummy_sp) (none, l, c) ds w
    go (some t) l c w = within_wider (m + length ds) (within-value (some t, l, c) w) (omega arith)

-- one more element
within-element : {n m k : ℕ} (t : Rec) (a : Out Rec) (rest : Out (Option Recs)) → Within n m a → Within a.2 k rest → Within n (m + k) (element t a.1 rest)
within-element t a rest v w = within_then (given rest.0 none (λ ts. some (cons _ ts))) a rest v w

-- an element of at most m + 1 records, before others that cost at most l
element_by-within : (k : Element) (h : Head) (typed spread : ℕ → Out (Option Rec)) (rest : ℕ → Out (Option Recs)) (n m l : ℕ) →
    ((n : ℕ) → Within n m (typed n)) → ((n : ℕ) → Within n m (spread n)) → ((n : ℕ) → Within n l (rest n)) →
    Within n (suc m + l) (element_by k h typed spread rest n)
unfolding element_by
element_by-within e_hole h typed spread rest n m l p q s = within-element (any_type_ann dummy_sp) (pure (any_type_ann dummy_sp) n) (rest n) (within-pure (any_type_ann dummy_sp) n (suc m)) (s n)
element_by-within e_spread h typed spread rest n m l p q s = go (spread n).0 (spread n).1 (spread n).2 (q n)
  where
    go : (x : Option Rec) (ds : List Diag) (c : ℕ) → Within n m (x, ds, c) →
        Within n (suc m + l) (given x (none, ds ++ (diag "d4" h ∷ []), c) (λ t. element (ts_rest_type dummy_sp t) ds (rest c)))
    go none ds c w = within_wider (suc m + l) (within_more none (none, ds, c) (diag "d4" h ∷ []) w) (omega arith)
    go (some t) ds c w = within-element _ (t, ds, c) (rest c) (within_wider (suc m) (within-value (some t, ds, c) w) (omega arith)) (s c)
element_by-within e_expr h typed spread rest n m l p q s =
    let o : Out Rec = or_any (typed n) (diag "d1" h ∷ []) in
    within-element o.0 o (rest o.2) (within_wider (suc m) (within-or_any (typed n) (diag "d1" h ∷ []) (p n)) (omega arith)) (s o.2)
element_by-within e_op h typed spread rest n m l p q s = within_wider (suc m + l) (s n) (omega arith)

-- a typed default, whose name may be made
default_param-within : {n m : ℕ} (h : Head) (levels t : Rec) (o : Out (Option Rec)) → Within n m o → Within n (suc m) (default_param h levels t o.1 o.2)
unfolding default_param
default_param-within {n} {m} h levels t o w = go (is "Bd" levels) _ _
  where
    go : (b : Bool) (x y : Recs) → Within n (suc m) (cond b (x, o.1, o.2) (y, o.1, suc o.2))
    go true x y = within_wider (suc m) (within-value o w) (omega arith)
    go false x y = record { diagnostics = omega arith; low = omega arith; high = omega arith }

-- a parameter whose default costs at most m
param_by-within : (k : Param) (h : Head) (ks : Recs) (right : ℕ → Out (Option Rec)) (n m : ℕ) → Within n m (right n) → Within n (suc m) (param_by k h ks right n)
unfolding param_by
param_by-within q_keep h ks right n m p = within-pure _ n (suc m)
param_by-within q_assign h ks right n m p = go (right n).0 (right n).1 (right n).2 p
  where
    go : (x : Option Rec) (ds : List Diag) (c : ℕ) → Within n m (x, ds, c) → Within n (suc m) (given x (nil, ds, c) (λ t. default_param h (kid 0 ks) t ds c))
    go none ds c w = within_wider (suc m) (within-value (none, ds, c) w) (omega arith)
    go (some t) ds c w = default_param-within h (kid 0 ks) t (some t, ds, c) w
param_by-within q_expr h ks right n m p = record { diagnostics = omega arith; low = omega arith; high = omega arith }
param_by-within q_other h ks right n m p = within-pure nil n (suc m)

module _ (ids : PrescannedModuleIds) (ctx : ℕ) where
  spread_by-within : (k : Spread) (e : Rec) (typed : ℕ → Out (Option Rec)) (n m : ℕ) → Within n m (typed n) → Within n m (spread_by ids ctx k e typed n)
  unfolding spread_by
  spread_by-within s_ident e typed n m p = within-pure _ n m
  spread_by-within s_array e typed n m p = p
  spread_by-within s_other e typed n m p = within-pure none n m

  shorthand-within : (h : Head) (i : Rec) (r : Bool) (o : Option Rec) (n m : ℕ) → Within n (suc m) (shorthand h i r o n)
  shorthand-within h i r none n m = record { diagnostics = omega arith; low = omega arith; high = omega arith }
  shorthand-within h i r (some t) n m = within-pure _ n (suc m)

  prop_by-within : (k : Prop) (h : Head) (ks : Recs) (c r : Bool) (value : ℕ → Out (Option Rec)) (n m : ℕ) → Within n m (value n) → Within n (suc m) (prop_by ids ctx k h ks c r value n)
  unfolding prop_by
  prop_by-within p_key_value h ks c r value n m p =
      let ds : List Diag = diag "d2" (head_of (kid 1 ks)) ∷ [] in
      within-value (or_any (value n) ds) (within_wider (suc m) (within-or_any (value n) ds p) (omega arith))
  prop_by-within p_shorthand h ks c r value n m p = shorthand-within h (kid 0 ks) r (ident_to_ts_type ids ctx (kid 0 ks) c) n m
  prop_by-within p_spread h ks c r value n m p = record { diagnostics = omega arith; low = omega arith; high = omega arith }
  prop_by-within p_other h ks c r value n m p = record { diagnostics = omega arith; low = omega arith; high = omega arith }
  prop_by-within p_op h ks c r value n m p = within-pure nil n (suc m)

  -- what stands below an expression costs at most m
  record BelowWithin (b : Below) (m : ℕ) : Type 0 where
    first : (c r : Bool) (n : ℕ) → Within n m (b.first c r n)
    second : (c r : Bool) (n : ℕ) → Within n m (b.second c r n)
    elements : (c r : Bool) (n : ℕ) → Within n m (b.elements c r n)
    props : (c r : Bool) (n : ℕ) → Within n m (b.props c r n)
    fn : (n : ℕ) → Within n m (b.fn n)
    params : (n : ℕ) → Within n m (b.params n)

  expr_by-within : (k : Expr) (h : Head) (ks : Recs) (c r : Bool) (b : Below) (n m : ℕ) → BelowWithin b m → Within n m (expr_by ids ctx k h ks c r b n)
  unfolding expr_by
  expr_by-within x_array h ks c r b n m w = within-value (b.elements c r n) (w.elements c r n)
  expr_by-within x_object h ks c r b n m w = within-value (b.props c r n) (w.props c r n)
  expr_by-within x_lit h ks c r b n m w = within-pure _ n m
  expr_by-within x_const h ks c r b n m w = w.first true true n
  expr_by-within x_satisfies h ks c r b n m w = w.first c r n
  expr_by-within x_as h ks c r b n m w = within-pure _ n m
  expr_by-within x_fn h ks c r b n m w = w.fn n
  expr_by-within x_arrow h ks c r b n m w = within-value (b.params n) (w.params n)
  expr_by-within x_tpl h ks c r b n m w = within-pure _ n m
  expr_by-within x_ident h ks c r b n m w = within-pure _ n m
  expr_by-within x_unary h ks c r b n m w = within-pure _ n m
  expr_by-within x_call h ks c r b n m w = within_if (object_freeze_call_arg ctx ks) _ _ n m (within-value (b.second c r n) (w.second c r n)) (within-pure none n m)
  expr_by-within x_new h ks c r b n m w = within-pure _ n m
  expr_by-within x_other h ks c r b n m w = within-pure none n m

  element-within : (e : Rec) (es : Recs) (c r : Bool) (n : ℕ) → ((n : ℕ) → Within n (below e) (expr_to_ts_type ids ctx e c r n)) →
      ((n : ℕ) → Within n (below e) (spread_type ids ctx e c n)) → ((n : ℕ) → Within n (all_records es) (elements ids ctx es c r n)) →
      Within n (all_records (cons e es)) (elements ids ctx (cons e es) c r n)
  unfolding elements all_records
  element-within e es c r n p q s =
      within_wider _ (element_by-within (element_kind (mark_of e)) (head_of e) _ _ _ n (below e) (all_records es) p q s) (omega (arith, records-below e))

  mutual
    unfolding expr_to_ts_type records

    pub expr_to_ts_type-within : (e : Rec) (c r : Bool) (n : ℕ) → Within n (below e) (expr_to_ts_type ids ctx e c r n)
    expr_to_ts_type-within (rec h ks) c r n =
        expr_by-within (expr_kind h.mark) h ks c r _ n (all_records ks)
        (record {
          first = λ c r n. type_first-within ks c r n;
          second = λ c r n. type_second-within ks c r n;
          elements = λ c r n. elements-within ks c r n;
          props = λ c r n. props-within ks c r n;
          fn = λ n. fn_second-within ks n;
          params = λ n. arrow_params-within ks 2 n;
        })

    pub type_first-within : (es : Recs) (c r : Bool) (n : ℕ) → Within n (all_records es) (type_first ids ctx es c r n)
    type_first-within nil c r n = within-pure none n 0
    type_first-within (cons e es) c r n = within_first e es (within-own e (expr_to_ts_type-within e c r n))

    pub type_second-within : (es : Recs) (c r : Bool) (n : ℕ) → Within n (all_records es) (type_second ids ctx es c r n)
    type_second-within nil c r n = within-pure none n 0
    type_second-within (cons e es) c r n = within-others e es (type_first-within es c r n)

    pub elements-within : (es : Recs) (c r : Bool) (n : ℕ) → Within n (all_records es) (elements ids ctx es c r n)
    elements-within nil c r n = within-pure (some nil) n 0
    elements-within (cons e es) c r n = element-within e es c r n (λ n. expr_to_ts_type-within e c r n) (λ n. spread_type-within e c n) (λ n. elements-within es c r n)

    pub spread_type-within : (e : Rec) (c : Bool) (n : ℕ) → Within n (below e) (spread_type ids ctx e c n)
    spread_type-within (rec h ks) c n = spread_first-within ks c n

    pub spread_first-within : (es : Recs) (c : Bool) (n : ℕ) → Within n (all_records es) (spread_first ids ctx es c n)
    spread_first-within nil c n = within-pure none n 0
    spread_first-within (cons e es) c n =
        within_first e es (within-own e (spread_by-within (spread_kind (mark_of e)) e _ n (below e) (expr_to_ts_type-within e c false n)))

    pub props-within : (ps : Recs) (c r : Bool) (n : ℕ) → Within n (all_records ps) (props ids ctx ps c r n)
    props-within nil c r n = within-pure nil n 0
    props-within (cons p ps) c r n = within-cons p ps _ _ _ (prop-within p c r n) (props-within ps c r (prop ids ctx p c r n).2)

    pub prop-within : (p : Rec) (c r : Bool) (n : ℕ) → Within n (records p) (prop ids ctx p c r n)
    prop-within (rec h ks) c r n = prop_by-within (prop_kind h.mark) h ks c r _ n (all_records ks) (type_second-within ks c r n)

    pub fn_second-within : (rs : Recs) (n : ℕ) → Within n (all_records rs) (fn_second ids ctx rs n)
    fn_second-within nil n = within-pure none n 0
    fn_second-within (cons i rs) n = within-others i rs (fn_first-within rs n)

    pub fn_first-within : (rs : Recs) (n : ℕ) → Within n (all_records rs) (fn_first ids ctx rs n)
    fn_first-within nil n = within-pure none n 0
    fn_first-within (cons f rs) n = within_first f rs (within-own f (function_type-within f n))

    pub function_type-within : (f : Rec) (n : ℕ) → Within n (below f) (function_type ids ctx f n)
    function_type-within (rec h ks) n = within-value (fn_params ids ctx ks 3 n) (fn_params-within ks 3 n)

    pub fn_params-within : (ps : Recs) (skip n : ℕ) → Within n (all_records ps) (fn_params ids ctx ps skip n)
    fn_params-within nil skip n = within-pure nil n 0
    fn_params-within (cons p ps) (suc skip) n = within-others p ps (fn_params-within ps skip n)
    fn_params-within (cons p ps) zero n = within-cons p ps _ _ _ (fn_param-within p n) (fn_params-within ps zero (fn_param ids ctx p n).2)

    pub fn_param-within : (p : Rec) (n : ℕ) → Within n (records p) (fn_param ids ctx p n)
    fn_param-within (rec h ks) n =
        within_if (eqb h.mark (mark "Pa")) _ _ n _ (within-own (rec h ks) (param_first-within ks n)) (within-pure nil n _)

    pub param_first-within : (ps : Recs) (n : ℕ) → Within n (all_records ps) (param_first ids ctx ps n)
    param_first-within nil n = within-pure nil n 0
    param_first-within (cons p ps) n = within_first p ps (pat_to_ts_fn_param-within p n)

    pub arrow_params-within : (ps : Recs) (skip n : ℕ) → Within n (all_records ps) (arrow_params ids ctx ps skip n)
    arrow_params-within nil skip n = within-pure nil n 0
    arrow_params-within (cons p ps) (suc skip) n = within-others p ps (arrow_params-within ps skip n)
    arrow_params-within (cons p ps) zero n = within-cons p ps _ _ _ (pat_to_ts_fn_param-within p n) (arrow_params-within ps zero (pat_to_ts_fn_param ids ctx p n).2)

    pub pat_to_ts_fn_param-within : (p : Rec) (n : ℕ) → Within n (records p) (pat_to_ts_fn_param ids ctx p n)
    pat_to_ts_fn_param-within (rec h ks) n = param_by-within (param_kind h.mark) h ks _ n (all_records ks) (type_second-within ks false false n)

  -- the name counter never falls, and rises by at most the number of records
  pub counter-low : (e : Rec) (c r : Bool) (n : ℕ) → n ≤ (expr_to_ts_type ids ctx e c r n).2
  counter-low e c r n = (expr_to_ts_type-within e c r n).low

  pub counter-high : (e : Rec) (c r : Bool) (n : ℕ) → (expr_to_ts_type ids ctx e c r n).2 ≤ n + records e
  counter-high e c r n = (within-own e (expr_to_ts_type-within e c r n)).high

  -- "There are never more diagnostics than records read": the typing of an expression gives fewer
  pub few-diagnostics : (e : Rec) (c r : Bool) (n : ℕ) → length (expr_to_ts_type ids ctx e c r n).1 < records e
  few-diagnostics e c r n = omega (arith, (expr_to_ts_type-within e c r n).diagnostics, records-below e)
