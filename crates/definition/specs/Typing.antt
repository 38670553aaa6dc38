-- The types of expressions: `expr_to_ts_type`, `ident_to_ts_type`, `pat_to_ts_fn_param`, `readonly_of`.
-- In every step the arguments `c` and `r` are as_const and as_readonly, and `n` is the name counter.
use Rattle.std.specs.Prelude.{ℕ, zero, suc, ◌+◌, ◌%◌, List, [], ◌∷◌, ◌++◌, Bool, true, false, cond, ◌&&◌, ◌||◌, eqb}
use Rattle.std.proofs.Math.Option.{Option, none, some}
use Rattle.definition.specs.Tree.{Head, Rec, Recs, rec, nil, cons}
use Rattle.definition.specs.Grammar.{mark}
use Rattle.definition.specs.Record.{text, same_text, head_of, kids_of, mark_of, text_of, is, among, is_no, context_of, symbol_of, Range, dummy_sp, made, fresh, ranged, ident_at, with_text, flagged, kid, one, join, given, present, Diag, diag, Out, pure, if_m, on_value}
use Rattle.definition.specs.Helpers.{ts_keyword_type, any_type_ann, ts_readonly, reference_to, ts_lit_type, ts_tuple_element, ts_type_query, object_freeze_call_arg, tpl_to_ts_type, Lit, l_str, l_bool, l_null, l_num, l_big_int, l_regex, l_jsx_text, lit_kind, maybe_lit_to_ts_type}
use Rattle.definition.specs.Prescan.{PrescannedModuleIds}
use Rattle.definition.specs.Names.{digit, gen_unique_name}
use Rattle.definition.specs.ChildNames.{bd_name, ag_left, pe_expression, kc_expression, kv_key, kv_value, sh_name, aw_type_params, aw_return_type, mi_operand, ne_class, ne_type_arguments, as_type}

-- ---- `readonly_of`

pub data Frozen : Type 0 where
  f_type_lit f_array f_same f_other : Frozen

unfoldable pub frozen_kind : ℕ → Frozen
frozen_kind m =
    cond (eqb m (mark "Li")) f_type_lit
    (cond (eqb m (mark "Ay") || eqb m (mark "Tu")) f_array
    (cond (eqb m (mark "Ro") || (eqb m (mark "Ft") || eqb m (mark "Ct"))) f_same f_other))

-- every member is a Ps or an Ix
unfoldable pub plain_members : Recs → Bool
plain_members nil = true
plain_members (cons m ms) = (is "Ps" m || (is "Ix" m || is "Op" m)) && plain_members ms

-- each gains flag 1 (reading 18)
unfoldable pub readonly_members : Recs → Recs
readonly_members nil = nil
readonly_members (cons m ms) = cons (cond (is "Op" m) m (flagged m)) (readonly_members ms)

unfoldable pub readonly_of_by : Frozen → Rec → Option Rec
readonly_of_by f_type_lit t = cond (plain_members (kids_of t)) (some (rec (head_of t) (readonly_members (kids_of t)))) none
readonly_of_by f_array t = some (ts_readonly dummy_sp t)
readonly_of_by f_same t = some t
readonly_of_by f_other t = none

abbrev pub readonly_of : Rec → Option Rec
readonly_of t = readonly_of_by (frozen_kind (mark_of t)) t

-- ---- `Expr::Unary`: "Mi under c on Nu: The sign of the f64 is turned and nothing else changes but the raw spelling (its Ops), which goes"

-- the sign bit of an f64 is the highest of its last byte
unfoldable pub turned : List ℕ → List ℕ
turned [] = []
turned (b ∷ []) = (b + 128) % 256 ∷ []
turned (a ∷ b ∷ bs) = a ∷ turned (b ∷ bs)

-- the sign byte of a big integer; "-0n is 0n"
unfoldable pub turned_integer : List ℕ → List ℕ
turned_integer [] = []
turned_integer (sign ∷ ds) = cond (same_text ds (digit 0 ∷ [])) (0 ∷ ds) (cond (eqb sign 1) (0 ∷ ds) (1 ∷ ds))

-- a literal with another text (reading 14)
abbrev pub respelled : Rec → List ℕ → Rec
respelled l t = rec (with_text (head_of l) t) nil

-- the type of the negation of an expression, by the literal that it is
unfoldable pub minus_by : Lit → Rec → Bool → Option Rec
minus_by l_num l true = some (ts_lit_type dummy_sp (respelled l (turned (text_of l))))
minus_by l_num l false = some (ts_keyword_type dummy_sp "number")
minus_by l_big_int l true = some (ts_lit_type dummy_sp (respelled l (turned_integer (text_of l))))
minus_by l_big_int l false = some (ts_keyword_type dummy_sp "bigint")
minus_by l_str l c = none
minus_by l_bool l c = none
minus_by l_null l c = none
minus_by l_regex l c = none
minus_by l_jsx_text l c = none

-- ---- `Expr::Array`

-- the tuple of the elements' types: "Ar gives Tu in Ro if r" (reading 13)
abbrev pub tuple_of : Head → Bool → Recs → Rec
tuple_of h true ts = ts_readonly dummy_sp (rec (ranged "Tu" h []) ts)
tuple_of h false ts = rec (ranged "Tu" h []) ts

-- one more element before those of the rest, or the failure of the rest
abbrev pub element : Rec → List Diag → Out (Option Recs) → Out (Option Recs)
element t ds o = (given o.0 none (λ ts. some (cons (ts_tuple_element dummy_sp t) ts)), ds ++ o.1, o.2)

-- a type, or any and a diagnostic
abbrev pub or_any : Out (Option Rec) → List Diag → Out Rec
or_any o ds = given o.0 (any_type_ann dummy_sp, o.1 ++ ds, o.2) (λ t. (t, o.1, o.2))

-- `TsRestType`: "`Rt` (rest)"
abbrev pub ts_rest_type : Range → Rec → Rec
ts_rest_type at t = rec (made "Rt" 0 at []) (one t)

pub data Element : Type 0 where
  e_hole e_spread e_expr e_op : Element

unfoldable pub element_kind : ℕ → Element
element_kind m = cond (eqb m (mark "No")) e_hole (cond (eqb m (mark "Sp")) e_spread (cond (eqb m (mark "Op")) e_op e_expr))

-- `typed` types the element, `spread` the array that a Sp spreads, `rest` the elements after it
unfoldable pub element_by :
    Element → Head → (ℕ → Out (Option Rec)) → (ℕ → Out (Option Rec)) → (ℕ → Out (Option Recs)) → ℕ → Out (Option Recs)
element_by e_hole h typed spread rest n = element (any_type_ann dummy_sp) [] (rest n)
element_by e_spread h typed spread rest n =
    let o : Out (Option Rec) = spread n in
    given o.0 (none, o.1 ++ (diag "d4" h ∷ []), o.2) (λ t. element (ts_rest_type dummy_sp t) o.1 (rest o.2))
element_by e_expr h typed spread rest n =
    let o : Out Rec = or_any (typed n) (diag "d1" h ∷ []) in
    element o.0 o.1 (rest o.2)
element_by e_op h typed spread rest n = rest n

-- what a Sp spreads
pub data Spread : Type 0 where
  s_ident s_array s_other : Spread

unfoldable pub spread_kind : ℕ → Spread
spread_kind m = cond (eqb m (mark "Id")) s_ident (cond (eqb m (mark "Ar")) s_array s_other)

-- ---- `Expr::Object`

-- the keys of a Kv: `PropName`
pub data Key : Type 0 where
  k_ident k_str k_num k_computed : Key

unfoldable pub key_kind : ℕ → Key
key_kind m = cond (eqb m (mark "Ki")) k_ident (cond (eqb m (mark "Ss")) k_str (cond (eqb m (mark "Kc")) k_computed k_num))

-- the key as an expression (reading 11)
unfoldable pub key_expr : Key → Rec → Rec
key_expr k_ident k = ident_at (head_of k) (text_of k)
key_expr k_str k = k
key_expr k_num k = k
key_expr k_computed k = kid kc_expression (kids_of k)

-- "`Ps` (1 readonly, 2 computed, 4 optional)"
abbrev pub key_flag : Key → ℕ
key_flag k_ident = 0
key_flag k_str = 0
key_flag k_num = 2
key_flag k_computed = 2

-- "`Ps` (1 readonly, 2 computed, 4 optional) expression type?"
abbrev pub property_signature : Rec → Bool → ℕ → Rec → Rec
property_signature key r f t = rec (fresh "Ps" (cond r 1 0 + f) []) (cons key (one t))

pub data Prop : Type 0 where
  p_key_value p_shorthand p_spread p_other p_op : Prop

unfoldable pub prop_kind : ℕ → Prop
prop_kind m =
    cond (eqb m (mark "Kv")) p_key_value
    (cond (eqb m (mark "Sh")) p_shorthand (cond (eqb m (mark "Sp")) p_spread (cond (eqb m (mark "Op")) p_op p_other)))

-- `Prop::KeyValue`, with the type of its value: "untyped value any, d2 at it"
abbrev pub key_value : Recs → Bool → Out (Option Rec) → Out Recs
key_value ks r o =
    let k : Rec = kid kv_key ks in
    let v : Out Rec = or_any o (diag "d2" (head_of (kid kv_value ks)) ∷ []) in
    on_value (λ t. one (property_signature (key_expr (key_kind (mark_of k)) k) r (key_flag (key_kind (mark_of k))) t)) v

-- `Prop::Shorthand` at h, with the type of its Id i: "untyped Sh .. skipped, d3 at it" (reading 10)
abbrev pub shorthand : Head → Rec → Bool → Option Rec → ℕ → Out Recs
shorthand h i r o n =
    given o (nil, diag "d3" h ∷ [], n) (λ t. (one (property_signature (ident_at (head_of i) (symbol_of i)) r 0 t), [], n))

-- ---- `pat_to_ts_fn_param`

pub data Param : Type 0 where
  q_keep q_assign q_expr q_other : Param

unfoldable pub param_kind : ℕ → Param
param_kind m =
    cond (eqb m (mark "Bd") || (eqb m (mark "Pb") || (eqb m (mark "Rs") || eqb m (mark "Po")))) q_keep
    (cond (eqb m (mark "Ag")) q_assign (cond (eqb m (mark "Pe")) q_expr q_other))

-- a Bd made afresh over a fresh Id, both with the Ag's range (reading 12)
abbrev pub binding_ident : Head → List ℕ → Rec → Rec
binding_ident h name t = rec (ranged "Bd" h []) (cons (ident_at h name) (one t))

-- a typed default of the pattern `left`: the name is its own, or is made after the default has been typed
unfoldable pub default_param : Head → Rec → Rec → List Diag → ℕ → Out Recs
default_param h left t ds n =
    cond (is "Bd" left) (one (binding_ident h (symbol_of (kid bd_name (kids_of left))) t), ds, n)
    (one (binding_ident h (gen_unique_name (suc n)) t), ds, suc n)

-- "a parameter whose default is untyped is left out"; `right` types the default
unfoldable pub param_by : Param → Head → Recs → (ℕ → Out (Option Rec)) → ℕ → Out Recs
param_by q_keep h ks right n = pure (one (rec h ks)) n
param_by q_assign h ks right n =
    let o : Out (Option Rec) = right n in
    given o.0 (nil, o.1, o.2) (λ t. default_param h (kid ag_left ks) t o.1 o.2)
param_by q_expr h ks right n = (nil, diag "d1" (head_of (kid pe_expression ks)) ∷ [], n)
param_by q_other h ks right n = pure nil n

-- ---- `Expr::Fn` and `Expr::Arrow`

-- "`Ft` (function) Op? type pattern*", from the head and the children of a Fu or an Aw, which begin with the type parameters and the return type
abbrev pub fn_type : Head → Recs → Recs → Rec
fn_type h ks params =
    rec (ranged "Ft" h []) (cons (kid aw_type_params ks) (cons (given (present (kid aw_return_type ks)) (any_type_ann dummy_sp) (λ t. t)) params))

-- ---- `expr_to_ts_type`

pub data Expr : Type 0 where
  x_array x_object x_lit x_const x_satisfies x_as x_fn x_arrow x_tpl x_ident x_unary x_call x_new x_other : Expr

unfoldable pub expr_kind : ℕ → Expr
expr_kind m =
    cond (eqb m (mark "Ar")) x_array
    (cond (eqb m (mark "Ob")) x_object
    (cond (among "Ss Bl Nl Nu Bi Re Jt" m) x_lit
    (cond (eqb m (mark "Tc")) x_const
    (cond (eqb m (mark "Ts")) x_satisfies
    (cond (eqb m (mark "As")) x_as
    (cond (eqb m (mark "Fx")) x_fn
    (cond (eqb m (mark "Aw")) x_arrow
    (cond (eqb m (mark "Te")) x_tpl
    (cond (eqb m (mark "Id")) x_ident
    (cond (eqb m (mark "Mi")) x_unary
    (cond (eqb m (mark "Ca")) x_call
    (cond (eqb m (mark "Ne")) x_new x_other))))))))))))

-- the types of what stands below an expression: of its first and second child, of its elements, properties and parameters, of the Fu of an Fx
pub record Below : Type 0 where
  pub first : Bool → Bool → ℕ → Out (Option Rec)
  pub second : Bool → Bool → ℕ → Out (Option Rec)
  pub elements : Bool → Bool → ℕ → Out (Option Recs)
  pub props : Bool → Bool → ℕ → Out Recs
  pub fn : ℕ → Out (Option Rec)
  pub params : ℕ → Out Recs

module _ (ids : PrescannedModuleIds) (ctx : ℕ) where
  -- `ident_to_ts_type`: "Unresolved `undefined` is typed only under c; `NaN`, `Infinity` always number" (reading 17)
  unfoldable pub global_type : List ℕ → Bool → Option Rec
  global_type name c =
      cond (same_text name (text "undefined") && c) (some (ts_keyword_type dummy_sp "undefined"))
      (cond (same_text name (text "NaN") || same_text name (text "Infinity")) (some (ts_keyword_type dummy_sp "number")) none)

  unfoldable pub ident_to_ts_type : Rec → Bool → Option Rec
  ident_to_ts_type i c =
      cond (eqb (context_of i) ctx) (global_type (symbol_of i) c)
      (cond (ids.typeof_safe (text_of i)) (some (ts_type_query dummy_sp i)) none)

  -- `Expr::New`: "of a non-generic class declared in this module", without type arguments
  unfoldable pub new_type : Recs → Option Rec
  new_type ks =
      let i : Rec = kid ne_class ks in
      cond (is "Id" i && (is_no (kid ne_type_arguments ks) && ids.non_generic_classes (text_of i))) (some (reference_to dummy_sp i)) none

  -- "A spread of an array-typed Id or of an Ar (r off) is Rt; any other fails the array"; `typed` types the Ar
  unfoldable pub spread_by : Spread → Rec → (ℕ → Out (Option Rec)) → ℕ → Out (Option Rec)
  spread_by s_ident i typed n = pure (cond (ids.array_typed (text_of i)) (some (ts_type_query dummy_sp i)) none) n
  spread_by s_array a typed n = typed n
  spread_by s_other e typed n = pure none n

  -- a property by its kind; `value` types its second child
  unfoldable pub prop_by : Prop → Head → Recs → Bool → Bool → (ℕ → Out (Option Rec)) → ℕ → Out Recs
  prop_by p_key_value h ks c r value n = key_value ks r (value n)
  prop_by p_shorthand h ks c r value n = shorthand h (kid sh_name ks) r (ident_to_ts_type (kid sh_name ks) c) n
  prop_by p_spread h ks c r value n = (nil, diag "d4" h ∷ [], n)
  prop_by p_other h ks c r value n = (nil, diag "d3" h ∷ [], n)
  prop_by p_op h ks c r value n = pure nil n

  -- `Expr::Call`: "An argument that cannot be typed ends the call's typing at once; else `readonly_of`"
  abbrev pub frozen : Out (Option Rec) → Out (Option Rec)
  frozen o = on_value (λ (t : Option Rec). given t none readonly_of) o

  -- the arms of `expr_to_ts_type`
  unfoldable pub expr_by : Expr → Head → Recs → Bool → Bool → Below → ℕ → Out (Option Rec)
  expr_by x_array h ks c r below n =
      on_value (λ (ts : Option Recs). given ts none (λ ts. some (tuple_of h r ts))) (below.elements c r n)
  expr_by x_object h ks c r below n = on_value (λ (ms : Recs). some (rec (ranged "Li" h []) ms)) (below.props c r n)
  expr_by x_lit h ks c r below n = pure (maybe_lit_to_ts_type (lit_kind h.mark) (rec h ks) c) n
  expr_by x_const h ks c r below n = below.first true true n
  expr_by x_satisfies h ks c r below n = below.first c r n
  expr_by x_as h ks c r below n = pure (present (kid as_type ks)) n
  expr_by x_fn h ks c r below n = below.fn n
  expr_by x_arrow h ks c r below n = on_value (λ (ps : Recs). some (fn_type h ks ps)) (below.params n)
  expr_by x_tpl h ks c r below n = pure (some (tpl_to_ts_type ks c)) n
  expr_by x_ident h ks c r below n = pure (ident_to_ts_type (rec h ks) c) n
  expr_by x_unary h ks c r below n = pure (minus_by (lit_kind (mark_of (kid mi_operand ks))) (kid mi_operand ks) c) n
  expr_by x_call h ks c r below n = if_m (object_freeze_call_arg ctx ks) (λ n. frozen (below.second c r n)) (pure none) n
  expr_by x_new h ks c r below n = pure (new_type ks) n
  expr_by x_other h ks c r below n = pure none n

  unfoldable mutual
    pub expr_to_ts_type : Rec → Bool → Bool → ℕ → Out (Option Rec)
    expr_to_ts_type (rec h ks) c r n =
        expr_by (expr_kind h.mark) h ks c r
        (record {
          first = λ c r n. type_first ks c r n;
          second = λ c r n. type_second ks c r n;
          elements = λ c r n. elements ks c r n;
          props = λ c r n. props ks c r n;
          fn = λ n. fn_second ks n;
          params = λ n. arrow_params ks 2 n;
        }) n

    pub type_first : Recs → Bool → Bool → ℕ → Out (Option Rec)
    type_first nil c r n = pure none n
    type_first (cons e es) c r n = expr_to_ts_type e c r n

    pub type_second : Recs → Bool → Bool → ℕ → Out (Option Rec)
    type_second nil c r n = pure none n
    type_second (cons e es) c r n = type_first es c r n

    -- the elements of an Ar
    pub elements : Recs → Bool → Bool → ℕ → Out (Option Recs)
    elements nil c r n = pure (some nil) n
    elements (cons e es) c r n =
        element_by (element_kind (mark_of e)) (head_of e) (λ n. expr_to_ts_type e c r n) (λ n. spread_type e c n) (λ n. elements es c r n) n

    -- what a Sp spreads
    pub spread_type : Rec → Bool → ℕ → Out (Option Rec)
    spread_type (rec h ks) c n = spread_first ks c n

    pub spread_first : Recs → Bool → ℕ → Out (Option Rec)
    spread_first nil c n = pure none n
    spread_first (cons e es) c n = spread_by (spread_kind (mark_of e)) e (λ n. expr_to_ts_type e c false n) n

    -- the properties of an Ob
    pub props : Recs → Bool → Bool → ℕ → Out Recs
    props nil c r n = pure nil n
    props (cons p ps) c r n =
        let a : Out Recs = prop p c r n in
        let b : Out Recs = props ps c r a.2 in
        (join a.0 b.0, a.1 ++ b.1, b.2)

    pub prop : Rec → Bool → Bool → ℕ → Out Recs
    prop (rec h ks) c r n = prop_by (prop_kind h.mark) h ks c r (λ n. type_second ks c r n) n

    -- the Fu of an Fx: its second child
    pub fn_second : Recs → ℕ → Out (Option Rec)
    fn_second nil n = pure none n
    fn_second (cons i rs) n = fn_first rs n

    pub fn_first : Recs → ℕ → Out (Option Rec)
    fn_first nil n = pure none n
    fn_first (cons f rs) n = function_type f n

    pub function_type : Rec → ℕ → Out (Option Rec)
    function_type (rec h ks) n = on_value (λ (ps : Recs). some (fn_type h ks ps)) (fn_params ks 3 n)

    -- the parameters of a Fu, which stand behind its first three children: each Pa's pattern
    pub fn_params : Recs → ℕ → ℕ → Out Recs
    fn_params nil skip n = pure nil n
    fn_params (cons p ps) (suc skip) n = fn_params ps skip n
    fn_params (cons p ps) zero n =
        let a : Out Recs = fn_param p n in
        let b : Out Recs = fn_params ps zero a.2 in
        (join a.0 b.0, a.1 ++ b.1, b.2)

    pub fn_param : Rec → ℕ → Out Recs
    fn_param (rec h ks) n = if_m (eqb h.mark (mark "Pa")) (λ n. param_first ks n) (pure nil) n

    pub param_first : Recs → ℕ → Out Recs
    param_first nil n = pure nil n
    param_first (cons p ps) n = pat_to_ts_fn_param p n

    -- the parameters of an Aw, which stand behind its first two children: patterns
    pub arrow_params : Recs → ℕ → ℕ → Out Recs
    arrow_params nil skip n = pure nil n
    arrow_params (cons p ps) (suc skip) n = arrow_params ps skip n
    arrow_params (cons p ps) zero n =
        let a : Out Recs = pat_to_ts_fn_param p n in
        let b : Out Recs = arrow_params ps zero a.2 in
        (join a.0 b.0, a.1 ++ b.1, b.2)

    pub pat_to_ts_fn_param : Rec → ℕ → Out Recs
    pat_to_ts_fn_param (rec h ks) n = param_by (param_kind h.mark) h ks (λ n. type_second ks false false n) n
