-- Parameters and class members: `handle_func_param` and its parts, `infer_expr_fallback_any`, `class_body_to_type`.
-- The typing of expressions is a parameter.
use Rattle.std.specs.Prelude.{ℕ, zero, suc, List, [], ◌∷◌, Bool, false, cond, ◌||◌, eqb}
use Rattle.std.proofs.Math.Option.{Option, none, some}
use Rattle.definition.specs.Tree.{Rec, Recs, rec, nil, cons}
use Rattle.definition.specs.Grammar.{mark}
use Rattle.definition.specs.Record.{head_of, kids_of, mark_of, is, is_no, dummy_sp, with_flags, without_flag, flagged, has1, kid, set_kid, one, gone, diag, listed, Out, Typing, pure, if_m, on_value, wrap, single, each, flat, at_kid}
use Rattle.definition.specs.Helpers.{any_type_ann}
use Rattle.definition.specs.Names.{valid_prop_name}
use Rattle.definition.specs.Typing.{or_any}
use Rattle.definition.specs.ChildNames.{pa_pattern, me_key, me_function, cp_key, cp_type, cp_value, bd_name, bd_type, pb_type, ag_left, ag_right}

-- the flags of a Cp without its named ones, 1 and 2: "Value, declare, definite go"
abbrev pub prop_flags : ℕ → ℕ
prop_flags f = without_flag 2 (without_flag 1 f)

-- ---- parameters

-- "its type kept", or another
abbrev pub type_or : (ℕ → Out Rec) → Rec → ℕ → Out Rec
type_or f t n = if_m (is_no t) f (pure t) n

-- `handle_func_param_ident`: "A Bd parameter without type: any, d2 at it"
unfoldable pub handle_func_param_ident : Rec → ℕ → Out Rec
handle_func_param_ident p n = wrap (head_of p) (at_kid bd_type (type_or (λ n. (any_type_ann dummy_sp, diag "d2" (head_of p) ∷ [], n))) (kids_of p) n)

-- patterns, as far as parameters tell them apart
pub data Pattern : Type 0 where
  p_ident p_assign p_box p_other : Pattern

unfoldable pub pattern_kind : ℕ → Pattern
pattern_kind m =
    cond (eqb m (mark "Bd")) p_ident
    (cond (eqb m (mark "Ag")) p_assign (cond (eqb m (mark "Pb") || eqb m (mark "Po")) p_box p_other))

module _ (ty : Typing) where
  -- `infer_expr_fallback_any` of the right side of a default: "the right side's (off, off), else any and d2 at the right side"
  abbrev pub infer_expr_fallback_any : Rec → ℕ → Out Rec
  infer_expr_fallback_any e n = or_any (ty e false false n) (diag "d2" (head_of e) ∷ [])

  -- `handle_func_param_assign`: "Ag over Bd, Pb, Po becomes the left side, optional"; any other Ag stays as it is. Optional are a Bd's Id, a Pb, a Po
  unfoldable pub handle_func_param_assign : Pattern → Rec → Rec → Rec → ℕ → Out Rec
  handle_func_param_assign p_ident left right whole n =
      on_value (λ (ks : Recs). rec (head_of left) (set_kid bd_name (flagged (kid bd_name ks)) ks)) (at_kid bd_type (type_or (infer_expr_fallback_any right)) (kids_of left) n)
  handle_func_param_assign p_box left right whole n =
      wrap (head_of (flagged left)) (at_kid pb_type (type_or (infer_expr_fallback_any right)) (kids_of left) n)
  handle_func_param_assign p_assign left right whole n = pure whole n
  handle_func_param_assign p_other left right whole n = pure whole n

  -- the pattern of a parameter
  unfoldable pub handle_pattern_by : Pattern → Rec → ℕ → Out Rec
  handle_pattern_by p_ident p n = handle_func_param_ident p n
  handle_pattern_by p_assign p n =
      let left : Rec = kid ag_left (kids_of p) in
      handle_func_param_assign (pattern_kind (mark_of left)) left (kid ag_right (kids_of p)) p n
  handle_pattern_by p_box p n = pure p n
  handle_pattern_by p_other p n = pure p n

  abbrev pub handle_pattern : Rec → ℕ → Out Rec
  handle_pattern p n = handle_pattern_by (pattern_kind (mark_of p)) p n

  -- `handle_func_param`, and `handle_ts_param_props` for a Pp; an Op is left as it is
  unfoldable pub handle_func_param : Rec → ℕ → Out Rec
  handle_func_param p n = if_m (is "Pa" p || is "Pp" p) (λ n. wrap (head_of p) (at_kid pa_pattern handle_pattern (kids_of p) n)) (pure p) n

  -- "`Fu` (flags 1 async, 2 generator) Op? type? Op? Pa*: type parameters, return type, body": "Bodies go. Setters lose the return type"
  unfoldable pub function_part : Bool → ℕ → Rec → ℕ → Out Rec
  function_part setter zero r n = pure r n
  function_part setter (suc zero) r n = pure (cond setter (gone r) r) n
  function_part setter (suc (suc zero)) r n = pure (gone r) n
  function_part setter (suc (suc (suc i))) r n = handle_func_param r n

  unfoldable pub handle_function : Bool → Rec → ℕ → Out Rec
  handle_function setter r n = wrap (head_of r) (each (function_part setter) 0 (kids_of r) n)

  -- ---- members

  -- `ClassMember::Constructor`: "`Co` Op? (body) (Pa|Pp)*"
  unfoldable pub constructor_part : ℕ → Rec → ℕ → Out Rec
  constructor_part zero r n = pure (gone r) n
  constructor_part (suc i) r n = handle_func_param r n

  unfoldable pub constructor : Rec → ℕ → Out Recs
  constructor r n = single (wrap (head_of r) (each constructor_part 0 (kids_of r) n))

  -- `ClassMember::Method`, with its new key: "`Me` (1 setter, 2 getter, 4 static) key Fu" (reading 18)
  unfoldable pub method : Rec → Option Rec → ℕ → Out Recs
  method r none n = pure nil n
  method r (some key) n =
      on_value (λ (ks : Recs). one (rec (head_of r) (set_kid me_key key ks))) (at_kid me_function (handle_function (has1 (head_of r))) (kids_of r) n)

  -- "Cp without type but with value: typed (off, off), else any with no diagnostic of its own"
  abbrev pub prop_type : Rec → Rec → ℕ → Out Rec
  prop_type value t n = if_m (is_no value) (pure t) (type_or (λ n. or_any (ty value false false n) []) t) n

  -- `ClassMember::ClassProp`, with its new key: "Value, declare, definite go" (reading 18)
  unfoldable pub class_prop : Rec → Option Rec → ℕ → Out Recs
  class_prop r none n = pure nil n
  class_prop r (some key) n =
      let value : Rec = kid cp_value (kids_of r) in
      on_value
      (λ (ks : Recs). one (rec (with_flags (head_of r) (prop_flags (head_of r).flags)) (set_kid cp_key key (set_kid cp_value (gone value) ks))))
      (at_kid cp_type (prop_type value) (kids_of r) n)

-- ---- `class_body_to_type`

pub data Member : Type 0 where
  m_constructor m_method m_prop m_dropped m_kept : Member

-- Dm goes; Ix stays, and so do trailing Ops
unfoldable pub member_kind : ℕ → Member
member_kind m =
    cond (eqb m (mark "Co")) m_constructor
    (cond (eqb m (mark "Me")) m_method (cond (eqb m (mark "Cp")) m_prop (cond (eqb m (mark "Dm")) m_dropped m_kept)))

module _ (list : List ℕ) (ctx : ℕ) (ty : Typing) where
  -- "Co and Me whose range is listed go, then Dm and Me|Cp without a valid key, silently"
  unfoldable pub member_by : Member → Rec → ℕ → Out Recs
  member_by m_constructor r n = if_m (listed list (head_of r)) (pure nil) (constructor ty r) n
  member_by m_method r n = if_m (listed list (head_of r)) (pure nil) (method ty r (valid_prop_name ctx (kid me_key (kids_of r)))) n
  member_by m_prop r n = class_prop ty r (valid_prop_name ctx (kid cp_key (kids_of r))) n
  member_by m_dropped r n = pure nil n
  member_by m_kept r n = pure (one r) n

  abbrev pub member : Rec → ℕ → Out Recs
  member r n = member_by (member_kind (mark_of r)) r n

  -- the members of a Cl, which stand behind its type parameters
  unfoldable pub class_body_to_type : Recs → ℕ → Out Recs
  class_body_to_type nil n = pure nil n
  class_body_to_type (cons tps members) n = on_value (cons tps) (flat member members n)

  unfoldable pub class : Rec → ℕ → Out Rec
  class r n = wrap (head_of r) (class_body_to_type (kids_of r) n)
