-- Enum members: `valid_enum_init_expr`, `valid_enum_ts_type`.
use Rattle.std.specs.Prelude.{ℕ, Bool, true, false, cond, ◌&&◌, ◌||◌, eqb}
use Rattle.definition.specs.Tree.{Rec, Recs, rec, nil, cons}
use Rattle.definition.specs.Grammar.{mark}
use Rattle.definition.specs.Record.{kids_of, is, is_no, absent, kid, Out, pure, if_m, second}
use Rattle.definition.specs.ChildNames.{oc_member, as_type, tl_literal}

-- "An Em init stays only if it is Id, Nu, Ss, Mb over a valid one, Oc of such Mb, Bn of two valid, Te of all valid, Pr of valid, or As|Ta with a
-- number literal type"
pub data Init : Type 0 where
  i_bin i_over i_opt_chain i_valid i_tpl i_typed i_other : Init

unfoldable pub init_kind : ℕ → Init
init_kind m =
    cond (eqb m (mark "Bn")) i_bin
    (cond (eqb m (mark "Mb") || eqb m (mark "Pr")) i_over
    (cond (eqb m (mark "Oc")) i_opt_chain
    (cond (eqb m (mark "Id") || (eqb m (mark "Nu") || eqb m (mark "Ss"))) i_valid
    (cond (eqb m (mark "Te")) i_tpl (cond (eqb m (mark "As") || eqb m (mark "Ta")) i_typed i_other)))))

-- `valid_enum_ts_type`: `TsLit::Number`
abbrev pub valid_enum_ts_type : Rec → Bool
valid_enum_ts_type t = is "Tl" t && is "Nu" (kid tl_literal (kids_of t))

-- `first`, `both` and `all` say whether the first child, the first two and all expressions are valid
unfoldable pub valid_by : Init → Recs → Bool → Bool → Bool → Bool
valid_by i_bin ks first both all = both
valid_by i_over ks first both all = first
valid_by i_opt_chain ks first both all = is "Mb" (kid oc_member ks) && first
valid_by i_valid ks first both all = true
valid_by i_tpl ks first both all = all
valid_by i_typed ks first both all = valid_enum_ts_type (kid as_type ks)
valid_by i_other ks first both all = false

unfoldable mutual
  pub valid_enum_init_expr : Rec → Bool
  valid_enum_init_expr (rec h ks) = valid_by (init_kind h.mark) ks (valid_first ks) (valid_both ks) (valid_all ks)

  pub valid_first : Recs → Bool
  valid_first nil = false
  valid_first (cons e es) = valid_enum_init_expr e

  pub valid_both : Recs → Bool
  valid_both nil = false
  valid_both (cons e es) = valid_enum_init_expr e && valid_first es

  -- the expressions of a template: all but Qu and Ops
  pub valid_all : Recs → Bool
  valid_all nil = true
  valid_all (cons e es) = ((is "Qu" e || is "Op" e) || valid_enum_init_expr e) && valid_all es

-- the init of an Em
unfoldable pub enum_init : Rec → ℕ → Out Rec
enum_init e n = pure (cond (is_no e || valid_enum_init_expr e) e absent) n

-- "`Em` Op expression?"; the name and the Ops of an En are left as they are
unfoldable pub enum_member : Rec → ℕ → Out Rec
enum_member r n = if_m (is "Em" r) (second enum_init r) (pure r) n
