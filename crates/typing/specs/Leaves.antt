-- The types of expressions of which nothing below is typed.
use Rattle.std.specs.Prelude.{Bool, ℕ}
use Rattle.std.proofs.Math.Option.{Option, none, some}
use Rattle.definition.specs.Tree.{Rec}
use Rattle.definition.specs.Record.{kids_of, mark_of, kid}
use Rattle.definition.specs.Helpers.{tpl_to_ts_type, lit_kind, maybe_lit_to_ts_type}
use Rattle.definition.specs.Prescan.{PrescannedModuleIds}
use Rattle.definition.specs.Typing.{
  minus_by,
  ident_to_ts_type,
  new_type,
  Expr,
  x_array,
  x_object,
  x_lit,
  x_const,
  x_satisfies,
  x_as,
  x_fn,
  x_arrow,
  x_tpl,
  x_ident,
  x_unary,
  x_call,
  x_new,
  x_other,
  expr_kind,
}
use Rattle.typing.specs.declared.exprs.Mode.{Mode}
use Rattle.typing.specs.Values.{ids_in}

-- the arms of `expr_by` that don't ask what is below
unfoldable pub leaf_by : PrescannedModuleIds → ℕ → Expr → Rec → Bool → Option Rec
leaf_by ids ctx x_lit t c = maybe_lit_to_ts_type (lit_kind (mark_of t)) t c
leaf_by ids ctx x_tpl t c = some (tpl_to_ts_type (kids_of t) c)
leaf_by ids ctx x_ident t c = ident_to_ts_type ids ctx t c
leaf_by ids ctx x_unary t c = minus_by (lit_kind (mark_of (kid 0 (kids_of t)))) (kid 0 (kids_of t)) c
leaf_by ids ctx x_new t c = new_type ids ctx (kids_of t)
leaf_by ids ctx x_other t c = none
leaf_by ids ctx x_array t c = none
leaf_by ids ctx x_object t c = none
leaf_by ids ctx x_const t c = none
leaf_by ids ctx x_satisfies t c = none
leaf_by ids ctx x_as t c = none
leaf_by ids ctx x_fn t c = none
leaf_by ids ctx x_arrow t c = none
leaf_by ids ctx x_call t c = none

-- `readonly_of` knows none of their types
unfoldable pub leaf_of : Mode → Rec → Option Rec
leaf_of m r = leaf_by (ids_in m.scope) m.scope.unresolved (expr_kind (mark_of r)) r m.as_const
