-- `names::prop_name::prop_name_from_expr` meets its contract: in each arm the mark picks the definition's case. The measure is the depth left.
use Rattle.std.proofs.Common.{sym, ◌∙◌, arith}
use Rattle.definition.specs.Names.{key_expr_kind}
use Rattle.records.specs.declared.marks.Mark.TheVariants.{Ss, Nu, Bi, Te, Pr, Ta, Tc, Nn, As, Ts, Id, Mb}
use Rattle.records.proofs.Records.{from_children, child_is}
use Rattle.records.proofs.SameMarks.{marked, not_marked}
use Rattle.names.specs.declared.prop_name.Key.TheVariants.{Stands, Computed}
use Rattle.names.proofs.KeyLaws.{only_there, key_literal, key_ident, key_other, key_member, key_template, key_through, literal_kind, through_kind, through_some, key_of_child, key_here}
use Rattle.names.proofs.prop_name.+prop_name_from_expr.Goals as goal

pub first-requires : goal.first-requires
first-requires t c = omega (arith, c.children.ensures.many, only_there _ (sym c.is_one_expression.ensures ∙ c.if-is_one_expression.true))

pub returns-then-is_one_expression : goal.returns-then-is_one_expression
returns-then-is_one_expression t c =
    let o = sym c.is_one_expression.ensures ∙ c.if-is_one_expression.true in
    let h = only_there _ o in
    let x = child_is (from_children c.children.ensures) (omega (arith, c.children.ensures.many)) c.first.ensures in
    key_of_child c.args.unresolved x c.prop_name_from_expr.result c.prop_name_from_expr.ensures (key_template c.args.expr c.args.unresolved (marked _ c.mark.ensures c.in-Te.is) ∙ rw o)

pub first-requires-in-Pr : goal.first-requires-in-Pr
first-requires-in-Pr t c = omega (arith, c.children-in-Pr.ensures.many, through_some _ c.args.expr c.mark.ensures c.in-Pr.is)

pub returns-in-Pr : goal.returns-in-Pr
returns-in-Pr t c =
    let h = through_some _ c.args.expr c.mark.ensures c.in-Pr.is in
    let x = child_is (from_children c.children-in-Pr.ensures) (omega (arith, c.children-in-Pr.ensures.many)) c.first-in-Pr.ensures in
    key_of_child c.args.unresolved x c.prop_name_from_expr-in-Pr.result c.prop_name_from_expr-in-Pr.ensures (key_through c.args.expr c.args.unresolved (through_kind _ c.mark.ensures c.in-Pr.is))

pub returns-then-is_well_known_symbol_expr : goal.returns-then-is_well_known_symbol_expr
returns-then-is_well_known_symbol_expr t c =
    key_here (Computed c.args.expr)
    (key_member c.args.expr c.args.unresolved (marked _ c.mark.ensures c.in-Mb.is) ∙ rw (sym c.is_well_known_symbol_expr.ensures ∙ c.if-is_well_known_symbol_expr.true))

pub returns-in-Ss : goal.returns-in-Ss
returns-in-Ss t c = key_here (Stands c.args.expr) (key_literal c.args.expr c.args.unresolved (literal_kind _ c.mark.ensures c.in-Ss.is))

pub returns-else-is_one_expression : goal.returns-else-is_one_expression
returns-else-is_one_expression t c =
    key_template c.args.expr c.args.unresolved (marked _ c.mark.ensures c.in-Te.is) ∙ rw (sym c.is_one_expression.ensures ∙ c.if-is_one_expression.false)

pub returns-in-Id : goal.returns-in-Id
unfolding key_expr_kind
returns-in-Id t c = key_here (Computed c.args.expr) (key_ident c.args.expr c.args.unresolved (rw (marked _ c.mark.ensures c.in-Id.is)))

pub returns-else-is_well_known_symbol_expr : goal.returns-else-is_well_known_symbol_expr
returns-else-is_well_known_symbol_expr t c =
    key_member c.args.expr c.args.unresolved (marked _ c.mark.ensures c.in-Mb.is) ∙ rw (sym c.is_well_known_symbol_expr.ensures ∙ c.if-is_well_known_symbol_expr.false)

pub returns-in_default : goal.returns-in_default
unfolding key_expr_kind
returns-in_default t c =
    let m = c.mark.ensures in
    key_other c.args.expr c.args.unresolved
    (rw (not_marked _ m Ss c.in_default.not-Ss, not_marked _ m Nu c.in_default.not-Nu, not_marked _ m Bi c.in_default.not-Bi, not_marked _ m Te c.in_default.not-Te, not_marked _ m Pr c.in_default.not-Pr, not_marked _ m Ta c.in_default.not-Ta, not_marked _ m Tc c.in_default.not-Tc, not_marked _ m Nn c.in_default.not-Nn, not_marked _ m As c.in_default.not-As, not_marked _ m Ts c.in_default.not-Ts, not_marked _ m Id c.in_default.not-Id, not_marked _ m Mb c.in_default.not-Mb))
