-- The cycle of `valid_enum_init_expr`: in each arm the mark picks the definition's case; those of a template's children that are left decide.
use Rattle.std.proofs.Common.{sym, ap, ◌∙◌, arith}
use Rattle.definition.specs.Enums.{init_kind, valid_all}
use Rattle.records.specs.declared.marks.Mark.TheVariants.{Bn, Mb, Pr, Oc, Id, Nu, Ss, Te, As, Ta}
use Rattle.records.proofs.Records.{from_children, from_rest, child_is}
use Rattle.records.proofs.SameMarks.{tested, marked, not_marked}
use Rattle.items.proofs.Inits.{operands, operands_are, one_false, member, member_by, template_is, never, over_some, over_is, always, typed_two, typed_is, all_none, all_step, all_other}
use Rattle.items.proofs.enums.+enum_values.Goals as goal

pub valid_enum_init_expr-first-requires : goal.valid_enum_init_expr-first-requires
valid_enum_init_expr-first-requires t c = omega (arith, c.children-operands.ensures.many, operands c.args.expr (marked _ c.mark.ensures c.in-Bn.is))

pub valid_enum_init_expr-rest-requires : goal.valid_enum_init_expr-rest-requires
valid_enum_init_expr-rest-requires t c = omega (arith, c.children-operands.ensures.many, operands c.args.expr (marked _ c.mark.ensures c.in-Bn.is))

pub valid_enum_init_expr-first-requires-then-valid_enum_init_expr : goal.valid_enum_init_expr-first-requires-then-valid_enum_init_expr
valid_enum_init_expr-first-requires-then-valid_enum_init_expr t c =
    omega (arith, c.children-operands.ensures.many, c.rest.ensures.many, operands c.args.expr (marked _ c.mark.ensures c.in-Bn.is))

pub valid_enum_init_expr-first-requires-in-Mb : goal.valid_enum_init_expr-first-requires-in-Mb
valid_enum_init_expr-first-requires-in-Mb t c = omega (arith, c.children.ensures.many, over_some c.args.expr c.mark.ensures c.in-Mb.is)

pub valid_enum_init_expr-first-member-requires : goal.valid_enum_init_expr-first-member-requires
valid_enum_init_expr-first-member-requires t c = omega (arith, c.children-in-Oc.ensures.many, member c.args.expr (marked _ c.mark.ensures c.in-Oc.is))

pub valid_enum_init_expr-rest-requires-in-As : goal.valid_enum_init_expr-rest-requires-in-As
valid_enum_init_expr-rest-requires-in-As t c = omega (arith, c.children-in-As.ensures.many, typed_two c.args.expr c.mark.ensures c.in-As.is)

pub valid_enum_init_expr-first-requires-in-As : goal.valid_enum_init_expr-first-requires-in-As
valid_enum_init_expr-first-requires-in-As t c =
    omega (arith, c.children-in-As.ensures.many, c.rest-in-As.ensures.many, typed_two c.args.expr c.mark.ensures c.in-As.is)

pub valid_enum_init_expr-returns-then-valid_enum_init_expr : goal.valid_enum_init_expr-returns-then-valid_enum_init_expr
valid_enum_init_expr-returns-then-valid_enum_init_expr t c =
    let e = marked _ c.mark.ensures c.in-Bn.is in
    let n = operands c.args.expr e in
    let f = from_children c.children-operands.ensures in
    let x = child_is f (omega (arith, c.children-operands.ensures.many, n)) c.first.ensures in
    let g = from_rest f (omega (arith, c.children-operands.ensures.many, n)) c.rest.ensures in
    let y = child_is g (omega (arith, c.children-operands.ensures.many, c.rest.ensures.many, n)) c.first-then-valid_enum_init_expr.ensures in
    c.valid_enum_init_expr-then-valid_enum_init_expr.ensures ∙ sym (operands_are c.args.expr e x y ∙ rw (sym c.valid_enum_init_expr.ensures ∙ c.if-valid_enum_init_expr.true))

pub valid_enum_init_expr-returns-else-valid_enum_init_expr : goal.valid_enum_init_expr-returns-else-valid_enum_init_expr
valid_enum_init_expr-returns-else-valid_enum_init_expr t c =
    let e = marked _ c.mark.ensures c.in-Bn.is in
    let x = child_is (from_children c.children-operands.ensures) (omega (arith, c.children-operands.ensures.many, operands c.args.expr e)) c.first.ensures in
    c.if-valid_enum_init_expr.false ∙ sym (one_false c.args.expr e x (sym c.valid_enum_init_expr.ensures ∙ c.if-valid_enum_init_expr.false))

pub valid_enum_init_expr-returns-in-Mb : goal.valid_enum_init_expr-returns-in-Mb
valid_enum_init_expr-returns-in-Mb t c =
    let x = child_is (from_children c.children.ensures) (omega (arith, c.children.ensures.many, over_some c.args.expr c.mark.ensures c.in-Mb.is)) c.first-in-Mb.ensures in
    c.valid_enum_init_expr-in-Mb.ensures ∙ sym (over_is c.args.expr c.mark.ensures c.in-Mb.is x)

pub valid_enum_init_expr-returns-then-eq : goal.valid_enum_init_expr-returns-then-eq
valid_enum_init_expr-returns-then-eq t c =
    let e = marked _ c.mark.ensures c.in-Oc.is in
    let x = child_is (from_children c.children-in-Oc.ensures) (omega (arith, c.children-in-Oc.ensures.many, member c.args.expr e)) c.first-member.ensures in
    c.valid_enum_init_expr-then-eq.ensures ∙ sym (member_by c.args.expr e x ∙ rw (sym (tested _ c.mark-in-Oc.ensures Mb) ∙ (sym c.eq.ensures ∙ c.if-eq.true)))

pub valid_enum_init_expr-returns-else-eq : goal.valid_enum_init_expr-returns-else-eq
valid_enum_init_expr-returns-else-eq t c =
    let e = marked _ c.mark.ensures c.in-Oc.is in
    let x = child_is (from_children c.children-in-Oc.ensures) (omega (arith, c.children-in-Oc.ensures.many, member c.args.expr e)) c.first-member.ensures in
    c.if-eq.false ∙ sym (member_by c.args.expr e x ∙ rw (sym (tested _ c.mark-in-Oc.ensures Mb) ∙ (sym c.eq.ensures ∙ c.if-eq.false)))

pub valid_enum_init_expr-returns-in-Id : goal.valid_enum_init_expr-returns-in-Id
valid_enum_init_expr-returns-in-Id t c = sym (always c.args.expr c.mark.ensures c.in-Id.is)

pub valid_enum_init_expr-returns-in-Te : goal.valid_enum_init_expr-returns-in-Te
valid_enum_init_expr-returns-in-Te t c = c.valid_exprs.ensures ∙ sym (template_is c.args.expr (marked _ c.mark.ensures c.in-Te.is))

pub valid_enum_init_expr-returns-in-As : goal.valid_enum_init_expr-returns-in-As
valid_enum_init_expr-returns-in-As t c =
    let n = typed_two c.args.expr c.mark.ensures c.in-As.is in
    let g = from_rest (from_children c.children-in-As.ensures) (omega (arith, c.children-in-As.ensures.many, n)) c.rest-in-As.ensures in
    let y = child_is g (omega (arith, c.children-in-As.ensures.many, c.rest-in-As.ensures.many, n)) c.first-in-As.ensures in
    c.valid_enum_ts_type.ensures ∙ sym (typed_is c.args.expr c.mark.ensures c.in-As.is y)

pub valid_enum_init_expr-returns-in_default : goal.valid_enum_init_expr-returns-in_default
unfolding init_kind
valid_enum_init_expr-returns-in_default t c =
    let m = c.mark.ensures in
    sym (never c.args.expr
    (rw (not_marked _ m Bn c.in_default.not-Bn, not_marked _ m Mb c.in_default.not-Mb, not_marked _ m Pr c.in_default.not-Pr, not_marked _ m Oc c.in_default.not-Oc, not_marked _ m Id c.in_default.not-Id, not_marked _ m Nu c.in_default.not-Nu, not_marked _ m Ss c.in_default.not-Ss, not_marked _ m Te c.in_default.not-Te, not_marked _ m As c.in_default.not-As, not_marked _ m Ta c.in_default.not-Ta)))

pub valid_exprs-loop-kids-init : goal.valid_exprs-loop-kids-init
valid_exprs-loop-kids-init t c = (ap valid_all c.children-kids.ensures.are, omega (arith, c.children-kids.ensures.levels, c.children-kids.ensures.left))

pub valid_exprs-returns-then-not-valid_part : goal.valid_exprs-returns-then-not-valid_part
valid_exprs-returns-then-not-valid_part t c = sym (all_other c.loop-kids-test.true c.first.ensures (sym c.valid_part.ensures ∙ c.if-not-valid_part.true)) ∙ c.loop-kids.invariant.0

pub valid_exprs-loop-kids-preserved : goal.valid_exprs-loop-kids-preserved
valid_exprs-loop-kids-preserved t c =
    let r = c.rest-kids.ensures in
    (sym (all_step c.loop-kids-test.true c.first.ensures r ∙ rw (sym c.valid_part.ensures ∙ c.if-not-valid_part.false)) ∙ c.loop-kids.invariant.0, omega (arith, r.levels, c.loop-kids.invariant.1))

pub valid_exprs-returns : goal.valid_exprs-returns
valid_exprs-returns t c = sym (all_none _ (omega (arith, c.loop-kids-test.false))) ∙ c.loop-kids.invariant.0
