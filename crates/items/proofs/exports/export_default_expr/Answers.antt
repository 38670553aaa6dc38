-- `exports::export_default_expr` meets its contract.
use Rattle.std.proofs.Common.{arith, refl, sym, ◌∙◌}
use Rattle.definition.specs.Record.{absent}
use Rattle.records.specs.declared.marks.Mark.TheVariants.{Id}
use Rattle.records.proofs.Accepted.{room}
use Rattle.records.proofs.Records.{from_children, child_is}
use Rattle.records.proofs.SameMarks.{tested}
use Rattle.records.proofs.Views.{accepted}
use Rattle.output.proofs.Kept.{keeps_made, absent-fits}
use Rattle.items.proofs.DefaultParts.{xe_one, expr_name, expr_typed, expr_untyped}
use Rattle.items.proofs.exports.export_default_expr.Goals as goal

pub first-expr-requires : goal.first-expr-requires
first-expr-requires c = omega (arith, c.children.ensures.many, xe_one c.args.export c.requires.1)

pub returns-then-eq : goal.returns-then-eq
returns-then-eq c =
    let x = child_is (from_children c.children.ensures) (omega (arith, c.children.ensures.many, xe_one c.args.export c.requires.1)) c.first-expr.ensures in
    expr_name c.args.scope c.args.export x (sym (tested _ c.mark.ensures Id) ∙ (sym c.eq.ensures ∙ c.if-eq.true)) c.keep.ensures

pub put_const_front-requires : goal.put_const_front-requires
put_const_front-requires c = omega (arith, c.requires.0.low, room (accepted c.args.export))

pub expr_to_ts_type-requires : goal.expr_to_ts_type-requires
expr_to_ts_type-requires c =
    let x = child_is (from_children c.children.ensures) (omega (arith, c.children.ensures.many, xe_one c.args.export c.requires.1)) c.first-expr.ensures in
    rw c.readonly.ensures (record { low = omega (arith, c.requires.0.low, c.put_const_front.ensures.counter, x.behind_it); same = c.requires.0.same ∙ sym x.tree })

pub returns : goal.returns
returns c =
    let x = child_is (from_children c.children.ensures) (omega (arith, c.children.ensures.many, xe_one c.args.export c.requires.1)) c.first-expr.ensures in
    expr_typed c.args.scope c.args.export x (sym (tested _ c.mark.ensures Id) ∙ (sym c.eq.ensures ∙ c.if-eq.false)) c.readonly.ensures c.put_const_front.ensures.written refl refl refl c.put_const_front.ensures.counter c.expr_to_ts_type.ensures
    (omega (arith, c.requires.0.low, room (accepted c.args.export))) c.in-Some.is (keeps_made absent absent-fits c.put_absent.ensures refl refl refl refl) c.put_default_name.ensures

pub returns-in_default : goal.returns-in_default
returns-in_default c =
    let x = child_is (from_children c.children.ensures) (omega (arith, c.children.ensures.many, xe_one c.args.export c.requires.1)) c.first-expr.ensures in
    expr_untyped c.args.scope c.args.export x (sym (tested _ c.mark.ensures Id) ∙ (sym c.eq.ensures ∙ c.if-eq.false)) c.readonly.ensures c.put_const_front.ensures.written refl refl refl c.put_const_front.ensures.counter c.expr_to_ts_type.ensures
    c.in_default.is c.start-start.ensures c.back.ensures c.keep-in_default.ensures
