-- `functions::handle_func_param_assign` meets its contract.
use Rattle.std.proofs.Common.{true, arith, ap, ◌∙◌}
use Rattle.definition.specs.Record.{flag1}
use Rattle.records.specs.declared.marks.Mark.TheVariants.{Bd, Pb, Po}
use Rattle.records.specs.Views.{rec_of}
use Rattle.records.proofs.Records.{from_children, from_rest, child_is}
use Rattle.records.proofs.SameMarks.{marked, not_marked}
use Rattle.output.proofs.Framing.{makes-as, makes-keeps}
use Rattle.typing.specs.Values.{typing_in}
use Rattle.classes.proofs.Handling.{ag_two, bd_two, box_one, either, ident_kind, box_kind, ident_optional, box_optional, assign_by, assign_kept}
use Rattle.classes.proofs.functions.handle_func_param_assign.Goals as goal

pub first-left-requires : goal.first-left-requires
first-left-requires c = omega (arith, ag_two c.args.assign c.requires.1, c.children-sides.ensures.many)

pub rest-requires : goal.rest-requires
rest-requires c = omega (arith, ag_two c.args.assign c.requires.1, c.children-sides.ensures.many)

pub first-right-requires : goal.first-right-requires
first-right-requires c = omega (arith, ag_two c.args.assign c.requires.1, c.children-sides.ensures.many, c.rest.ensures.many)

pub first-requires : goal.first-requires
first-requires c = omega (arith, bd_two c.first-left.result (marked _ c.mark.ensures c.in-Bd.is), c.begin-name.ensures.kids.many)

pub rest-type_ann-requires : goal.rest-type_ann-requires
rest-type_ann-requires c = omega (arith, bd_two c.first-left.result (marked _ c.mark.ensures c.in-Bd.is), c.begin-name.ensures.kids.many)

pub first-requires-in-Bd : goal.first-requires-in-Bd
first-requires-in-Bd c = omega (arith, bd_two c.first-left.result (marked _ c.mark.ensures c.in-Bd.is), c.begin-name.ensures.kids.many, c.rest-type_ann.ensures.many)

pub rest-requires-in-Bd : goal.rest-requires-in-Bd
rest-requires-in-Bd c = omega (arith, bd_two c.first-left.result (marked _ c.mark.ensures c.in-Bd.is), c.begin-name.ensures.kids.many, c.rest-type_ann.ensures.many)

pub first-requires-in-Pb : goal.first-requires-in-Pb
first-requires-in-Pb c = omega (arith, box_one c.first-left.result (either c.mark.ensures c.in-Pb.is), c.begin_with-type_ann.ensures.kids.many)

pub rest-requires-in-Pb : goal.rest-requires-in-Pb
rest-requires-in-Pb c = omega (arith, box_one c.first-left.result (either c.mark.ensures c.in-Pb.is), c.begin_with-type_ann.ensures.kids.many)

pub returns-in-Bd : goal.returns-in-Bd
returns-in-Bd c =
    let e = marked _ c.mark.ensures c.in-Bd.is in
    let n = bd_two c.first-left.result e in
    let m = ag_two c.args.assign c.requires.1 in
    let f = from_children c.children-sides.ensures in
    let x = child_is f (omega (arith, m, c.children-sides.ensures.many)) c.first-left.ensures in
    let y = child_is (from_rest f (omega (arith, m, c.children-sides.ensures.many)) c.rest.ensures) (omega (arith, m, c.children-sides.ensures.many, c.rest.ensures.many)) c.first-right.ensures in
    makes-as
    (ident_optional c.begin-name.ensures (omega (arith, n, c.begin-name.ensures.kids.many), c.first.ensures, c.rest-type_ann.ensures)
    (omega (arith, n, c.begin-name.ensures.kids.many, c.rest-type_ann.ensures.many), c.first-in-Bd.ensures, c.rest-in-Bd.ensures)
    (typing_in c.args.scope) (rec_of c.first-right.result) (rec_of c.args.assign) c.put_flagged.ensures c.type_or_infer.ensures c.keep_all.ensures)
    (assign_by (typing_in c.args.scope) x y c.args.o.now.names.id_counter (ident_kind e))

pub returns-in-Pb : goal.returns-in-Pb
returns-in-Pb c =
    let e = either c.mark.ensures c.in-Pb.is in
    let n = box_one c.first-left.result e in
    let m = ag_two c.args.assign c.requires.1 in
    let f = from_children c.children-sides.ensures in
    let x = child_is f (omega (arith, m, c.children-sides.ensures.many)) c.first-left.ensures in
    let y = child_is (from_rest f (omega (arith, m, c.children-sides.ensures.many)) c.rest.ensures) (omega (arith, m, c.children-sides.ensures.many, c.rest.ensures.many)) c.first-right.ensures in
    makes-as
    (box_optional c.begin_with-type_ann.ensures (c.with_flag.ensures ∙ ap (flag1 true) c.flags.ensures)
    (omega (arith, n, c.begin_with-type_ann.ensures.kids.many), c.first-in-Pb.ensures, c.rest-in-Pb.ensures)
    (typing_in c.args.scope) (rec_of c.first-right.result) (rec_of c.args.assign) c.type_or_infer-in-Pb.ensures c.keep_all-in-Pb.ensures)
    (assign_by (typing_in c.args.scope) x y c.args.o.now.names.id_counter (box_kind e))

pub returns-in_default : goal.returns-in_default
returns-in_default c =
    let m = ag_two c.args.assign c.requires.1 in
    let f = from_children c.children-sides.ensures in
    let x = child_is f (omega (arith, m, c.children-sides.ensures.many)) c.first-left.ensures in
    let y = child_is (from_rest f (omega (arith, m, c.children-sides.ensures.many)) c.rest.ensures) (omega (arith, m, c.children-sides.ensures.many, c.rest.ensures.many)) c.first-right.ensures in
    makes-as (makes-keeps (rec_of c.args.assign) c.keep.ensures)
    (assign_kept (typing_in c.args.scope) x y c.args.o.now.names.id_counter (not_marked _ c.mark.ensures Bd c.in_default.not-Bd) (not_marked _ c.mark.ensures Pb c.in_default.not-Pb) (not_marked _ c.mark.ensures Po c.in_default.not-Po))
