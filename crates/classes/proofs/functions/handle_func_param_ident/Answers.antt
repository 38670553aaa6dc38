-- `functions::handle_func_param_ident` meets its contract.
use Rattle.std.proofs.Common.{arith}
use Rattle.records.specs.declared.marks.Mark.TheVariants.{No}
use Rattle.records.specs.Views.{rec_of}
use Rattle.records.proofs.Records.{from_children, from_rest, child_is}
use Rattle.records.proofs.SameMarks.{same, other}
use Rattle.output.proofs.Framing.{makes-as, makes-keeps}
use Rattle.classes.proofs.Framed.{first_too}
use Rattle.classes.proofs.Handling.{bd_two, ident_given, ident_any}
use Rattle.classes.proofs.functions.handle_func_param_ident.Goals as goal

pub rest-requires : goal.rest-requires
rest-requires c = omega (arith, bd_two c.args.ident c.requires, c.children.ensures.many)

pub first-requires : goal.first-requires
first-requires c = omega (arith, bd_two c.args.ident c.requires, c.children.ensures.many, c.rest.ensures.many)

pub returns-then-ne : goal.returns-then-ne
returns-then-ne c =
    let n = bd_two c.args.ident c.requires in
    let x = child_is (from_rest (from_children c.children.ensures) (omega (arith, n, c.children.ensures.many)) c.rest.ensures) (omega (arith, n, c.children.ensures.many, c.rest.ensures.many)) c.first.ensures in
    makes-as (makes-keeps (rec_of c.args.ident) c.keep.ensures) (ident_given c.args.ident c.args.o.now.names.id_counter x (other _ c.mark.ensures No c.ne.ensures c.if-ne.true))

pub keep_next-type_ann-requires : goal.keep_next-type_ann-requires
keep_next-type_ann-requires c = omega (arith, bd_two c.args.ident c.requires, c.begin-name.ensures.kids.many)

pub rest-requires-2 : goal.rest-requires-2
rest-requires-2 c = omega (arith, bd_two c.args.ident c.requires, c.begin-name.ensures.kids.many, c.keep_next-type_ann.ensures.rest.many)

pub returns : goal.returns
returns c =
    let n = bd_two c.args.ident c.requires in
    let p = c.keep_next-type_ann.ensures in
    let f = from_rest (from_children c.children.ensures) (omega (arith, n, c.children.ensures.many)) c.rest.ensures in
    let g = from_rest (from_children c.begin-name.ensures.kids) (omega (arith, n, c.begin-name.ensures.kids.many)) p.rest in
    ident_any c.begin-name.ensures (omega (arith, n, c.begin-name.ensures.kids.many), p.is, p.rest)
    (omega (arith, n, c.begin-name.ensures.kids.many, p.rest.many), first_too f g c.first.ensures, c.rest-2.ensures)
    (same _ c.mark.ensures No c.ne.ensures c.if-ne.false)
    p.put c.put_any.ensures c.keep_all.ensures c.mark_diagnostic.ensures
