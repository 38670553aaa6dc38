-- `declarators::declarator_ident` meets its contract.
use Rattle.std.proofs.Common.{arith}
use Rattle.definition.specs.Record.{head_of}
use Rattle.definition.specs.Classes.{type_or}
use Rattle.definition.specs.Items.{declarator_type}
use Rattle.records.specs.declared.marks.Mark.TheVariants.{No}
use Rattle.records.specs.Views.{rec_of}
use Rattle.records.proofs.SameMarks.{same, other}
use Rattle.output.proofs.Framing.{makes-as, makes_second}
use Rattle.typing.specs.Values.{typing_in}
use Rattle.items.proofs.Framed.{some_left, second_left, second_counter, second_kept}
use Rattle.items.proofs.VarTypes.{bd_two, type_stays, type_new}
use Rattle.items.proofs.declarators.declarator_ident.Goals as goal

pub keep_next-type_ann-requires : goal.keep_next-type_ann-requires
keep_next-type_ann-requires c = omega (arith, some_left c.begin-ident.ensures (bd_two c.args.pattern c.requires.1))

pub first-requires : goal.first-requires
first-requires c = second_left c.begin-ident.ensures c.keep_next-type_ann.ensures (bd_two c.args.pattern c.requires.1)

pub rest-requires : goal.rest-requires
rest-requires c = second_left c.begin-ident.ensures c.keep_next-type_ann.ensures (bd_two c.args.pattern c.requires.1)

pub declarator_type-requires : goal.declarator_type-requires
declarator_type-requires c = record { low = omega (arith, c.requires.0.low, second_counter c.begin-ident.ensures c.keep_next-type_ann.ensures); same = c.requires.0.same }

pub returns-then-ne : goal.returns-then-ne
returns-then-ne c =
    let f = declarator_type (typing_in c.args.scope) (head_of (rec_of c.args.pattern)) (rec_of c.args.init) in
    second_kept c.begin-ident.ensures (type_or f) c.keep_next-type_ann.ensures (second_left c.begin-ident.ensures c.keep_next-type_ann.ensures (bd_two c.args.pattern c.requires.1)) c.first.ensures
    (type_stays f (rec_of c.first.result) _ (other _ c.mark.ensures No c.ne.ensures c.if-ne.true)) c.keep_all.ensures

pub returns : goal.returns
returns c =
    let f = declarator_type (typing_in c.args.scope) (head_of (rec_of c.args.pattern)) (rec_of c.args.init) in
    makes_second c.begin-ident.ensures (type_or f) c.keep_next-type_ann.ensures (second_left c.begin-ident.ensures c.keep_next-type_ann.ensures (bd_two c.args.pattern c.requires.1)) c.first.ensures c.rest.ensures
    (makes-as c.declarator_type.ensures (type_new f (rec_of c.first.result) _ (same _ c.mark.ensures No c.ne.ensures c.if-ne.false))) c.keep_all-2.ensures
