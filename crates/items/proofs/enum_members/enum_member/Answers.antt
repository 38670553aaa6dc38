-- `enum_members::enum_member` meets its contract.
use Rattle.std.proofs.Common.{arith, eqb-true}
use Rattle.definition.specs.Record.{second}
use Rattle.definition.specs.Enums.{enum_init}
use Rattle.records.specs.declared.marks.Mark.TheVariants.{Em}
use Rattle.records.proofs.SameMarks.{same, other}
use Rattle.output.proofs.Steps.{keeps-as}
use Rattle.output.proofs.Framing.{keeps_second}
use Rattle.items.proofs.Framed.{some_left, second_left}
use Rattle.items.proofs.MemberInits.{em_two, em_other, em_is}
use Rattle.items.proofs.enum_members.enum_member.Goals as goal

pub returns-then-ne : goal.returns-then-ne
returns-then-ne c = keeps-as c.keep.ensures (em_other _ c.args.o.now.names.id_counter (other _ c.mark.ensures Em c.ne.ensures c.if-ne.true))

pub keep_next-init-requires : goal.keep_next-init-requires
keep_next-init-requires c = omega (arith, some_left c.begin-name.ensures (em_two c.args.member (eqb-true _ _ (same _ c.mark.ensures Em c.ne.ensures c.if-ne.false))))

pub first-requires : goal.first-requires
first-requires c = second_left c.begin-name.ensures c.keep_next-init.ensures (em_two c.args.member (eqb-true _ _ (same _ c.mark.ensures Em c.ne.ensures c.if-ne.false)))

pub rest-requires : goal.rest-requires
rest-requires c = second_left c.begin-name.ensures c.keep_next-init.ensures (em_two c.args.member (eqb-true _ _ (same _ c.mark.ensures Em c.ne.ensures c.if-ne.false)))

pub returns : goal.returns
unfolding second enum_init
returns c =
    let e = same _ c.mark.ensures Em c.ne.ensures c.if-ne.false in
    let m = second_left c.begin-name.ensures c.keep_next-init.ensures (em_two c.args.member (eqb-true _ _ e)) in
    keeps-as (keeps_second c.begin-name.ensures enum_init c.keep_next-init.ensures m c.first.ensures c.rest.ensures c.enum_init.ensures c.keep_all.ensures) (em_is _ c.args.o.now.names.id_counter e)
