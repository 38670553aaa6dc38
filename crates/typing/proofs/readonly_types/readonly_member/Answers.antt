-- `readonly_types::readonly_member` meets its contract.
use Rattle.std.proofs.Common.{arith, sym, ap, ◌∙◌, length, inl, refl}
use Rattle.definition.specs.Tree.{encode}
use Rattle.records.specs.declared.marks.Mark.TheVariants.{Op}
use Rattle.records.specs.Views.{rec_of}
use Rattle.records.proofs.SameMarks.{tested}
use Rattle.records.proofs.Writers.{writes_as}
use Rattle.typing.proofs.Frozens.{encode-long, op-kept, flag-set}
use Rattle.typing.proofs.readonly_types.readonly_member.Goals as goal

pub returns-then-eq : goal.returns-then-eq
returns-then-eq c = writes_as c.put_record.ensures (ap encode (op-kept (rec_of c.args.member) (sym (tested _ c.mark.ensures Op) ∙ (sym c.eq.ensures ∙ c.if-eq.true))))

pub with_flag-requires : goal.with_flag-requires
with_flag-requires c = inl refl

pub slice_bounds-put-count : goal.slice_bounds-put-count
slice_bounds-put-count c = omega (arith, encode-long (rec_of c.args.member), ap length c.part.ensures.part)

pub slice_bounds-put-start : goal.slice_bounds-put-start
slice_bounds-put-start c = omega (arith, encode-long (rec_of c.args.member), ap length c.part.ensures.part)

pub returns : goal.returns
returns c =
    flag-set (rec_of c.args.member) c.head.ensures c.flags.ensures c.with_flag.ensures (sym (tested _ c.mark.ensures Op) ∙ (sym c.eq.ensures ∙ c.if-eq.false)) c.put_head.ensures c.part.ensures.part c.put.ensures
