-- `readonly_types::readonly_of` meets its contract.
use Rattle.std.proofs.Common.{arith, sym, refl, ◌∙◌}
use Rattle.records.specs.Views.{rec_of}
use Rattle.records.proofs.Puts.{encode_one}
use Rattle.records.proofs.SameMarks.{marked}
use Rattle.records.proofs.Writers.{writes_then, writes_as}
use Rattle.swc_helpers.proofs.Maybe.{makes-type, makes_none, makes_as}
use Rattle.typing.proofs.Frozens.{lit-frozen, lit-unfrozen, array-frozen, same-frozen, other-frozen}
use Rattle.typing.proofs.readonly_types.readonly_of.Goals as goal

pub readonly_members-requires : goal.readonly_members-requires
readonly_members-requires c = marked _ c.mark.ensures c.in-Li.is

pub returns-then-not-plain_members : goal.returns-then-not-plain_members
returns-then-not-plain_members c =
    makes_as (makes_none _) (lit-unfrozen (rec_of c.args.ty) (marked _ c.mark.ensures c.in-Li.is) (sym c.plain_members.ensures ∙ c.if-not-plain_members.true))

pub returns-else-not-plain_members : goal.returns-else-not-plain_members
returns-else-not-plain_members c =
    makes_as (makes-type c.readonly_members.ensures) (lit-frozen (rec_of c.args.ty) (marked _ c.mark.ensures c.in-Li.is) (sym c.plain_members.ensures ∙ c.if-not-plain_members.false))

pub returns-in-Ay : goal.returns-in-Ay
returns-in-Ay c =
    makes_as (makes-type (writes_as (writes_then (omega arith) c.ts_readonly.ensures c.put_record.ensures) (encode_one _ _ refl))) (array-frozen (rec_of c.args.ty) c.mark.ensures c.in-Ay.is)

pub returns-in-Ft : goal.returns-in-Ft
returns-in-Ft c = makes_as (makes-type c.put_record-in-Ft.ensures) (same-frozen (rec_of c.args.ty) c.mark.ensures c.in-Ft.is)

pub returns-in_default : goal.returns-in_default
returns-in_default c =
    let d = c.in_default in
    makes_as (makes_none _) (other-frozen (rec_of c.args.ty) c.mark.ensures d.not-Li d.not-Ay d.not-Tu d.not-Ft d.not-Ct d.not-Ro)
