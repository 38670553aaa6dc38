-- `keys::put_key` meets its contract.
use Rattle.std.proofs.Common.{arith}
use Rattle.records.proofs.Records.{from_children, child_is}
use Rattle.records.proofs.SameMarks.{marked}
use Rattle.output.proofs.Steps.{keeps-as}
use Rattle.typing.proofs.KeyFronts.{key-named, key-below, key-kept, computes}
use Rattle.typing.proofs.keys.put_key.Goals as goal

pub first-requires : goal.first-requires
first-requires c = omega (arith, c.children.ensures.many, computes c.args.key (marked _ c.mark.ensures c.in-Kc.is))

pub returns-in-Ki : goal.returns-in-Ki
returns-in-Ki c = keeps-as c.put_name.ensures (key-named c.args.key c.mark.ensures c.in-Ki.is)

pub returns-in-Kc : goal.returns-in-Kc
returns-in-Kc c =
    let x = child_is (from_children c.children.ensures) (omega (arith, c.children.ensures.many, computes c.args.key (marked _ c.mark.ensures c.in-Kc.is))) c.first.ensures in
    keeps-as c.keep.ensures (key-below c.args.key c.mark.ensures c.in-Kc.is x)

pub returns-in_default : goal.returns-in_default
returns-in_default c = keeps-as c.keep-in_default.ensures (key-kept c.args.key c.mark.ensures c.in_default.not-Ki c.in_default.not-Kc)
