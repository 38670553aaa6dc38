-- `leaf::as_type` meets its contract.
use Rattle.std.proofs.Common.{arith}
use Rattle.records.proofs.Records.{from_children, from_rest, child_is}
use Rattle.records.proofs.Writers.{writes_as}
use Rattle.typing.proofs.HasReadonly.{typed}
use Rattle.typing.proofs.Frozens.{as-frozen, as-copied}
use Rattle.typing.proofs.leaf.as_type.Goals as goal

pub rest-requires : goal.rest-requires
rest-requires c = omega (arith, c.children.ensures.many, typed c.args.expr c.requires)

pub first-type_ann-requires : goal.first-type_ann-requires
first-type_ann-requires c = omega (arith, c.children.ensures.many, c.rest.ensures.many, typed c.args.expr c.requires)

pub returns-then-frozen : goal.returns-then-frozen
returns-then-frozen c =
    let n = typed c.args.expr c.requires in
    let g = from_rest (from_children c.children.ensures) (omega (arith, c.children.ensures.many, n)) c.rest.ensures in
    let y = child_is g (omega (arith, c.children.ensures.many, c.rest.ensures.many, n)) c.first-type_ann.ensures in
    writes_as c.readonly_or_same.ensures (as-frozen y c.if-frozen.true)

pub returns : goal.returns
returns c =
    let n = typed c.args.expr c.requires in
    let g = from_rest (from_children c.children.ensures) (omega (arith, c.children.ensures.many, n)) c.rest.ensures in
    let y = child_is g (omega (arith, c.children.ensures.many, c.rest.ensures.many, n)) c.first-type_ann.ensures in
    writes_as c.put_record.ensures (as-copied y c.if-frozen.false)
