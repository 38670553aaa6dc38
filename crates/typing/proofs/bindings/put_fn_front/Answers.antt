-- `bindings::put_fn_front` meets its contract.
use Rattle.std.proofs.Common.{arith, ap}
use Rattle.definition.specs.Tree.{Rec, encode}
use Rattle.records.proofs.Records.{from_children, from_rest, child_is}
use Rattle.records.proofs.Writers.{writes_then, writes_as}
use Rattle.typing.specs.Parts.{return_type}
use Rattle.typing.proofs.bindings.put_fn_front.Goals as goal

pub returns : goal.returns
returns c =
    let n = c.children-kids.ensures.many in
    let f = from_children c.children-kids.ensures in
    let x = child_is f (omega (arith, n, c.requires)) c.first.ensures in
    let g = from_rest f (omega (arith, n, c.requires)) c.rest.ensures in
    let y = child_is g (omega (arith, n, c.rest.ensures.many, c.requires)) c.first-2.ensures in
    writes_then (omega arith) (writes_as c.put_record.ensures (ap encode x.is)) (writes_as c.put_return_type.ensures (ap (λ (r : Rec). encode (return_type r)) y.is))
