-- `depth_counts::walk::block_in` meets its contract: the body is the second child.
use Rattle.std.proofs.Common.{arith}
use Rattle.records.proofs.Records.{from_children, from_rest, child_is}
use Rattle.depth_counts.proofs.Spaces.{space_parts, found-body}
use Rattle.depth_counts.proofs.walk.block_in.Goals as goal

pub rest-requires : goal.rest-requires
rest-requires c = omega (arith, c.children.ensures.many, space_parts c.args.space c.requires)

pub first-requires : goal.first-requires
first-requires c = omega (arith, c.children.ensures.many, c.rest.ensures.many, space_parts c.args.space c.requires)

pub returns : goal.returns
returns c =
    let n = space_parts c.args.space c.requires in
    let f = from_rest (from_children c.children.ensures) (omega (arith, c.children.ensures.many, n)) c.rest.ensures in
    found-body (child_is f (omega (arith, c.children.ensures.many, c.rest.ensures.many, n)) c.first.ensures) c.block_of.result c.block_of.ensures
