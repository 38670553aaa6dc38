-- `depth_counts::walk::block_of` meets its contract: an Nd leads to its body. The measure is the depth left.
use Rattle.std.proofs.Common.{arith}
use Rattle.std.proofs.lemmas.Bool.{eqb-false}
use Rattle.records.specs.declared.marks.Mark.TheVariants.{Nb, Nd}
use Rattle.records.proofs.Records.{from_children, from_rest, child_is}
use Rattle.records.proofs.SameMarks.{marked, not_marked}
use Rattle.depth_counts.proofs.Spaces.{nested_parts, body-block, body-none, found-nested}
use Rattle.depth_counts.proofs.walk.+block_of.Goals as goal

pub rest-requires : goal.rest-requires
rest-requires t c = omega (arith, c.children.ensures.many, nested_parts c.args.body (marked _ c.mark.ensures c.in-Nd.is))

pub first-requires : goal.first-requires
first-requires t c = omega (arith, c.children.ensures.many, c.rest.ensures.many, nested_parts c.args.body (marked _ c.mark.ensures c.in-Nd.is))

pub block_of-requires : goal.block_of-requires
block_of-requires t c = omega (arith, c.first.ensures.levels, c.rest.ensures.levels, c.children.ensures.levels, c.children.ensures.left)

pub returns-in-Nb : goal.returns-in-Nb
returns-in-Nb t c = body-block c.args.body (marked _ c.mark.ensures c.in-Nb.is)

pub returns-in-Nd : goal.returns-in-Nd
returns-in-Nd t c =
    let m = marked _ c.mark.ensures c.in-Nd.is in
    let n = nested_parts c.args.body m in
    let f = from_rest (from_children c.children.ensures) (omega (arith, c.children.ensures.many, n)) c.rest.ensures in
    found-nested m (child_is f (omega (arith, c.children.ensures.many, c.rest.ensures.many, n)) c.first.ensures) c.block_of.result c.block_of.ensures

pub returns-in_default : goal.returns-in_default
returns-in_default t c = body-none c.args.body (eqb-false _ _ (not_marked _ c.mark.ensures Nb c.in_default.not-Nb)) (eqb-false _ _ (not_marked _ c.mark.ensures Nd c.in_default.not-Nd))
