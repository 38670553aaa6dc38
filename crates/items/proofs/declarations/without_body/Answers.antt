-- `declarations::without_body` meets its contract.
use Rattle.std.proofs.Common.{arith}
use Rattle.items.proofs.Framed.{some_left}
use Rattle.items.proofs.DeclParts.{fu_three, body_kept}
use Rattle.items.proofs.declarations.without_body.Goals as goal

pub keep_next-return_type-requires : goal.keep_next-return_type-requires
keep_next-return_type-requires c = omega (arith, some_left c.begin-type_params.ensures (fu_three c.args.function c.requires))

pub keep_next-body-requires : goal.keep_next-body-requires
keep_next-body-requires c = omega (arith, some_left c.begin-type_params.ensures (fu_three c.args.function c.requires), c.keep_next-return_type.ensures.rest.many)

pub drop_next-rest-requires : goal.drop_next-rest-requires
drop_next-rest-requires c =
    omega (arith, some_left c.begin-type_params.ensures (fu_three c.args.function c.requires), c.keep_next-return_type.ensures.rest.many, c.keep_next-body.ensures.rest.many)

pub returns : goal.returns
returns c = body_kept c.begin-type_params.ensures (fu_three c.args.function c.requires) c.keep_next-return_type.ensures c.keep_next-body.ensures c.drop_next-rest.ensures c.keep_all.ensures
