-- `class_body::constructor` meets its contract.
use Rattle.std.proofs.Common.{arith}
use Rattle.typing.specs.Values.{typing_in}
use Rattle.classes.proofs.MemberLaws.{co_one, constructor_made}
use Rattle.classes.proofs.class_body.constructor.Goals as goal

pub drop_next-params-requires : goal.drop_next-params-requires
drop_next-params-requires c = omega (arith, co_one c.args.r c.requires.1, c.begin-body.ensures.kids.many)

pub returns : goal.returns
returns c = constructor_made (typing_in c.args.scope) c.begin-body.ensures (omega (arith, co_one c.args.r c.requires.1, c.begin-body.ensures.kids.many)) c.drop_next-params.ensures c.handle_func_params.ensures
