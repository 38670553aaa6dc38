-- `functions::handle_function` meets its contract.
use Rattle.std.proofs.Common.{arith}
use Rattle.typing.specs.Values.{typing_in}
use Rattle.classes.proofs.Handling.{fu_three, function_made}
use Rattle.classes.proofs.functions.handle_function.Goals as goal

pub keep_next-return_type-requires : goal.keep_next-return_type-requires
keep_next-return_type-requires c = omega (arith, fu_three c.args.function c.requires.1, c.begin-type_params.ensures.kids.many)

pub keep_return_type-body-requires : goal.keep_return_type-body-requires
keep_return_type-body-requires c = omega (arith, fu_three c.args.function c.requires.1, c.begin-type_params.ensures.kids.many, c.keep_next-return_type.ensures.rest.many)

pub drop_next-params-requires : goal.drop_next-params-requires
drop_next-params-requires c =
    omega (arith, fu_three c.args.function c.requires.1, c.begin-type_params.ensures.kids.many, c.keep_next-return_type.ensures.rest.many, c.keep_return_type-body.ensures.rest.many)

pub returns : goal.returns
returns c =
    function_made (typing_in c.args.scope) c.args.setter c.begin-type_params.ensures (omega (arith, fu_three c.args.function c.requires.1, c.begin-type_params.ensures.kids.many))
    c.keep_next-return_type.ensures c.keep_return_type-body.ensures c.drop_next-params.ensures c.handle_func_params.ensures
