-- `function::params` meets its contract.
use Rattle.std.proofs.Common.{arith}
use Rattle.records.proofs.Records.{from_rest}
use Rattle.typing.proofs.KidSlots.{parameters, three_of, params_of, two_at_least, from_third}
use Rattle.typing.proofs.function.params.Goals as goal

pub rest-requires : goal.rest-requires
rest-requires c = omega (arith, c.children.ensures.many, parameters c.args.function c.args.is_function c.requires, two_at_least c.args.is_function)

pub rest-first-requires : goal.rest-first-requires
rest-first-requires c =
    omega (arith, c.children.ensures.many, c.rest.ensures.many, parameters c.args.function c.args.is_function c.requires, two_at_least c.args.is_function)

pub rest-requires-then-is_function : goal.rest-requires-then-is_function
rest-requires-then-is_function c =
    omega (arith, c.children.ensures.many, c.rest.ensures.many, c.rest-first.ensures.many, three_of c.args.function c.if-is_function.true c.requires)

pub returns-then-is_function-clause-params : goal.returns-then-is_function-clause-params
returns-then-is_function-clause-params c =
    let n = three_of c.args.function c.if-is_function.true c.requires in
    params_of c.args.is_function (rw c.if-is_function.true) (from_rest (from_third c.children.ensures (omega (arith, n)) c.rest.ensures c.rest-first.ensures) (omega (arith, c.children.ensures.many, c.rest.ensures.many, c.rest-first.ensures.many, n)) c.rest-then-is_function.ensures)

pub returns-clause-params : goal.returns-clause-params
returns-clause-params c =
    let n = parameters c.args.function c.args.is_function c.requires in
    params_of c.args.is_function (rw c.if-is_function.false) (from_third c.children.ensures (omega (arith, n, two_at_least c.args.is_function)) c.rest.ensures c.rest-first.ensures)
