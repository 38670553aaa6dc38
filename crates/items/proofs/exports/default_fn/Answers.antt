-- `exports::default_fn` meets its contract.
use Rattle.std.proofs.Common.{arith, ap, ◌∙◌}
use Rattle.definition.specs.Record.{mark_of}
use Rattle.items.proofs.Framed.{some_left, first_child}
use Rattle.items.proofs.DefaultParts.{xd_one, fn_kept}
use Rattle.items.proofs.exports.default_fn.Goals as goal

pub first-requires : goal.first-requires
first-requires c = omega (arith, some_left c.begin-function.ensures (xd_one c.args.export c.requires.xd))

pub bodiless-requires : goal.bodiless-requires
bodiless-requires c =
    ap mark_of (first_child c.begin-function.ensures (omega (arith, some_left c.begin-function.ensures (xd_one c.args.export c.requires.xd))) c.first.ensures).is ∙ c.requires.function

pub rest-requires : goal.rest-requires
rest-requires c = omega (arith, some_left c.begin-function.ensures (xd_one c.args.export c.requires.xd))

pub returns : goal.returns
returns c =
    fn_kept c.begin-function.ensures (omega (arith, some_left c.begin-function.ensures (xd_one c.args.export c.requires.xd))) c.first.ensures c.rest.ensures c.bodiless.ensures c.keep_all.ensures
