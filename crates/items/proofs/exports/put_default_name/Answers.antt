-- `exports::put_default_name` meets its contract.
use Rattle.std.proofs.Common.{arith, refl}
use Rattle.items.proofs.Framed.{some_left}
use Rattle.items.proofs.DefaultParts.{xe_one, name_kept}
use Rattle.items.proofs.exports.put_default_name.Goals as goal

pub rest-requires : goal.rest-requires
rest-requires c = omega (arith, some_left c.begin-expr.ensures (xe_one c.args.export c.requires))

pub returns : goal.returns
returns c =
    name_kept c.args.counter (omega arith) c.begin-expr.ensures (omega (arith, some_left c.begin-expr.ensures (xe_one c.args.export c.requires))) c.rest.ensures c.put_unique_ident.ensures refl refl refl refl
    c.keep_all.ensures
