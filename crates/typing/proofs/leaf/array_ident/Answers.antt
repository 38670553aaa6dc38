-- `leaf::array_ident` meets its contract.
use Rattle.definition.specs.Prescan.{Question.array_typed}
use Rattle.definition.specs.Record.{text_of}
use Rattle.records.specs.Views.{rec_of}
use Rattle.swc_helpers.proofs.Maybe.{makes-type, makes_none, makes_as}
use Rattle.typing.specs.Values.{ids_in}
use Rattle.typing.proofs.LeafCases.{array-there, array-named, array-missing}
use Rattle.typing.proofs.leaf.array_ident.Goals as goal

pub returns-then-look_up : goal.returns-then-look_up
returns-then-look_up c =
    makes_as (makes-type c.ts_type_query.ensures)
    (array-named (ids_in c.args.scope) (rec_of c.args.ident) (array-there c.args.scope (text_of (rec_of c.args.ident)) (c.look_up.ensures array_typed) c.if-look_up.true))

pub returns : goal.returns
returns c =
    makes_as (makes_none _)
    (array-missing (ids_in c.args.scope) (rec_of c.args.ident) (array-there c.args.scope (text_of (rec_of c.args.ident)) (c.look_up.ensures array_typed) c.if-look_up.false))
