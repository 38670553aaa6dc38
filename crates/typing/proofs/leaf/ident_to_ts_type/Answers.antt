-- `leaf::ident_to_ts_type` meets its contract.
use Rattle.definition.specs.Prescan.{Question.typeof_safe}
use Rattle.definition.specs.Record.{text_of}
use Rattle.records.specs.Views.{rec_of}
use Rattle.swc_helpers.proofs.Maybe.{makes-type, makes_none, makes_as}
use Rattle.typing.specs.Values.{ids_in}
use Rattle.typing.proofs.LeafCases.{safe-there, global-named, safe-named, unsafe-named}
use Rattle.typing.proofs.leaf.ident_to_ts_type.Goals as goal

pub returns-then-context-scope : goal.returns-then-context-scope
returns-then-context-scope c =
    makes_as c.global_type.ensures (global-named (ids_in c.args.scope) (rec_of c.args.ident) c.args.as_const c.context.ensures c.if-context-scope.true)

pub returns-then-look_up : goal.returns-then-look_up
returns-then-look_up c =
    makes_as (makes-type c.ts_type_query.ensures)
    (safe-named (ids_in c.args.scope) (rec_of c.args.ident) c.args.as_const c.context.ensures c.if-context-scope.false
    (safe-there c.args.scope (text_of (rec_of c.args.ident)) (c.look_up.ensures typeof_safe) c.if-look_up.true))

pub returns : goal.returns
returns c =
    makes_as (makes_none _)
    (unsafe-named (ids_in c.args.scope) (rec_of c.args.ident) c.args.as_const c.context.ensures c.if-context-scope.false
    (safe-there c.args.scope (text_of (rec_of c.args.ident)) (c.look_up.ensures typeof_safe) c.if-look_up.false))
