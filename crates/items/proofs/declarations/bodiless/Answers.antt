-- `declarations::bodiless` meets its contract.
use Rattle.std.proofs.Common.{arith, ap, ◌∙◌, ℕ}
use Rattle.definition.specs.Record.{mark_of, second}
use Rattle.definition.specs.Items.{without_body}
use Rattle.records.specs.Views.{rec_of}
use Rattle.output.proofs.Steps.{keeps-as}
use Rattle.output.proofs.Framing.{keeps_second}
use Rattle.items.proofs.Framed.{some_left, second_left, second_child, second_counter}
use Rattle.items.proofs.DeclParts.{fx_two, fx_is}
use Rattle.items.proofs.declarations.bodiless.Goals as goal

pub keep_next-function-requires : goal.keep_next-function-requires
keep_next-function-requires c = omega (arith, some_left c.begin-ident.ensures (fx_two c.args.expr c.requires))

pub first-requires : goal.first-requires
first-requires c = second_left c.begin-ident.ensures c.keep_next-function.ensures (fx_two c.args.expr c.requires)

pub without_body-requires : goal.without_body-requires
without_body-requires c =
    ap mark_of (second_child c.begin-ident.ensures c.keep_next-function.ensures (second_left c.begin-ident.ensures c.keep_next-function.ensures (fx_two c.args.expr c.requires)) c.first.ensures).is
    ∙ fx_is c.args.expr c.requires

pub rest-requires : goal.rest-requires
rest-requires c = second_left c.begin-ident.ensures c.keep_next-function.ensures (fx_two c.args.expr c.requires)

pub returns : goal.returns
unfolding second
returns c =
    keeps_second c.begin-ident.ensures without_body c.keep_next-function.ensures (second_left c.begin-ident.ensures c.keep_next-function.ensures (fx_two c.args.expr c.requires)) c.first.ensures c.rest.ensures
    (keeps-as c.without_body.ensures (ap (λ (n : ℕ). (without_body (rec_of c.first.result) n).0) (second_counter c.begin-ident.ensures c.keep_next-function.ensures))) c.keep_all.ensures
