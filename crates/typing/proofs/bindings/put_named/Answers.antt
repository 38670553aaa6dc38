-- `bindings::put_named` meets its contract.
use Rattle.std.proofs.Common.{arith, ap, ◌∙◌}
use Rattle.definition.specs.Record.{mark_of}
use Rattle.records.proofs.Records.{from_children, child_is}
use Rattle.records.proofs.Writers.{writes_as}
use Rattle.typing.proofs.BindingFronts.{assigns, binds, bound, left-name, binding-as}
use Rattle.typing.proofs.bindings.put_named.Goals as goal

pub first-requires : goal.first-requires
first-requires c = omega (arith, c.children.ensures.many, assigns c.args.ag c.requires.assignment)

pub first-ident-requires : goal.first-ident-requires
first-ident-requires c =
    let x = child_is (from_children c.children.ensures) (omega (arith, c.children.ensures.many, assigns c.args.ag c.requires.assignment)) c.first.ensures in
    omega (arith, c.children-2.ensures.many, binds c.first.result (ap mark_of x.is ∙ c.requires.named))

pub symbol-requires : goal.symbol-requires
symbol-requires c =
    let x = child_is (from_children c.children.ensures) (omega (arith, c.children.ensures.many, assigns c.args.ag c.requires.assignment)) c.first.ensures in
    let e = ap mark_of x.is ∙ c.requires.named in
    let y = child_is (from_children c.children-2.ensures) (omega (arith, c.children-2.ensures.many, binds c.first.result e)) c.first-ident.ensures in
    bound c.first.result e y

pub returns : goal.returns
returns c =
    let x = child_is (from_children c.children.ensures) (omega (arith, c.children.ensures.many, assigns c.args.ag c.requires.assignment)) c.first.ensures in
    let e = ap mark_of x.is ∙ c.requires.named in
    let y = child_is (from_children c.children-2.ensures) (omega (arith, c.children-2.ensures.many, binds c.first.result e)) c.first-ident.ensures in
    writes_as c.put_binding.ensures (binding-as c.range.ensures c.symbol.ensures (left-name x y))
