-- `declarations::with_class` meets its contract.
use Rattle.std.proofs.Common.{arith, ap, ◌∙◌}
use Rattle.definition.specs.Record.{mark_of}
use Rattle.definition.specs.Classes.{class}
use Rattle.output.proofs.Framing.{makes_second}
use Rattle.typing.specs.Values.{typing_in}
use Rattle.items.proofs.Framed.{some_left, second_left, second_child, second_ready}
use Rattle.items.proofs.DeclParts.{class_two, class_is}
use Rattle.items.proofs.declarations.with_class.Goals as goal

pub keep_next-class-requires : goal.keep_next-class-requires
keep_next-class-requires c = omega (arith, some_left c.begin_with-ident.ensures (class_two c.args.decl c.requires.fact))

pub first-requires : goal.first-requires
first-requires c = second_left c.begin_with-ident.ensures c.keep_next-class.ensures (class_two c.args.decl c.requires.fact)

pub class_body_to_type-requires : goal.class_body_to_type-requires
class_body_to_type-requires c =
    let m = second_left c.begin_with-ident.ensures c.keep_next-class.ensures (class_two c.args.decl c.requires.fact) in (
      second_ready c.begin_with-ident.ensures c.keep_next-class.ensures m c.first.ensures c.requires.ready,
      ap mark_of (second_child c.begin_with-ident.ensures c.keep_next-class.ensures m c.first.ensures).is ∙ class_is c.args.decl c.requires.fact,
    )

pub rest-requires : goal.rest-requires
rest-requires c = second_left c.begin_with-ident.ensures c.keep_next-class.ensures (class_two c.args.decl c.requires.fact)

pub returns : goal.returns
returns c =
    makes_second c.begin_with-ident.ensures (class c.args.list.now c.args.scope.unresolved (typing_in c.args.scope)) c.keep_next-class.ensures
    (second_left c.begin_with-ident.ensures c.keep_next-class.ensures (class_two c.args.decl c.requires.fact)) c.first.ensures c.rest.ensures c.class_body_to_type.ensures c.keep_all.ensures
