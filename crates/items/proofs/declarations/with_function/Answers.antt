-- `declarations::with_function` meets its contract.
use Rattle.std.proofs.Common.{arith, ap, ◌∙◌, false}
use Rattle.definition.specs.Record.{mark_of}
use Rattle.definition.specs.Classes.{handle_function}
use Rattle.output.proofs.Framing.{makes_second}
use Rattle.typing.specs.Values.{typing_in}
use Rattle.items.proofs.Framed.{some_left, second_left, second_child, second_ready}
use Rattle.items.proofs.DeclParts.{fd_two, fd_is}
use Rattle.items.proofs.declarations.with_function.Goals as goal

pub keep_next-function-requires : goal.keep_next-function-requires
keep_next-function-requires c = omega (arith, some_left c.begin_with-ident.ensures (fd_two c.args.decl c.requires.1))

pub first-requires : goal.first-requires
first-requires c = second_left c.begin_with-ident.ensures c.keep_next-function.ensures (fd_two c.args.decl c.requires.1)

pub handle_function-requires : goal.handle_function-requires
handle_function-requires c =
    let m = second_left c.begin_with-ident.ensures c.keep_next-function.ensures (fd_two c.args.decl c.requires.1) in (
      second_ready c.begin_with-ident.ensures c.keep_next-function.ensures m c.first.ensures c.requires.0,
      ap mark_of (second_child c.begin_with-ident.ensures c.keep_next-function.ensures m c.first.ensures).is ∙ fd_is c.args.decl c.requires.1,
    )

pub rest-requires : goal.rest-requires
rest-requires c = second_left c.begin_with-ident.ensures c.keep_next-function.ensures (fd_two c.args.decl c.requires.1)

pub returns : goal.returns
returns c =
    makes_second c.begin_with-ident.ensures (handle_function (typing_in c.args.scope) false) c.keep_next-function.ensures
    (second_left c.begin_with-ident.ensures c.keep_next-function.ensures (fd_two c.args.decl c.requires.1)) c.first.ensures c.rest.ensures c.handle_function.ensures c.keep_all.ensures
