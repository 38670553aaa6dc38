-- `module::is_overloaded` meets its contract.
use Rattle.definition.specs.Record.{head_of, mark_of}
use Rattle.records.specs.declared.marks.Mark.TheVariants.{Fd}
use Rattle.records.specs.Views.{rec_of}
use Rattle.records.proofs.SameMarks.{same, other}
use Rattle.items.proofs.ItemArms.{fd_not, fd_if}
use Rattle.items.proofs.module.is_overloaded.Goals as goal

pub returns-then-ne : goal.returns-then-ne
returns-then-ne c = fd_not c.args.list.now (head_of (rec_of c.args.outer)) (mark_of (rec_of c.args.decl)) (other _ c.mark.ensures Fd c.ne.ensures c.if-ne.true)

pub returns : goal.returns
returns c =
    fd_if c.args.list.now (head_of (rec_of c.args.outer)) (mark_of (rec_of c.args.decl)) (same _ c.mark.ensures Fd c.ne.ensures c.if-ne.false) c.is_impl_with_overloads.ensures
