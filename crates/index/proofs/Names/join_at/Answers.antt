-- `index::Names::join_at` meets its contract.
use Rattle.definition.specs.Prescan.{Question.typeof_safe, Question.non_generic_class, Question.array_typed}
use Rattle.index.proofs.Names.join_at.Goals as goal

pub returns-clause-table : goal.returns-clause-table
returns-clause-table c = rw (c.entry.ensures, c.union.ensures typeof_safe, c.union.ensures non_generic_class, c.union.ensures array_typed, c.of.ensures)
