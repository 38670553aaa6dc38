-- `console::print_check` meets its contract: the root of a tree that was checked is accepted, and the tree is not too long.
use mathlib.Core.Path.{sym, ◌∙◌}
use Rattle.console.proofs.Laws.{accepted}
use Rattle.console.proofs.print_check.Goals as goal

pub returns : goal.returns
returns g c = λ e. accepted c.check_tree-answer.result c.check_tree-answer.ensures (sym c.is_ok.ensures.value ∙ e)
