-- `prescan::enter_module` meets its contract: each turn of the loop enters one item.
use Rattle.definition.specs.Tree.{end_at, tree_at}
use Rattle.definition.specs.Check.{deepest}
use Rattle.definition.specs.Record.{kids_of}
use Rattle.prescan.proofs.Tables.{Items, Filling}
use Rattle.prescan.proofs.enter_module.Given as goal

abbrev pub invariant-loop-item : goal.invariant-loop-item
invariant-loop-item l = Filling Items (kids_of (tree_at deepest l.tree 0)) l.tree (end_at deepest l.tree 0) l.initial.names l.names l.item-iterator
