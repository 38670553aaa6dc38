-- `prescan::enter_var` meets its contract: each turn of the loop enters one declarator.
use Rattle.definition.specs.Record.{kids_of}
use Rattle.records.specs.Views.{rec_of}
use Rattle.prescan.specs.Table.{end_of}
use Rattle.prescan.proofs.Tables.{Vars, Filling}
use Rattle.prescan.proofs.enter_var.Given as goal

abbrev pub invariant-loop-declarator : goal.invariant-loop-declarator
invariant-loop-declarator l = Filling Vars (kids_of (rec_of l.var)) l.var.tree.now (end_of l.var) l.initial.names l.names l.declarator-iterator
