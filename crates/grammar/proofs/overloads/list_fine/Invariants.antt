-- `grammar::overloads::list_fine` meets its contract: the entries before i are in order.
use Prim.Native.Nat.{◌/◌}
use lib.ListN.{length}
use Rattle.definition.specs.Check.{entry_size}
use Rattle.grammar.proofs.Entries.{Passed}
use Rattle.grammar.proofs.overloads.list_fine.Given as goal

abbrev pub invariant-loop-i : goal.invariant-loop-i
invariant-loop-i l = Passed l.list (length l.list / entry_size) l.i
