-- `grammar::tables::Tables::take_slot` meets its contract: what is allowed from the place i on, and what comes after it, is so from k on.
use mathlib.Core.Path.{◌≡◌}
use lib.ListN.{get_or}
use Rattle.definition.specs.Grammar.{known, allowed, after}
use Rattle.grammar.specs.Slots.{parts_from}
use Rattle.grammar.proofs.tables.Tables.take_slot.Given as goal

abbrev pub invariant-loop-i : goal.invariant-loop-i
invariant-loop-i l = record {
  same_allowed : allowed (parts_from l.k) (get_or known l.code 0) ≡ allowed (parts_from l.i) (get_or known l.code 0);
  same_after : after (parts_from l.k) (get_or known l.code 0) ≡ after (parts_from l.i) (get_or known l.code 0);
}
