-- `grammar::tables::Tables::kids_slot` meets its contract.
use mathlib.Core.Path.{◌∙◌}
use borrow.Author.Tests.{eq-eqb, ne_eqb}
use Rattle.definition.specs.Grammar.{is_property}
use Rattle.grammar.specs.Slots.{parts_from}
use Rattle.grammar.proofs.Places.{at-property, at_no_property, either_way, undestructured-is}
use Rattle.grammar.proofs.tables.Tables.kids_slot.Goals as goal

pub returns-then-mark-ne-AG : goal.returns-then-mark-ne-AG
returns-then-mark-ne-AG c = rw (ne_eqb _ _ c.if-mark-ne-AG.true, ← c.requires) (c.start_of.ensures ∙ either_way (is_property (parts_from c.args.k)) _)

pub returns-in-Property : goal.returns-in-Property
returns-in-Property c = rw (at-property c.in-Property.ensures, eq-eqb _ _ c.if-mark-ne-AG.false) undestructured-is

pub returns-in_default : goal.returns-in_default
returns-in_default c = rw (at_no_property _ c.in_default.not-Property _ c.entry_at.ensures, ← c.requires) c.start_of-in_default.ensures
