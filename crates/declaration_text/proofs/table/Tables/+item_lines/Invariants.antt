-- `put_item` and `put_items` meet their contracts: a block's items have fewer levels left.
use Prim.Native.Nat.{suc, ◌*◌}
use Rattle.definition.specs.Text.{items_lines}
use Rattle.records.specs.Views.{recs_of}
use Rattle.declaration_text.proofs.Blocks.{Listing}
use Rattle.declaration_text.proofs.table.Tables.+item_lines.Given as goal

abbrev pub decreases-put_items : goal.decreases-put_items
decreases-put_items l = suc (2 * l.items.levels)

abbrev pub decreases-put_item : goal.decreases-put_item
decreases-put_item l = 2 * l.item.levels

abbrev pub invariant-put_items-loop-item : goal.invariant-put_items-loop-item
invariant-put_items-loop-item l = Listing l.depth (items_lines (recs_of l.items) l.depth l.items.at) l.initial.out l.out l.initial.next l.next l.items.levels l.item-iterator
