-- `depth_counts::walk::Walk::count_item` and `count_items` meet their contracts: an Ns leads to its items, which have fewer levels left.
use Prim.Native.Nat.{suc, ◌*◌}
use Rattle.records.specs.Views.{recs_of}
use Rattle.items.specs.InScope.{items_in}
use Rattle.depth_counts.specs.Walks.{items_from}
use Rattle.depth_counts.proofs.Walking.{Walking}
use Rattle.depth_counts.proofs.walk.Walk.+counted_items.Given as goal

abbrev pub decreases-count_items : goal.decreases-count_items
decreases-count_items l = suc (2 * l.items.levels)

abbrev pub decreases-count_item : goal.decreases-count_item
decreases-count_item l = 2 * l.item.levels

abbrev pub invariant-count_items-loop-item : goal.invariant-count_items-loop-item
invariant-count_items-loop-item l =
    Walking l.top l.depth l.items.levels (items_from l.initial.self (recs_of l.items) l.top l.depth) (items_in l.initial.self.list.now l.initial.self.scope l.top (recs_of l.items) l.initial.self.id_counter).2 l.initial.self l.self l.item-iterator
