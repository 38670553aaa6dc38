-- The cycle of `transform_module_items`: the remaining depth falls.
use Prim.Native.Nat.{◌+◌, ◌*◌}
use Rattle.items.proofs.ItemCounts.{Itemizing}
use Rattle.items.proofs.module.+module_items.Given as goal

abbrev pub decreases-with_body : goal.decreases-with_body
decreases-with_body l = 6 * l.decl.levels + 0

abbrev pub decreases-transform_ts_ns_body : goal.decreases-transform_ts_ns_body
decreases-transform_ts_ns_body l = 6 * l.body.levels + 1

abbrev pub decreases-transform_module_stmt : goal.decreases-transform_module_stmt
decreases-transform_module_stmt l = 6 * l.stmt.levels + 3

abbrev pub decreases-transform_module_items : goal.decreases-transform_module_items
decreases-transform_module_items l = 6 * l.items.levels + 5

abbrev pub decreases-transform_module_item : goal.decreases-transform_module_item
decreases-transform_module_item l = 6 * l.item.levels + 4

abbrev pub decreases-ns_block : goal.decreases-ns_block
decreases-ns_block l = 6 * l.block.levels + 0

abbrev pub decreases-export_decl : goal.decreases-export_decl
decreases-export_decl l = 6 * l.export.levels + 0

abbrev pub decreases-decl_to_type_decl : goal.decreases-decl_to_type_decl
decreases-decl_to_type_decl l = 6 * l.decl.levels + 2

abbrev pub invariant-transform_module_items-loop-item : goal.invariant-transform_module_items-loop-item
invariant-transform_module_items-loop-item l = Itemizing l.list l.scope l.top l.items l.initial.o l.o l.item-iterator l.count
