-- `depth_counts::walk::Walk::count_plain` meets its contract: the dry run says how many diagnostics stand in the buffer.
use Rattle.std.proofs.Common.{rules, refl, arith}
use Rattle.definition.proofs.MarkedItems.{item-kinds}
use Rattle.depth_counts.proofs.Walking.{dry_asked, dry_done}
use Rattle.depth_counts.proofs.walk.Walk.count_plain.Goals as goal

pub count_marks-requires-clause-small : goal.count_marks-requires-clause-small
count_marks-requires-clause-small c =
    dry_asked c.args.self.now c.transform_module_item-self.ensures refl (search rules) c.requires.holds (omega (arith, c.well_formed)) (item-kinds _ _ _ _ _ _) refl c.requires.small

pub returns : goal.returns
returns c =
    dry_done c.args.self.now c.transform_module_item-self.ensures refl (search rules) c.requires.holds (omega (arith, c.well_formed)) (item-kinds _ _ _ _ _ _) refl c.args.depth c.count_marks.ensures
