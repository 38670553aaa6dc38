-- `prescan::enter_item` meets its contract.
use native.Mathlib.Omega.{arith}
use Rattle.prescan.proofs.Laws.{first_child, export_kid, item_export}
use Rattle.prescan.proofs.Tables.{filled_in, first_ends}
use Rattle.prescan.proofs.enter_item.Goals as goal

pub first-requires : goal.first-requires
first-requires c = omega (arith, c.children.ensures.many, export_kid c.args.item c.mark.ensures c.in-Ed.is)

pub returns-in-Ed : goal.returns-in-Ed
returns-in-Ed c =
    let n = export_kid c.args.item c.mark.ensures c.in-Ed.is in
    let x = first_child c.children.ensures n c.first.ensures in
    filled_in c.args.item c.requires c.first.result x.tree
    (first_ends c.children.ensures (omega (arith, c.children.ensures.many, n)) c.first.ensures)
    (item_export c.args.item c.mark.ensures c.in-Ed.is x)
    c.enter_decl.ensures
