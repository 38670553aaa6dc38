-- `put_item` and `put_items` meet their contracts: a block's items have fewer levels left.
use mathlib.Core.Path.{refl, sym, ◌∙◌}
use native.Mathlib.Omega.{arith}
use Rattle.declaration_text.proofs.LinesWritten.{lines_none, lines-as}
use Rattle.declaration_text.proofs.Blocks.{item_star, item-op, item_line_lem, item-block, listing_start, listing-turn, listing-done}
use Rattle.declaration_text.proofs.table.Tables.+item_lines.Goals as goal
use Rattle.declaration_text.proofs.table.Tables.+item_lines.Goals.{put_item-then-has_mark-via-then-has_mark, put_item-then-has_mark-via-else-has_mark+then-has_mark-2}

-- ---- one item

pub put_item-returns-then-has_mark : goal.put_item-returns-then-has_mark
put_item-returns-then-has_mark t c =
    lines-as (lines_none _ _ (omega (arith, c.well_formed))) (elim c.then-has_mark.branch [
      | put_item-then-has_mark-via-then-has_mark w ↦ item_star c.args.item c.args.depth (sym c.has_mark.ensures ∙ w.if-has_mark.true)
      | put_item-then-has_mark-via-else-has_mark+then-has_mark-2 w ↦ item-op c.args.item c.args.depth (sym c.has_mark.ensures ∙ w.if-has_mark.false) (sym w.has_mark-else-has_mark.ensures ∙ w.if-has_mark-2.true)
    ])

pub put_item-returns-in-Some : goal.put_item-returns-in-Some
put_item-returns-in-Some t c = item-block c.args.item c.args.depth (sym c.has_mark.ensures ∙ c.if-has_mark.false) (sym c.has_mark-else-has_mark.ensures ∙ c.if-has_mark-2.false) c.put_line-next.ensures c.in-Some.ensures c.children.ensures refl (omega (arith, c.well_formed)) c.put_items-inner.ensures c.put_closing.ensures

pub put_item-returns-in-None : goal.put_item-returns-in-None
put_item-returns-in-None t c = item_line_lem c.args.item c.args.depth (sym c.has_mark.ensures ∙ c.if-has_mark.false) (sym c.has_mark-else-has_mark.ensures ∙ c.if-has_mark-2.false) c.put_line-next.ensures c.in-None.ensures

-- ---- the items one after the other

pub put_items-loop-item-init : goal.put_items-loop-item-init
put_items-loop-item-init t c = rw c.into_iter-item-iterator.ensures.into_iter_gives (listing_start _ _ _ _ (omega (arith, c.well_formed)))

pub put_items-loop-item-preserved : goal.put_items-loop-item-preserved
put_items-loop-item-preserved t c = listing-turn c.loop-item.invariant (omega (arith, c.well_formed)) c.in-Some.ensures.steps c.put_item-next.ensures

pub put_items-returns : goal.put_items-returns
put_items-returns t c = listing-done c.loop-item.invariant c.in-None.ensures.steps
