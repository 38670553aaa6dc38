-- `depth_counts::walk::Walk::count_item` and `count_items` meet their contracts: an Ns leads to its items, which have fewer levels left.
use Rattle.std.proofs.Common.{refl, arith}
use Rattle.depth_counts.proofs.Spaces.{holds_items}
use Rattle.depth_counts.proofs.Walking.{plain-holds, plain-counts, empty_counts, block_ready, block-holds, block-counts, walking_start, walking_ready, walking_holds, walking_turn, walking_done}
use Rattle.depth_counts.proofs.walk.Walk.+counted_items.Goals as goal

-- ---- one item

pub count_item-count_plain-requires-clause-holds : goal.count_item-count_plain-requires-clause-holds
count_item-count_plain-requires-clause-holds t c = plain-holds c.args.self.now _ _ _ c.in_default.ensures c.requires.holds

pub count_item-returns-in_default : goal.count_item-returns-in_default
count_item-returns-in_default t c = plain-counts c.args.self.now _ _ _ c.in_default.ensures c.count_plain.ensures

pub count_item-returns-in_default-block_in : goal.count_item-returns-in_default-block_in
count_item-returns-in_default-block_in t c = empty_counts c.args.self.now _ _ _ (holds_items c.in-Some.ensures _ c.in_default-block_in.ensures) c.requires.small.shape

pub count_item-count_items-requires : goal.count_item-count_items-requires
count_item-count_items-requires t c =
    let s = c.in-Some.ensures in
    let b = c.in-Some-block_in.ensures in
    let k = c.children.ensures in (
      omega (arith, k.levels, k.left, b.0.levels, s.levels),
      (block_ready c.requires.ready s b.0 k refl, (c.requires.small, block-holds c.args.self.now _ _ _ (holds_items s _ b.1) k refl c.requires.holds)),
    )

pub count_item-returns : goal.count_item-returns
count_item-returns t c = block-counts c.args.self.now _ _ _ (holds_items c.in-Some.ensures _ c.in-Some-block_in.ensures.1) c.children.ensures refl c.count_items.ensures

-- ---- one after the other

pub count_items-loop-item-init : goal.count_items-loop-item-init
count_items-loop-item-init t c = rw c.into_iter-item-iterator.ensures.into_iter_gives (walking_start c.args.top c.args.depth c.args.self.now c.args.items c.requires.ready c.requires.small c.requires.holds)

pub count_items-count_item-requires : goal.count_items-count_item-requires
count_items-count_item-requires t c =
    let s = c.in-Some.ensures.steps in (
      omega (arith, s.1.levels, c.loop-item.invariant.level),
      (walking_ready c.loop-item.invariant s, (c.loop-item.invariant.small, walking_holds c.loop-item.invariant s)),
    )

pub count_items-loop-item-preserved : goal.count_items-loop-item-preserved
count_items-loop-item-preserved t c = walking_turn c.loop-item.invariant c.in-Some.ensures.steps c.count_item.ensures

pub count_items-returns : goal.count_items-returns
count_items-returns t c = walking_done c.loop-item.invariant c.in-None.ensures.steps.0
