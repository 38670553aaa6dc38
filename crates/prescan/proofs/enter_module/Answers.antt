-- `prescan::enter_module` meets its contract: each turn of the loop enters one item.
use Rattle.std.proofs.Common.{rules, subst, List, ℕ, take, drop}
use Rattle.definition.specs.Prescan.{add_item}
use Rattle.definition.proofs.Anywhere.{is_accepted}
use Rattle.records.specs.Views.{rec_of}
use Rattle.prescan.specs.Table.{Indexed}
use Rattle.prescan.proofs.Tables.{Items, items_step, items_none, room_start, filling_start, filling_turn, filling_done, indexed}
use Rattle.prescan.proofs.enter_module.Goals as goal

pub invariant_of-root : goal.invariant_of-root
invariant_of-root c = record { accepted = is_accepted c.requires.accepted_at }

pub loop-item-init : goal.loop-item-init
unfolding rec_of
loop-item-init c =
    rw c.into_iter-item-iterator.ensures.into_iter_gives
    (filling_start Items c.children-item-items.ensures
    (room_start c.new-names.result (rw c.new-names.ensures.table c.requires.tree_len_bound) c.requires.tree_len_bound_2 (rw c.new-names.ensures.table c.new-names.ensures.from) c.new-names.ensures.count))

pub loop-item-preserved : goal.loop-item-preserved
loop-item-preserved c = filling_turn c.loop-item.invariant add_item items_step c.in-Some.ensures.steps c.enter_item.ensures

pub returns-clause-indexed : goal.returns-clause-indexed
returns-clause-indexed c =
    subst (λ (t : List ℕ). Indexed c.args.tree.now (take c.loop-item.names.count (drop c.loop-item.names.from t))) (search rules)
    (indexed c.new-names.ensures.count (filling_done c.loop-item.invariant items_none c.in-None.ensures.steps.0))
