-- `module::items_of` meets its contract.
use Rattle.std.proofs.Common.{arith, refl}
use Rattle.definition.proofs.Anywhere.{are_accepted}
use Rattle.records.proofs.Accepted.{room, level}
use Rattle.records.proofs.Views.{accepted, children_here, children_are}
use Rattle.items.proofs.module.items_of.Goals as goal

pub body_at-requires : goal.body_at-requires
body_at-requires c = room (accepted c.args.block)

pub overflow_sub-result : goal.overflow_sub-result
overflow_sub-result c = omega (arith, level (accepted c.args.block))

pub count_at-requires : goal.count_at-requires
count_at-requires c = room (accepted c.args.block)

pub invariant_of-result : goal.invariant_of-result
invariant_of-result c = record { accepted = rw (c.body_at.ensures, c.count_at.ensures.0) (are_accepted (children_here c.args.block)) }

pub returns-clause-items : goal.returns-clause-items
returns-clause-items c = children_are c.args.block _ refl c.body_at.ensures refl c.count_at.ensures.0
