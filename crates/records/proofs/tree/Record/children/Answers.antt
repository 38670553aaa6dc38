use mathlib.Core.Path.{refl}
use native.Mathlib.Omega.{arith}
use Rattle.definition.proofs.Anywhere.{are_accepted}
use Rattle.records.proofs.Accepted.{room, level}
use Rattle.records.proofs.Views.{accepted, children_here, children_are}
use Rattle.records.proofs.tree.Record.children.Goals as goal

pub body_at-requires : goal.body_at-requires
body_at-requires c = room (accepted c.args.self)

pub overflow_sub-result : goal.overflow_sub-result
overflow_sub-result c = omega (arith, level (accepted c.args.self))

pub count_at-requires : goal.count_at-requires
count_at-requires c = room (accepted c.args.self)

pub invariant_of-result : goal.invariant_of-result
invariant_of-result c = record { accepted = rw (c.body_at.ensures, c.count_at.ensures.0) (are_accepted (children_here c.args.self)) }

pub returns : goal.returns
returns c = children_are c.args.self _ refl c.body_at.ensures refl c.count_at.ensures.0
