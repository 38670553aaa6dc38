use mathlib.Core.Path.{refl}
use native.Mathlib.Omega.{arith}
use Rattle.definition.proofs.Anywhere.{are_accepted}
use Rattle.records.proofs.Accepted.{lies}
use Rattle.records.proofs.Views.{first_here, others_here, rest_behind}
use Rattle.records.proofs.tree.Records.rest.Goals as goal

pub record_end-requires : goal.record_end-requires
record_end-requires c = lies (first_here c.args.self c.requires)

pub invariant_of-result : goal.invariant_of-result
invariant_of-result c = record { accepted = rw c.record_end.ensures (are_accepted (others_here c.args.self c.requires)) }

pub returns : goal.returns
returns c = record { tree = refl; place = c.record_end.ensures; behind = omega (arith, rest_behind c.args.self c.requires, c.record_end.ensures); levels = refl; many = refl }
