use Rattle.definition.proofs.Anywhere.{is_accepted}
use Rattle.records.proofs.Views.{first_here}
use Rattle.records.proofs.tree.Records.first.Goals as goal

pub invariant_of-result : goal.invariant_of-result
invariant_of-result c = record { accepted = is_accepted (first_here c.args.self c.requires) }
