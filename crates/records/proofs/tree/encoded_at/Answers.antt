use mathlib.Core.Path.{◌∙◌}
use Rattle.definition.specs.Tree.{tree_at}
use Rattle.definition.proofs.Children.{part_is, stands}
use Rattle.definition.proofs.Widths.{fits-texts}
use Rattle.records.proofs.Accepted.{lies}
use Rattle.records.proofs.Whole.{slice_bytes}
use Rattle.records.proofs.tree.encoded_at.Goals as goal

pub record_at-requires : goal.record_at-requires
record_at-requires c = lies c.requires

pub returns-clause-part : goal.returns-clause-part
returns-clause-part c = c.record_at.ensures ∙ part_is c.args.levels c.args.tree.now c.args.at c.requires (slice_bytes _ c.shared_slice_known-1.given)

pub returns-clause-fits : goal.returns-clause-fits
returns-clause-fits c = fits-texts (tree_at c.args.levels c.args.tree.now c.args.at) (stands c.args.levels c.args.tree.now c.args.at c.requires (slice_bytes _ c.shared_slice_known-1.given)).fits
