-- `fitting::fits_at` meets its contract.
use Rattle.definition.specs.Tree.{tree_at}
use Rattle.definition.proofs.Children.{stands}
use Rattle.definition.proofs.Widths.{fits-texts}
use Rattle.records.proofs.Whole.{slice_bytes}
use Rattle.typing.proofs.fitting.fits_at.Goals as goal

pub returns : goal.returns
returns c = fits-texts (tree_at c.args.levels c.args.tree.now c.args.at) (stands c.args.levels c.args.tree.now c.args.at c.requires (slice_bytes _ c.items_fit)).fits
