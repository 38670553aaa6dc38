-- `output::Output::keep` meets its contract.
use Rattle.std.proofs.Common.{refl}
use Rattle.records.specs.Views.{rec_of}
use Rattle.records.proofs.Writers.{writes_as}
use Rattle.output.proofs.Kept.{keeps_made}
use Rattle.output.proofs.Output.keep.Goals as goal

pub returns : goal.returns
returns c = keeps_made (rec_of c.args.r) c.part.ensures.fits (writes_as c.put.ensures c.part.ensures.part) refl refl refl refl
