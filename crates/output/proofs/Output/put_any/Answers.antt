-- `output::Output::put_any` meets its contract.
use Rattle.std.proofs.Common.{refl}
use Rattle.definition.specs.Helpers.{any_type_ann}
use Rattle.records.specs.Fields.{span}
use Rattle.output.proofs.Kept.{keeps_made, any-fits}
use Rattle.output.proofs.Output.put_any.Goals as goal

pub returns : goal.returns
returns c = keeps_made (any_type_ann (span c.args.range)) (any-fits (span c.args.range)) c.any_type_ann.ensures refl refl refl refl
