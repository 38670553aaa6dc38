-- `dts_check` meets its contract: both numbers are those of what `check_tree` found.
use mathlib.Core.Path.{ap, ◌∙◌}
use Rattle.std.proofs.Common.{rules}
use Rattle.dts.specs.Answers.{check_code, check_pair}
use Rattle.dts.proofs.Codes.{check-told}
use Rattle.dts.proofs.dts_check.Goals as goal

pub returns : goal.returns
returns c =
    let z = check-told (λ n d k. search rules) c.check_tree.result c.map-found.result c.map-found.ensures.cases c.tell.ensures in
    record { number = z.0 ∙ ap check_code c.check_tree.ensures; pair = z.1 ∙ ap check_pair c.check_tree.ensures }
