-- `output::Output::or_any` meets its contract.
use Rattle.output.proofs.Steps.{filled-typed, filled-any}
use Rattle.output.proofs.Output.or_any.Goals as goal

pub returns : goal.returns
returns c = filled-typed c.args.self.now _ c.in-Some.is

pub returns-in_default : goal.returns-in_default
returns-in_default c = filled-any c.in_default.is c.put_any.ensures c.mark_diagnostic.ensures
