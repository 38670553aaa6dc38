-- `module_run` meets its contract.
use Rattle.std.proofs.Common.{refl, rules, sym, ◌∙◌, ap}
use Rattle.transform_dts.proofs.Module.{run_back}
use Rattle.transform_dts.proofs.module_run.Goals as goal

pub returns : goal.returns
returns c = run_back refl refl refl c.transform_module.ensures.made (search rules) (search rules) (search rules) (search rules)
