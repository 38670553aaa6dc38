-- `with_table` meets its contract.
use Rattle.std.proofs.Common.{refl}
use Rattle.definition.proofs.Anywhere.{is_accepted}
use Rattle.records.specs.Views.{rec_of}
use Rattle.transform_dts.proofs.Module.{is_module}
use Rattle.transform_dts.proofs.with_table.Goals as goal

pub invariant_of-mo : goal.invariant_of-mo
invariant_of-mo c = record { accepted = is_accepted c.requires.accepted_at }

pub dry_run_and_run-requires : goal.dry_run_and_run-requires
dry_run_and_run-requires c = is_module _ _ refl refl refl c.shared_slice_known-1.given

pub returns : goal.returns
unfolding rec_of
returns c = c.dry_run_and_run.ensures
