-- `dry_run_and_run` meets its contract: the dry run's answer, or what the run wrote.
use native.Mathlib.Omega.{arith}
use borrow.Author.Tests.{not-true, not-false}
use Rattle.transform_dts.proofs.Runs.{part_length, text_too_long, output_too_long, diagnostics_too_long, done-is}
use Rattle.transform_dts.proofs.dry_run_and_run.Goals as goal

pub returns-then-not-dry : goal.returns-then-not-dry
returns-then-not-dry c = text_too_long c.module_run-dry.ensures _ _ (not-true _ c.if-not-dry.true)

pub returns-then-out-dry : goal.returns-then-out-dry
returns-then-out-dry c = output_too_long c.module_run-dry.ensures _ _ (not-false _ c.if-not-dry.false) (omega arith)

pub returns-then-diagnostics-dry : goal.returns-then-diagnostics-dry
returns-then-diagnostics-dry c = diagnostics_too_long c.module_run-dry.ensures _ _ (not-false _ c.if-not-dry.false) (omega arith) (omega (arith, c.well_formed)) (omega arith)

pub slice_bounds-module_run-end-6 : goal.slice_bounds-module_run-end-6
slice_bounds-module_run-end-6 c = omega (arith, part_length c.module_run-dry.result.written c.module_run-dry.new.out c.args.out.now (omega arith))

pub slice_bounds-module_run-end-8 : goal.slice_bounds-module_run-end-8
slice_bounds-module_run-end-8 c = omega (arith, part_length c.module_run-dry.result.reported c.module_run-dry.new.diagnostics c.args.diagnostics.now (omega arith))

pub returns : goal.returns
returns c = done-is c.module_run-dry.ensures _ _ (not-false _ c.if-not-dry.false) (omega (arith, c.if-out-dry.false)) (omega (arith, c.well_formed)) (omega (arith, c.if-diagnostics-dry.false)) (omega (arith, c.well_formed)) c.module_run.ensures
