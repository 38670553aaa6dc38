-- `types::no_exprs` meets its contract.
use Rattle.std.proofs.Common.{sym, ap, ◌∙◌, arith}
use Rattle.definition.specs.Helpers.{no_exprs}
use Rattle.swc_helpers.proofs.Freeze.{quasis_none, quasis_step, quasis_other}
use Rattle.swc_helpers.proofs.types.no_exprs.Goals as goal

pub loop-kids-init : goal.loop-kids-init
loop-kids-init c = ap no_exprs c.children-kids.ensures.are

pub returns-then-not-is_quasi : goal.returns-then-not-is_quasi
returns-then-not-is_quasi c = sym (quasis_other c.loop-kids-test.true c.first.ensures (sym c.is_quasi.ensures ∙ c.if-not-is_quasi.true)) ∙ c.loop-kids.invariant

pub loop-kids-preserved : goal.loop-kids-preserved
loop-kids-preserved c = sym (quasis_step c.loop-kids-test.true c.first.ensures c.rest-kids.ensures ∙ rw (sym c.is_quasi.ensures ∙ c.if-not-is_quasi.false)) ∙ c.loop-kids.invariant

pub returns : goal.returns
returns c = sym (quasis_none _ (omega (arith, c.loop-kids-test.false))) ∙ c.loop-kids.invariant
