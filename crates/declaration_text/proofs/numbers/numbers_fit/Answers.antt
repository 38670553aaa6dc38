-- `numbers_fit` meets its contract: each turn puts a record's children in its place among the records that are pending.
use native.Mathlib.Omega.{arith}
use Rattle.definition.proofs.Tests.{never}
use Rattle.records.proofs.Whole.{pending_body, pending_room}
use Rattle.records.proofs.Views.{rec_is}
use Rattle.declaration_text.proofs.NumbersFit.{walks_start, walks_turn, walks_done}
use Rattle.declaration_text.proofs.numbers.numbers_fit.Goals as goal

pub loop-pending-init : goal.loop-pending-init
loop-pending-init c = walks_start c.args.r

pub number_fits-requires : goal.number_fits-requires
number_fits-requires c = pending_body _ _ _ _ _ c.loop-pending.invariant.row c.loop-pending-test.true

pub returns-then-not-number_fits : goal.returns-then-not-number_fits
returns-then-not-number_fits c = λ e. absurd (never e)

pub count_at-requires : goal.count_at-requires
count_at-requires c = omega (arith, pending_body _ _ _ _ _ c.loop-pending.invariant.row c.loop-pending-test.true)

pub overflow_add-pending : goal.overflow_add-pending
overflow_add-pending c = omega (arith, pending_room _ _ _ _ _ c.loop-pending.invariant.row c.loop-pending-test.true, c.well_formed, c.count_at.ensures)

pub body_at-at-requires : goal.body_at-at-requires
body_at-at-requires c = omega (arith, pending_body _ _ _ _ _ c.loop-pending.invariant.row c.loop-pending-test.true)

pub loop-pending-smaller : goal.loop-pending-smaller
loop-pending-smaller c = omega (arith, pending_body _ _ _ _ _ c.loop-pending.invariant.row c.loop-pending-test.true, c.body_at-at.ensures)

pub loop-pending-preserved : goal.loop-pending-preserved
loop-pending-preserved c = rw (c.body_at-at.ensures, c.count_at.ensures.0) (walks_turn _ _ _ _ _ c.loop-pending.invariant c.loop-pending-test.true (c.number_fits.ensures c.if-not-number_fits.false))

pub returns : goal.returns
returns c = λ _. rw (rec_is c.args.r) (walks_done _ _ _ _ _ c.loop-pending.invariant c.loop-pending-test.false)
