-- `records::record_end` meets its contract: the records that are pending stand in a row, and each turn puts a record's children in its place. The
-- measure is what is left of the tree.
use native.Mathlib.Omega.{arith}
use Rattle.records.proofs.Whole.{pending_start, pending_body, pending_room, pending_turn, pending_done}
use Rattle.records.proofs.record_end.Goals as goal

pub loop-pending-init : goal.loop-pending-init
loop-pending-init c =
    let a = c.args in
    pending_start a.levels a.tree.now a.at c.requires

pub overflow_sub-pending : goal.overflow_sub-pending
overflow_sub-pending c = omega arith

pub count_at-requires : goal.count_at-requires
count_at-requires c =
    let a = c.args in
    let l = c.loop-pending in
    omega (arith, pending_body a.levels a.tree.now l.pending l.end _ l.invariant c.loop-pending-test.true)

pub overflow_add-pending : goal.overflow_add-pending
overflow_add-pending c =
    let a = c.args in
    let l = c.loop-pending in
    omega (arith, pending_room a.levels a.tree.now l.pending l.end _ l.invariant c.loop-pending-test.true, c.well_formed, c.count_at.ensures)

pub body_at-end-requires : goal.body_at-end-requires
body_at-end-requires c =
    let a = c.args in
    let l = c.loop-pending in
    omega (arith, pending_body a.levels a.tree.now l.pending l.end _ l.invariant c.loop-pending-test.true)

pub loop-pending-smaller : goal.loop-pending-smaller
loop-pending-smaller c =
    let a = c.args in
    let l = c.loop-pending in
    omega (arith, pending_body a.levels a.tree.now l.pending l.end _ l.invariant c.loop-pending-test.true, c.body_at-end.ensures)

pub loop-pending-preserved : goal.loop-pending-preserved
loop-pending-preserved c =
    let a = c.args in
    let l = c.loop-pending in
    rw (c.body_at-end.ensures, c.count_at.ensures.0) (pending_turn a.levels a.tree.now l.pending l.end _ l.invariant c.loop-pending-test.true)

pub returns : goal.returns
returns c =
    let a = c.args in
    let l = c.loop-pending in
    pending_done a.levels a.tree.now l.pending l.end _ l.invariant c.loop-pending-test.false
