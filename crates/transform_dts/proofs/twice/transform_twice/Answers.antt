-- `transform_twice` meets its contract.
use Rattle.std.proofs.lemmas.Result.{err_from_is_err_and}
use Rattle.records.proofs.Whole.{slice_bytes}
use Rattle.transform_dts.proofs.Calls.{wrote-inside, wrote-length}
use Rattle.transform_dts.proofs.SecondCall.{again-all, once-all}
use Rattle.transform_dts.proofs.twice.transform_twice.Goals as goal

pub slice_bounds-transform-end : goal.slice_bounds-transform-end
slice_bounds-transform-end c = wrote-inside _ _ _ _ _ c.transform.ensures _ c.in_ok-first.was

pub slice_bounds-transform-end-2 : goal.slice_bounds-transform-end-2
slice_bounds-transform-end-2 c = wrote-length _ _ _ _ _ c.transform.ensures _ c.in_ok-first.was

pub returns : goal.returns
returns c =
    let z = again-all _ _ _ _ _ c.transform.ensures _ c.in_ok-first.was (slice_bytes _ c.shared_slice_known-1.given) _ _ c.transform-second.ensures in
    record { first = z.0; second = z.1.0; demand3 = z.1.1 }

pub returns-in_err-first : goal.returns-in_err-first
returns-in_err-first c =
    let p = err_from_is_err_and c.from_residual.result c.from_residual.ensures.1 in
    let z = once-all _ _ _ _ _ c.transform.ensures _ c.in_err-first.was (slice_bytes _ c.shared_slice_known-1.given) _ _ in
    rw (p.1, p.2) (record { first = z.0; second = z.1.0; demand3 = z.1.1 })
