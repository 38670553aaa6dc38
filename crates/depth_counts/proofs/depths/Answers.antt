-- `depth_counts::depths` meets its contract: the table is counted where the transform succeeds, and left as it is where it refuses.
use Rattle.std.proofs.lemmas.Result.{err_from_is_err_and}
use Rattle.depth_counts.proofs.Whole.{done-accepted, done-short, done-holds, done_counted, refused_counted}
use Rattle.depth_counts.proofs.depths.Goals as goal

pub counted-requires : goal.counted-requires
counted-requires c = record { accepted_at = (done-accepted _ _ _ _ _ c.transform.ensures c.in_ok-done.was, done-holds _ _ _ _ _ c.transform.ensures c.in_ok-done.was); tree_len_bound = done-short _ _ _ _ _ c.transform.ensures c.in_ok-done.was }

pub returns-in_err-done : goal.returns-in_err-done
returns-in_err-done c =
    let p = err_from_is_err_and c.from_residual.result c.from_residual.ensures.1 in
    rw (p.1, p.2) (refused_counted _ _ _ _ _ c.transform.ensures c.args.table.now c.in_err-done.was)

pub returns : goal.returns
returns c = done_counted _ _ _ _ _ c.transform.ensures c.in_ok-done.was c.args.table.now c.counted.ensures
