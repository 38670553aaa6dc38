-- `transform` meets its contract: what the check found, or the answer on an accepted tree.
use Rattle.std.proofs.lemmas.Result.{err_from_is_err_and}
use Rattle.transform_dts.proofs.Calls.{call-refused, call-root, call-short, call-accepted}
use Rattle.transform_dts.proofs.transform.Goals as goal

pub accepted-requires : goal.accepted-requires
accepted-requires c = (call-root _ _ c.check_tree.ensures c.in_ok-check_tree.was, call-short _ _ c.check_tree.ensures c.in_ok-check_tree.was)

pub returns-in_err-check_tree : goal.returns-in_err-check_tree
returns-in_err-check_tree c =
    let p = err_from_is_err_and c.from_residual.result c.from_residual.ensures.1 in
    rw (p.1, p.2) (call-refused _ _ c.check_tree.ensures _ _ _ c.in_err-check_tree.was)

pub returns : goal.returns
returns c = call-accepted _ _ c.check_tree.ensures c.in_ok-check_tree.was _ _ _ c.accepted.ensures
