-- `text` meets its contract: what the check found, or the answer on an accepted tree.
use Rattle.std.proofs.lemmas.Result.{err_from_is_err_and}
use Rattle.declaration_text.proofs.Calls.{call-refused, call-root, call-accepted}
use Rattle.declaration_text.proofs.text.Goals as goal

pub accepted-requires : goal.accepted-requires
accepted-requires c = call-root _ c.args.out.now c.check_tree.ensures c.in_ok-check_tree.was

pub returns-in_err-check_tree : goal.returns-in_err-check_tree
returns-in_err-check_tree c =
    let p = err_from_is_err_and c.from_residual.result c.from_residual.ensures.1 in
    rw (p.1, p.2) (call-refused _ _ c.check_tree.ensures c.in_err-check_tree.was)

pub returns : goal.returns
returns c = call-accepted _ _ c.check_tree.ensures c.in_ok-check_tree.was c.accepted.ensures
