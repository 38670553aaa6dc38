-- `functions::infer_expr_fallback_any` meets its contract.
use Rattle.classes.proofs.Handling.{inferred}
use Rattle.classes.proofs.functions.infer_expr_fallback_any.Goals as goal

pub returns : goal.returns
returns c = inferred c.args.scope c.args.expr c.mutable.ensures c.expr_to_ts_type-t.ensures c.or_any.ensures
