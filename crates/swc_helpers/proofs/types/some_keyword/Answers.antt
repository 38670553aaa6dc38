-- `types::some_keyword` meets its contract.
use Rattle.swc_helpers.proofs.Maybe.{makes-type}
use Rattle.swc_helpers.proofs.types.some_keyword.Goals as goal

pub returns : goal.returns
returns c = makes-type c.ts_keyword_type.ensures
