-- `depth_counts::table::total` meets its contract: the sum of all counts, row after row.
use Rattle.std.proofs.Common.{arith, ◌∙◌}
use Rattle.std.proofs.lemmas.Iterator.{YieldsList-from_slice}
use Rattle.std.proofs.lemmas.Iterator.Consumers.{sum_from_yields_List, fits_from_yields_list}
use Rattle.depth_counts.proofs.Rows.{flat_total}
use Rattle.depth_counts.proofs.table.total.Goals as goal

pub sum-requires-clause-fits : goal.sum-requires-clause-fits
sum-requires-clause-fits c =
    fits_from_yields_list c.iter.result _ (YieldsList-from_slice c.as_flattened.result.now c.iter.ensures.rest) (rw c.as_flattened.ensures.value (omega (arith, flat_total c.args.table, c.requires)))

pub returns : goal.returns
returns c = sum_from_yields_List c.iter.result _ c.sum.ensures.ran (YieldsList-from_slice c.as_flattened.result.now c.iter.ensures.rest) ∙ rw c.as_flattened.ensures.value (flat_total c.args.table)
