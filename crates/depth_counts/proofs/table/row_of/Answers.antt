-- `depth_counts::table::row_of` meets its contract.
use native.Mathlib.Omega.{arith}
use Rattle.depth_counts.proofs.Cells.{last_row}
use Rattle.depth_counts.proofs.table.row_of.Goals as goal

pub returns-in_default : goal.returns-in_default
returns-in_default c = (omega arith, last_row _ c.requires c.in_default.in_default-own.rest.0.0.0.1 c.in_default.in_default-own.rest.0.0.1 c.in_default.in_default-own.rest.0.1 c.in_default.in_default-own.rest.1)
