-- `with_new_table` meets its contract: a table of N numbers has room for the names, and a tree for which it has is not too long.
use native.Mathlib.Omega.{arith}
use Rattle.transform_dts.proofs.with_new_table.Goals as goal

pub with_table-requires-clause-tree_len_bound_2 : goal.with_table-requires-clause-tree_len_bound_2
with_table-requires-clause-tree_len_bound_2 g c = omega (arith, c.requires.tree_len_bound, c.requires.table_bound)
