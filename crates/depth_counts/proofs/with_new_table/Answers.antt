-- `with_new_table` meets its contract: a table of N numbers has room for the names, and a tree for which it has is not too long.
use native.Mathlib.Omega.{arith}
use Rattle.depth_counts.proofs.with_new_table.Goals as goal

pub with_names-requires-clause-tree_len_bound_2 : goal.with_names-requires-clause-tree_len_bound_2
with_names-requires-clause-tree_len_bound_2 g c = omega (arith, c.requires.tree_len_bound, c.requires.table_bound)
