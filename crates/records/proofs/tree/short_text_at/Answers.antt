-- `records::tree::short_text_at` meets its contract.
use Rattle.std.proofs.Common.{arith, ◌+◌}
use Rattle.definition.specs.Tree.{head_size, length_at}
use Rattle.definition.proofs.Places.{part_length, length-small}
use Rattle.records.proofs.Whole.{slice_bytes}
use Rattle.records.proofs.tree.short_text_at.Goals as goal

pub returns-clause-short : goal.returns-clause-short
returns-clause-short c =
    omega (arith, part_length c.args.tree.now (c.args.at + head_size) (length_at c.args.tree.now c.args.at) c.requires, length-small c.args.tree.now c.args.at (slice_bytes _ c.shared_slice_known-1.given))
