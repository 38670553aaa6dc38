-- `test_types::show_item` is safe: an Xe has its expression, which stands in the same tree.
use mathlib.Core.Path.{sym, ap, ◌∙◌}
use native.Mathlib.Omega.{arith}
use Rattle.records.specs.Marks.{number_of}
use Rattle.records.proofs.Records.{enough}
use Rattle.test_types.proofs.show_item.Goals as goal

pub first-requires : goal.first-requires
first-requires g c = omega (arith, c.children.ensures.many, enough c.args.item (sym c.mark.ensures ∙ ap number_of c.in-Xe.is))

pub show_typings-requires : goal.show_typings-requires
show_typings-requires g c = rw (c.first.ensures.tree, c.children.ensures.tree) c.requires
