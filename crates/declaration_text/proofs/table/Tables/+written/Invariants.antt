-- The cycle of `write`: each member meets its contract, and the levels that are left fall.
use Prim.Native.Nat.{◌+◌, ◌-◌, ◌*◌}
use Rattle.definition.specs.Record.{head_of}
use Rattle.definition.specs.Text.{each_of, tokens}
use Rattle.records.specs.Views.{rec_of}
use Rattle.declaration_text.specs.Table.{each_by}
use Rattle.declaration_text.specs.Steps.{parts_of, parts_in}
use Rattle.declaration_text.proofs.Written.{Telling, Turning, turns_of, Reading, levels_of}
use Rattle.declaration_text.proofs.table.Tables.+written.Given as goal

abbrev pub decreases-write : goal.decreases-write
decreases-write l = 6 * l.r.levels + 3

abbrev pub decreases-template : goal.decreases-template
decreases-template l = 6 * l.children.levels + 5

abbrev pub decreases-siblings : goal.decreases-siblings
decreases-siblings l = 6 * l.records.levels + 5

abbrev pub decreases-sibling : goal.decreases-sibling
decreases-sibling l = 6 * l.child.levels + 4

abbrev pub decreases-put_piece : goal.decreases-put_piece
decreases-put_piece l = 6 * l.r.levels + 2

abbrev pub decreases-number : goal.decreases-number
decreases-number l = 6 * l.r.levels + 1

abbrev pub decreases-child : goal.decreases-child
decreases-child l = 6 * l.r.levels + 0

abbrev pub decreases-braces : goal.decreases-braces
decreases-braces l = 6 * levels_of l.expression + 4

abbrev pub decreases-behind : goal.decreases-behind
decreases-behind l = 6 * l.r.levels + 0

abbrev pub invariant-siblings-loop-next : goal.invariant-siblings-loop-next
invariant-siblings-loop-next l = Telling (each_by l.each) l.under (each_of (each_by l.each) (parts_of l.under l.records)) l.initial.out l.out l.initial.next l.next l.records.levels l.rest

abbrev pub decreases-siblings-loop-next : goal.decreases-siblings-loop-next
decreases-siblings-loop-next l = l.rest.count

abbrev pub invariant-write-loop-i : goal.invariant-write-loop-i
invariant-write-loop-i l = Reading l.row l.under l.r.at (head_of (rec_of l.r)) (parts_in l.r) (tokens (rec_of l.r) l.under l.r.at) l.initial.out l.out l.initial.next l.next l.i

abbrev pub invariant-template-loop : goal.invariant-template-loop
invariant-template-loop l = Turning l.under (turns_of (parts_of l.under l.children)) l.initial.out l.out l.initial.next l.next l.children.levels l.quasis l.expressions (l.turns - l.counter)
