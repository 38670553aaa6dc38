-- `bindings::put_unnamed` meets its contract.
use Rattle.std.proofs.Common.{arith, refl, ◌+◌}
use Rattle.typing.proofs.Raised.{room-grows, named-behind}
use Rattle.typing.proofs.bindings.put_unnamed.Goals as goal

pub overflow_sub-by : goal.overflow_sub-by
overflow_sub-by c =
    omega (arith, c.unique_binding_size-room.ensures.0, c.unique_binding_size.ensures.0, c.requires.raised.0, room-grows (c.args.counter + 1) (c.args.o.now.names.id_counter + 1) (omega (arith, c.requires.raised.0)))

pub returns : goal.returns
returns c =
    named-behind c.args.start c.args.counter c.move_up.new.w c.unique_binding_size-room.ensures.0 c.unique_binding_size.ensures.0 c.unique_binding_size.ensures.1 c.requires.raised.0 c.saturating_add.ensures c.move_up.ensures.moved c.move_up.ensures.buffer c.move_up.ensures.position refl refl
    (rw c.range.ensures at c.put_unique_binding.ensures.written) refl refl refl refl c.put_unique_binding.ensures.counter refl
