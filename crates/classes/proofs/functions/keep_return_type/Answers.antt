-- `functions::keep_return_type` meets its contract.
use Rattle.classes.proofs.functions.keep_return_type.Goals as goal

pub returns-then-setter : goal.returns-then-setter
returns-then-setter c = rw (c.if-setter.true) c.drop_next.ensures

pub returns : goal.returns
returns c = rw (c.if-setter.false) c.keep_next.ensures
