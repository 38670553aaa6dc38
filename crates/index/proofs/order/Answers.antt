-- `index::order` meets its contract: the numbers of the first eight bytes decide, or what stands behind those.
use Rattle.std.proofs.Common.{arith, rules, ◌∙◌}
use Rattle.std.proofs.lemmas.List.{take_rest}
use Rattle.index.proofs.Spelt.{front_decides, front_same}
use Rattle.index.proofs.order.Goals as goal

pub returns-then-front-other : goal.returns-then-front-other
returns-then-front-other c =
    c.cmp-then-front-other.ensures
    ∙ front_decides c.args.a.now c.args.b.now (omega arith) (omega arith) (search rules) (search rules) c.front_number-front.ensures c.front_number-other.ensures c.if-front-other.true

pub returns : goal.returns
returns c =
    c.cmp-2.ensures
    ∙ rw (take_rest c.args.a.now 8, take_rest c.args.b.now 8) (front_same c.args.a.now c.args.b.now (omega arith) (omega arith) (search rules) (search rules) c.front_number-front.ensures c.front_number-other.ensures c.if-front-other.false)
