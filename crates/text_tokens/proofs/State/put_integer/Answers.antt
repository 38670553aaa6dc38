-- `text_tokens::State::put_integer` meets its contract: a minus, the digits, `n`.
use native.Mathlib.Omega.{arith}
use Rattle.text_tokens.proofs.Leaves.{signed_digits, unsigned, writes-integer, put_same}
use Rattle.text_tokens.proofs.State.put_integer.Goals as goal
use Rattle.text_tokens.proofs.State.put_integer.Goals.{in-Some, in_default}

pub returns : goal.returns
returns c =
    writes-integer (omega (arith, c.well_formed)) c.put_space-p.ensures c.args.text.now
    (elim c.match-split_first.branch [
      | in-Some w ↦ rw (w.out-is, w.end-is) (signed_digits (omega (arith, c.well_formed, put_same c.put_space-p.ensures)) w.in-Some.ensures.cases.0 w.put_minus-q.ensures w.put_text-end.ensures)
      | in_default w ↦ rw (w.out-is, w.end-is) (unsigned _ c.args.text.now (omega (arith, c.put_space-p.type_inv)) w.in_default.ensures.cases)
    ]) c.put.ensures c.advance.ensures c.behind.ensures
