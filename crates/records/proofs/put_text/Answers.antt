-- A text that fits is written as a part; of one that is cut, what fits.
use mathlib.Core.Path.{◌≡◌, sym}
use Prim.Native.Nat.{◌-◌}
use native.Mathlib.Omega.{arith}
use lib.ListN.{length, length-take, length-drop}
use Rattle.records.proofs.Stores.{sets-out, part_sets, cut_sets}
use Rattle.records.proofs.put_text.Goals as goal

pub returns-then-end-out : goal.returns-then-end-out
returns-then-end-out c =
    let a = c.args in
    let n : c.advance-end.result - a.p ≡ length a.text.now = omega (arith, c.advance-end.ensures) in
    record {
      bytes = rw (c.copy_from_slice.ensures.after, n) (part_sets a.out.now a.p a.text.now (omega (arith, c.advance-end.ensures)));
      position = c.advance-end.ensures;
    }

pub returns-then-out-p : goal.returns-then-out-p
returns-then-out-p c =
    let a = c.args in
    record { bytes = sym (sets-out a.out.now a.p a.text.now c.if-out-p.true); position = c.advance-end.ensures }

pub copy_from_slice-requires-2 : goal.copy_from_slice-requires-2
copy_from_slice-requires-2 c = simp (length-take, length-drop) (omega (arith, c.advance-end.ensures))

pub returns : goal.returns
returns c =
    let n = c.advance-end in
    let a = c.args in
    record {
      bytes = rw c.copy_from_slice-2.ensures.after (cut_sets a.out.now a.p (length a.out.now - a.p) a.text.now (omega arith) (omega (arith, n.ensures)));
      position = n.ensures;
    }
