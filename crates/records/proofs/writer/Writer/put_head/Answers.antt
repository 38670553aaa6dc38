-- `Writer::put_head` meets its contract: where no byte fits, nothing of a head is written; where all do, they are written as a part.
use mathlib.Core.Path.{◌≡◌, refl, sym, ◌∙◌}
use Prim.Native.Nat.{◌+◌, ◌-◌}
use native.Mathlib.Omega.{arith}
use lib.ListN.{length}
use Rattle.records.specs.Fields.{field_bytes}
use Rattle.records.proofs.Stores.{sets-out, part_sets}
use Rattle.records.proofs.writer.Writer.put_head.Goals as goal

pub returns-then-self : goal.returns-then-self
unfolding field_bytes
returns-then-self c =
    let w = c.args.self.now in
    record {
      buffer = c.skip.ensures.buffer;
      put = record { bytes = c.skip.ensures.same ∙ sym (sets-out w.out.now w.at (field_bytes c.args.head) c.if-self.true); position = c.skip.ensures.position };
    }

pub returns-then-self-ge-HEAD_SIZE : goal.returns-then-self-ge-HEAD_SIZE
unfolding field_bytes
returns-then-self-ge-HEAD_SIZE c =
    let w = c.args.self.now in
    let n : w.at + 15 - w.at ≡ length (field_bytes c.args.head) = omega arith in
    record {
      buffer = refl;
      put = record {
        bytes = rw (c.copy_from_slice.ensures.after, c.bytes.ensures, n) (part_sets w.out.now w.at (field_bytes c.args.head) (omega (arith, c.if-self-ge-HEAD_SIZE.true, c.if-self.false)));
        position = omega (arith, c.if-self-ge-HEAD_SIZE.true, c.if-self.false, w.size);
      };
    }
