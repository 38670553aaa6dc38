use mathlib.Core.Path.{refl}
use native.Mathlib.Omega.{arith}
use Rattle.records.proofs.Puts.{put-put}
use Rattle.records.proofs.writer.Writer.put_front_at.Goals as goal

pub returns : goal.returns
returns c = record { buffer = refl; position = refl; behind = _; put = rw c.bytes.ensures at (put-put (omega arith) c.put_text-end.ensures c.put_text.ensures) }
