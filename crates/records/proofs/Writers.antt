-- Laws of what was done to a Writer.
use mathlib.Core.Path.{◌≡◌, ◌∙◌}
use mathlib.Core.List.{List, ◌++◌}
use Prim.Native.Nat.{ℕ, ◌<◌, ◌^◌}
use lib.ListN.{length}
use Rattle.records.specs.declared.writer.Writer.{Writer}
use Rattle.records.specs.Writers.{Writes}
use native.Mathlib.Omega.{arith}
use Rattle.records.proofs.Puts.{put-put, put_as}
use Rattle.records.proofs.Wrote.{put-wrote}

-- the buffer keeps its length
pub writes-length : {a b : Writer} {E : List ℕ} → Writes a b E → length b.out.now ≡ length a.out.now
writes-length {a} {b} {E} w = (put-wrote w.put).same

-- one after the other
pub writes_then : {a b c : Writer} {E F : List ℕ} → length a.out.now < 2 ^ 64 → Writes a b E → Writes b c F → Writes a c (E ++ F)
writes_then h e f = record { buffer = f.buffer ∙ e.buffer; put = put-put h e.put f.put }

-- the same bytes by another name
pub writes_as : {a b : Writer} {E F : List ℕ} → Writes a b E → E ≡ F → Writes a b F
writes_as w e = record { buffer = w.buffer; put = put_as w.put e }

-- three of them
pub writes_three : {a b c d : Writer} {E F G : List ℕ} → length a.out.now < 2 ^ 64 → Writes a b E → Writes b c F → Writes c d G → Writes a d (E ++ (F ++ G))
writes_three h e f g = writes_then h e (writes_then (omega (arith, writes-length e)) f g)
