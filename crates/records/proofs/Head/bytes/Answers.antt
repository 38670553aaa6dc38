-- The bytes of a head: its numbers one after the other, each little-endian.
use mathlib.Core.Path.{◌≡◌, refl}
use Prim.Native.Nat.{◌%◌}
use native.Mathlib.Omega.{arith}
use Rattle.records.specs.Fields.{field_bytes}
use Rattle.records.proofs.Head.bytes.Goals as goal

pub returns : goal.returns
unfolding field_bytes
returns c =
    let f : c.args.self.flags % 256 ≡ c.args.self.flags = omega arith in
    rw (c.to_le_bytes.ensures, c.to_le_bytes-2.ensures, c.to_le_bytes-3.ensures, c.two_bytes.ensures, c.two_bytes-2.ensures, f) refl
