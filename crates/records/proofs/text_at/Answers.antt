-- `records::text_at` meets its contract: the part between the head and the children is as long as the head says.
use mathlib.Core.Path.{◌≡◌, ap}
use Prim.Native.Nat.{ℕ, ◌+◌, ◌-◌}
use native.Mathlib.Omega.{arith}
use lib.ListN.{take, drop}
use Rattle.definition.specs.Tree.{head_size, length_at}
use Rattle.records.proofs.text_at.Goals as goal

pub returns : goal.returns
returns c =
    let a = c.args in
    let n : c.body_at-end.result - (a.at + head_size) ≡ length_at a.tree.now a.at = omega (arith, c.body_at-end.ensures) in
    ap (λ (k : ℕ). take k (drop (a.at + head_size) a.tree.now)) n
