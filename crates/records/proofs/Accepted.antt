-- What the code asks of an accepted record: its head and its text lie in the tree, and so does all of it; there is a level left for it.
use mathlib.Core.Path.{◌≡◌}
use mathlib.Core.List.{List}
use Prim.Native.Nat.{ℕ, suc, ◌+◌, ◌-◌, ◌≤◌}
use lib.ListN.{length}
use Rattle.definition.specs.Tree.{head_size, body_at}
use Rattle.definition.specs.Children.{AcceptedAt}
use Rattle.definition.proofs.Children.{itself, some_left}
use Rattle.records.specs.Whole.{Whole}
use Rattle.records.proofs.Whole.{accepted-whole}

module _ {levels : ℕ} {s : List ℕ} {at : ℕ} (a : AcceptedAt levels s at) where
  pub room : at + head_size ≤ length s
  room = (itself levels s at a).room

  pub fits : body_at s at ≤ length s
  fits = (itself levels s at a).fits

  pub lies : Whole levels s at
  lies = accepted-whole levels s at a.slots a.past a.checked

  pub level : levels ≡ suc (levels - 1)
  level = some_left levels s at a
