-- The part of the tree that a record fills, read by itself: it holds a head, and the record's mark is at its start. Who reads a part of `record_at` cites this.
use mathlib.Core.Path.{◌≡◌, ap, ◌∙◌}
use mathlib.Core.List.{List}
use Prim.Native.Nat.{ℕ, ◌+◌, ◌-◌, ◌*◌, ◌≤◌, ◌<◌}
use native.Mathlib.Nat.{add-zero}
use native.Mathlib.Omega.{arith}
use lib.ListN.{length, drop, get_or, length-take, length-drop}
use lib.Seq.{get_or-take, get_or-drop}
use Rattle.definition.specs.Tree.{head_size, mark_at, end_at}
use Rattle.records.specs.Whole.{Whole, part_at}
use Rattle.records.proofs.Whole.{whole-span}

module _ (levels : ℕ) (s : List ℕ) (at : ℕ) (w : Whole levels s at) where
  pub part_room : 0 + head_size ≤ length (part_at levels s at)
  part_room = let l = whole-span levels s at w in rw (length-take, length-drop) (omega arith)

  part_byte : (i : ℕ) → i < head_size → get_or (part_at levels s at) i 0 ≡ get_or s (at + i) 0
  part_byte i h = get_or-take (end_at levels s at - at) (drop at s) i 0 (omega (arith, whole-span levels s at w)) ∙ get_or-drop at s i 0

  pub part_mark : mark_at (part_at levels s at) 0 ≡ mark_at s at
  part_mark =
      ap (λ (n : ℕ). n + 256 * get_or (part_at levels s at) 1 0) (part_byte 0 (omega arith) ∙ ap (λ (n : ℕ). get_or s n 0) (add-zero at)) ∙ ap (λ (n : ℕ). get_or s at 0 + 256 * n) (part_byte 1 (omega arith))
