-- Records that lie in the bytes, and the part of the bytes that a record fills.
use Rattle.std.specs.Prelude.{ℕ, zero, suc, ◌-◌, ◌≤◌, List, length, take, drop}
use Rattle.definition.specs.Tree.{body_at, count_at, end_at}

-- P of each of n records that stand one after the other from `at` on, where `end` says where one ends
unfoldable pub Each : (ℕ → Type 0) → (ℕ → ℕ) → ℕ → ℕ → Type 0
Each P end zero at = Unit {0}
Each P end (suc n) at = P at × Each P end n (end at)

-- the record at `at`, with all below it, lies in the bytes s and is at most `levels` levels deep
unfoldable pub Whole : ℕ → List ℕ → ℕ → Type 0
Whole zero s at = ⊥
Whole (suc levels) s at = (body_at s at ≤ length s) × Each (Whole levels s) (end_at levels s) (count_at s at) (body_at s at)

-- "the part of the tree it fills"
abbrev pub part_at : ℕ → List ℕ → ℕ → List ℕ
part_at levels s at = take (end_at levels s at - at) (drop at s)
