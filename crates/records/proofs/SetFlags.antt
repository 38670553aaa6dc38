-- What a test of a flag says of setting and clearing it.
use mathlib.Core.Path.{◌≡◌}
use mathlib.Core.Bool.{true, false}
use mathlib.Core.Logic.{inl, inr}
use Prim.Native.Nat.{ℕ, ◌+◌, ◌-◌, ◌/◌, ◌%◌, ◌≤◌, ◌<◌}
use native.Mathlib.Omega.{arith}
use borrow.Author.Tests.{eqb-true, eqb-false}
use Rattle.definition.specs.Tree.{flags_end}
use Rattle.definition.specs.Record.{has_flag, with_flag, without_flag}
use Rattle.records.specs.Fields.{IsFlag}

-- a flag that is set
pub record Set (b f : ℕ) : Type 0 where
  pub below : b ≤ f
  pub without : f - b ≡ without_flag b f
  pub same : f ≡ with_flag b f

pub is_set : (b f : ℕ) → IsFlag b → has_flag b f ≡ true → Set b f
is_set b f (inl e) h = rw e (let q = eqb-true (f / 1 % 2) 1 (rw e at h) in record { below = omega arith; without = omega arith; same = omega arith })
is_set b f (inr (inl e)) h = rw e (let q = eqb-true (f / 2 % 2) 1 (rw e at h) in record { below = omega arith; without = omega arith; same = omega arith })
is_set b f (inr (inr e)) h = rw e (let q = eqb-true (f / 4 % 2) 1 (rw e at h) in record { below = omega arith; without = omega arith; same = omega arith })

-- one that is not
pub record Clear (b f : ℕ) : Type 0 where
  pub fits : f < flags_end → f + b < flags_end
  pub with : f + b ≡ with_flag b f
  pub same : f ≡ without_flag b f

pub is_clear : (b f : ℕ) → IsFlag b → has_flag b f ≡ false → Clear b f
is_clear b f (inl e) h = rw e (let q = eqb-false (f / 1 % 2) 1 (rw e at h) in record { fits = λ l. omega arith; with = omega arith; same = omega arith })
is_clear b f (inr (inl e)) h = rw e (let q = eqb-false (f / 2 % 2) 1 (rw e at h) in record { fits = λ l. omega arith; with = omega arith; same = omega arith })
is_clear b f (inr (inr e)) h = rw e (let q = eqb-false (f / 4 % 2) 1 (rw e at h) in record { fits = λ l. omega arith; with = omega arith; same = omega arith })

pub flag_above : (b : ℕ) → IsFlag b → 0 < b
flag_above b (inl e) = omega arith
flag_above b (inr (inl e)) = omega arith
flag_above b (inr (inr e)) = omega arith
