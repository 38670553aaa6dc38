-- The table of counts as the code has it, and the diagnostics of a buffer.
use Rattle.std.specs.Prelude.{ℕ, zero, suc, ◌+◌, ◌*◌, ◌<◌, ◌≤◌, ◌≡◌, cond, ◌&&◌, List, [], ◌∷◌, eqb, length, get_or}
use Rattle.definition.specs.Tree.{u16_at, u32_at}
use Rattle.definition.specs.Record.{Diag, diagnostic_marks, diags_bytes}
use Rattle.definition.specs.Depths.{Placed, columns, count_of}

-- ---- the table

abbrev pub rows : ℕ
rows = 5

-- five rows of 32 counts
pub record Shape (t : List (List ℕ)) : Type 0 where
  pub tall : length t ≡ rows
  pub wide : (r : ℕ) → r < rows → length (get_or t r []) ≡ columns

-- a count
abbrev pub cell : List (List ℕ) → ℕ → ℕ → ℕ
cell t r d = get_or (get_or t r []) d 0

-- no more than p bytes of diagnostics were counted
pub record Small (t : List (List ℕ)) (p : ℕ) : Type 0 where
  pub shape : Shape t
  pub cells : (r d : ℕ) → r < rows → d < columns → 10 * cell t r d ≤ p

-- the table u is t with one more in a row and a column
pub record AddsOne (t u : List (List ℕ)) (row depth : ℕ) : Type 0 where
  pub shape : Shape u
  pub cells : (r d : ℕ) → r < rows → d < columns → cell u r d ≡ cond (eqb row r && eqb depth d) 1 0 + cell t r d

-- the table u is t with the diagnostics xs
pub record Adds (t u : List (List ℕ)) (xs : List Placed) : Type 0 where
  pub shape : Shape u
  pub cells : (r d : ℕ) → r < rows → d < columns → cell u r d ≡ cell t r d + count_of (get_or diagnostic_marks r 0) d xs

-- ---- diagnostics in a buffer

-- n of them, from p on
unfoldable pub diags_at : List ℕ → ℕ → ℕ → List Diag
diags_at g p zero = []
diags_at g p (suc n) = record { mark = u16_at g p; start = u32_at g (p + 2); end = u32_at g (p + 6) } ∷ diags_at g (p + 10) n

-- the diagnostics ds stand there
pub record Holds (g : List ℕ) (p : ℕ) (ds : List Diag) : Type 0 where
  pub fits : p + length (diags_bytes ds) ≤ length g
  pub same : (i : ℕ) → i < length (diags_bytes ds) → get_or g (p + i) 0 ≡ get_or (diags_bytes ds) i 0
