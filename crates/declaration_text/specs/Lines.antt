-- What it means that lines were written, and the block that an item opens.
use Rattle.std.specs.Prelude.{ℕ, suc, ◌≤◌, ◌≡◌, List, [], ◌∷◌, ◌++◌, Option, Some, None}
use Rattle.definition.specs.Record.{text, head_of, kids_of}
use Rattle.definition.specs.Text.{token, Line, items_lines, block_lines, lines_bytes, body_of}
use Rattle.records.specs.declared.tree.Record.{Record}
use Rattle.records.specs.Views.{rec_of}
use Rattle.records.specs.Wrote.{Put}
use Rattle.text_tokens.specs.declared.State.{State}
use Rattle.text_tokens.specs.Writes.{first_seen}

-- the first place of a number outside the forms, among those of lines and x, if there is one
unfoldable pub lines_seen : Option ℕ → List Line → Option ℕ
lines_seen x [] = x
lines_seen x (l ∷ ls) = lines_seen (first_seen x l.tokens) ls

-- only the lines ls were written, where s stood in the output
pub record WritesLines (o o' : List ℕ) (s s' : State) (ls : List Line) : Type 0 where
  pub put : Put o o' s.written (lines_bytes ls) s'.written
  pub place : s'.place ≡ lines_seen s.place ls

-- the line that closes a block
abbrev pub closing : ℕ → Line
closing d = record { spaces = d; tokens = token (text "}") ∷ [] }

-- the lines of the block b, an Nb, in an item that d Ns records hold
abbrev pub lines_in : Record → ℕ → List Line
lines_in b d = items_lines (kids_of (rec_of b)) (suc d) (body_of b.at (head_of (rec_of b))) ++ (closing d ∷ [])

-- b is the block in the item r
pub record Opens (r b : Record) : Type 0 where
  pub tree : b.tree ≡ r.tree
  pub lower : b.levels ≤ r.levels
  pub lines : (d : ℕ) → block_lines (rec_of r) d r.at ≡ lines_in b d

abbrev pub Found : Record → Option Record → Type 0
Found r (Some b) = Opens r b
Found r None = (d : ℕ) → block_lines (rec_of r) d r.at ≡ []
