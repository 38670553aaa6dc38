-- The head and the range of a record as values of the code, and their bytes; heads that are made; flags; a diagnostic by its parts.
use Rattle.std.specs.Prelude.{◌≡◌, ◌⊎◌, ℕ, List, ◌++◌, length}
use Rattle.definition.specs.Tree
use Rattle.definition.specs.Tree.{flag_bytes, le2, le4, mark_at, flags_at, start_at, last_at, length_at, count_at}
use Rattle.definition.specs.Record
use Rattle.definition.specs.Record.{Diag}
use Rattle.records.specs.declared.Head.{Head}
use Rattle.records.specs.declared.Range.{Range}

-- the head of the record at `at`: mark, flags, start, end, text length and child count
abbrev pub fields_at : List ℕ → ℕ → Head
fields_at s at = record {
  mark = mark_at s at;
  flags = flags_at s at;
  start = start_at s at;
  end = last_at s at;
  text = length_at s at;
  count = count_at s at;
}

-- the head of a record of the definition that has n children
abbrev pub fields_of : Tree.Head → ℕ → Head
fields_of h n = record { mark = h.mark; flags = h.flags; start = h.start; end = h.end; text = length h.text; count = n }

-- "mark (two ASCII letters), flags (1 byte), start and end (4 each; what `range()` gives; 0,0 is `DUMMY_SP`), text length (2), child
-- count (2)"
unfoldable pub field_bytes : Head → List ℕ
field_bytes h =
    le2 h.mark ++ (flag_bytes h.flags ++ (le4 h.start ++ (le4 h.end ++ (le2 h.text ++ le2 h.count))))

-- ---- ranges

-- a range of the code as the definition has it
abbrev pub span : Range → Record.Range
span a = record { start = a.start; end = a.end }

-- the range of the record at `at`
abbrev pub range_at : List ℕ → ℕ → Range
range_at s at = record { start = start_at s at; end = last_at s at }

-- the range of a head of the definition
abbrev pub range_of : Tree.Head → Range
range_of h = record { start = h.start; end = h.end }

-- ---- heads that are made

-- `made`, by the mark's number
abbrev pub made_head : ℕ → ℕ → Record.Range → List ℕ → Tree.Head
made_head m f a t = record { mark = m; flags = f; start = a.start; end = a.end; text = t }

-- the same as a value of the code, with a text of a length and n children
abbrev pub made_fields : ℕ → ℕ → Range → ℕ → ℕ → Head
made_fields m f a t n = record { mark = m; flags = f; start = a.start; end = a.end; text = t; count = n }

-- ---- flags

-- the flags that document 01 names
abbrev pub IsFlag : ℕ → Type 0
IsFlag b = (b ≡ 1) ⊎ ((b ≡ 2) ⊎ (b ≡ 4))

-- ---- diagnostics

-- "A diagnostic is 10 bytes"
abbrev pub diag_size : ℕ
diag_size = 10

-- a diagnostic with one of the marks `d1` to `d5` at a range
abbrev pub diag_of : ℕ → ℕ → ℕ → Diag
diag_of mark start end = record { mark = mark; start = start; end = end }
