-- What reading a mark of a head gives.
use Rattle.std.specs.Prelude.{◌≡◌, ℕ, length, Result, MatchResult}
use Rattle.definition.specs.Grammar.{known, place}
use Rattle.records.specs.declared.marks.Mark.{Mark}
use Rattle.records.specs.declared.marks.UnknownMark.{UnknownMark}
use Rattle.records.specs.Marks.{number_of}

-- the mark with this number, or that the grammar has no row for it
abbrev pub Reads : ℕ → Result Mark UnknownMark → Type 0
Reads number r = MatchResult r (λ m. number_of m ≡ number) (λ e. place known number ≡ length known)
