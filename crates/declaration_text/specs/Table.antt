-- How the code's tables are read: conditions, pieces and tokens by their numbers.
use Rattle.std.specs.Prelude.{ℕ, zero, suc, ◌+◌, List, [], ◌∷◌, cond, ◌≡◌, ◌≢◌, get_or, take, drop, eqb, Option, Some, None}
use Rattle.definition.specs.Text.{
  Token,
  When,
  always,
  flagged,
  unflagged,
  getter,
  there,
  dotted,
  quoted,
  unquoted,
  chained,
  linked,
  What,
  a_token,
  a_child,
  the_ops,
  the_list,
  the_members,
  the_template,
  the_text,
  the_symbol,
  the_string,
  the_number,
  the_integer,
  Piece,
  Child,
  op_of,
  element_of,
  member_of,
}
use Rattle.declaration_text.specs.declared.pieces.When.{When as NamedWhen}
use Rattle.declaration_text.specs.declared.pieces.When.TheVariants.{Always, Flagged, Unflagged, Getter, There, Dotted, Quoted, Unquoted, Chained, Linked}
use Rattle.declaration_text.specs.declared.pieces.Each.{Each}
use Rattle.declaration_text.specs.declared.pieces.Each.TheVariants.{Ops, Elements, Members}
use Rattle.declaration_text.specs.declared.pieces.What.{What as NamedWhat}
use Rattle.declaration_text.specs.declared.pieces.What.TheVariants.{Word, Child as TheChild, Behind, Template, Text, Symbol, String, Number, Integer}
use Rattle.declaration_text.specs.declared.pieces.Piece.{Piece as NamedPiece}
use Rattle.declaration_text.specs.Printed.{words_table, rows_table}

-- the condition with the number k, of a flag or a child b
unfoldable pub when_of : ℕ → ℕ → When
when_of k b =
    cond (eqb k 0) always
    (cond (eqb k 1) (flagged b)
    (cond (eqb k 2) (unflagged b)
    (cond (eqb k 3) getter
    (cond (eqb k 4) (there b)
    (cond (eqb k 5) dotted (cond (eqb k 6) quoted (cond (eqb k 7) unquoted (cond (eqb k 8) chained linked))))))))

-- a token, as a part of the words
abbrev pub word_at : ℕ → ℕ → List ℕ
word_at a n = take n (drop a words_table)

-- what the number k says; a token has its place and its length, a child its place
unfoldable pub what_of : ℕ → ℕ → ℕ → What
what_of k a n =
    cond (eqb k 1) (a_token (word_at a n))
    (cond (eqb k 2) (a_child a)
    (cond (eqb k 3) the_ops
    (cond (eqb k 4) the_list
    (cond (eqb k 5) the_members
    (cond (eqb k 6) the_template
    (cond (eqb k 7) the_text (cond (eqb k 8) the_symbol (cond (eqb k 9) the_string (cond (eqb k 10) the_number the_integer)))))))))

-- the pieces of a row: at most n from the place i on; 0 for what ends them
abbrev pub piece_in : List ℕ → ℕ → Piece
piece_in row i = record { when = when_of (get_or row i 0) (get_or row (i + 1) 0); what = what_of (get_or row (i + 2) 0) (get_or row (i + 3) 0) (get_or row (i + 4) 0) }

unfoldable pub pieces_in : ℕ → List ℕ → ℕ → List Piece
pieces_in zero row i = []
pieces_in (suc n) row i = cond (eqb (get_or row (i + 2) 0) 0) [] (piece_in row i ∷ pieces_in n row (i + 5))

-- the row with a number, and the byte at the place i in it
abbrev pub row_at : ℕ → List ℕ
row_at row = get_or rows_table row []

abbrev pub cell : ℕ → ℕ → ℕ
cell row i = get_or (row_at row) i 0

-- the code's conditions, and what it writes, by name
abbrev pub when_is : NamedWhen → When
when_is Always = always
when_is (Flagged b) = flagged b
when_is (Unflagged b) = unflagged b
when_is Getter = getter
when_is (There i) = there i
when_is Dotted = dotted
when_is Quoted = quoted
when_is Unquoted = unquoted
when_is Chained = chained
when_is Linked = linked

abbrev pub each_is : Each → What
each_is Ops = the_ops
each_is Elements = the_list
each_is Members = the_members

abbrev pub what_is : NamedWhat → What
what_is (Word a n) = a_token (word_at a n)
what_is (TheChild i) = a_child i
what_is (Behind e) = each_is e
what_is Template = the_template
what_is Text = the_text
what_is Symbol = the_symbol
what_is String = the_string
what_is Number = the_number
what_is Integer = the_integer

abbrev pub piece_is : NamedPiece → Piece
piece_is p = record { when = when_is p.when; what = what_is p.what }

-- what was read for the number k, and for the piece at the place i of a row; none for the 0 that ends them
abbrev pub SaysWhat : ℕ → ℕ → ℕ → Option NamedWhat → Type 0
SaysWhat k a n (Some w) = (k ≢ 0) × (what_is w ≡ what_of k a n)
SaysWhat k a n None = k ≡ 0

abbrev pub SaysPiece : List ℕ → ℕ → Option NamedPiece → Type 0
SaysPiece row i (Some p) = (get_or row (i + 2) 0 ≢ 0) × (piece_is p ≡ piece_in row i)
SaysPiece row i None = get_or row (i + 2) 0 ≡ 0

-- what is written for each child behind the slots
unfoldable pub each_by : Each → Child → List Child → List Token
each_by Ops c cs = op_of c cs
each_by Elements c cs = element_of c cs
each_by Members c cs = member_of c cs
