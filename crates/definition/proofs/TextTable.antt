-- "The text is fixed by a definition for each mark" (request §3): the table of specs/Text.antt held against the grammar.
use Prim.Native.Nat.{ℕ, zero, suc, ◌+◌}
use mathlib.Core.Path.{◌≡◌, refl}
use mathlib.Core.List.{List, [], ◌∷◌, ◌++◌, map}
use mathlib.Core.Bool.{Bool, true, false, cond, ◌&&◌, ◌||◌}
use lib.ListN.{length}
use lib.Dec.{eqb, ltb}
use Rattle.definition.specs.Grammar.{mark, marks, member, grammar, known, slots, least}
use Rattle.definition.specs.ChildNames.{vr_init, fu_body, cp_value}
use Rattle.definition.specs.TextLeftOut.{co_body}
use Rattle.definition.specs.Text.{
  What,
  a_token,
  a_child,
  the_ops,
  the_list,
  the_members,
  the_template,
  the_text,
  the_symbol,
  the_string,
  the_number,
  the_integer,
  Piece,
  Row,
  text_rows,
  row_in,
}

-- the marks of all rows
unfoldable pub marks_of : List Row → List ℕ
marks_of [] = []
marks_of (r ∷ rs) = r.marks ++ marks_of rs

-- how often a mark stands in a list
unfoldable pub times : ℕ → List ℕ → ℕ
times m [] = 0
times m (x ∷ xs) = cond (eqb m x) 1 0 + times m xs

-- a 1 for each
unfoldable pub ones : List ℕ → List ℕ
ones [] = []
ones (m ∷ ms) = 1 ∷ ones ms

-- every mark of the grammar stands in one row, once
pub each-once : map (λ (m : ℕ). times m (marks_of text_rows)) known ≡ ones known
unfolding marks_of times ones text_rows marks member grammar known
each-once = refl

-- and no other mark stands there: all that do are as many as the grammar's, each of which does
pub no_other : length (marks_of text_rows) ≡ length known
unfolding marks_of text_rows marks grammar known
no_other = refl

-- the slots for one child that a mark's row counts are the grammar's
pub slots-agree : map (λ (m : ℕ). (row_in text_rows m).slots) known ≡ map least slots
unfolding row_in text_rows marks member grammar known slots least
slots-agree = refl

-- ---- which slots are written

-- a fact of the place of a child that is written; another piece has none
abbrev child_is : (ℕ → Bool) → Bool → What → Bool
child_is f none (a_token t) = none
child_is f none (a_child i) = f i
child_is f none the_ops = none
child_is f none the_list = none
child_is f none the_members = none
child_is f none the_template = none
child_is f none the_text = none
child_is f none the_symbol = none
child_is f none the_string = none
child_is f none the_number = none
child_is f none the_integer = none

-- whether a piece writes the child at a place; whether all that are written are among the first n
unfoldable pub writes_child : ℕ → List Piece → Bool
writes_child i [] = false
writes_child i (p ∷ ps) = child_is (eqb i) false p.what || writes_child i ps

unfoldable pub only_slots : ℕ → List Piece → Bool
only_slots n [] = true
only_slots n (p ∷ ps) = child_is (λ i. ltb i n) true p.what && only_slots n ps

-- the slots of a mark, n of them from i on, that aren't written
unfoldable pub silent_from : ℕ → ℕ → ℕ → List (ℕ × ℕ)
silent_from m i zero = []
silent_from m i (suc n) = cond (writes_child i (row_in text_rows m).pieces) [] ((m, i) ∷ []) ++ silent_from m (suc i) n

unfoldable pub silent : List ℕ → List (ℕ × ℕ)
silent [] = []
silent (m ∷ ms) = silent_from m 0 (row_in text_rows m).slots ++ silent ms

-- "a body, and the initial value of a declarator or class property are left out", and no other child that has a slot of its own
pub left_out_slots : silent known ≡ (mark "Vr", vr_init) ∷ (mark "Fu", fu_body) ∷ (mark "Co", co_body) ∷ (mark "Cp", cp_value) ∷ []
unfolding silent silent_from writes_child row_in text_rows marks member grammar known
left_out_slots = refl

-- a child that a row writes by its place is one of its slots
unfoldable pub all_slots : List Row → Bool
all_slots [] = true
all_slots (r ∷ rs) = only_slots r.slots r.pieces && all_slots rs

pub only-slots : all_slots text_rows ≡ true
unfolding all_slots only_slots text_rows
only-slots = refl
