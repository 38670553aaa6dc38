-- How the code numbers sets of marks, slots and forms of a text: a slot is a place in `parts_table`.
use Rattle.std.specs.Prelude.{ℕ, ◌-◌, ◌<◌, ◌≡◌, List, [], ◌∷◌, Bool, cond, ◌&&◌, ◌||◌, length, get_or, drop, eqb, leb, ltb}
use Prim.Native.String.{String}
use Rattle.definition.specs.Grammar.{
  Part,
  Part.one,
  Part.many,
  Part.property,
  Form,
  Form.empty,
  Form.anything,
  Form.eight,
  Form.integer,
  Form.identifier,
  Form.cooked,
  known,
  forms,
  slots,
  least,
  member,
  marks,
}
use Rattle.grammar.specs.Printed.{sets_table, parts_table}
use Rattle.grammar.specs.declared.text.Form as Code
use Rattle.grammar.specs.declared.text.Form.TheVariants.{Empty, Anything, Eight, Integer, Identifier, Cooked}
use Rattle.grammar.specs.declared.tables.Entry.{Entry}
use Rattle.grammar.specs.declared.tables.Entry.TheVariants.{End, One, Many, Property}

-- the set with the number k
abbrev pub set_at : ℕ → String
set_at k = get_or sets_table k ""

-- one entry, before the slots ps: 0 ends a list; from 1 on `one`, from 65 on `many`, from 128 on `property`
abbrev pub decode_one : ℕ → List Part → List Part
decode_one x ps =
    cond (eqb x 0) []
    (cond (ltb x 65) (one (set_at (x - 1)) ∷ ps) (cond (ltb x 128) (many (set_at (x - 65)) ∷ ps) (property ∷ ps)))

unfoldable pub decode : List ℕ → List Part
decode [] = []
decode (x ∷ xs) = decode_one x (decode xs)

-- the slots that begin at the place k
unfoldable pub parts_from : ℕ → List Part
parts_from k = decode (drop k parts_table)

-- an entry as the code names it, before the slots ps
abbrev pub entry_parts : Entry → List Part → List Part
entry_parts End ps = []
entry_parts (One k) ps = one (set_at k) ∷ ps
entry_parts (Many k) ps = many (set_at k) ∷ ps
entry_parts Property ps = property ∷ ps

-- a form as the code names it
abbrev pub form_told : Code.Form → Form
form_told Empty = empty
form_told Anything = anything
form_told Eight = eight
form_told Integer = integer
form_told Identifier = identifier
form_told Cooked = cooked

-- the form with the number k
unfoldable pub form_at : ℕ → Form
form_at k = get_or (empty ∷ anything ∷ eight ∷ integer ∷ identifier ∷ cooked ∷ []) k empty

-- ---- the tables that the code lends, each a list of columns

-- by mark: its form, the place of its slots and how many children it has at least
pub record RowsRight (t : List (List ℕ)) : Type 0 where
  pub forms_right : (c : ℕ) → form_at (get_or (get_or t 0 []) c 0) ≡ get_or forms c (form_at 0)
  pub starts_right : (c : ℕ) → parts_from (get_or (get_or t 1 []) c 0) ≡ get_or slots c []
  pub leasts_right : (c : ℕ) → get_or (get_or t 2 []) c 0 ≡ least (get_or slots c [])

-- by set: whether the mark with the number c is in the run of the set k, or its one mark more
abbrev pub in_run : List (List ℕ) → ℕ → ℕ → Bool
in_run t k c = (leb (get_or (get_or t 0 []) k 0) c && ltb c (get_or (get_or t 1 []) k 0)) || eqb c (get_or (get_or t 2 []) k 0)

pub record SetsRight (t : List (List ℕ)) : Type 0 where
  pub sets_right : (k c : ℕ) → k < length sets_table → c < length known → in_run t k c ≡ member (get_or known c 0) (marks (set_at k))
