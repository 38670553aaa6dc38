-- The grammar of document 01, "Items", "Functions and classes" and "Expressions", as a table: a row for each mark, with the form of its
-- text, the slots of its children and, behind it, what the mark stands for. The code's tables are
-- printed from this file: after a change of it run `tools/grammar-tables`.
use Rattle.std.specs.Prelude.{ℕ, suc, ◌+◌, ◌*◌, List, [], ◌∷◌, ◌++◌, map, Bool, true, false, cond, ◌||◌, eqb}
use Prim.Native.Char.{code}
use Prim.Native.String.{String, [] as ε, ◌∷◌ as ◌∷ₛ◌, ◌++◌ as ◌⧺◌}

-- ---- marks

-- "mark (two ASCII letters)", as the little-endian number that the head of a record has
abbrev pub mark : String → ℕ
mark ε = 0
mark (c ∷ₛ s) = code c + 256 * mark s

-- a set of marks, written with a space between two of them, as their numbers
unfoldable pub marks : String → List ℕ
marks ε = []
marks (a ∷ₛ ε) = []
marks (a ∷ₛ (b ∷ₛ ε)) = (code a + 256 * code b) ∷ []
marks (a ∷ₛ (b ∷ₛ (c ∷ₛ s))) = (code a + 256 * code b) ∷ marks s

-- whether m is in a list
unfoldable pub member : ℕ → List ℕ → Bool
member m [] = false
member m (x ∷ xs) = eqb m x || member m xs

-- ---- what the table is made of

-- a slot: one child of the named marks; any number of them (`*`); the one child of a Pp, "Bd|Ag, whose Ag has no Pb or Po on the left"
pub data Part : Type 0 where
  one : String → Part
  many : String → Part
  property : Part

-- the form of a text: "empty text"; "any bytes"; "8 bytes of f64" (Nu); "sign byte (1 negative, else 0) and decimal digits without leading
-- zeros" (Bi); "4-byte context, symbol" (Id); "the cooked value, else empty" (Qu)
pub data Form : Type 0 where
  empty anything eight integer identifier cooked : Form

-- a line of the grammar
pub record Row : Type 0 where
  pub mark : ℕ
  pub form : Form
  pub parts : List Part

-- a mark, the form of its text and its slots; "Any other record may end in `Op` records"
abbrev pub row : String → Form → List Part → Row
row s f ps = record { mark = mark s; form = f; parts = ps ++ (many "Op" ∷ []) }

-- "`a|b` is a choice"
infixl 60 ◌or◌
abbrev pub ◌or◌ : String → String → String
a or b = a ⧺ (" " ⧺ b)

-- "`T?` means T or `No`"
abbrev pub optional : String → String
optional s = s or "No"

-- the sets that document 01 names: declarations, items, expressions, types, patterns, keys and members (reading 5)
abbrev pub declaration : String
declaration = "Fd Cd Vd Us En Ns In Ty"

abbrev pub item : String
item = "Im St Ed Xd Xe" or declaration

abbrev pub expression : String
expression = "Ss Nu Bi Bl Nl Re Jt Id Ar Ob Fx Aw Te Mi Ca Ne Mb Bn Oc Tc Nn Pr As Ts Ta Cx Oe"

abbrev pub type : String
type = "Kw Tl Rf Tf Li Ay Tu Rt Ro Ft Ct Ot"

abbrev pub pattern : String
pattern = "Bd Pb Po Rs Ag Pe Pi"

abbrev pub key : String
key = "Ki Ss Nu Bi Kc"

abbrev pub class_member : String
class_member = "Co Me Cp Ix Dm"

-- ---- the table

-- "`No` (absent) has no text and no children"
abbrev pub absent-row : Row
absent-row = record { mark = mark "No"; form = empty; parts = [] }

unfoldable pub grammar : List Row
grammar =
    row "Mo" empty (many item ∷ []) ∷  -- a module
    row "Op" anything [] ∷  -- an opaque part: source text
    absent-row ∷  -- absent
    row "Im" empty [] ∷  -- an import, a re-export or an export assignment
    row "St" empty [] ∷  -- any other statement
    row "Ed" empty (one declaration ∷ []) ∷  -- an exported declaration
    row "Xd" empty (one "Cx Fx In" ∷ []) ∷  -- a default export of a class, a function or an interface
    row "Xe" empty (one expression ∷ []) ∷  -- a default export of an expression
    row "Fd" empty (one "Id" ∷ one "Fu" ∷ []) ∷  -- a function declaration
    row "Cd" empty (one "Id" ∷ one "Cl" ∷ []) ∷  -- a class declaration
    row "Vd" empty (many "Vr" ∷ []) ∷  -- a variable declaration
    row "Us" empty [] ∷  -- a using declaration
    row "En" empty (one "Id" ∷ many "Em" ∷ []) ∷  -- an enum
    row "Ns" empty (one "Op" ∷ one (optional "Nb Nd") ∷ []) ∷  -- a namespace: its name, and its body
    row "In" empty [] ∷  -- an interface
    row "Ty" empty [] ∷  -- a type alias
    row "Vr" empty (one pattern ∷ one (optional expression) ∷ []) ∷  -- a variable: its pattern, and its init
    row "Em" empty (one "Op" ∷ one (optional expression) ∷ []) ∷  -- an enum's member: its name, and its init
    row "Nb" empty (many item ∷ []) ∷  -- a namespace's body, as items
    row "Nd" empty (one "Op" ∷ one "Nb Nd" ∷ []) ∷  -- a namespace's body, as a namespace inside: its name, and its body
    row "Fu" empty (one (optional "Op") ∷ one (optional type) ∷ one (optional "Op") ∷ many "Pa" ∷ []) ∷  -- what a function holds: type parameters, return type, body, parameters
    row "Pa" empty (one pattern ∷ []) ∷  -- a parameter
    row "Pp" empty (property ∷ []) ∷  -- a constructor's parameter that is a property
    row "Cl" empty (one (optional "Op") ∷ many class_member ∷ []) ∷  -- what a class holds: type parameters, members
    row "Co" empty (one (optional "Op") ∷ many "Pa Pp" ∷ []) ∷  -- a constructor: body, parameters
    row "Me" empty (one key ∷ one "Fu" ∷ []) ∷  -- a method, a getter or a setter
    row "Cp" empty (one key ∷ one (optional type) ∷ one (optional expression) ∷ []) ∷  -- a class property
    row "Dm" empty [] ∷  -- a private or empty member, a static block or an auto accessor
    row "Ix" empty [] ∷  -- an index signature
    row "Ps" empty (one expression ∷ one (optional type) ∷ []) ∷  -- a property of an object type
    row "Om" empty [] ∷  -- any other member of an object type
    row "Pb" empty (one (optional type) ∷ []) ∷  -- an array pattern
    row "Po" empty (one (optional type) ∷ []) ∷  -- an object pattern
    row "Bd" empty (one "Id" ∷ one (optional type) ∷ []) ∷  -- a name as a pattern
    row "Ag" empty (one pattern ∷ one expression ∷ []) ∷  -- a pattern with a default
    row "Rs" empty [] ∷  -- a rest pattern
    row "Pe" empty (one expression ∷ []) ∷  -- an expression as a pattern
    row "Pi" empty [] ∷  -- an invalid pattern
    row "Ki" anything [] ∷  -- a name as a key
    row "Kc" empty (one expression ∷ []) ∷  -- a computed key
    row "Ss" anything [] ∷  -- a string
    row "Nu" eight [] ∷  -- a number
    row "Bi" integer [] ∷  -- a big integer
    row "Bl" empty [] ∷  -- a boolean
    row "Nl" empty [] ∷  -- null
    row "Re" empty [] ∷  -- a regex
    row "Jt" empty [] ∷  -- JSX text
    row "Id" identifier [] ∷  -- an identifier
    row "Ar" empty (many (expression or "Sp No") ∷ []) ∷  -- an array
    row "Ob" empty (many "Kv Sh Pq Sp" ∷ []) ∷  -- an object
    row "Fx" empty (one (optional "Id") ∷ one "Fu" ∷ []) ∷  -- a function expression
    row "Cx" empty (one (optional "Id") ∷ one "Cl" ∷ []) ∷  -- a class expression
    row "Aw" empty (one (optional "Op") ∷ one (optional type) ∷ many pattern ∷ []) ∷  -- an arrow function: type parameters, return type, parameters
    row "Te" empty (many "Qu" ∷ many expression ∷ []) ∷  -- a template
    row "Mi" empty (one expression ∷ []) ∷  -- a unary minus
    row "Ca" empty (one expression ∷ many (expression or "Sp") ∷ []) ∷  -- a call
    row "Ne" empty (one expression ∷ one (optional "Op") ∷ []) ∷  -- an object made by new
    row "Mb" empty (one expression ∷ one "Ki Op" ∷ []) ∷  -- a member of an object
    row "Bn" empty (one expression ∷ one expression ∷ []) ∷  -- a binary expression
    row "Oc" empty (one "Mb Op" ∷ []) ∷  -- an optional chain
    row "Tc" empty (one expression ∷ []) ∷  -- an expression as const
    row "Nn" empty (one expression ∷ []) ∷  -- a non-null assertion
    row "Pr" empty (one expression ∷ []) ∷  -- an expression in parentheses
    row "As" empty (one expression ∷ one type ∷ []) ∷  -- an expression as a type
    row "Ts" empty (one expression ∷ one type ∷ []) ∷  -- an expression that satisfies a type
    row "Ta" empty (one expression ∷ one type ∷ []) ∷  -- an angle-bracket assertion
    row "Oe" empty [] ∷  -- any other expression
    row "Sp" empty (one expression ∷ []) ∷  -- a spread
    row "Kv" empty (one key ∷ one expression ∷ []) ∷  -- a key and its value
    row "Sh" empty (one "Id" ∷ []) ∷  -- a shorthand property
    row "Pq" empty [] ∷  -- any other property
    row "Qu" cooked [] ∷  -- a text between the expressions of a template
    row "Tm" empty (one (optional "Op") ∷ one type ∷ []) ∷  -- a member of a tuple type
    row "Kw" anything [] ∷  -- a keyword type
    row "Tl" empty (one "Ss Nu Bi Bl Op" ∷ []) ∷  -- a literal type
    row "Rf" empty (one "Id Op" ∷ one (optional "Op") ∷ []) ∷  -- a type reference
    row "Tf" empty (one "Id Op" ∷ []) ∷  -- a typeof type
    row "Li" empty (many "Ps Ix Om" ∷ []) ∷  -- an object type
    row "Ay" empty [] ∷  -- an array type
    row "Tu" empty (many "Tm" ∷ []) ∷  -- a tuple type
    row "Rt" empty (one type ∷ []) ∷  -- a rest type
    row "Ro" empty (one type ∷ []) ∷  -- a readonly type
    row "Ft" empty (one (optional "Op") ∷ one type ∷ many pattern ∷ []) ∷  -- a function type: type parameters, return type, parameters
    row "Ct" empty [] ∷  -- a constructor type
    row "Ot" empty [] ∷  -- any other type
    []

-- the slot of a tree's root: "root must be Mo"
abbrev pub root : List Part
root = one "Mo" ∷ []

-- the slots of an Ag that is the child of a Pp: no Pb or Po on the left
abbrev pub undestructured : List Part
undestructured = one "Bd Rs Ag Pe Pi" ∷ one expression ∷ many "Op" ∷ []

-- ---- reading the grammar

-- the columns of the table
unfoldable pub known : List ℕ
unfolding grammar
known = map (λ (r : Row). r.mark) grammar

unfoldable pub forms : List Form
unfolding grammar
forms = map (λ (r : Row). r.form) grammar

unfoldable pub slots : List (List Part)
unfolding grammar
slots = map (λ (r : Row). r.parts) grammar

-- the place of m in a list, and the list's length where it has no m
unfoldable pub place : List ℕ → ℕ → ℕ
place [] m = 0
place (x ∷ xs) m = cond (eqb x m) 0 (suc (place xs m))

-- ---- slots, as what is left of a list of parts

-- whether a record with the mark m may stand at the first of the slots ps
unfoldable pub allowed : List Part → ℕ → Bool
allowed [] m = false
allowed (one s ∷ ps) m = member m (marks s)
allowed (many s ∷ ps) m = member m (marks s) || allowed ps m
allowed (property ∷ ps) m = member m (marks "Bd Ag")

-- the slots that are left after such a record
unfoldable pub after : List Part → ℕ → List Part
after [] m = []
after (one s ∷ ps) m = ps
after (many s ∷ ps) m = cond (member m (marks s)) (many s ∷ ps) (after ps m)
after (property ∷ ps) m = ps

-- how many records have to stand there: fewer are "too few children"
unfoldable pub least : List Part → ℕ
least [] = 0
least (one s ∷ ps) = suc (least ps)
least (many s ∷ ps) = least ps
least (property ∷ ps) = suc (least ps)

-- whether the first slot is the one of a Pp
unfoldable pub is_property : List Part → Bool
is_property [] = false
is_property (one s ∷ ps) = false
is_property (many s ∷ ps) = false
is_property (property ∷ ps) = true
