-- Request §3: "Write the text of any accepted tree, with two spaces of indent per Ns and one item to a line." The tokens of each mark, as a table with
-- a row for each; then lines; then the call.
use Rattle.std.specs.Prelude.{ℕ, zero, suc, ◌+◌, ◌/◌, ◌%◌, min, List, [], ◌∷◌, ◌++◌, Bool, true, false, cond, not, ◌&&◌, ◌||◌, length, get_or, drop, eqb, leb, ltb}
use Prim.Native.String.{String}
use Rattle.std.proofs.Math.Option.{Option, none, some}
use Rattle.definition.specs.Tree.{Head, Rec, Recs, rec, nil, cons, head_size, encode, tree_at}
use Rattle.definition.specs.Grammar.{mark, marks, member}
use Rattle.definition.specs.Check.{Checked, fine, refused as rejected, longest_tree, deepest, check_tree}
use Rattle.definition.specs.Record.{text, is, is_no, absent, has_flag}
use Rattle.definition.specs.Record as Record
use Rattle.definition.specs.Names.{decimal}
use Rattle.definition.specs.Numerals.{bits_of, is_negative, whole_of}
use Rattle.definition.specs.Transform.{Answer, done, refused, over}

-- ---- tokens

-- a token; an own token of a template that follows another of the same template, so that no space parts the two; the place of a written number
-- outside the forms, which is refused
pub data Token : Type 0 where
  token : List ℕ → Token
  own : List ℕ → Token
  outside : ℕ → Token

-- "In strings (double quotes) and Qu, bytes below 32 and " \ ` $ become \u and four small hex digits."
abbrev pub hex_digit : ℕ → ℕ
hex_digit d = cond (ltb d 10) (48 + d) (87 + d)

abbrev pub is_escaped : ℕ → Bool
is_escaped b = ltb b 32 || (eqb b 34 || (eqb b 36 || (eqb b 92 || eqb b 96)))

unfoldable pub escaped_byte : ℕ → List ℕ
escaped_byte b = cond (is_escaped b) (92 ∷ 117 ∷ 48 ∷ 48 ∷ hex_digit (b / 16) ∷ hex_digit (b % 16) ∷ []) (b ∷ [])

unfoldable pub escaped : List ℕ → List ℕ
escaped [] = []
escaped (b ∷ bs) = escaped_byte b ++ escaped bs

-- a string; a big integer, whose text is a sign byte and digits
abbrev pub string_token : List ℕ → List ℕ
string_token t = 34 ∷ (escaped t ++ (34 ∷ []))

abbrev pub minus : Bool → List ℕ
minus negative = cond negative (text "-") []

abbrev pub integer_token : List ℕ → List ℕ
integer_token t = minus (eqb (get_or t 0 0) 1) ++ (drop 1 t ++ text "n")

-- "otherwise it is written in decimal if it is whole and below 2 to the 53 in size. Negative zero is written -0": the number with these bits, at an
-- offset
abbrev pub decimal_token : ℕ → ℕ → Option ℕ → Token
decimal_token at b none = outside at
decimal_token at b (some n) = token (minus (is_negative b) ++ decimal n)

-- ---- what is asked of tokens

-- whether something is written for a token, or for one of a list
abbrev pub full : List ℕ → Bool
full [] = false
full (b ∷ bs) = true

abbrev pub is_written : Token → Bool
is_written (token t) = full t
is_written (own t) = full t
is_written (outside at) = false

unfoldable pub any_written : List Token → Bool
any_written [] = false
any_written (t ∷ ts) = is_written t || any_written ts

-- the last byte that is written for them; x where there is none
abbrev pub last_byte : ℕ → List ℕ → ℕ
last_byte x [] = x
last_byte x (b ∷ bs) = last_byte b bs

abbrev pub last_of_token : ℕ → Token → ℕ
last_of_token x (token t) = last_byte x t
last_of_token x (own t) = last_byte x t
last_of_token x (outside at) = x

unfoldable pub last_written : ℕ → List Token → ℕ
last_written x [] = x
last_written x (t ∷ ts) = last_written (last_of_token x t) ts

-- the first place of a number outside the forms, among theirs and x
abbrev pub first_of_token : ℕ → Token → ℕ
first_of_token x (token t) = x
first_of_token x (own t) = x
first_of_token x (outside at) = min x at

unfoldable pub first_place : ℕ → List Token → ℕ
first_place x [] = x
first_place x (t ∷ ts) = first_place (first_of_token x t) ts

-- ---- what the table is made of

-- when a piece is written: always; the flag is set; it isn't; flag 2 is set and flag 1 isn't; the child at a place isn't `No`; the second child is an
-- `Nd`; the text of the first begins with a quote; it doesn't; the record is the child of an `Oc`; it isn't, and its second child is a `Ki`
pub data When : Type 0 where
  always : When
  flagged unflagged : ℕ → When
  getter : When
  there : ℕ → When
  dotted quoted unquoted chained linked : When

-- what is written: a token; T(the child at a place); `Ops`; list(the children behind the slots that are counted), members(those); a template;
-- the record's own text, or symbol, as it stands; a string, a number, a big integer
pub data What : Type 0 where
  a_token : List ℕ → What
  a_child : ℕ → What
  the_ops the_list the_members the_template the_text the_symbol the_string the_number the_integer : What

pub record Piece : Type 0 where
  pub when : When
  pub what : What

-- the marks of a row, the number of their slots for one child each, and the pieces
pub record Row : Type 0 where
  pub marks : List ℕ
  pub slots : ℕ
  pub pieces : List Piece

abbrev pub row : String → ℕ → List Piece → Row
row s n ps = record { marks = marks s; slots = n; pieces = ps }

-- pieces, as the table names them
abbrev pub piece : What → Piece
piece w = record { when = always; what = w }

abbrev pub word : String → Piece
word s = piece (a_token (text s))

abbrev pub word_if : When → String → Piece
word_if c s = record { when = c; what = a_token (text s) }

abbrev pub kid : ℕ → Piece
kid i = piece (a_child i)

abbrev pub ops : Piece
ops = piece the_ops

abbrev pub list : Piece
list = piece the_list

abbrev pub members : Piece
members = piece the_members

-- ---- the table: "The text is fixed by a definition for each mark, written from the handbook". The page of the handbook stands above its marks

unfoldable pub text_rows : List Row
text_rows =
    -- "Modules"
    row "Ed" 1 (ops ∷ word "export" ∷ kid 0 ∷ []) ∷
    row "Xd Xe" 1 (ops ∷ word "export" ∷ word "default" ∷ kid 0 ∷ []) ∷
    -- what is opaque: its source
    row "Mo Im In Ty Us Oe Ot Om Ay Ct Rs Pi Pq Re" 0 (ops ∷ []) ∷
    row "Op" 0 (piece the_text ∷ ops ∷ []) ∷
    -- "More on Functions", "Classes", "Variable Declaration", "Enums", "Namespaces"; `declare`: "Declaration Reference"
    row "Fd" 2 (word_if (flagged 1) "declare" ∷ ops ∷ word "function" ∷ kid 0 ∷ kid 1 ∷ []) ∷
    row "Cd" 2 (word_if (flagged 1) "declare" ∷ ops ∷ word "class" ∷ kid 0 ∷ kid 1 ∷ []) ∷
    row "Vd" 0 (word_if (flagged 1) "declare" ∷ ops ∷ word_if (flagged 2) "const" ∷ word_if (unflagged 2) "let" ∷ list ∷ []) ∷
    row "Vr" 2 (ops ∷ kid 0 ∷ []) ∷
    row "En" 1 (word_if (flagged 1) "declare" ∷ ops ∷ word "enum" ∷ kid 0 ∷ word "{" ∷ list ∷ word "}" ∷ []) ∷
    row "Em" 2 (ops ∷ kid 0 ∷ word_if (there 1) "=" ∷ kid 1 ∷ []) ∷
    row "Ns" 2 (
    word_if (flagged 1) "declare" ∷ ops ∷ word_if unquoted "namespace" ∷ word_if quoted "module" ∷ kid 0 ∷ word_if dotted "." ∷ kid 1 ∷ []) ∷
    row "Nb" 0 (ops ∷ word "{" ∷ []) ∷
    row "Nd" 2 (ops ∷ kid 0 ∷ word_if dotted "." ∷ kid 1 ∷ []) ∷
    -- "More on Functions": parameters, return types
    row "Fu" 3 (ops ∷ kid 0 ∷ word "(" ∷ list ∷ word ")" ∷ word_if (there 1) ":" ∷ kid 1 ∷ []) ∷
    row "Pa Pp" 1 (ops ∷ kid 0 ∷ []) ∷
    -- "Classes": class members, constructors, getters and setters, static members, index signatures, parameter properties
    row "Cl" 1 (kid 0 ∷ ops ∷ word "{" ∷ members ∷ word "}" ∷ []) ∷
    row "Co" 1 (ops ∷ word "constructor" ∷ word "(" ∷ list ∷ word ")" ∷ []) ∷
    row "Me" 2 (ops ∷ word_if (flagged 4) "static" ∷ word_if (flagged 1) "set" ∷ word_if getter "get" ∷ kid 0 ∷ kid 1 ∷ []) ∷
    row "Cp" 3 (word_if (flagged 1) "declare" ∷ ops ∷ kid 0 ∷ word_if (flagged 2) "!" ∷ word_if (there 1) ":" ∷ kid 1 ∷ []) ∷
    row "Ix" 0 (word_if (flagged 1) "readonly" ∷ ops ∷ []) ∷
    -- "Variable Declaration", "More on Functions": names and patterns, optional parameters, defaults
    row "Bd" 2 (ops ∷ kid 0 ∷ word_if (there 1) ":" ∷ kid 1 ∷ []) ∷
    row "Pb Po" 1 (ops ∷ word_if (flagged 1) "?" ∷ word_if (there 0) ":" ∷ kid 0 ∷ []) ∷
    row "Ag" 2 (ops ∷ kid 0 ∷ word "=" ∷ kid 1 ∷ []) ∷
    row "Pe" 1 (ops ∷ kid 0 ∷ []) ∷
    -- "Object Types": keys
    row "Ki" 0 (ops ∷ piece the_text ∷ []) ∷
    row "Kc" 1 (ops ∷ word "[" ∷ kid 0 ∷ word "]" ∷ []) ∷
    row "Id" 0 (ops ∷ piece the_symbol ∷ word_if (flagged 1) "?" ∷ []) ∷
    -- "Everyday Types": literals
    row "Ss" 0 (piece the_string ∷ []) ∷
    row "Nu" 0 (piece the_number ∷ []) ∷
    row "Bi" 0 (piece the_integer ∷ []) ∷
    row "Bl" 0 (word_if (flagged 1) "true" ∷ word_if (unflagged 1) "false" ∷ []) ∷
    row "Nl" 0 (word "null" ∷ []) ∷
    -- expressions, as JavaScript has them: "The Basics"
    row "Ar" 0 (ops ∷ word "[" ∷ list ∷ word "]" ∷ []) ∷
    row "Sp" 1 (ops ∷ word "..." ∷ kid 0 ∷ []) ∷
    row "Ob" 0 (ops ∷ word "{" ∷ list ∷ word "}" ∷ []) ∷
    row "Kv" 2 (ops ∷ kid 0 ∷ word ":" ∷ kid 1 ∷ []) ∷
    row "Sh" 1 (ops ∷ kid 0 ∷ []) ∷
    row "Fx" 2 (ops ∷ word "function" ∷ kid 0 ∷ kid 1 ∷ []) ∷
    row "Aw" 2 (ops ∷ kid 0 ∷ word "(" ∷ list ∷ word ")" ∷ word_if (there 1) ":" ∷ kid 1 ∷ word "=>" ∷ []) ∷
    row "Te" 0 (ops ∷ piece the_template ∷ []) ∷
    row "Mi" 1 (ops ∷ word "-" ∷ kid 0 ∷ []) ∷
    row "Ca" 1 (ops ∷ kid 0 ∷ word "(" ∷ list ∷ word ")" ∷ []) ∷
    row "Ne" 2 (ops ∷ word "new" ∷ kid 0 ∷ kid 1 ∷ []) ∷
    row "Mb" 2 (ops ∷ kid 0 ∷ word_if linked "." ∷ word_if chained "?." ∷ kid 1 ∷ []) ∷
    row "Bn" 2 (kid 0 ∷ ops ∷ kid 1 ∷ []) ∷
    row "Oc" 1 (ops ∷ kid 0 ∷ []) ∷
    row "Pr" 1 (ops ∷ word "(" ∷ kid 0 ∷ word ")" ∷ []) ∷
    row "Cx" 2 (ops ∷ word "class" ∷ kid 0 ∷ kid 1 ∷ []) ∷
    -- "Everyday Types": type assertions, the non-null assertion, `as const`; "TypeScript 4.9": `satisfies`
    row "Tc" 1 (ops ∷ kid 0 ∷ word "as" ∷ word "const" ∷ []) ∷
    row "Nn" 1 (ops ∷ kid 0 ∷ word "!" ∷ []) ∷
    row "As" 2 (ops ∷ kid 0 ∷ word "as" ∷ kid 1 ∷ []) ∷
    row "Ts" 2 (ops ∷ kid 0 ∷ word "satisfies" ∷ kid 1 ∷ []) ∷
    row "Ta" 2 (ops ∷ word "<" ∷ kid 1 ∷ word ">" ∷ kid 0 ∷ []) ∷
    -- "Everyday Types": the primitives, literal types; "Generics"; "Typeof Type Operator"
    row "Kw" 0 (ops ∷ piece the_text ∷ []) ∷
    row "Tl" 1 (ops ∷ kid 0 ∷ []) ∷
    row "Rf" 2 (ops ∷ kid 0 ∷ kid 1 ∷ []) ∷
    row "Tf" 1 (ops ∷ word "typeof" ∷ kid 0 ∷ []) ∷
    -- "Object Types": properties, optional and readonly ones, tuples and their labels, readonly ones
    row "Li" 0 (ops ∷ word "{" ∷ members ∷ word "}" ∷ []) ∷
    row "Ps" 2 (
    word_if (flagged 1) "readonly" ∷ ops ∷ word_if (flagged 2) "[" ∷ kid 0 ∷ word_if (flagged 2) "]" ∷ word_if (flagged 4) "?" ∷
    word_if (there 1) ":" ∷ kid 1 ∷ []) ∷
    row "Tu" 0 (ops ∷ word "[" ∷ list ∷ word "]" ∷ []) ∷
    row "Tm" 2 (ops ∷ kid 0 ∷ word_if (there 0) ":" ∷ kid 1 ∷ []) ∷
    row "Rt" 1 (ops ∷ word "..." ∷ kid 0 ∷ []) ∷
    row "Ro" 1 (word "readonly" ∷ ops ∷ kid 0 ∷ []) ∷
    -- "More on Functions": function type expressions
    row "Ft" 2 (ops ∷ kid 0 ∷ word "(" ∷ list ∷ word ")" ∷ word "=>" ∷ kid 1 ∷ []) ∷
    -- what has no tokens of its own: a Qu's are its template's
    row "St Dm No Jt Qu" 0 [] ∷
    []

-- the row of a mark
unfoldable pub row_in : List Row → ℕ → Row
row_in [] m = row "" 0 []
row_in (r ∷ rs) m = cond (member m r.marks) r (row_in rs m)

-- ---- the tokens of a record, by its children

-- a child, and its tokens
pub record Child : Type 0 where
  pub itself : Rec
  pub tokens : List Token

abbrev pub no_child : Child
no_child = record { itself = absent; tokens = [] }

abbrev pub nth : ℕ → List Child → Child
nth i cs = get_or cs i no_child

-- "`module` instead of `namespace` if the name Op's own text begins with `"` or `'`"
abbrev pub is_quoted : List ℕ → Bool
is_quoted t = eqb (get_or t 0 0) 34 || eqb (get_or t 0 0) 39

-- whether a piece is written, of a record with the head h and the children cs; under says whether an Oc holds the record
unfoldable pub holds : When → Bool → Head → List Child → Bool
holds always under h cs = true
holds (flagged b) under h cs = has_flag b h.flags
holds (unflagged b) under h cs = not (has_flag b h.flags)
holds getter under h cs = has_flag 2 h.flags && not (has_flag 1 h.flags)
holds (there i) under h cs = not (is_no (nth i cs).itself)
holds dotted under h cs = is "Nd" (nth 1 cs).itself
holds quoted under h cs = is_quoted (Record.text_of (nth 0 cs).itself)
holds unquoted under h cs = not (is_quoted (Record.text_of (nth 0 cs).itself))
holds chained under h cs = under
holds linked under h cs = not under && is "Ki" (nth 1 cs).itself

-- what f gives for each child, which is told those that follow
unfoldable pub each_of : (Child → List Child → List Token) → List Child → List Token
each_of f [] = []
each_of f (c ∷ cs) = f c cs ++ each_of f cs

-- "`Ops` are the tokens of a record's trailing Ops, in order"
abbrev pub op_of : Child → List Child → List Token
op_of c cs = cond (is "Op" c.itself) c.tokens []

-- "`list(xs)` is the tokens with `,` between", and of an Ar, which alone has holes, "one `,` more if the last element is a hole"
abbrev pub more : List Child → Bool
more [] = false
more (c ∷ cs) = not (is "Op" c.itself)

abbrev pub comma : Child → List Child → List Token
comma c cs = cond (more cs || is_no c.itself) (token (text ",") ∷ []) []

abbrev pub element_of : Child → List Child → List Token
element_of c cs = cond (is "Op" c.itself) [] (c.tokens ++ comma c cs)

-- "each ending in one `;`: the token `;` follows it unless its last nonempty token, whatever record it comes from, ends in `;` already"
unfoldable pub closed : List Token → List Token
closed ts = ts ++ cond (any_written ts && eqb (last_written 0 ts) 59) [] (token (text ";") ∷ [])

-- "`members` is the tokens of each member, `Dm`s left out"
abbrev pub member_of : Child → List Child → List Token
member_of c cs = cond (is "Op" c.itself || is "Dm" c.itself) [] (closed c.tokens)

-- the children of a template: the `Qu`s, and behind them the expressions
unfoldable pub quasis : List Child → List (List ℕ)
quasis [] = []
quasis (c ∷ cs) = cond (is "Qu" c.itself) (Record.text_of c.itself ∷ quasis cs) []

unfoldable pub behind_quasis : List Child → List Child
behind_quasis [] = []
behind_quasis (c ∷ cs) = cond (is "Qu" c.itself) (behind_quasis cs) (c ∷ cs)

unfoldable pub expressions : List Child → List (List Token)
expressions [] = []
expressions (c ∷ cs) = cond (is "Op" c.itself) [] (c.tokens ∷ expressions cs)

-- "`${` T(next expression) `}`"; "No space where an expression without tokens leaves two own tokens side by side: `${}`"
unfoldable pub in_braces : List Token → List Token
in_braces ts = own (text "${") ∷ (ts ++ (cond (any_written ts) (token (text "}")) (own (text "}")) ∷ []))

-- "in turns the text of the next `Qu` and `${` T(next expression) `}` until both have run out"
unfoldable pub in_turns : List (List ℕ) → List (List Token) → List Token
in_turns [] [] = []
in_turns [] (e ∷ es) = in_braces e ++ in_turns [] es
in_turns (q ∷ qs) [] = own (escaped q) ∷ in_turns qs []
in_turns (q ∷ qs) (e ∷ es) = own (escaped q) ∷ (in_braces e ++ in_turns qs es)

-- "own tokens: a backtick, ..., a backtick"
unfoldable pub template_of : List Child → List Token
template_of cs = token (96 ∷ []) ∷ (in_turns (quasis cs) (expressions (behind_quasis cs)) ++ (own (96 ∷ []) ∷ []))

-- "A number uses its raw spelling, its first Op, where it has one"
unfoldable pub number_of : ℕ → List ℕ → List Child → List Token
number_of at t [] = decimal_token at (bits_of t) (whole_of (bits_of t)) ∷ []
number_of at t (c ∷ cs) = c.tokens

-- what a piece writes: of a record at an offset, with n slots for one child each
unfoldable pub what_tokens : What → ℕ → ℕ → Head → List Child → List Token
what_tokens (a_token t) n at h cs = token t ∷ []
what_tokens (a_child i) n at h cs = (nth i cs).tokens
what_tokens the_ops n at h cs = each_of op_of (drop n cs)
what_tokens the_list n at h cs = each_of element_of (drop n cs)
what_tokens the_members n at h cs = each_of member_of (drop n cs)
what_tokens the_template n at h cs = template_of cs
what_tokens the_text n at h cs = token h.text ∷ []
what_tokens the_symbol n at h cs = token (drop 4 h.text) ∷ []
what_tokens the_string n at h cs = token (string_token h.text) ∷ []
what_tokens the_number n at h cs = number_of at h.text cs
what_tokens the_integer n at h cs = token (integer_token h.text) ∷ []

abbrev pub piece_tokens : Piece → Bool → ℕ → ℕ → Head → List Child → List Token
piece_tokens p under n at h cs = cond (holds p.when under h cs) (what_tokens p.what n at h cs) []

unfoldable pub pieces_tokens : List Piece → Bool → ℕ → ℕ → Head → List Child → List Token
pieces_tokens [] under n at h cs = []
pieces_tokens (p ∷ ps) under n at h cs = piece_tokens p under n at h cs ++ pieces_tokens ps under n at h cs

abbrev pub row_tokens : Row → Bool → ℕ → Head → List Child → List Token
row_tokens r under at h cs = pieces_tokens r.pieces under r.slots at h cs

-- the size of a record, and where the children of one begin
abbrev pub size_of : Rec → ℕ
size_of r = length (encode r)

abbrev pub body_of : ℕ → Head → ℕ
body_of at h = at + head_size + length h.text

-- T(the record at an offset); `under` says whether an Oc holds it
unfoldable mutual
  pub tokens : Rec → Bool → ℕ → List Token
  tokens (rec h ks) under at = row_tokens (row_in text_rows h.mark) under at h (children ks (eqb h.mark (mark "Oc")) (body_of at h))

  pub children : Recs → Bool → ℕ → List Child
  children nil under at = []
  children (cons r rs) under at = record { itself = r; tokens = tokens r under at } ∷ children rs under (at + size_of r)

-- ---- lines

-- "two spaces for each `Ns` around it, its tokens, a line feed"
pub record Line : Type 0 where
  pub spaces : ℕ
  pub tokens : List Token

-- an item that d Ns records hold, before the lines of its block. "Every item but an `St` is one line"; Ops behind them are no items
abbrev pub item_line : Rec → ℕ → ℕ → List Line → List Line
item_line r d at block = cond (is "St" r || is "Op" r) [] (record { spaces = d; tokens = tokens r false at } ∷ block)

unfoldable mutual
  -- the lines of items that d Ns records hold, from an offset on
  pub items_lines : Recs → ℕ → ℕ → List Line
  items_lines nil d at = []
  items_lines (cons r rs) d at = item_line r d at (block_lines r d at) ++ items_lines rs d (at + size_of r)

  -- "A namespace's block opens at the end of its line, its items follow on their lines, and `}` stands on a line of its own with the indent of the
  -- `Ns`": the block in an item, an Ed leading to its declaration, an Ns or an Nd to its body
  pub block_lines : Rec → ℕ → ℕ → List Line
  block_lines (rec h ks) d at =
      cond (eqb h.mark (mark "Nb")) (items_lines ks (suc d) (body_of at h) ++ (record { spaces = d; tokens = token (text "}") ∷ [] } ∷ []))
      (cond (eqb h.mark (mark "Ed")) (first_block ks d (body_of at h))
      (cond (eqb h.mark (mark "Ns") || eqb h.mark (mark "Nd")) (second_block ks d (body_of at h)) []))

  pub first_block : Recs → ℕ → ℕ → List Line
  first_block nil d at = []
  first_block (cons r rs) d at = block_lines r d at

  pub second_block : Recs → ℕ → ℕ → List Line
  second_block nil d at = []
  second_block (cons r rs) d at = first_block rs d (at + size_of r)

-- "A `Mo`'s own Ops, if any of their tokens is nonempty, are a first line."
abbrev pub first_line : List Token → List Line
first_line ts = cond (any_written ts) (record { spaces = 0; tokens = ts } ∷ []) []

unfoldable pub lines_of : Rec → List Line
lines_of (rec h ks) = first_line (tokens (rec h ks) false 0) ++ items_lines ks 0 (body_of 0 h)

-- ---- bytes

-- "One space parts two nonempty tokens, unless both are one template's own": a token on a line that has one already, or not
abbrev pub spaced : Bool → List ℕ → List ℕ
spaced begun [] = []
spaced begun (b ∷ bs) = cond begun (32 ∷ b ∷ bs) (b ∷ bs)

abbrev pub token_bytes : Bool → Token → List ℕ
token_bytes begun (token t) = spaced begun t
token_bytes begun (own t) = t
token_bytes begun (outside at) = []

unfoldable pub tokens_bytes : Bool → List Token → List ℕ
tokens_bytes begun [] = []
tokens_bytes begun (t ∷ ts) = token_bytes begun t ++ tokens_bytes (begun || is_written t) ts

unfoldable pub indent : ℕ → List ℕ
indent zero = []
indent (suc d) = 32 ∷ 32 ∷ indent d

abbrev pub line_bytes : Line → List ℕ
line_bytes l = indent l.spaces ++ (tokens_bytes false l.tokens ++ (10 ∷ []))

unfoldable pub lines_bytes : List Line → List ℕ
lines_bytes [] = []
lines_bytes (l ∷ ls) = line_bytes l ++ lines_bytes ls

-- the text of a Mo
unfoldable pub text_of : Rec → List ℕ
text_of r = lines_bytes (lines_of r)

-- ---- the call

-- an offset past every tree
abbrev pub nowhere : ℕ
nowhere = longest_tree

-- the first place of a number outside the forms, among those of lines and x
unfoldable pub first_outside : ℕ → List Line → ℕ
first_outside x [] = x
first_outside x (l ∷ ls) = first_outside (first_place x l.tokens) ls

-- the answer, and the contents of the buffer afterwards
pub record Written : Type 0 where
  pub answer : Answer
  pub out : List ℕ

-- "11, a written number outside these forms, the first in preorder, its offset the place, before the room is tested"; "A buffer too short gets 9"
unfoldable pub written_text : List Line → List ℕ → Written
written_text ls out =
    cond (ltb (first_outside nowhere ls) nowhere) (record { answer = refused 11 (first_outside nowhere ls); out = out })
    (cond (leb (length (lines_bytes ls)) (length out))
    (record { answer = done (length (lines_bytes ls)) 0; out = over (lines_bytes ls) out })
    (record { answer = refused 9 0; out = out }))

unfoldable pub text_by : Checked → List ℕ → List ℕ → Written
text_by (rejected number place) tree out = record { answer = refused number place; out = out }
text_by (fine end) tree out = written_text (lines_of (tree_at deepest tree 0)) out

-- the call on a tree, with the contents of the buffer: "Tests in order: 1, the tree's 3 to 8, 11, 9"
unfoldable pub call_text : List ℕ → List ℕ → Written
call_text tree out = text_by (check_tree tree []) tree out
