-- What the TypeScript handbook says of declarations, as definitions on trees: types of literals, const assertions, written types, overloads, enum
-- members, namespaces. Written from the handbook and not from the Rust. With the definitions of the transform they share Tree, Grammar and Record:
-- the parts of a record, how one is made afresh, and whether its range is in the overload list (`listed`); nothing of Helpers, Prescan, Names,
-- Typing, Classes, Enums and Items. What stands in place of each Nd is put there by `replaced` (Dotted). Each is for a fragment of the language and
-- gives none, or false, outside it.
use Rattle.std.specs.Prelude.{ℕ, ◌+◌, ◌%◌, ◌≡◌, List, [], ◌∷◌, ◌++◌, Bool, true, false, cond, not, ◌&&◌, ◌||◌, eqb, drop}
use Prim.Native.String.{String}
use Rattle.std.proofs.Math.Option.{Option, none, some}
use Rattle.definition.specs.Tree.{Head, Rec, Recs, rec, nil, cons, le4}
use Rattle.definition.specs.Grammar.{mark}
use Rattle.definition.specs.Dotted.{replaced}
use Rattle.definition.specs.Record.{text, same_text, head_of, kids_of, mark_of, text_of, is, among, is_no, absent, fresh, ranged, with_text, flag1, has1, kid, one, given, present, listed}

-- ---- types, as records

-- a keyword: "The primitives: string, number, and boolean"
abbrev pub keyword : String → Rec
keyword s = rec (fresh "Kw" 0 (text s)) nil

-- the type that only this literal has: "Literal Types"
abbrev pub literal_type : Rec → Rec
literal_type l = rec (fresh "Tl" 0 []) (one l)

-- "Tuple Types", of an array literal with the head h
abbrev pub tuple : Head → Recs → Rec
tuple h ts = rec (ranged "Tu" h []) ts

-- an element of a tuple, with no label
abbrev pub tuple_element : Rec → Rec
tuple_element t = rec (fresh "Tm" 0 []) (cons (rec (fresh "No" 0 []) nil) (one t))

-- "readonly Tuple Types"
abbrev pub readonly_tuple : Head → Recs → Rec
readonly_tuple h ts = rec (fresh "Ro" 0 []) (one (tuple h ts))

-- "Object Types", of an object literal with the head h
abbrev pub object_type : Head → Recs → Rec
object_type h ms = rec (ranged "Li" h []) ms

-- a property with its key and its type: one of the "readonly Properties" where the flag is set
abbrev pub property : Bool → Rec → Rec → Rec
property readonly key t = rec (fresh "Ps" (cond readonly 1 0) []) (cons key (one t))

-- the key of a property: an identifier or a string
unfoldable pub property_key : Rec → Option Rec
property_key k =
    cond (is "Ki" k) (some (rec (ranged "Id" (head_of k) (le4 0 ++ text_of k)) nil))
    (cond (is "Ss" k) (some k) none)

-- ---- literals

-- nothing but Ops
unfoldable pub only_ops : Recs → Bool
only_ops nil = true
only_ops (cons r rs) = is "Op" r && only_ops rs

-- "a template literal without substitutions": one cooked piece, and no expression
unfoldable pub plain_template : Recs → Option (List ℕ)
plain_template nil = none
plain_template (cons q ops) = cond ((is "Qu" q && has1 (head_of q)) && only_ops ops) (some (text_of q)) none

-- the bytes of -x for an f64 x, of which the last holds the sign
unfoldable pub negated_number : List ℕ → Option (List ℕ)
negated_number [] = none
negated_number (a ∷ []) = some ((a + 128) % 256 ∷ [])
negated_number (a ∷ b ∷ bs) = given (negated_number (b ∷ bs)) none (λ cs. some (a ∷ cs))

-- the sign and the digits of -x for a big integer x, where zero has no sign
unfoldable pub negated_integer : List ℕ → Option (List ℕ)
negated_integer [] = none
negated_integer (sign ∷ ds) = some (cond (same_text ds (text "0")) 0 (cond (eqb sign 1) 0 1) ∷ ds)

-- a literal with another value
abbrev pub valued : Rec → List ℕ → Rec
valued l t = rec (with_text (head_of l) t) nil

-- the literal that a minus before a number makes: "-1 | 0 | 1" are literal types
unfoldable pub negated_literal : Rec → Option Rec
negated_literal l =
    cond (is "Nu" l) (given (negated_number (text_of l)) none (λ t. some (valued l t)))
    (cond (is "Bi" l) (given (negated_integer (text_of l)) none (λ t. some (valued l t))) none)

-- its type where it can be changed
unfoldable pub negated_keyword : Rec → Option Rec
negated_keyword l = cond (is "Nu" l) (some (keyword "number")) (cond (is "Bi" l) (some (keyword "bigint")) none)

-- ---- expressions of the fragment

-- what an expression is, as far as the fragment goes
pub data Literal : Type 0 where
  h_string h_number h_integer h_boolean h_null h_negated h_template h_array h_object h_else : Literal

-- by its mark
unfoldable pub literal_kind : ℕ → Literal
literal_kind m =
    cond (eqb m (mark "Ss")) h_string
    (cond (eqb m (mark "Nu")) h_number
    (cond (eqb m (mark "Bi")) h_integer
    (cond (eqb m (mark "Bl")) h_boolean
    (cond (eqb m (mark "Nl")) h_null
    (cond (eqb m (mark "Mi")) h_negated
    (cond (eqb m (mark "Te")) h_template
    (cond (eqb m (mark "Ar")) h_array
    (cond (eqb m (mark "Ob")) h_object h_else))))))))

-- both, or none
abbrev pub and_then : Option Rec → Option Recs → Option Recs
and_then x xs = given x none (λ a. given xs none (λ bs. some (cons a bs)))

-- ---- the types of literal expressions

-- "const assertions", where the flag is set: "no literal types in that expression should be widened", "array literals become readonly tuples",
-- "object literals get readonly properties". "Literal Inference", where it is not: for what can be changed the type is widened, and "TypeScript
-- assumes that the properties of that object might change values later"; the type of an array has no record of its own for its elements. `null` is
-- its own type, as `strictNullChecks` has it
unfoldable pub type_by : Literal → Bool → Rec → Option Recs → Option Recs → Option Rec
type_by h_string true e elements members = some (literal_type e)
type_by h_number true e elements members = some (literal_type e)
type_by h_integer true e elements members = some (literal_type e)
type_by h_boolean true e elements members = some (literal_type e)
type_by h_null true e elements members = some (keyword "null")
type_by h_negated true e elements members = given (negated_literal (kid 0 (kids_of e))) none (λ l. some (literal_type l))
type_by h_template true e elements members = given (plain_template (kids_of e)) none (λ t. some (literal_type (rec (fresh "Ss" 0 t) nil)))
type_by h_array true e elements members = given elements none (λ ts. some (readonly_tuple (head_of e) ts))
type_by h_object true e elements members = given members none (λ ms. some (object_type (head_of e) ms))
type_by h_else true e elements members = none
type_by h_string false e elements members = some (keyword "string")
type_by h_number false e elements members = some (keyword "number")
type_by h_integer false e elements members = some (keyword "bigint")
type_by h_boolean false e elements members = some (keyword "boolean")
type_by h_null false e elements members = some (keyword "null")
type_by h_negated false e elements members = negated_keyword (kid 0 (kids_of e))
type_by h_template false e elements members = some (keyword "string")
type_by h_array false e elements members = none
type_by h_object false e elements members = given members none (λ ms. some (object_type (head_of e) ms))
type_by h_else false e elements members = none

unfoldable mutual
  -- the type of an expression of the fragment
  pub literal_expr : Rec → Bool → Option Rec
  literal_expr (rec h ks) c = type_by (literal_kind h.mark) c (rec h ks) (element_types ks c) (member_types ks c)

  -- the elements of an array; an Op is none
  pub element_types : Recs → Bool → Option Recs
  element_types nil c = some nil
  element_types (cons e es) c =
      cond (is "Op" e) (element_types es c) (and_then (given (literal_expr e c) none (λ t. some (tuple_element t))) (element_types es c))

  -- the properties of an object, each with its key and the type of its value
  pub member_types : Recs → Bool → Option Recs
  member_types nil c = some nil
  member_types (cons p ps) c = cond (is "Op" p) (member_types ps c) (and_then (member_type p c) (member_types ps c))

  -- a Kv
  pub member_type : Rec → Bool → Option Rec
  member_type (rec h ks) c =
      given (cond (eqb h.mark (mark "Kv")) (property_key (kid 0 ks)) none) none (λ k. given (second_type ks c) none (λ t. some (property c k t)))

  -- the second child, and the first
  pub second_type : Recs → Bool → Option Rec
  second_type nil c = none
  second_type (cons k vs) c = first_type vs c

  pub first_type : Recs → Bool → Option Rec
  first_type nil c = none
  first_type (cons v vs) c = literal_expr v c

-- the type of `e as const`
abbrev pub const_type : Rec → Option Rec
const_type e = literal_expr e true

-- the type of what can be changed and has the initial value e: a variable of `let`, a property, a parameter
abbrev pub widened_type : Rec → Option Rec
widened_type e = literal_expr e false

-- "Both var and let allow for changing what is held inside the variable, and const does not. This is reflected in how TypeScript creates types for
-- literals": the type of a variable, of `const` where the flag is set, with the initial value e
unfoldable pub variable_type : Bool → Rec → Option Rec
variable_type false e = widened_type e
variable_type true e = cond (is "Ob" e || is "Ar" e) (widened_type e) (const_type e)

-- "To specify the type of an array like [1, 2, 3], you can use the syntax number[] ..; Array<number> .. means the same thing"
unfoldable pub is_array : Rec → Bool
is_array t = is "Ay" t || (is "Rf" t && same_text (drop 4 (text_of (kid 0 (kids_of t)))) (text "Array"))

-- ---- "Type Annotations on Variables", "Parameter Type Annotations", "Return Type Annotations", "Type Assertions"

-- where a record has the type that is written for it
pub data Annotated : Type 0 where
  a_first a_second a_pattern a_none : Annotated

-- by its mark
unfoldable pub annotated_kind : ℕ → Annotated
annotated_kind m =
    cond (among "Bd Cp Fu Aw Ft As Ta" m) a_second (cond (among "Pb Po" m) a_first (cond (among "Vr Pa Pp Ag" m) a_pattern a_none))

-- `pattern` is what is written in the first child
unfoldable pub annotation_by : Annotated → Recs → Option Rec → Option Rec
annotation_by a_first ks pattern = present (kid 0 ks)
annotation_by a_second ks pattern = present (kid 1 ks)
annotation_by a_pattern ks pattern = pattern
annotation_by a_none ks pattern = none

unfoldable mutual
  -- the type that is written: of a name, a pattern, a property; what a function returns; what an assertion asserts. A variable, a parameter and a
  -- default have that of their pattern
  pub annotation : Rec → Option Rec
  annotation (rec h ks) = annotation_by (annotated_kind h.mark) ks (annotation_first ks)

  pub annotation_first : Recs → Option Rec
  annotation_first nil = none
  annotation_first (cons p ps) = annotation p

-- ---- "Function Overloads": "The signature of the implementation is not visible from the outside"

-- the function that an item declares: an Fd, or what an Ed or an Xd holds; else a No
unfoldable pub function_in : Rec → Rec
function_in r =
    let d : Rec = kid 0 (kids_of r) in
    cond (is "Fd" r) r (cond ((is "Ed" r && is "Fd" d) || (is "Xd" r && is "Fx" d)) d absent)

-- its body: "`Fu` Op? type? Op? Pa*: type parameters, return type, body"
abbrev pub body_of : Rec → Rec
body_of f = kid 2 (kids_of (kid 1 (kids_of f)))

-- whether a function is there, and its name or key is that of another
abbrev pub same_name : Rec → Rec → Bool
same_name f g = not (is_no f) && (not (is_no g) && (eqb (mark_of (kid 0 (kids_of f))) (mark_of (kid 0 (kids_of g))) && same_text (text_of (kid 0 (kids_of f))) (text_of (kid 0 (kids_of g)))))

-- an item that implements the overload that stands before it: both are functions of one name, the first without a body and this one with
unfoldable pub implements : Rec → Rec → Bool
implements before r =
    same_name (function_in before) (function_in r) && (is_no (body_of (function_in before)) && not (is_no (body_of (function_in r))))

-- a method that implements the overload before it: both have one key
unfoldable pub implements_method : Rec → Rec → Bool
implements_method before r = is "Me" r && (is "Me" before && (same_name before r && (is_no (body_of before) && not (is_no (body_of r)))))

-- "`Co` Op? (body) (Pa|Pp)*"
unfoldable pub implements_constructor : Rec → Rec → Bool
implements_constructor before r = is "Co" r && (is "Co" before && (is_no (kid 0 (kids_of before)) && not (is_no (kid 0 (kids_of r)))))

-- either
unfoldable pub implements_member : Rec → Rec → Bool
implements_member before r = implements_method before r || implements_constructor before r

-- what is visible of some records: all but the implementations. The second argument stands before them
unfoldable pub visible : (Rec → Rec → Bool) → Rec → Recs → Recs
visible hides before nil = nil
visible hides before (cons r rs) = cond (hides before r) (visible hides r rs) (cons r (visible hides r rs))

-- an overload list that names the implementations among some records
unfoldable pub Names : (Rec → Rec → Bool) → List ℕ → Rec → Recs → Type 0
Names hides list before nil = Unit {0}
Names hides list before (cons r rs) = (hides before r ≡ true → listed list (head_of r) ≡ true) × Names hides list r rs

-- ---- "Enums", "Computed and constant members"

-- the forms of constant enum expressions
pub data EnumExpr : Type 0 where
  n_literal n_reference n_parenthesized n_unary n_binary n_else : EnumExpr

-- by the mark
unfoldable pub enum_kind : ℕ → EnumExpr
enum_kind m =
    cond (among "Ss Nu" m) n_literal
    (cond (among "Id Mb" m) n_reference
    (cond (eqb m (mark "Pr")) n_parenthesized (cond (eqb m (mark "Mi")) n_unary (cond (eqb m (mark "Bn")) n_binary n_else))))

-- "An expression is a constant enum expression if it is: a literal enum expression (basically a string literal or a numeric literal); a reference to
-- previously defined constant enum member; a parenthesized constant enum expression; one of the +, -, ~ unary operators applied to constant enum
-- expression; +, -, *, /, %, <<, >>, >>>, &, |, ^ binary operators with constant enum expressions as operands". `member` says which references are
-- to such members; of the unary operators only the minus has a record of its own, and a Bn does not say its operator
unfoldable pub constant_by : EnumExpr → Bool → Bool → Bool → Bool
constant_by n_literal member first both = true
constant_by n_reference member first both = member
constant_by n_parenthesized member first both = first
constant_by n_unary member first both = first
constant_by n_binary member first both = both
constant_by n_else member first both = false

module _ (member : Rec → Bool) where
  -- a constant enum expression; whether the first child is one, and whether the first two are
  unfoldable mutual
    pub constant_enum : Rec → Bool
    constant_enum (rec h ks) = constant_by (enum_kind h.mark) (member (rec h ks)) (constant_first ks) (constant_both ks)

    pub constant_first : Recs → Bool
    constant_first nil = false
    constant_first (cons e es) = constant_enum e

    pub constant_both : Recs → Bool
    constant_both nil = false
    constant_both (cons e es) = constant_enum e && constant_first es

-- a reference by names alone: `A`, `E.A`, `N.E.A`
unfoldable mutual
  pub entity_name : Rec → Bool
  entity_name (rec h ks) = eqb h.mark (mark "Id") || (eqb h.mark (mark "Mb") && entity_first ks)

  pub entity_first : Recs → Bool
  entity_first nil = false
  entity_first (cons e es) = entity_name e

-- an initial value of ordinary form: it is put together by parentheses and binary operators from what is no minus, optional chain, template or
-- assertion, and a member access in it is a reference by names
pub data Ordinary : Type 0 where
  o_reference o_first o_both o_not o_any : Ordinary

-- by the mark
unfoldable pub ordinary_kind : ℕ → Ordinary
ordinary_kind m =
    cond (eqb m (mark "Mb")) o_reference
    (cond (eqb m (mark "Pr")) o_first (cond (eqb m (mark "Bn")) o_both (cond (among "Mi Oc Te As Ta" m) o_not o_any)))

-- `entity`, `first` and `both` are of the first child, and of the first two
unfoldable pub ordinary_by : Ordinary → Bool → Bool → Bool → Bool
ordinary_by o_reference entity first both = entity
ordinary_by o_first entity first both = first
ordinary_by o_both entity first both = both
ordinary_by o_not entity first both = false
ordinary_by o_any entity first both = true

unfoldable mutual
  pub ordinary : Rec → Bool
  ordinary (rec h ks) = ordinary_by (ordinary_kind h.mark) (entity_first ks) (ordinary_first ks) (ordinary_both ks)

  pub ordinary_first : Recs → Bool
  ordinary_first nil = true
  ordinary_first (cons e es) = ordinary e

  pub ordinary_both : Recs → Bool
  ordinary_both nil = true
  ordinary_both (cons e es) = ordinary e && ordinary_first es

-- ---- "Namespaces"

-- "You can also create nested namespaces in one declaration": `namespace A.B { .. }` is `namespace A { export namespace B { .. } }`. In place of an Nd
-- at h: a block with an exported namespace, which has the head of the Nd but for the mark and declare (inside a namespace there is none)
abbrev pub space_head : Head → Head
space_head h = record { mark = mark "Ns"; flags = flag1 false h.flags; start = h.start; end = h.end; text = h.text }

abbrev pub space_within : Head → Recs → Rec
space_within h ks = rec (ranged "Nb" h []) (one (rec (ranged "Ed" h []) (one (rec (space_head h) ks))))

-- a module without dots in the names of its namespaces
abbrev pub without_dots : Rec → Rec
without_dots r = replaced space_within r
