-- Small trees, on which `call_text` is evaluated: the examples of request §3's table, and one for each rule of it that is easily slipped on. The texts
-- are written by hand.
use Prim.Native.Nat.{ℕ, zero, suc, ◌+◌}
use Prim.Native.String.{String}
use mathlib.Core.Path.{◌≡◌, refl}
use mathlib.Core.List.{List, [], ◌∷◌, ◌++◌, map}
use lib.ListN.{length}
use Rattle.definition.specs.Tree.{Rec, Recs, rec, nil, cons, head_size, head_bytes, encode, head_at, read_all, end_of_all, end_at, tree_at}
use Rattle.definition.specs.Grammar.{marks, member, grammar, known, forms, slots, place, allowed, after, least, is_property}
use Rattle.definition.specs.Check.{digits, is_integer, has_form, open_body, open_at, check_all, check_at, entries_fine, list_fine, check_tree}
use Rattle.definition.specs.Record.{text, absent, one, join}
use Rattle.definition.specs.Names.{decimal_up_to}
use Rattle.definition.specs.Numerals.{bits_of, halved, whole_of}
use Rattle.definition.specs.Transform.{done, refused}
use Rattle.definition.specs.Text.{
  escaped_byte,
  escaped,
  any_written,
  last_written,
  first_place,
  text_rows,
  row_in,
  holds,
  each_of,
  closed,
  quasis,
  behind_quasis,
  expressions,
  in_braces,
  in_turns,
  template_of,
  number_of,
  what_tokens,
  pieces_tokens,
  tokens,
  items_lines,
  lines_of,
  tokens_bytes,
  indent,
  lines_bytes,
  first_outside,
  Written,
  written_text,
  text_by,
  call_text,
}
use Rattle.definition.proofs.SmallTrees.{leaf, node, flags, two, three, id, made, key, op, keyword, name}

-- ---- writing samples

-- a call and what it gives
pub record Sample : Type 0 where
  pub tree : List ℕ
  pub out : List ℕ
  pub result : Written

-- n bytes that were in the buffer before
abbrev rest : ℕ → List ℕ
rest zero = []
rest (suc n) = 170 ∷ rest n

-- lines, each with its line feed
abbrev lines : List String → List ℕ
lines [] = []
lines (s ∷ ss) = text s ++ (10 ∷ lines ss)

-- a tree that is written: 3 bytes of the buffer are left over
abbrev written : Rec → List ℕ → Sample
written r t =
    record { tree = encode r; out = rest (length t + 3); result = record { answer = done (length t) 0; out = t ++ rest 3 } }

abbrev writes : Rec → List String → Sample
writes r ss = written r (lines ss)

-- one that is refused with a number and a place: the buffer, n bytes long, stays as it was
abbrev refuses : Rec → ℕ → ℕ → ℕ → Sample
refuses r n number place = record { tree = encode r; out = rest n; result = record { answer = refused number place; out = rest n } }

-- ---- writing trees

abbrev module_of : Recs → Rec
module_of ks = node "Mo" ks

-- `export default` of an expression, and its line
abbrev default : Rec → Rec
default r = module_of (one (node "Xe" (one r)))

abbrev shows : Rec → String → Sample
shows r s = written (default r) (text "export default " ++ (text s ++ (10 ∷ [])))

-- where the expression stands
abbrev place_of : ℕ
place_of = head_size + head_size

-- a number by the two high bytes of its f64, the others 0; a half
abbrev number : ℕ → ℕ → Rec
number a b = leaf "Nu" (0 ∷ 0 ∷ 0 ∷ 0 ∷ 0 ∷ 0 ∷ a ∷ b ∷ [])

abbrev half : Rec
half = number 224 63

-- a record with more children
abbrev with : Recs → Rec → Rec
with ks (rec h js) = rec h (join js ks)

-- a text of a template
abbrev qu : String → Rec
qu s = flags 1 (leaf "Qu" (text s))

-- a class with members; x as a type
abbrev class_of : Recs → Rec
class_of ms = module_of (one (node "Cd" (two (id "A") (node "Cl" (cons absent ms)))))

abbrev type_of_lem : Rec → Rec
type_of_lem t = default (node "As" (two (id "x") t))

-- `let a: any`, with flags; a namespace with flags, a name and a body
abbrev let_a : ℕ → Rec
let_a f = flags f (node "Vd" (one (node "Vr" (two (name "a" (keyword "any")) absent))))

abbrev space : ℕ → String → Rec → Rec
space f s b = flags f (node "Ns" (two (op s) b))

-- ---- the examples

-- `export default [];` after the transform
abbrev default-array : Rec
default-array =
    module_of (two
    (flags 3 (node "Vd" (one (node "Vr" (two (node "Bd" (two (made "_dts_1") (node "Ro" (one (node "Tu" nil))))) absent)))))
    (node "Xe" (one (made "_dts_1"))))

abbrev namespace-a : Rec
namespace-a = module_of (one (space 1 "A" (node "Nb" (one (node "Ed" (one (let_a 2)))))))

abbrev class-a : Rec
class-a =
    module_of (one (flags 1 (node "Cd" (two (id "A") (node "Cl" (cons absent (three
    (flags 4 (node "Me" (three
    (key "m")
    (node "Fu" (cons absent (three (keyword "void") absent (node "Pa" (one (node "Bd" (two (flags 1 (id "x")) (keyword "number"))))))))
    (op "public"))))
    (node "Cp" (three (key "p") (keyword "string") absent))
    (op "extends B"))))))))

-- ---- the samples

unfoldable pub samples : List Sample
samples =
    writes default-array ("declare const _dts_1 : readonly [ ]" ∷ "export default _dts_1" ∷ []) ∷
    writes namespace-a ("declare namespace A {" ∷ "  export const a : any" ∷ "}" ∷ []) ∷
    shows (node "Te" (three (qu "a") (qu "b") (id "c"))) "`a${ c }b`" ∷
    writes class-a ("declare class A extends B { public static m ( x ? : number ) : void ; p : string ; }" ∷ []) ∷
    -- numbers: "written in decimal if it is whole and below 2 to the 53 in size. Negative zero is written -0"
    shows (number 0 0) "0" ∷
    shows (number 0 128) "-0" ∷
    shows (number 36 64) "10" ∷
    shows (number 240 191) "-1" ∷
    shows (leaf "Nu" (255 ∷ 255 ∷ 255 ∷ 255 ∷ 255 ∷ 255 ∷ 63 ∷ 67 ∷ [])) "9007199254740991" ∷
    refuses (default (number 64 67)) 99 11 place_of ∷
    refuses (default half) 99 11 place_of ∷
    -- an infinity, and no number
    refuses (default (number 240 127)) 99 11 place_of ∷
    refuses (default (number 248 127)) 99 11 place_of ∷
    -- "its raw spelling, its first Op, where it has one"; "an empty spelling writes nothing, and is never 11"
    shows (with (two (op "5e-1") (op "x")) half) "5e-1" ∷
    writes (default (with (one (op "")) half)) ("export default" ∷ []) ∷
    -- "a declarator's or property's initial value, for instance, isn't" written
    writes (module_of (one (node "Vd" (one (node "Vr" (two (name "a" absent) half)))))) ("let a" ∷ []) ∷
    -- "The first in preorder is the one with the smallest offset, even where the table writes another before it"; "before the room is tested"
    refuses (default (node "Ta" (two half (node "Tl" (one half))))) 0 11 (place_of + head_size) ∷
    -- strings and big integers; the Ops of a literal are left out, but not those of a Re
    written
    (default (with (one (op "x")) (leaf "Ss" (10 ∷ 31 ∷ 32 ∷ 127 ∷ 255 ∷ text "a\"\\`$"))))
    (text "export default \"\\u000a\\u001f" ++ (32 ∷ 127 ∷ 255 ∷ text "a\\u0022\\u005c\\u0060\\u0024\"\n")) ∷
    shows (with (one (op "x")) (leaf "Bi" (1 ∷ text "120"))) "-120n" ∷
    shows (leaf "Bi" (0 ∷ text "0")) "0n" ∷
    shows (node "Bn" (three (flags 1 (node "Bl" nil)) (node "Nl" nil) (op "+"))) "true + null" ∷
    shows (node "Re" (one (op "/a/"))) "/a/" ∷
    -- templates
    shows (node "Te" (cons (qu "a") (three (qu "b") (qu "c") (id "x")))) "`a${ x }bc`" ∷
    shows (node "Te" (three (qu "a") (id "x") (id "y"))) "`a${ x }${ y }`" ∷
    shows (node "Te" (cons (qu "$") (three (with (one (op "z")) (qu "b")) (node "Jt" nil) (op "tag")))) "tag `\\u0024${}b`" ∷
    shows (node "Te" (three (qu "a") (qu "b") (node "Te" (two (qu "c") (node "Te" nil))))) "`a${ `c${ `` }` }b`" ∷
    -- holes
    shows (node "Ar" (two (id "a") absent)) "[ a , , ]" ∷
    shows (node "Ar" (three (id "a") absent (id "b"))) "[ a , , b ]" ∷
    shows (node "Ar" (two absent (op "x"))) "x [ , ]" ∷
    -- members: "each ending in one `;`"; "A member without tokens is `;`"
    writes
    (class_of (cons (node "Ix" (two (op "[k: string]: any;") (op ""))) (three (flags 1 (node "Ix" (one (op "[k: number]: any")))) (node "Dm" (one (op "x"))) (node "Ix" nil))))
    ("class A { [k: string]: any; readonly [k: number]: any ; ; }" ∷ []) ∷
    writes
    (type_of_lem (node "Li" (three (node "Om" (one (op "m(): void;"))) (flags 7 (node "Ps" (two (id "p") (keyword "any;")))) (node "Om" nil))))
    ("export default x as { m(): void; readonly [ p ] ? : any; ; }" ∷ []) ∷
    writes
    (class_of (two (flags 3 (node "Me" (two (key "a") (node "Fu" (three absent absent (op "{ }")))))) (flags 2 (node "Cp" (three (key "b") absent half)))))
    ("class A { set a ( ) ; b ! ; }" ∷ []) ∷
    -- an Oc over an Mb with a Ki, with an Op, and over an Op
    shows (node "Oc" (two (node "Mb" (three (node "Mb" (two (id "a") (key "b"))) (key "c") (op "y"))) (op "x"))) "x y a . b ?. c" ∷
    shows (node "Oc" (one (node "Mb" (two (node "Mb" (two (id "a") (op "[0]"))) (op "[1]"))))) "a [0] ?. [1]" ∷
    shows (node "Oc" (two (op "f?.()") (op "x"))) "x f?.()" ∷
    -- namespaces, dotted, quoted, nested, without a body
    writes
    (module_of (one (space 1 "A" (node "Nd" (two (op "B") (node "Nd" (three (op "C") (node "Nb" (two (let_a 0) (op "y"))) (op "x"))))))))
    ("declare namespace A . B . x C y {" ∷ "  let a : any" ∷ "}" ∷ []) ∷
    writes
    (module_of (two (space 1 "\"a\"" absent) (space 0 "'b'" (node "Nb" nil))))
    ("declare module \"a\"" ∷ "module 'b' {" ∷ "}" ∷ []) ∷
    writes
    (module_of (one (space 1 "A" (node "Nb" (three
    (node "St" (one (op "x")))
    (node "Ed" (one (space 0 "B" (node "Nb" (two (let_a 2) (node "Im" nil))))))
    (let_a 0))))))
    ("declare namespace A {" ∷ "  export namespace B {" ∷ "    const a : any" ∷ "    " ∷ "  }" ∷ "  let a : any" ∷ "}" ∷ []) ∷
    -- a Mo's own Ops; an Op's children; an Op with line feeds of its own
    writes (module_of (three (node "Im" (one (op "import a"))) (op "") (node "Op" (two (op "b") (op "c\n  d"))))) ("b c" ∷ "  d" ∷ "import a" ∷ []) ∷
    writes (module_of (one (op ""))) [] ∷
    -- "A buffer too short gets 9"; a tree that is refused
    refuses (default (id "a")) 16 9 0 ∷
    record { tree = encode (default (id "a")); out = rest 17; result = record { answer = done 17 0; out = text "export default a\n" } } ∷
    refuses (module_of (one (node "Ed" nil))) 99 5 head_size ∷
    record { tree = []; out = rest 9; result = record { answer = refused 3 0; out = rest 9 } } ∷
    []

-- what `call_text` gives on the trees and buffers of the samples
unfoldable pub answers : List Sample → List Written
answers [] = []
answers (s ∷ ss) = call_text s.tree s.out ∷ answers ss

-- every sample is as the table says
pub samples_hold : answers samples ≡ map (λ (s : Sample). s.result) samples
unfolding
    samples answers
    head_bytes encode head_at read_all end_of_all end_at tree_at
    marks member grammar known forms slots place allowed after least is_property
    digits is_integer has_form open_body open_at check_all check_at entries_fine list_fine check_tree
    decimal_up_to bits_of halved whole_of
    escaped_byte escaped any_written last_written first_place text_rows row_in holds each_of closed quasis behind_quasis expressions in_braces in_turns
    template_of number_of what_tokens pieces_tokens tokens items_lines lines_of tokens_bytes indent lines_bytes first_outside written_text text_by call_text
samples_hold = refl
