-- Samples of the check, evaluated in the logic: the rows 2 to 8 of document 01's table, accepted trees, and the readings that docs/DECISIONS.md
-- lists of the check.
use mathlib.Core.Path.{◌≡◌, refl}
use mathlib.Core.List.{List, [], ◌∷◌, ◌++◌, map}
use Prim.Native.Nat.{ℕ, zero, suc, ◌+◌, ◌-◌, ◌*◌}
use Prim.Native.Char.{code}
use Prim.Native.String.{String, [] as ε, ◌∷◌ as ◌∷ₛ◌}
use lib.ListN.{length, take}
use Rattle.definition.specs.Tree.{Rec, Recs, rec, nil, cons, head_size, le2, le4, head_bytes, encode}
use Rattle.definition.specs.Grammar.{
  mark,
  marks,
  member,
  grammar,
  known,
  forms,
  slots,
  place,
  allowed,
  after,
  least,
  is_property,
}
use Rattle.definition.specs.Check.{
  digits,
  is_integer,
  has_form,
  open_body,
  open_at,
  Checked,
  Checked.fine,
  Checked.refused,
  check_all,
  check_at,
  entries_fine,
  list_fine,
  check_tree,
}

-- ---- trees, written short

abbrev children : List Rec → Recs
children [] = nil
children (r ∷ rs) = cons r (children rs)

-- a record with no flags, no range and no text; one with neither children; one with a text; the same record with other flags or another range
abbrev node : String → List Rec → Rec
node m rs = rec (record { mark = mark m; flags = 0; start = 0; end = 0; text = [] }) (children rs)

abbrev leaf : String → Rec
leaf m = node m []

abbrev text : String → List ℕ → Rec
text m t = rec (record { mark = mark m; flags = 0; start = 0; end = 0; text = t }) nil

abbrev flagged : ℕ → Rec → Rec
flagged f (rec h ks) = rec (record { mark = h.mark; flags = f; start = h.start; end = h.end; text = h.text }) ks

abbrev ranged : ℕ → ℕ → Rec → Rec
ranged s e (rec h ks) = rec (record { mark = h.mark; flags = h.flags; start = s; end = e; text = h.text }) ks

-- the bytes of a text
abbrev letters : String → List ℕ
letters ε = []
letters (c ∷ₛ s) = code c ∷ letters s

-- an identifier of the context 0
abbrev name : String → Rec
name s = text "Id" (0 ∷ 0 ∷ 0 ∷ 0 ∷ letters s)

-- a record in n pairs of parentheses
abbrev nested : ℕ → Rec → Rec
nested zero r = r
nested (suc n) r = node "Pr" (nested n r ∷ [])

-- the bytes of n heads: the place of a record that n others without text stand before
abbrev heads : ℕ → ℕ
heads n = n * head_size

-- modules with an expression (2 heads stand before it), a type (4), a pattern (5), a class member (6) and a constructor's parameter (8)
abbrev default : Rec → Rec
default e = node "Mo" (node "Xe" (e ∷ []) ∷ [])

abbrev typed : Rec → Rec
typed t = default (node "As" (leaf "Oe" ∷ t ∷ []))

abbrev arrow : Rec → Rec
arrow p = default (node "Aw" (leaf "No" ∷ leaf "No" ∷ p ∷ []))

abbrev class : Rec → Rec
class m = default (node "Cx" (leaf "No" ∷ node "Cl" (leaf "No" ∷ m ∷ []) ∷ []))

abbrev parameter : Rec → Rec
parameter p = class (node "Co" (leaf "No" ∷ p ∷ []))

-- an entry of an overload list
abbrev entry : String → ℕ → ℕ → List ℕ
entry m s e = le2 (mark m) ++ (le4 s ++ le4 e)

-- ---- samples

pub record Sample : Type 0 where
  pub tree : List ℕ
  pub list : List ℕ
  pub answer : Checked

abbrev accepts : Rec → Sample
accepts r = record { tree = encode r; list = []; answer = fine (length (encode r)) }

abbrev refuses : Rec → ℕ → ℕ → Sample
refuses r n p = record { tree = encode r; list = []; answer = refused n p }

-- bytes that are no encoding
abbrev bytes : List ℕ → Checked → Sample
bytes s a = record { tree = s; list = []; answer = a }

-- a list, beside the empty module
abbrev listed : List ℕ → Checked → Sample
listed l a = record { tree = encode (leaf "Mo"); list = l; answer = a }

unfoldable pub samples : List Sample
unfolding encode head_bytes
samples =
    -- the table's column "Sample", 2 to 8
    listed (take 9 (entry "ov" 1 2)) (refused 2 0) ∷
    bytes [] (refused 3 0) ∷
    refuses (leaf "zz") 4 0 ∷
    refuses (node "Mo" (leaf "Ed" ∷ [])) 5 (heads 1) ∷
    refuses (ranged 2 1 (leaf "Mo")) 6 0 ∷
    refuses (default (nested 62 (leaf "Oe"))) 7 (heads 64) ∷
    bytes (encode (leaf "Mo") ++ (0 ∷ [])) (refused 8 (heads 1)) ∷
    -- accepted: the empty module; 64 levels; `export default [];`; `const a = b;`; a class
    bytes (encode (leaf "Mo")) (fine (heads 1)) ∷
    bytes (encode (default (nested 61 (leaf "Oe")))) (fine (heads 64)) ∷
    bytes (encode (default (leaf "Ar"))) (fine (heads 3)) ∷
    bytes (encode (node "Mo" (flagged 2 (node "Vd" (node "Vr" (node "Bd" (name "a" ∷ leaf "No" ∷ []) ∷ name "b" ∷ []) ∷ [])) ∷ []))) (fine (heads 7 + 10)) ∷
    accepts (class (node "Cp" (text "Ki" (letters "k") ∷ text "Kw" (letters "any") ∷ leaf "No" ∷ []))) ∷
    -- the overload list: "in any order, repeats allowed", "wrong mark", "start > end", and 2 before 3
    listed (entry "ov" 3 4 ++ (entry "ov" 1 2 ++ entry "ov" 1 2)) (fine (heads 1)) ∷
    listed (entry "ov" 2 2) (fine (heads 1)) ∷
    listed (entry "vo" 1 2) (refused 2 0) ∷
    listed (entry "ov" 2 1) (refused 2 0) ∷
    listed (entry "ov" 1 2 ++ entry "ov" 2 1) (refused 2 0) ∷
    listed (entry "ov" 1 2 ++ (111 ∷ [])) (refused 2 0) ∷
    record { tree = []; list = entry "ov" 2 1; answer = refused 2 0 } ∷
    -- reading 1, texts: any bytes
    accepts (default (text "Ss" (0 ∷ 255 ∷ []))) ∷
    accepts (default (leaf "Ss")) ∷
    accepts (default (node "Mb" (leaf "Oe" ∷ text "Ki" (letters "k") ∷ text "Op" (letters "// c") ∷ []))) ∷
    accepts (typed (text "Kw" (letters "any"))) ∷
    -- eight bytes, a NaN's too
    accepts (default (text "Nu" (1 ∷ 0 ∷ 0 ∷ 0 ∷ 0 ∷ 0 ∷ 248 ∷ 127 ∷ []))) ∷
    refuses (default (text "Nu" (0 ∷ 0 ∷ 0 ∷ 0 ∷ 0 ∷ 240 ∷ 63 ∷ []))) 5 (heads 2) ∷
    -- a sign byte, 0 or 1, and at least one digit, no leading zero; zero has sign 0
    accepts (default (text "Bi" (0 ∷ letters "10"))) ∷
    accepts (default (text "Bi" (1 ∷ letters "9"))) ∷
    accepts (default (text "Bi" (0 ∷ letters "0"))) ∷
    refuses (default (text "Bi" (1 ∷ letters "0"))) 5 (heads 2) ∷
    refuses (default (text "Bi" (0 ∷ letters "01"))) 5 (heads 2) ∷
    refuses (default (text "Bi" (2 ∷ letters "1"))) 5 (heads 2) ∷
    refuses (default (text "Bi" (0 ∷ letters "1a"))) 5 (heads 2) ∷
    refuses (default (text "Bi" (0 ∷ letters "1/"))) 5 (heads 2) ∷
    refuses (default (text "Bi" (0 ∷ []))) 5 (heads 2) ∷
    refuses (default (leaf "Bi")) 5 (heads 2) ∷
    -- a context, and a symbol that may be empty
    accepts (default (name "")) ∷
    refuses (default (text "Id" (0 ∷ 0 ∷ 0 ∷ []))) 5 (heads 2) ∷
    -- empty unless flag 1 is set
    accepts (default (node "Te" (flagged 1 (text "Qu" (letters "q")) ∷ flagged 1 (leaf "Qu") ∷ leaf "Qu" ∷ []))) ∷
    refuses (default (node "Te" (text "Qu" (letters "q") ∷ []))) 5 (heads 3) ∷
    refuses (default (node "Te" (flagged 254 (text "Qu" (letters "q")) ∷ []))) 5 (heads 3) ∷
    -- every other mark: empty
    refuses (default (text "Jt" (letters "j"))) 5 (heads 2) ∷
    refuses (default (text "Re" (letters "r"))) 5 (heads 2) ∷
    refuses (text "Mo" (letters "m")) 5 0 ∷
    refuses (default (node "Ar" (text "No" (letters "n") ∷ []))) 5 (heads 3) ∷
    -- reading 2: a `?` slot holds a record, which counts
    accepts (default (node "Fx" (leaf "No" ∷ node "Fu" (leaf "No" ∷ leaf "No" ∷ leaf "No" ∷ []) ∷ []))) ∷
    refuses (default (node "Fx" (leaf "No" ∷ node "Fu" (leaf "No" ∷ leaf "No" ∷ []) ∷ []))) 5 (heads 4) ∷
    refuses (class (node "Cp" (leaf "Ki" ∷ leaf "No" ∷ []))) 5 (heads 6) ∷
    accepts (default (node "Ne" (leaf "Oe" ∷ leaf "No" ∷ []))) ∷
    refuses (default (node "Ne" (leaf "Oe" ∷ []))) 5 (heads 2) ∷
    accepts (typed (node "Rf" (name "T" ∷ leaf "No" ∷ []))) ∷
    refuses (typed (node "Rf" (name "T" ∷ []))) 5 (heads 4) ∷
    accepts (arrow (node "Pb" (leaf "No" ∷ []))) ∷
    refuses (arrow (leaf "Pb")) 5 (heads 5) ∷
    -- a child past the last slot, and a child of a No, after its own 7, 3 and 4
    refuses (default (node "Pr" (leaf "Oe" ∷ leaf "Oe" ∷ []))) 5 (heads 4) ∷
    refuses (default (node "Ar" (node "No" (leaf "Op" ∷ []) ∷ []))) 5 (heads 4) ∷
    refuses (default (node "Ar" (node "No" (leaf "zz" ∷ []) ∷ []))) 4 (heads 4) ∷
    bytes (take (heads 4) (encode (default (node "Ar" (node "No" (leaf "Op" ∷ []) ∷ []))))) (refused 3 (heads 4)) ∷
    refuses (default (nested 60 (node "Ar" (node "No" (leaf "Op" ∷ []) ∷ [])))) 7 (heads 64) ∷
    -- reading 3: an Op in a slot, and after the slots; after the first of those only Ops
    accepts (node "Mo" (node "Ns" (leaf "Op" ∷ leaf "No" ∷ leaf "Op" ∷ leaf "Op" ∷ []) ∷ leaf "Op" ∷ [])) ∷
    refuses (node "Mo" (node "Ns" (leaf "Op" ∷ leaf "Op" ∷ []) ∷ [])) 5 (heads 3) ∷
    accepts (default (node "Fx" (leaf "No" ∷ node "Fu" (leaf "Op" ∷ leaf "No" ∷ leaf "Op" ∷ leaf "Op" ∷ []) ∷ []))) ∷
    refuses (default (node "Fx" (leaf "No" ∷ node "Fu" (leaf "Op" ∷ leaf "Op" ∷ leaf "Op" ∷ []) ∷ []))) 5 (heads 6) ∷
    refuses (node "Mo" (leaf "St" ∷ leaf "Op" ∷ leaf "St" ∷ [])) 5 (heads 3) ∷
    refuses (default (node "Ar" (leaf "Op" ∷ leaf "Oe" ∷ []))) 5 (heads 4) ∷
    accepts (typed (node "Rf" (leaf "Op" ∷ leaf "Op" ∷ []))) ∷
    refuses (typed (node "Rf" (leaf "Op" ∷ name "T" ∷ []))) 5 (heads 6) ∷
    accepts (default (node "Mb" (leaf "Oe" ∷ leaf "Op" ∷ []))) ∷
    refuses (default (node "Mb" (leaf "Ki" ∷ leaf "Ki" ∷ []))) 5 (heads 3) ∷
    -- reading 4: a Te's Qus, then its expressions, in any numbers
    accepts (default (node "Te" (leaf "Qu" ∷ leaf "Oe" ∷ leaf "Oe" ∷ leaf "Op" ∷ []))) ∷
    accepts (default (node "Te" (leaf "Oe" ∷ []))) ∷
    accepts (default (leaf "Te")) ∷
    refuses (default (node "Te" (leaf "Qu" ∷ leaf "Oe" ∷ leaf "Qu" ∷ []))) 5 (heads 5) ∷
    -- reading 5: what is an expression, a type, a pattern, a key
    refuses (default (node "Sp" (leaf "Oe" ∷ []))) 5 (heads 2) ∷
    accepts (default (node "Ar" (node "Sp" (leaf "Oe" ∷ []) ∷ leaf "No" ∷ leaf "Jt" ∷ []))) ∷
    refuses (typed (leaf "Oe")) 5 (heads 4) ∷
    accepts (arrow (leaf "Pi")) ∷
    refuses (arrow (leaf "Oe")) 5 (heads 5) ∷
    accepts (class (node "Cp" (node "Kc" (leaf "Oe" ∷ []) ∷ leaf "No" ∷ leaf "Oe" ∷ []))) ∷
    refuses (class (node "Cp" (name "k" ∷ leaf "No" ∷ leaf "No" ∷ []))) 5 (heads 7) ∷
    accepts (typed (node "Li" (node "Ps" (name "p" ∷ leaf "No" ∷ []) ∷ leaf "Ix" ∷ leaf "Om" ∷ []))) ∷
    refuses (typed (node "Li" (node "Ps" (leaf "Ki" ∷ leaf "No" ∷ []) ∷ []))) 5 (heads 6) ∷
    accepts (typed (node "Ft" (leaf "No" ∷ leaf "Ot" ∷ leaf "Pi" ∷ leaf "Rs" ∷ []))) ∷
    -- reading 6: the direct left of a Pp's Ag is no Pb or Po
    accepts (parameter (node "Pp" (node "Ag" (node "Bd" (name "p" ∷ leaf "No" ∷ []) ∷ leaf "Oe" ∷ []) ∷ []))) ∷
    refuses (parameter (node "Pp" (node "Ag" (node "Pb" (leaf "No" ∷ []) ∷ leaf "Oe" ∷ []) ∷ []))) 5 (heads 10) ∷
    refuses (parameter (node "Pp" (node "Ag" (node "Po" (leaf "No" ∷ []) ∷ leaf "Oe" ∷ []) ∷ []))) 5 (heads 10) ∷
    refuses (parameter (node "Pp" (node "Pb" (leaf "No" ∷ []) ∷ []))) 5 (heads 9) ∷
    accepts (parameter (node "Pp" (node "Ag" (node "Ag" (node "Pb" (leaf "No" ∷ []) ∷ leaf "Oe" ∷ []) ∷ leaf "Oe" ∷ []) ∷ []))) ∷
    accepts (parameter (node "Pa" (node "Ag" (node "Pb" (leaf "No" ∷ []) ∷ leaf "Oe" ∷ []) ∷ []))) ∷
    -- reading 7: a child that is missing, or cut; on level 65 it is too deep; a range is in order on every record
    bytes (take (heads 1) (encode (default (leaf "Oe")))) (refused 3 (heads 1)) ∷
    bytes (take (heads 3 - 1) (encode (default (leaf "Oe")))) (refused 3 (heads 2)) ∷
    bytes (take (heads 3 + 1) (encode (default (text "Ss" (letters "ab"))))) (refused 3 (heads 2)) ∷
    bytes (take (heads 64) (encode (default (nested 62 (leaf "Oe"))))) (refused 7 (heads 64)) ∷
    refuses (default (node "Ar" (ranged 2 1 (leaf "No") ∷ []))) 6 (heads 3) ∷
    refuses (default (node "Ar" (ranged 2 1 (leaf "Op") ∷ []))) 6 (heads 3) ∷
    -- reading 8: flags are not looked at
    accepts (class (flagged 3 (node "Me" (leaf "Ki" ∷ node "Fu" (leaf "No" ∷ leaf "No" ∷ leaf "No" ∷ []) ∷ [])))) ∷
    accepts (flagged 255 (leaf "Mo")) ∷
    -- the order of the tests of a record: 4, 5 (slot; the root is a Mo), 6, 3 (text), 5 (text, count)
    refuses (ranged 2 1 (leaf "zz")) 4 0 ∷
    refuses (ranged 2 1 (leaf "St")) 5 0 ∷
    bytes (take (heads 1) (encode (ranged 2 1 (text "Mo" (letters "m"))))) (refused 6 0) ∷
    bytes (take (heads 1) (encode (text "Mo" (letters "m")))) (refused 3 0) ∷
    -- preorder: a record's own count before its children
    refuses (node "Mo" (node "Fd" (leaf "zz" ∷ []) ∷ leaf "zz" ∷ [])) 5 (heads 1) ∷
    []

-- each sample's answer
pub samples_hold : map (λ (x : Sample). check_tree x.tree x.list) samples ≡ map (λ (x : Sample). x.answer) samples
unfolding samples encode head_bytes marks member grammar known forms slots place allowed after least is_property digits is_integer has_form open_body open_at check_all check_at entries_fine list_fine check_tree
samples_hold = refl
