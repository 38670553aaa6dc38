-- The parts of a record, ranges, records made afresh, flags, diagnostics, and what a step of the transform gives, with the combinators that steps
-- are built of.
use Rattle.std.specs.Prelude.{ℕ, zero, suc, ◌+◌, ◌*◌, ◌/◌, ◌%◌, List, [], ◌∷◌, ◌++◌, Bool, true, false, cond, ◌&&◌, ◌||◌, length, drop, eqb}
use Prim.Native.Char.{code}
use Prim.Native.String.{String, [] as ε, ◌∷◌ as ◌∷ₛ◌}
use Rattle.std.proofs.Math.Option.{Option, none, some}
use Rattle.definition.specs.Tree.{Head, Rec, Recs, rec, nil, cons, le2, le4, u32_at}
use Rattle.definition.specs.Grammar.{mark, marks, member}
use Rattle.definition.specs.Check.{entry_size}

-- ---- texts

-- a text written in ASCII, as its bytes
abbrev pub text : String → List ℕ
text ε = []
text (c ∷ₛ s) = code c ∷ text s

-- whether two texts are equal
unfoldable pub same_text : List ℕ → List ℕ → Bool
same_text [] [] = true
same_text [] (y ∷ ys) = false
same_text (x ∷ xs) [] = false
same_text (x ∷ xs) (y ∷ ys) = eqb x y && same_text xs ys

-- ---- the parts of a record

abbrev pub head_of : Rec → Head
head_of (rec h ks) = h

abbrev pub kids_of : Rec → Recs
kids_of (rec h ks) = ks

abbrev pub mark_of : Rec → ℕ
mark_of r = (head_of r).mark

abbrev pub text_of : Rec → List ℕ
text_of r = (head_of r).text

-- whether a record has the mark that is named
abbrev pub is : String → Rec → Bool
is s r = eqb (mark_of r) (mark s)

-- whether a mark is one of those named
abbrev pub among : String → ℕ → Bool
among s m = member m (marks s)

-- `No` (absent)
abbrev pub is_no : Rec → Bool
is_no r = is "No" r

-- "`Id` (1 optional): 4-byte context, symbol"
abbrev pub context_of : Rec → ℕ
context_of r = u32_at (text_of r) 0

abbrev pub symbol_of : Rec → List ℕ
symbol_of r = drop 4 (text_of r)

-- ---- ranges

-- "start and end (4 each; what `range()` gives ..)"
pub record Range : Type 0 where
  pub start : ℕ
  pub end : ℕ

-- "0,0 is `DUMMY_SP`"
abbrev pub dummy_sp : Range
dummy_sp = record { start = 0; end = 0 }

-- the range of a record, by its head
abbrev pub range_of : Head → Range
range_of h = record { start = h.start; end = h.end }

-- ---- records made afresh

-- the head of every record that is made, with a range: "A record made afresh has none" (no Ops) "and only the named flags it needs"
abbrev pub made : String → ℕ → Range → List ℕ → Head
made s f at t = record { mark = mark s; flags = f; start = at.start; end = at.end; text = t }

-- one at `DUMMY_SP`; one without flags that has the range of another record
abbrev pub fresh : String → ℕ → List ℕ → Head
fresh s f t = made s f dummy_sp t

abbrev pub ranged : String → Head → List ℕ → Head
ranged s h t = made s 0 (range_of h) t

-- `None`, where it is made (reading 9)
abbrev pub absent : Rec
absent = rec (fresh "No" 0 []) nil

-- `Ident::new(name, span, SyntaxContext::default())`
abbrev pub ident : Range → List ℕ → Rec
ident at name = rec (made "Id" 0 at (le4 0 ++ name)) nil

-- the same with the span of a record (readings 11 and 12)
abbrev pub ident_at : Head → List ℕ → Rec
ident_at h name = ident (range_of h) name

-- ---- a head with one field changed

abbrev pub with_flags : Head → ℕ → Head
with_flags h f = record { mark = h.mark; flags = f; start = h.start; end = h.end; text = h.text }

abbrev pub with_text : Head → List ℕ → Head
with_text h t = record { mark = h.mark; flags = h.flags; start = h.start; end = h.end; text = t }

-- ---- flags: each is a power of 2

-- whether a flag is set
abbrev pub has_flag : ℕ → ℕ → Bool
has_flag b f = eqb (f / b % 2) 1

-- a flag set; one cleared; "Flag bits not named here are carried along"
abbrev pub with_flag : ℕ → ℕ → ℕ
with_flag b f = f / (2 * b) * (2 * b) + (b + f % b)

abbrev pub without_flag : ℕ → ℕ → ℕ
without_flag b f = f / (2 * b) * (2 * b) + f % b

-- flag 1 set or cleared
abbrev pub flag1 : Bool → ℕ → ℕ
flag1 true f = with_flag 1 f
flag1 false f = without_flag 1 f

-- a record with flag 1 set
abbrev pub flagged : Rec → Rec
flagged r = rec (with_flags (head_of r) (flag1 true (head_of r).flags)) (kids_of r)

-- whether flag 1, or flag 2, is set
abbrev pub has1 : Head → Bool
has1 h = has_flag 1 h.flags

abbrev pub has2 : Head → Bool
has2 h = has_flag 2 h.flags

-- ---- children

-- the child at a place; a `No` where there is none
abbrev pub kid : ℕ → Recs → Rec
kid i nil = absent
kid zero (cons r rs) = r
kid (suc i) (cons r rs) = kid i rs

-- another child in its place
abbrev pub set_kid : ℕ → Rec → Recs → Recs
set_kid i v nil = nil
set_kid zero v (cons r rs) = cons v rs
set_kid (suc i) v (cons r rs) = cons r (set_kid i v rs)

abbrev pub one : Rec → Recs
one r = cons r nil

abbrev pub join : Recs → Recs → Recs
join nil ys = ys
join (cons x xs) ys = cons x (join xs ys)

-- whether nothing but Ops is left
abbrev pub ends : Recs → Bool
ends nil = true
ends (cons r rs) = is "Op" r

-- ---- optional parts

-- what to do without a value, and with one
abbrev pub given : {A B : Type 0} → Option A → B → (A → B) → B
given none b f = b
given (some a) b f = f a

-- "`T?` means T or `No`", as the `Option` of the Rust
abbrev pub present : Rec → Option Rec
present r = cond (is_no r) none (some r)

-- a part that goes: a `No` in its place, unless it is one (reading 9)
abbrev pub gone : Rec → Rec
gone r = cond (is_no r) r absent

-- ---- diagnostics

-- "A diagnostic is 10 bytes: `d1` to `d5` (the cases of `FastCheckDtsDiagnostic`, in order), start, end"
pub record Diag : Type 0 where
  pub mark : ℕ
  pub start : ℕ
  pub end : ℕ

-- the five cases, each at a record: d1 UnableToInferType, d2 UnableToInferTypeFallbackAny, d3 UnableToInferTypeFromProp,
-- d4 UnableToInferTypeFromSpread, d5 UnsupportedUsing
abbrev pub diag : String → Head → Diag
diag s h = record { mark = mark s; start = h.start; end = h.end }

abbrev pub diagnostic_marks : List ℕ
diagnostic_marks = mark "d1" ∷ mark "d2" ∷ mark "d3" ∷ mark "d4" ∷ mark "d5" ∷ []

abbrev pub diag_bytes : Diag → List ℕ
diag_bytes d = le2 d.mark ++ (le4 d.start ++ le4 d.end)

unfoldable pub diags_bytes : List Diag → List ℕ
diags_bytes [] = []
diags_bytes (d ∷ ds) = diag_bytes d ++ diags_bytes ds

-- ---- the overload list

-- whether one of n entries from `at` on has the range of a record
unfoldable pub entries_have : ℕ → List ℕ → ℕ → Head → Bool
entries_have zero l at h = false
entries_have (suc n) l at h =
    (eqb (u32_at l (at + 2)) h.start && eqb (u32_at l (at + 6)) h.end) || entries_have n l (at + entry_size) h

-- `is_impl_with_overloads`: whether a record's range is in the list
unfoldable pub listed : List ℕ → Head → Bool
listed l h = entries_have (length l / entry_size) l 0 h

-- ---- steps

-- what a step gives: a value, the diagnostics marked on the way, and the name counter after
abbrev pub Out : Type 0 → Type 0
Out A = A × List Diag × ℕ

-- the typing of an expression: as_const, as_readonly, the name counter
abbrev pub Typing : Type 0
Typing = Rec → Bool → Bool → ℕ → Out (Option Rec)

abbrev pub pure : {A : Type 0} → A → ℕ → Out A
pure a n = (a, [], n)

-- a choice between two steps: only the one chosen is run
abbrev pub if_m : {A : Type 0} → Bool → (ℕ → Out A) → (ℕ → Out A) → ℕ → Out A
if_m true f g n = f n
if_m false f g n = g n

-- a function of the value
abbrev pub on_value : {A B : Type 0} → (A → B) → Out A → Out B
on_value f o = (f o.0, o.1, o.2)

-- new children under a head; a record as the only one of a list
abbrev pub wrap : Head → Out Recs → Out Rec
wrap h o = on_value (rec h) o

abbrev pub single : Out Rec → Out Recs
single o = on_value one o

-- a step on every child, which is told the child's place
unfoldable pub each : (ℕ → Rec → ℕ → Out Rec) → ℕ → Recs → ℕ → Out Recs
each f i nil n = pure nil n
each f i (cons r rs) n =
    let a : Out Rec = f i r n in
    let b : Out Recs = each f (suc i) rs a.2 in
    (cons a.0 b.0, a.1 ++ b.1, b.2)

-- `filter_map`: every child becomes a list of records
unfoldable pub flat : (Rec → ℕ → Out Recs) → Recs → ℕ → Out Recs
flat f nil n = pure nil n
flat f (cons r rs) n =
    let a : Out Recs = f r n in
    let b : Out Recs = flat f rs a.2 in
    (join a.0 b.0, a.1 ++ b.1, b.2)

-- a step on the child at a place; on a record's second child
abbrev pub at_kid : ℕ → (Rec → ℕ → Out Rec) → Recs → ℕ → Out Recs
at_kid i f ks n = on_value (λ v. set_kid i v ks) (f (kid i ks) n)

unfoldable pub second : (Rec → ℕ → Out Rec) → Rec → ℕ → Out Rec
second f r n = wrap (head_of r) (at_kid 1 f (kids_of r) n)
