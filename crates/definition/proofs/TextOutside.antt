-- Request §3: a written number outside the forms is refused with 11, "the first in preorder, its offset the place". The place lies in the tree, and the
-- call looks for exactly these numbers (`outside-first`).
use Prim.Native.Nat.{ℕ, suc, ◌+◌, ◌≤◌, ◌<◌, min}
use mathlib.Core.Path.{◌≡◌, refl, sym, ◌∙◌}
use mathlib.Core.List.{List, [], ◌∷◌, ◌++◌}
use mathlib.Core.Bool.{Bool, true, false, cond, ◌||◌}
use mathlib.Core.Option.{Option, none, some}
use native.Mathlib.Omega.{arith}
use lib.ListN.{length, length-append}
use lib.Dec.{eqb, ltb}
use borrow.Author.Tests.{lt-ltb, le-ltb}
use Rattle.definition.specs.Tree.{Head, Rec, Recs, rec, nil, cons, head_size, encode, encodes}
use Rattle.definition.specs.Grammar.{mark}
use Rattle.definition.specs.Record.{text, is}
use Rattle.definition.specs.Numerals.{bits_of, whole_of}
use Rattle.definition.specs.Text.{
  Token,
  token,
  own,
  outside,
  decimal_token,
  any_written,
  first_of_token,
  first_place,
  What,
  a_token,
  a_child,
  the_ops,
  the_list,
  the_members,
  the_template,
  the_text,
  the_symbol,
  the_string,
  the_number,
  the_integer,
  Piece,
  text_rows,
  row_in,
  Child,
  size_of,
  body_of,
  tokens,
  children,
  Line,
  item_line,
  items_lines,
  block_lines,
  first_block,
  second_block,
  first_line,
  lines_of,
  nowhere,
  first_outside,
}
use Rattle.definition.specs.TextLeftOut.{any_outside, lines_outside}
use Rattle.definition.proofs.Round.{length-head_bytes}
use Rattle.definition.proofs.Tests.{never}
use Rattle.definition.proofs.TextTokens.{Every, EveryChild, Adds, AllAdd, Marks, pieces-every}

-- ---- places below a number

abbrev pub Within : ℕ → Token → Type 0
Within n (token t) = Unit {0}
Within n (own t) = Unit {0}
Within n (outside at) = at < n

abbrev pub AllWithin : ℕ → List Token → Type 0
AllWithin n ts = Every (Within n) ts

abbrev KidsWithin : ℕ → List Child → Type 0
KidsWithin n cs = EveryChild (Within n) cs

-- only a number has a place
marks-within : (n : ℕ) → Marks (Within n)
marks-within n = record { comma = tt; semicolon = tt; tick = tt; tick_own = tt; brace = tt; close = tt; close_own = tt; quasi = λ q. tt }

module _ (n at : ℕ) (h : Head) (lt : at < n) where
  decimal-within : (b : ℕ) (w : Option ℕ) → Within n (decimal_token at b w)
  decimal-within b none = lt
  decimal-within b (some m) = tt

  adds-within : (w : What) → Adds (Within n) at h w
  adds-within (a_token t) = tt
  adds-within (a_child i) = tt
  adds-within the_ops = tt
  adds-within the_list = tt
  adds-within the_members = tt
  adds-within the_template = tt
  adds-within the_text = tt
  adds-within the_symbol = tt
  adds-within the_string = tt
  adds-within the_number = decimal-within (bits_of h.text) (whole_of (bits_of h.text))
  adds-within the_integer = tt

  all_add : (ps : List Piece) → AllAdd (Within n) at h ps
  all_add [] = tt
  all_add (p ∷ ps) = (adds-within p.what, all_add ps)

-- ---- records

pub size_is : (h : Head) (ks : Recs) → size_of (rec h ks) ≡ head_size + length h.text + length (encodes ks)
unfolding encode
size_is h ks = simp (length-append, length-head_bytes) (omega arith)

pub sizes_are : (r : Rec) (rs : Recs) → length (encodes (cons r rs)) ≡ size_of r + length (encodes rs)
unfolding encode
sizes_are r rs = length-append (encode r) (encodes rs)

mutual
  unfolding tokens

  pub tokens-within : (n : ℕ) (r : Rec) (under : Bool) (at : ℕ) → at + size_of r ≤ n → AllWithin n (tokens r under at)
  tokens-within n (rec h ks) under at lt =
      pieces-every (Within n) (marks-within n) (row_in text_rows h.mark).slots at h (row_in text_rows h.mark).pieces under
      (children ks (eqb h.mark (mark "Oc")) (body_of at h)) (all_add n at h (omega (arith, size_is h ks)) (row_in text_rows h.mark).pieces)
      (children-within n ks (eqb h.mark (mark "Oc")) (body_of at h) (omega (arith, size_is h ks)))

  pub children-within : (n : ℕ) (ks : Recs) (under : Bool) (at : ℕ) → at + length (encodes ks) ≤ n → KidsWithin n (children ks under at)
  children-within n nil under at lt = tt
  children-within n (cons r rs) under at lt = (tokens-within n r under at (omega (arith, sizes_are r rs)), children-within n rs under (at + size_of r) (omega (arith, sizes_are r rs)))

-- ---- lines

abbrev pub LinesWithin : ℕ → List Line → Type 0
LinesWithin n [] = Unit {0}
LinesWithin n (l ∷ ls) = AllWithin n l.tokens × LinesWithin n ls

lines_join : (n : ℕ) (xs ys : List Line) → LinesWithin n xs → LinesWithin n ys → LinesWithin n (xs ++ ys)
lines_join n [] ys p q = q
lines_join n (x ∷ xs) ys p q = (p.0, lines_join n xs ys p.1 q)

lines_choice : (n : ℕ) (b : Bool) (xs ys : List Line) → LinesWithin n xs → LinesWithin n ys → LinesWithin n (cond b xs ys)
lines_choice n true xs ys p q = p
lines_choice n false xs ys p q = q

item-within : (n : ℕ) (r : Rec) (d at : ℕ) (ls : List Line) → at + size_of r ≤ n → LinesWithin n ls → LinesWithin n (item_line r d at ls)
item-within n r d at ls lt p =
    lines_choice n (is "St" r || is "Op" r) [] (record { spaces = d; tokens = tokens r false at } ∷ ls) tt (tokens-within n r false at lt, p)

mutual
  unfolding items_lines

  items-within : (n : ℕ) (ks : Recs) (d at : ℕ) → at + length (encodes ks) ≤ n → LinesWithin n (items_lines ks d at)
  items-within n nil d at lt = tt
  items-within n (cons r rs) d at lt =
      lines_join n (item_line r d at (block_lines r d at)) (items_lines rs d (at + size_of r))
      (item-within n r d at (block_lines r d at) (omega (arith, sizes_are r rs)) (block_within n r d at (omega (arith, sizes_are r rs))))
      (items-within n rs d (at + size_of r) (omega (arith, sizes_are r rs)))

  block_within : (n : ℕ) (r : Rec) (d at : ℕ) → at + size_of r ≤ n → LinesWithin n (block_lines r d at)
  block_within n (rec h ks) d at lt =
      lines_choice n (eqb h.mark (mark "Nb")) _ _
      (lines_join n (items_lines ks (suc d) (body_of at h)) (record { spaces = d; tokens = token (text "}") ∷ [] } ∷ [])
      (items-within n ks (suc d) (body_of at h) (omega (arith, size_is h ks))) ((tt, tt), tt))
      (lines_choice n (eqb h.mark (mark "Ed")) _ _ (first-within n ks d (body_of at h) (omega (arith, size_is h ks)))
      (lines_choice n (eqb h.mark (mark "Ns") || eqb h.mark (mark "Nd")) _ [] (second-within n ks d (body_of at h) (omega (arith, size_is h ks))) tt))

  first-within : (n : ℕ) (ks : Recs) (d at : ℕ) → at + length (encodes ks) ≤ n → LinesWithin n (first_block ks d at)
  first-within n nil d at lt = tt
  first-within n (cons r rs) d at lt = block_within n r d at (omega (arith, sizes_are r rs))

  second-within : (n : ℕ) (ks : Recs) (d at : ℕ) → at + length (encodes ks) ≤ n → LinesWithin n (second_block ks d at)
  second-within n nil d at lt = tt
  second-within n (cons r rs) d at lt = first-within n rs d (at + size_of r) (omega (arith, sizes_are r rs))

-- the places of a tree's lines lie in it
pub lines-within : (r : Rec) → LinesWithin (size_of r) (lines_of r)
unfolding lines_of
lines-within (rec h ks) =
    lines_join (size_of (rec h ks)) (first_line (tokens (rec h ks) false 0)) (items_lines ks 0 (body_of 0 h))
    (lines_choice (size_of (rec h ks)) (any_written (tokens (rec h ks) false 0)) (record { spaces = 0; tokens = tokens (rec h ks) false 0 } ∷ []) []
    (tokens-within (size_of (rec h ks)) (rec h ks) false 0 (omega arith), tt) tt)
    (items-within (size_of (rec h ks)) ks 0 (body_of 0 h) (omega (arith, size_is h ks)))

-- ---- the first place

token_le : (t : Token) (x : ℕ) → first_of_token x t ≤ x
token_le (token t) x = omega arith
token_le (own t) x = omega arith
token_le (outside at) x = omega arith

place_le : (ts : List Token) (x : ℕ) → first_place x ts ≤ x
unfolding first_place
place_le [] x = omega arith
place_le (t ∷ ts) x = omega (arith, place_le ts (first_of_token x t), token_le t x)

-- with no such number it is x, with one it is below n
place_none : (ts : List Token) (x : ℕ) → any_outside ts ≡ false → first_place x ts ≡ x
unfolding first_place any_outside
place_none [] x e = refl
place_none (token t ∷ ts) x e = place_none ts x e
place_none (own t ∷ ts) x e = place_none ts x e
place_none (outside at ∷ ts) x e = absurd (never (sym e))

place-some : (n : ℕ) (ts : List Token) (x : ℕ) → AllWithin n ts → any_outside ts ≡ true → first_place x ts < n
unfolding first_place any_outside
place-some n [] x p e = absurd (never e)
place-some n (token t ∷ ts) x p e = place-some n ts x p.1 e
place-some n (own t ∷ ts) x p e = place-some n ts x p.1 e
place-some n (outside at ∷ ts) x p e = omega (arith, place_le ts (min x at), p.0)

lines_le : (ls : List Line) (x : ℕ) → first_outside x ls ≤ x
unfolding first_outside
lines_le [] x = omega arith
lines_le (l ∷ ls) x = omega (arith, lines_le ls (first_place x l.tokens), place_le l.tokens x)

lines_none : (ls : List Line) (x : ℕ) → lines_outside ls ≡ false → first_outside x ls ≡ x
unfolding first_outside lines_outside
lines_none [] x e = refl
lines_none (l ∷ ls) x e = go (any_outside l.tokens) refl e (λ y f. lines_none ls y f)
  where
    go : (b : Bool) → any_outside l.tokens ≡ b → (b || lines_outside ls) ≡ false →
        ((y : ℕ) → lines_outside ls ≡ false → first_outside y ls ≡ y) → first_outside (first_place x l.tokens) ls ≡ x
    go true t f ih = absurd (never (sym f))
    go false t f ih = ih (first_place x l.tokens) f ∙ place_none l.tokens x t

lines-some : (n : ℕ) (ls : List Line) (x : ℕ) → LinesWithin n ls → lines_outside ls ≡ true → first_outside x ls < n
unfolding first_outside lines_outside
lines-some n [] x p e = absurd (never e)
lines-some n (l ∷ ls) x p e = go (any_outside l.tokens) refl e (λ y f. lines-some n ls y p.1 f)
  where
    go : (b : Bool) → any_outside l.tokens ≡ b → (b || lines_outside ls) ≡ true →
        ((y : ℕ) → lines_outside ls ≡ true → first_outside y ls < n) → first_outside (first_place x l.tokens) ls < n
    go true t f ih = omega (arith, lines_le ls (first_place x l.tokens), place-some n l.tokens x p.0 t)
    go false t f ih = ih (first_place x l.tokens) f

-- "a written number outside these forms": the call finds one where there is one
pub outside-first : (r : Rec) → size_of r ≤ nowhere → ltb (first_outside nowhere (lines_of r)) nowhere ≡ lines_outside (lines_of r)
outside-first r s = go (lines_outside (lines_of r)) refl
  where
    go : (b : Bool) → lines_outside (lines_of r) ≡ b → ltb (first_outside nowhere (lines_of r)) nowhere ≡ b
    go true e = lt-ltb (first_outside nowhere (lines_of r)) nowhere (omega (arith, lines-some (size_of r) (lines_of r) nowhere (lines-within r) e))
    go false e = le-ltb (first_outside nowhere (lines_of r)) nowhere (omega (arith, lines_none (lines_of r) nowhere e))

-- "its offset the place": it lies in the tree
pub outside-place : (r : Rec) → lines_outside (lines_of r) ≡ true → first_outside nowhere (lines_of r) < size_of r
outside-place r e = lines-some (size_of r) (lines_of r) nowhere (lines-within r) e
