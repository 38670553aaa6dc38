-- Request §3: "11, a written number outside these forms". A tree whose numbers all fit has no place to refuse.
use Prim.Native.Nat.{ℕ, suc, ◌+◌}
use mathlib.Core.Path.{◌≡◌, refl, ◌∙◌}
use mathlib.Core.List.{List, [], ◌∷◌, ◌++◌}
use mathlib.Core.Bool.{Bool, true, false, cond, ◌&&◌, ◌||◌}
use mathlib.Core.Option.{Option, none, some}
use lib.Dec.{eqb}
use borrow.Author.Tests.{eqb-true}
use Rattle.definition.specs.Tree.{Head, Rec, Recs, rec, nil, cons}
use Rattle.definition.specs.Grammar.{mark, marks, member}
use Rattle.definition.specs.Record.{text, is}
use Rattle.definition.specs.Numerals.{bits_of, whole_of}
use Rattle.definition.specs.Text.{
  Token,
  token,
  own,
  outside,
  decimal_token,
  any_written,
  first_place,
  What,
  a_token,
  a_child,
  the_ops,
  the_list,
  the_members,
  the_template,
  the_text,
  the_symbol,
  the_string,
  the_number,
  the_integer,
  Piece,
  Row,
  text_rows,
  row_in,
  Child,
  holds,
  number_of,
  what_tokens,
  pieces_tokens,
  row_tokens,
  size_of,
  body_of,
  tokens,
  children,
  Line,
  item_line,
  items_lines,
  block_lines,
  first_block,
  second_block,
  first_line,
  lines_of,
  nowhere,
  first_outside,
}
use Rattle.definition.specs.TextNumbers.{is_some, number_fits, numbers_fit, all_numbers_fit}
use Rattle.definition.proofs.Tests.{never, and-true}
use Rattle.definition.proofs.Kids.{contained, member-wider}
use Rattle.definition.proofs.TextTokens.{Every, EveryChild, Adds, AllAdd, Marks, join-every, pieces-every}

-- ---- tokens that have no place

abbrev Fine : Token → Type 0
Fine (token t) = Unit {0}
Fine (own t) = Unit {0}
Fine (outside at) = ⊥

abbrev AllFine : List Token → Type 0
AllFine ts = Every Fine ts

abbrev KidsFine : List Child → Type 0
KidsFine cs = EveryChild Fine cs

place-fine : (ts : List Token) (x : ℕ) → AllFine ts → first_place x ts ≡ x
unfolding first_place
place-fine [] x p = refl
place-fine (token t ∷ ts) x p = place-fine ts x p.1
place-fine (own t ∷ ts) x p = place-fine ts x p.1
place-fine (outside at ∷ ts) x p = absurd p.0

marks-fine : Marks Fine
marks-fine = record { comma = tt; semicolon = tt; tick = tt; tick_own = tt; brace = tt; close = tt; close_own = tt; quasi = λ q. tt }

-- ---- the table: only a Nu's row writes a number

abbrev sound : List ℕ → What → Bool
sound ms (a_token t) = true
sound ms (a_child i) = true
sound ms the_ops = true
sound ms the_list = true
sound ms the_members = true
sound ms the_template = true
sound ms the_text = true
sound ms the_symbol = true
sound ms the_string = true
sound ms the_number = contained ms (marks "Nu")
sound ms the_integer = true

abbrev sound_pieces : List ℕ → List Piece → Bool
sound_pieces ms [] = true
sound_pieces ms (p ∷ ps) = sound ms p.what && sound_pieces ms ps

abbrev sound_rows : List Row → Bool
sound_rows [] = true
sound_rows (r ∷ rs) = sound_pieces r.marks r.pieces && sound_rows rs

all_sound : sound_rows text_rows ≡ true
unfolding text_rows marks member
all_sound = refl

decimal-fine : (at b : ℕ) (w : Option ℕ) → is_some w ≡ true → Fine (decimal_token at b w)
decimal-fine at b none e = absurd (never e)
decimal-fine at b (some n) e = tt

module _ (at : ℕ) (h : Head) (other : eqb h.mark (mark "Nu") ≡ false) where
  piece-adds : (w : What) (ms : List ℕ) → member h.mark ms ≡ true → sound ms w ≡ true → Adds Fine at h w
  unfolding marks member
  piece-adds (a_token t) ms m e = tt
  piece-adds (a_child i) ms m e = tt
  piece-adds the_ops ms m e = tt
  piece-adds the_list ms m e = tt
  piece-adds the_members ms m e = tt
  piece-adds the_template ms m e = tt
  piece-adds the_text ms m e = tt
  piece-adds the_symbol ms m e = tt
  piece-adds the_string ms m e = tt
  piece-adds the_number ms m e =
      let n : member h.mark (marks "Nu") ≡ true = member-wider h.mark ms (marks "Nu") e m in absurd (never (rw other at n))
  piece-adds the_integer ms m e = tt

  pieces_add : (ps : List Piece) (ms : List ℕ) → member h.mark ms ≡ true → sound_pieces ms ps ≡ true → AllAdd Fine at h ps
  pieces_add [] ms m e = tt
  pieces_add (p ∷ ps) ms m e = let z = and-true (sound ms p.what) (sound_pieces ms ps) e in (piece-adds p.what ms m z.0, pieces_add ps ms m z.1)

  row-adds : (rs : List Row) → sound_rows rs ≡ true → AllAdd Fine at h (row_in rs h.mark).pieces
  unfolding row_in
  row-adds [] e = tt
  row-adds (r ∷ rs) e = let z = and-true (sound_pieces r.marks r.pieces) (sound_rows rs) e in go (member h.mark r.marks) refl z.0 (row-adds rs z.1)
    where
      go : (b : Bool) → member h.mark r.marks ≡ b → sound_pieces r.marks r.pieces ≡ true → AllAdd Fine at h (row_in rs h.mark).pieces →
          AllAdd Fine at h (cond b r (row_in rs h.mark)).pieces
      go true m f ih = pieces_add r.pieces r.marks m f
      go false m f ih = ih

-- ---- records

-- a number: its first child's tokens, or its digits
number-fine : (h : Head) (ks : Recs) (at body : ℕ) (under : Bool) → h.mark ≡ mark "Nu" → number_fits h ks ≡ true → KidsFine (children ks under body) →
    AllFine (number_of at h.text (children ks under body))
unfolding number_of tokens
number-fine h nil at body under m e p = (decimal-fine at (bits_of h.text) (whole_of (bits_of h.text)) (rw m at e), tt)
number-fine h (cons r rs) at body under m e p = p.0

row_fine : (h : Head) (ks : Recs) (inner under : Bool) (at body : ℕ) → number_fits h ks ≡ true → KidsFine (children ks inner body) →
    AllFine (row_tokens (row_in text_rows h.mark) under at h (children ks inner body))
unfolding text_rows marks member row_in holds what_tokens pieces_tokens
row_fine h ks inner under at body e p = go (eqb h.mark (mark "Nu")) refl
  where
    go : (b : Bool) → eqb h.mark (mark "Nu") ≡ b → AllFine (row_tokens (row_in text_rows h.mark) under at h (children ks inner body))
    go true m =
        let n = eqb-true h.mark (mark "Nu") m in
        rw n (join-every Fine (number_of at h.text (children ks inner body)) [] (number-fine h ks at body inner n e p) tt)
    go false m =
        pieces-every Fine marks-fine (row_in text_rows h.mark).slots at h (row_in text_rows h.mark).pieces under (children ks inner body)
        (row-adds at h m text_rows all_sound) p

mutual
  unfolding tokens numbers_fit

  tokens-fine : (r : Rec) (under : Bool) (at : ℕ) → numbers_fit r ≡ true → AllFine (tokens r under at)
  tokens-fine (rec h ks) under at e =
      let z = and-true (number_fits h ks) (all_numbers_fit ks) e in
      row_fine h ks (eqb h.mark (mark "Oc")) under at (body_of at h) z.0 (children-fine ks (eqb h.mark (mark "Oc")) (body_of at h) z.1)

  children-fine : (ks : Recs) (under : Bool) (at : ℕ) → all_numbers_fit ks ≡ true → KidsFine (children ks under at)
  children-fine nil under at e = tt
  children-fine (cons r rs) under at e =
      let z = and-true (numbers_fit r) (all_numbers_fit rs) e in (tokens-fine r under at z.0, children-fine rs under (at + size_of r) z.1)

-- ---- lines

abbrev LinesFine : List Line → Type 0
LinesFine [] = Unit {0}
LinesFine (l ∷ ls) = AllFine l.tokens × LinesFine ls

lines_join : (xs ys : List Line) → LinesFine xs → LinesFine ys → LinesFine (xs ++ ys)
lines_join [] ys p q = q
lines_join (x ∷ xs) ys p q = (p.0, lines_join xs ys p.1 q)

lines_choice : (b : Bool) (xs ys : List Line) → LinesFine xs → LinesFine ys → LinesFine (cond b xs ys)
lines_choice true xs ys p q = p
lines_choice false xs ys p q = q

lines-place : (ls : List Line) (x : ℕ) → LinesFine ls → first_outside x ls ≡ x
unfolding first_outside
lines-place [] x p = refl
lines-place (l ∷ ls) x p = lines-place ls (first_place x l.tokens) p.1 ∙ place-fine l.tokens x p.0

item-fine : (r : Rec) (d at : ℕ) (ls : List Line) → numbers_fit r ≡ true → LinesFine ls → LinesFine (item_line r d at ls)
item-fine r d at ls e p = lines_choice (is "St" r || is "Op" r) [] (record { spaces = d; tokens = tokens r false at } ∷ ls) tt (tokens-fine r false at e, p)

mutual
  unfolding items_lines numbers_fit

  items-fine : (ks : Recs) (d at : ℕ) → all_numbers_fit ks ≡ true → LinesFine (items_lines ks d at)
  items-fine nil d at e = tt
  items-fine (cons r rs) d at e =
      let z = and-true (numbers_fit r) (all_numbers_fit rs) e in
      lines_join (item_line r d at (block_lines r d at)) (items_lines rs d (at + size_of r))
      (item-fine r d at (block_lines r d at) z.0 (block-fine r d at z.0)) (items-fine rs d (at + size_of r) z.1)

  block-fine : (r : Rec) (d at : ℕ) → numbers_fit r ≡ true → LinesFine (block_lines r d at)
  block-fine (rec h ks) d at e =
      let z = and-true (number_fits h ks) (all_numbers_fit ks) e in
      lines_choice (eqb h.mark (mark "Nb")) _ _
      (lines_join (items_lines ks (suc d) (body_of at h)) (record { spaces = d; tokens = token (text "}") ∷ [] } ∷ [])
      (items-fine ks (suc d) (body_of at h) z.1) ((tt, tt), tt))
      (lines_choice (eqb h.mark (mark "Ed")) _ _ (first_fine ks d (body_of at h) z.1)
      (lines_choice (eqb h.mark (mark "Ns") || eqb h.mark (mark "Nd")) _ [] (second-fine ks d (body_of at h) z.1) tt))

  first_fine : (ks : Recs) (d at : ℕ) → all_numbers_fit ks ≡ true → LinesFine (first_block ks d at)
  first_fine nil d at e = tt
  first_fine (cons r rs) d at e = block-fine r d at (and-true (numbers_fit r) (all_numbers_fit rs) e).0

  second-fine : (ks : Recs) (d at : ℕ) → all_numbers_fit ks ≡ true → LinesFine (second_block ks d at)
  second-fine nil d at e = tt
  second-fine (cons r rs) d at e = first_fine rs d (at + size_of r) (and-true (numbers_fit r) (all_numbers_fit rs) e).1

-- no number of such a tree is refused
pub numbers_fit_lem : (r : Rec) → numbers_fit r ≡ true → first_outside nowhere (lines_of r) ≡ nowhere
unfolding lines_of numbers_fit
numbers_fit_lem (rec h ks) e =
    lines-place (lines_of (rec h ks)) nowhere
    (lines_join (first_line (tokens (rec h ks) false 0)) (items_lines ks 0 (body_of 0 h))
    (lines_choice (any_written (tokens (rec h ks) false 0)) (record { spaces = 0; tokens = tokens (rec h ks) false 0 } ∷ []) [] (tokens-fine (rec h ks) false 0 e, tt) tt)
    (items-fine ks 0 (body_of 0 h) (and-true (number_fits h ks) (all_numbers_fit ks) e).1))
