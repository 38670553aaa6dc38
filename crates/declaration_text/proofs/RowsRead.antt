-- The code's tables say what the rows of `Text` say, by one computation over the whole of them.
use mathlib.Core.Path.{◌≡◌, refl, sym, ap, ◌∙◌}
use mathlib.Core.List.{List, [], ◌∷◌, map}
use mathlib.Core.Bool.{Bool, true, false, cond}
use Prim.Native.Nat.{ℕ, zero, suc, ◌+◌, ◌-◌, ◌<◌, ◌≤◌}
use lib.Dec.{eqb}
use borrow.Author.Tests.{eqb-true, ne_eqb}
use native.Mathlib.Omega.{arith}
use lib.ListN.{length, get_or, get_or-map}
use Rattle.definition.specs.Grammar.{known, place, marks, member, grammar}
use Rattle.definition.specs.Text.{Piece, text_rows, row_in}
use Rattle.declaration_text.specs.Printed.{rows_table, words_table}
use Rattle.declaration_text.specs.Table.{when_of, what_of, piece_in, pieces_in, row_at}

pieces_are : map (λ (row : List ℕ). pieces_in 8 row 1) rows_table ≡ map (λ (m : ℕ). (row_in text_rows m).pieces) known
unfolding pieces_in when_of what_of rows_table words_table known grammar text_rows row_in marks member
pieces_are = refl

slots_are : map (λ (row : List ℕ). get_or row 0 0) rows_table ≡ map (λ (m : ℕ). (row_in text_rows m).slots) known
unfolding rows_table known grammar text_rows row_in marks member
slots_are = refl

no_pieces : (row_in text_rows 0).pieces ≡ pieces_in 8 [] 1
unfolding pieces_in text_rows row_in marks member
no_pieces = refl

no_slots : (row_in text_rows 0).slots ≡ 0
unfolding text_rows row_in marks member
no_slots = refl

-- a mark stands at its place
mark_at_place : (xs : List ℕ) (m : ℕ) → place xs m < length xs → get_or xs (place xs m) 0 ≡ m
unfolding place
mark_at_place [] m h = absurd (omega arith)
mark_at_place (x ∷ xs) m h = go (eqb x m) refl (λ l. mark_at_place xs m l)
  where
    go : (b : Bool) → eqb x m ≡ b → (place xs m < length xs → get_or xs (place xs m) 0 ≡ m) → get_or (x ∷ xs) (cond b 0 (suc (place xs m))) 0 ≡ m
    go true e f = eqb-true x m e
    go false e f = f (let z : cond (eqb x m) 0 (suc (place xs m)) < suc (length xs) = h in omega (arith, rw e at z))

-- the row of a known mark, by its number
module _ (m : ℕ) (h : place known m < length known) where
  pub row-pieces : pieces_in 8 (row_at (place known m)) 1 ≡ (row_in text_rows m).pieces
  row-pieces =
      sym (get_or-map (λ (row : List ℕ). pieces_in 8 row 1) rows_table (place known m) [])
      ∙ ap (λ (t : List (List Piece)). get_or t (place known m) (pieces_in 8 [] 1)) pieces_are
      ∙ ap (λ (d : List Piece). get_or (map (λ (m : ℕ). (row_in text_rows m).pieces) known) (place known m) d) (sym no_pieces)
      ∙ get_or-map (λ (m : ℕ). (row_in text_rows m).pieces) known (place known m) 0
      ∙ ap (λ (m : ℕ). (row_in text_rows m).pieces) (mark_at_place known m h)

  pub row-slots : get_or (row_at (place known m)) 0 0 ≡ (row_in text_rows m).slots
  row-slots =
      sym (get_or-map (λ (row : List ℕ). get_or row 0 0) rows_table (place known m) [])
      ∙ ap (λ (t : List ℕ). get_or t (place known m) 0) slots_are
      ∙ ap (λ (d : ℕ). get_or (map (λ (m : ℕ). (row_in text_rows m).slots) known) (place known m) d) (sym no_slots)
      ∙ get_or-map (λ (m : ℕ). (row_in text_rows m).slots) known (place known m) 0
      ∙ ap (λ (m : ℕ). (row_in text_rows m).slots) (mark_at_place known m h)

-- its pieces one after the other: none, or one and those behind it
pub pieces_none : (row : List ℕ) (n i : ℕ) → n ≤ 0 → pieces_in n row i ≡ []
unfolding pieces_in
pieces_none row zero i h = refl
pieces_none row (suc n) i h = absurd (omega arith)

pub pieces_end : (row : List ℕ) (n i : ℕ) → get_or row (i + 2) 0 ≡ 0 → pieces_in n row i ≡ []
unfolding pieces_in
pieces_end row zero i e = refl
pieces_end row (suc n) i e = rw e

pub pieces_more : (row : List ℕ) (n i : ℕ) → 0 < n → (get_or row (i + 2) 0 ≡ 0 → ⊥) → pieces_in n row i ≡ piece_in row i ∷ pieces_in (n - 1) row (i + 5)
unfolding pieces_in
pieces_more row zero i h e = absurd (omega arith)
pieces_more row (suc n) i h e =
    let z : n ≡ suc n - 1 = omega arith in
    rw (ne_eqb (get_or row (i + 2) 0) 0 e)
    (ap (λ (k : ℕ). piece_in row i ∷ pieces_in k row (i + 5)) z)
