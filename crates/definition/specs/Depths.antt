-- Request §1: "a table .. with one row for each of the five diagnostics and one column for each namespace depth from 0 to 31, where the depth is the
-- number of Ns records that hold the record it is marked at. Below it goes a total."
use Rattle.std.specs.Prelude.{ℕ, zero, suc, ◌+◌, ◌≡◌, ◌⊎◌, List, [], ◌∷◌, ◌++◌, Bool, true, false, cond, ◌&&◌, eqb}
use Rattle.definition.specs.Tree.{Head, Rec, Recs, rec, nil, cons, tree_at}
use Rattle.definition.specs.Grammar.{mark}
use Rattle.definition.specs.Check.{deepest}
use Rattle.definition.specs.Record.{kids_of, is, kid, Diag, diagnostic_marks, Typing}
use Rattle.definition.specs.Prescan.{prescan_module_ids}
use Rattle.definition.specs.Typing.{expr_to_ts_type}
use Rattle.definition.specs.ChildNames.{ed_declaration}
use Rattle.definition.specs.Items.{transform_module_item}
use Rattle.definition.specs.Transform.{done, Answer, Answer.refused, Result, call}

-- ---- the depth of each diagnostic

pub record Placed : Type 0 where
  pub what : Diag
  pub depth : ℕ

-- diagnostics that stand at one depth
unfoldable pub all_at : ℕ → List Diag → List Placed
all_at d [] = []
all_at d (x ∷ xs) = record { what = x; depth = d } ∷ all_at d xs

-- the diagnostics without their depths
unfoldable pub what_of : List Placed → List Diag
what_of [] = []
what_of (x ∷ xs) = x.what ∷ what_of xs

module _ (list : List ℕ) (ctx : ℕ) (ty : Typing) where
  -- the diagnostics of items that d Ns records hold, with `top` and the name counter as in `transform_module_items`
  unfoldable mutual
    pub items_placed : Recs → Bool → ℕ → ℕ → List Placed
    items_placed nil top d n = []
    items_placed (cons r rs) top d n = item_placed r top d n ++ items_placed rs top d (transform_module_item list ctx ty r top n).2

    -- an Ns, bare or exported, is marked nowhere but in its body, which one Ns more holds; another item holds no Ns (`no_space`), so that all of its
    -- diagnostics are marked at this depth
    pub item_placed : Rec → Bool → ℕ → ℕ → List Placed
    item_placed (rec h ks) top d n =
        cond (eqb h.mark (mark "Ns")) (space_placed ks (suc d) n)
        (cond (eqb h.mark (mark "Ed") && is "Ns" (kid ed_declaration ks)) (export_placed ks (suc d) n)
        (all_at d (transform_module_item list ctx ty (rec h ks) top n).1))

    -- the children of an Ed: an Ns, then Ops
    pub export_placed : Recs → ℕ → ℕ → List Placed
    export_placed nil d n = []
    export_placed (cons r ops) d n = exported_placed r d n

    pub exported_placed : Rec → ℕ → ℕ → List Placed
    exported_placed (rec h ks) d n = space_placed ks d n

    -- the children of an Ns or an Nd: its name, its body, Ops
    pub space_placed : Recs → ℕ → ℕ → List Placed
    space_placed nil d n = []
    space_placed (cons name rs) d n = body_first_placed rs d n

    pub body_first_placed : Recs → ℕ → ℕ → List Placed
    body_first_placed nil d n = []
    body_first_placed (cons b ops) d n = body_placed b d n

    -- "an Nd is no Ns"
    pub body_placed : Rec → ℕ → ℕ → List Placed
    body_placed (rec h ks) d n =
        cond (eqb h.mark (mark "Nb")) (items_placed ks false d n) (cond (eqb h.mark (mark "Nd")) (space_placed ks d n) [])

-- the diagnostics of the transform of a Mo, each with its depth
unfoldable pub placed : List ℕ → ℕ → Rec → List Placed
placed list ctx r = items_placed list ctx (expr_to_ts_type (prescan_module_ids (kids_of r)) ctx) (kids_of r) true 0 0

-- ---- "the number of Ns records that hold the record it is marked at"

-- the heads of a tree's records in preorder, each with the number of Ns records that hold it; d of them hold the tree
unfoldable mutual
  pub heads : ℕ → Rec → List (Head × ℕ)
  heads d (rec h ks) = (h, d) ∷ all_heads (cond (eqb h.mark (mark "Ns")) (suc d) d) ks

  pub all_heads : ℕ → Recs → List (Head × ℕ)
  all_heads d nil = []
  all_heads d (cons r rs) = heads d r ++ all_heads d rs

-- a diagnostic is marked at one of these records, and its depth is that record's
abbrev pub MarkedAt : List (Head × ℕ) → Placed → Type 0
MarkedAt [] x = ⊥
MarkedAt (y ∷ ys) x = ((x.what.start ≡ y.0.start) × (x.what.end ≡ y.0.end) × (x.depth ≡ y.1)) ⊎ MarkedAt ys x

abbrev pub AllMarkedAt : List (Head × ℕ) → List Placed → Type 0
AllMarkedAt ys [] = Unit {0}
AllMarkedAt ys (x ∷ xs) = MarkedAt ys x × AllMarkedAt ys xs

-- ---- the table

-- "one column for each namespace depth from 0 to 31"
abbrev pub columns : ℕ
columns = 32

-- "the number of diagnostic records of that row and depth"
unfoldable pub count_of : ℕ → ℕ → List Placed → ℕ
count_of m d [] = 0
count_of m d (x ∷ xs) = cond (eqb x.what.mark m && eqb x.depth d) 1 0 + count_of m d xs

-- n counts of a row, from the depth d on
unfoldable pub row_of : ℕ → ℕ → ℕ → List Placed → List ℕ
row_of zero m d xs = []
row_of (suc n) m d xs = count_of m d xs ∷ row_of n m (suc d) xs

unfoldable pub rows_of : List ℕ → List Placed → List (List ℕ)
rows_of [] xs = []
rows_of (m ∷ ms) xs = row_of columns m 0 xs ∷ rows_of ms xs

-- "one row for each of the five diagnostics"
unfoldable pub table_of : List Placed → List (List ℕ)
table_of xs = rows_of diagnostic_marks xs

-- "Below it goes a total": the sum of its counts
unfoldable pub sum : List ℕ → ℕ
sum [] = 0
sum (x ∷ xs) = x + sum xs

unfoldable pub total : List (List ℕ) → ℕ
total [] = 0
total (r ∷ rs) = sum r + total rs

-- the table row by row: "d1 first, depth 0 first"
unfoldable pub in_one : List (List ℕ) → List ℕ
in_one [] = []
in_one (r ∷ rs) = r ++ in_one rs

-- ---- the call

-- the table after a call with this answer: "on refusal nothing changes"
abbrev pub counts_by : {A : Type 0} → Answer → A → A → A
counts_by (done n k) new old = new
counts_by (refused number place) new old = old

-- the transform's result, and the table
pub record Counted : Type 0 where
  pub result : Result
  pub table : List (List ℕ)

unfoldable pub call_depths : List ℕ → List ℕ → ℕ → List ℕ → List ℕ → List (List ℕ) → Counted
call_depths tree list ctx out diags table =
    let x : Result = call tree list ctx out diags in
    record { result = x; table = counts_by x.answer (table_of (placed list ctx (tree_at deepest tree 0))) table }
