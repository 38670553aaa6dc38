-- Names that are made, and the keys of class members: `gen_unique_name`, `is_well_known_symbol_expr`, `valid_prop_name`.
use Rattle.std.specs.Prelude.{ℕ, zero, suc, ◌+◌, ◌/◌, ◌%◌, List, [], ◌∷◌, ◌++◌, Bool, false, cond, not, ◌&&◌, ◌||◌, eqb, ltb}
use Prim.Native.Char.{code}
use Rattle.std.proofs.Math.Option.{Option, none, some}
use Rattle.definition.specs.Tree.{Rec, Recs, rec, nil, cons}
use Rattle.definition.specs.Grammar.{mark}
use Rattle.definition.specs.Record.{text, same_text, head_of, kids_of, text_of, is, ranged, kid, one, ends}
use Rattle.definition.specs.Helpers.{is_global}
use Rattle.definition.specs.ChildNames.{mb_object, mb_property}

-- ---- `gen_unique_name`

abbrev pub digit : ℕ → ℕ
digit d = code "0" + d

-- at most `most` decimal digits of n, the last ones
unfoldable pub decimal_up_to : ℕ → ℕ → List ℕ
decimal_up_to zero n = []
decimal_up_to (suc most) n =
    let front : List ℕ = decimal_up_to most (n / 10) in
    cond (ltb n 10) [] front ++ (digit (n % 10) ∷ [])

-- `format!("{}", n)`: no number has more digits than n + 1
abbrev pub decimal : ℕ → List ℕ
decimal n = decimal_up_to (suc n) n

-- `format!("_dts_{}", id_counter)`
unfoldable pub gen_unique_name : ℕ → List ℕ
gen_unique_name n = text "_dts_" ++ decimal n

-- ---- `is_well_known_symbol_expr`

-- "the 16 names in `WELL_KNOWN_SYMBOL_NAMES`"
unfoldable pub well_known_symbol_names : List (List ℕ)
well_known_symbol_names =
    text "asyncDispose" ∷
    text "asyncIterator" ∷
    text "dispose" ∷
    text "hasInstance" ∷
    text "isConcatSpreadable" ∷
    text "iterator" ∷
    text "match" ∷
    text "matchAll" ∷
    text "metadata" ∷
    text "replace" ∷
    text "search" ∷
    text "species" ∷
    text "split" ∷
    text "toPrimitive" ∷
    text "toStringTag" ∷
    text "unscopables" ∷
    []

unfoldable pub any_text : List (List ℕ) → List ℕ → Bool
any_text [] t = false
any_text (n ∷ ns) t = same_text n t || any_text ns t

-- "Mb of unresolved `Symbol` with one of the 16 names": of an Mb with these children
unfoldable pub is_well_known_symbol_expr : ℕ → Recs → Bool
is_well_known_symbol_expr ctx ks =
    is_global ctx "Symbol" (kid mb_object ks) && (is "Ki" (kid mb_property ks) && any_text well_known_symbol_names (text_of (kid mb_property ks)))

-- ---- `prop_name_from_expr`

pub data KeyExpr : Type 0 where
  x_lit x_tpl x_through x_ident x_member x_other : KeyExpr

unfoldable pub key_expr_kind : ℕ → KeyExpr
key_expr_kind m =
    cond (eqb m (mark "Ss") || (eqb m (mark "Nu") || eqb m (mark "Bi"))) x_lit
    (cond (eqb m (mark "Te")) x_tpl
    (cond (eqb m (mark "Pr") || (eqb m (mark "Ta") || (eqb m (mark "Tc") || (eqb m (mark "Nn") || (eqb m (mark "As") || eqb m (mark "Ts")))))) x_through
    (cond (eqb m (mark "Id")) x_ident (cond (eqb m (mark "Mb")) x_member x_other))))

-- "a fresh Kc over that expression with its range"
abbrev pub computed : Rec → Rec
computed r = rec (ranged "Kc" (head_of r) []) (one r)

-- `first` is the key that the first child gives, `only` the one that the only expression of a template gives
unfoldable pub prop_name_by : KeyExpr → ℕ → Rec → (ℕ → Option Rec) → (ℕ → Option Rec) → Option Rec
prop_name_by x_lit ctx r first only = some r
prop_name_by x_tpl ctx r first only = only ctx
prop_name_by x_through ctx r first only = first ctx
prop_name_by x_ident ctx r first only = some (computed r)
prop_name_by x_member ctx r first only = cond (is_well_known_symbol_expr ctx (kids_of r)) (some (computed r)) none
prop_name_by x_other ctx r first only = none

unfoldable mutual
  pub prop_name_from_expr : Rec → ℕ → Option Rec
  prop_name_from_expr (rec h ks) ctx =
      prop_name_by (key_expr_kind h.mark) ctx (rec h ks) (λ n. prop_name_from_first ks n) (λ n. prop_name_from_only ks n)

  pub prop_name_from_first : Recs → ℕ → Option Rec
  prop_name_from_first nil ctx = none
  prop_name_from_first (cons r rs) ctx = prop_name_from_expr r ctx

  -- "a Te of one expression and no Qu": its first child is no Qu (reading 4), and only Ops follow (reading 3)
  pub prop_name_from_only : Recs → ℕ → Option Rec
  prop_name_from_only nil ctx = none
  prop_name_from_only (cons r rs) ctx = cond ((not (is "Qu" r) && not (is "Op" r)) && ends rs) (prop_name_from_expr r ctx) none

-- ---- `valid_prop_name`: "Keys: `Ki` (symbol), Ss, Nu, Bi stand. `Kc` expression: a literal Ss|Nu|Bi becomes the key"

unfoldable pub valid_prop_name : ℕ → Rec → Option Rec
valid_prop_name ctx r = cond (is "Kc" r) (prop_name_from_first (kids_of r) ctx) (some r)
