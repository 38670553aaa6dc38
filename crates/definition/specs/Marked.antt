-- What can be said of all diagnostics of a step: each is one of the five, and marked at a record of the tree.
use Rattle.std.specs.Prelude.{◌≡◌, List, [], ◌∷◌, true}
use Rattle.definition.specs.Tree.{Head, Rec, Recs, rec, nil, cons}
use Rattle.definition.specs.Grammar.{member}
use Rattle.definition.specs.Record.{head_of, kid, Diag, diag, diagnostic_marks}
use Rattle.definition.specs.ChildNames.{kv_value, pe_expression, ag_right}
use Rattle.definition.specs.Typing.{p_key_value, prop_kind, q_expr, param_kind}
use Rattle.definition.specs.Classes.{p_assign, pattern_kind}

-- P holds of all of them
abbrev pub All : (Diag → Type 0) → List Diag → Type 0
All P [] = Unit {0}
All P (x ∷ xs) = P x × All P xs

-- each is one of the five
abbrev pub Kinds : List Diag → Type 0
Kinds ds = All (λ d. member d.mark diagnostic_marks ≡ true) ds

-- P holds of each of the five at a record with the head h
abbrev pub At : (Diag → Type 0) → Head → Type 0
At P h = P (diag "d1" h) × P (diag "d2" h) × P (diag "d3" h) × P (diag "d4" h) × P (diag "d5" h)

-- P holds at the children where the transform marks whether they are there or not: the value of a Kv, the expression of a Pe, the right side of an Ag
pub record Asked (P : Diag → Type 0) (h : Head) (ks : Recs) : Type 0 where
  pub value : prop_kind h.mark ≡ p_key_value → At P (head_of (kid kv_value ks))
  pub expression : param_kind h.mark ≡ q_expr → At P (head_of (kid pe_expression ks))
  pub right : pattern_kind h.mark ≡ p_assign → At P (head_of (kid ag_right ks))

-- P holds at every record of a tree
unfoldable mutual
  pub Everywhere : (Diag → Type 0) → Rec → Type 0
  Everywhere P (rec h ks) = At P h × Asked P h ks × AllEverywhere P ks

  pub AllEverywhere : (Diag → Type 0) → Recs → Type 0
  AllEverywhere P nil = Unit {0}
  AllEverywhere P (cons r rs) = Everywhere P r × AllEverywhere P rs
