-- The parts of a template, as the code meets them: quasis and expressions, each by an offset and how many are left.
use Rattle.std.specs.Prelude.{ℕ, zero, suc, ◌+◌, ◌-◌, ◌≤◌, ◌<◌, ◌≡◌, List, [], ◌∷◌, map, Bool, true, false, Option, Some, None}
use Rattle.definition.specs.Tree.{mark_at, end_of_all, end_at}
use Rattle.definition.specs.Record.{text_of}
use Rattle.definition.specs.Text.{Token, own, escaped, Child, tokens, quasis, behind_quasis, expressions, in_braces}
use Rattle.records.specs.declared.marks.Mark.{Mark}
use Rattle.records.specs.declared.tree.Record.{Record}
use Rattle.records.specs.declared.tree.Records.{Records}
use Rattle.records.specs.Marks.{number_of}
use Rattle.records.specs.Views.{rec_of}
use Rattle.declaration_text.specs.Steps.{parts_of, children_at}

-- the texts of children, and their tokens
abbrev pub texts_of : List Child → List (List ℕ)
texts_of cs = map (λ (c : Child). text_of c.itself) cs

abbrev pub tokens_of : List Child → List (List Token)
tokens_of cs = map (λ (c : Child). c.tokens) cs

-- of the first r of n children P says that they are counted, and of the next, if there is one, that it isn't
unfoldable pub Before : (ℕ → Bool → Type 0) → ℕ → List ℕ → ℕ → ℕ → ℕ → Type 0
Before P levels s n at zero = 0 < n → P (mark_at s at) false
Before P levels s n at (suc r) = (0 < n) × (P (mark_at s at) true × Before P levels s (n - 1) (end_at levels s at) r)

-- the first r of n children are the quasis
pub record Quasis (levels : ℕ) (s : List ℕ) (n at r : ℕ) : Type 0 where
  pub few : r ≤ n
  pub texts : (under : Bool) → quasis (children_at levels s under n at) ≡ texts_of (children_at levels s under r at)
  pub behind : (under : Bool) → behind_quasis (children_at levels s under n at) ≡ children_at levels s under (n - r) (end_of_all (end_at levels s) r at)

-- the first r of n children are the expressions
pub record Expressions (levels : ℕ) (s : List ℕ) (n at r : ℕ) : Type 0 where
  pub few : r ≤ n
  pub tokens : (under : Bool) → expressions (children_at levels s under n at) ≡ tokens_of (children_at levels s under r at)

-- ---- of records of the code

-- the marks with a number that P says are counted, or that they aren't
abbrev pub OfMark : (Mark → Bool → Type 0) → ℕ → Bool → Type 0
OfMark P n b = (m : Mark) × (number_of m ≡ n) × P m b

-- front are the first of k, as many as P says are counted before the next, and rest those behind them
pub record Split (P : Mark → Bool → Type 0) (k front rest : Records) : Type 0 where
  pub counted : Before (OfMark P) k.levels k.tree.now k.count k.at front.count
  pub tree : front.tree ≡ k.tree
  pub place : front.at ≡ k.at
  pub levels : front.levels ≡ k.levels
  pub rest_tree : rest.tree ≡ k.tree
  pub rest_place : rest.at ≡ end_of_all (end_at k.levels k.tree.now) front.count k.at
  pub rest_levels : rest.levels ≡ k.levels
  pub many : front.count + rest.count ≡ k.count

-- front are the quasis of k, and rest what is behind them
pub record QuasisAre (k front rest : Records) : Type 0 where
  pub texts : (under : Bool) → quasis (parts_of under k) ≡ texts_of (parts_of under front)
  pub behind : (under : Bool) → behind_quasis (parts_of under k) ≡ parts_of under rest
  pub tree : front.tree ≡ k.tree
  pub place : front.at ≡ k.at
  pub levels : front.levels ≡ k.levels
  pub rest_tree : rest.tree ≡ k.tree
  pub rest_place : rest.at ≡ end_of_all (end_at k.levels k.tree.now) front.count k.at
  pub rest_levels : rest.levels ≡ k.levels
  pub many : front.count + rest.count ≡ k.count

-- front are the expressions of k, the first of them
pub record ExpressionsAre (k front : Records) : Type 0 where
  pub tokens : (under : Bool) → expressions (parts_of under k) ≡ tokens_of (parts_of under front)
  pub tree : front.tree ≡ k.tree
  pub place : front.at ≡ k.at
  pub levels : front.levels ≡ k.levels
  pub few : front.count ≤ k.count

-- what is written for a quasi or an expression, if there is one
abbrev pub quasi_if : Option Record → List Token
quasi_if None = []
quasi_if (Some q) = own (escaped (text_of (rec_of q))) ∷ []

abbrev pub braces_if : Bool → Option Record → List Token
braces_if under None = []
braces_if under (Some e) = in_braces (tokens (rec_of e) under e.at)
