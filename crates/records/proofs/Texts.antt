-- Laws of `same_text` and of `is_global_name`.
use mathlib.Core.Path.{◌≡◌, refl, ap, ◌∙◌}
use mathlib.Core.List.{List, [], ◌∷◌}
use mathlib.Core.Bool.{Bool, true, false, ◌&&◌}
use Prim.Native.Nat.{ℕ}
use lib.Dec.{eqb}
use lib.Pointwise.{pointwise}
use lib.ListN.{drop}
use borrow.Author.Tests.{eq-eqb, ne_eqb}
use Rattle.definition.specs.Tree.{Head, u32_at, mark_at, text_at, head_at, tree_at}
use Rattle.definition.specs.Grammar.{mark}
use Rattle.definition.specs.Record.{same_text}
use Rattle.definition.proofs.Kids.{head_is}
use Rattle.records.specs.Texts.{is_global_name}

-- ---- equal texts

-- by `==`
pub compared : (a b : List ℕ) → pointwise eqb a b ≡ same_text a b
unfolding same_text
compared [] [] = refl
compared [] (y ∷ ys) = refl
compared (x ∷ xs) [] = refl
compared (x ∷ xs) (y ∷ ys) = ap (λ (t : Bool). eqb x y && t) (compared xs ys)

-- ---- an Id with a symbol and the unresolved context

module _ (levels : ℕ) (s : List ℕ) (at unresolved : ℕ) (name : List ℕ) where
  -- its head says all
  by_head : is_global_name unresolved name (tree_at levels s at) ≡
      (eqb (mark_at s at) (mark "Id") && (same_text (drop 4 (text_at s at)) name && eqb (u32_at (text_at s at) 0) unresolved))
  unfolding head_at
  by_head = ap (λ (h : Head). eqb h.mark (mark "Id") && (same_text (drop 4 h.text) name && eqb (u32_at h.text 0) unresolved)) (head_is levels s at)

  pub global-other : (mark_at s at ≡ mark "Id" → ⊥) → is_global_name unresolved name (tree_at levels s at) ≡ false
  global-other n = by_head ∙ rw (ne_eqb (mark_at s at) (mark "Id") n)

  module _ (e : mark_at s at ≡ mark "Id") where
    pub global-same : same_text (drop 4 (text_at s at)) name ≡ true → is_global_name unresolved name (tree_at levels s at) ≡ eqb (u32_at (text_at s at) 0) unresolved
    global-same q = by_head ∙ rw (eq-eqb (mark_at s at) (mark "Id") e, q)

    pub global-differs : same_text (drop 4 (text_at s at)) name ≡ false → is_global_name unresolved name (tree_at levels s at) ≡ false
    global-differs q = by_head ∙ rw (eq-eqb (mark_at s at) (mark "Id") e, q)
