-- The first place of a number outside the forms, as the code sees it, is the definition's: `nowhere` stands there for none, and a place lies in the tree.
use mathlib.Core.Path.{◌≡◌, refl, sym, ap, ◌∙◌}
use mathlib.Core.List.{List, [], ◌∷◌}
use mathlib.Core.Bool.{Bool, true, ◌||◌}
use Prim.Native.Nat.{ℕ, ◌<◌, ◌≤◌, min}
use native.Mathlib.Omega.{arith}
use Rattle.std.specs.Prelude.{Option, Some, None, is_some}
use Rattle.definition.specs.Tree.{Rec}
use Rattle.definition.specs.Text.{Token, token, own, outside, first_place, Line, first_outside, nowhere, size_of, lines_of}
use Rattle.definition.specs.TextLeftOut.{any_outside, lines_outside}
use Rattle.definition.proofs.TextOutside.{outside-place}
use Rattle.text_tokens.specs.Writes.{first_seen}
use Rattle.text_tokens.proofs.Writes.{or_or, or_false}
use Rattle.declaration_text.specs.Lines.{lines_seen}

-- a place, or n where that is none or larger
abbrev least : Option ℕ → ℕ → ℕ
least None n = n
least (Some p) n = min n p

tokens-place : (n : ℕ) (x : Option ℕ) (ts : List Token) → first_place (least x n) ts ≡ least (first_seen x ts) n
unfolding first_place first_seen
tokens-place n x [] = refl
tokens-place n x (token t ∷ ts) = tokens-place n x ts
tokens-place n x (own t ∷ ts) = tokens-place n x ts
tokens-place n None (outside at ∷ ts) = tokens-place n (Some at) ts
tokens-place n (Some p) (outside at ∷ ts) =
    let e : min (min n p) at ≡ min n (min p at) = omega arith in
    ap (λ (y : ℕ). first_place y ts) e ∙ tokens-place n (Some (min p at)) ts

lines-place : (n : ℕ) (x : Option ℕ) (ls : List Line) → first_outside (least x n) ls ≡ least (lines_seen x ls) n
unfolding first_outside lines_seen
lines-place n x [] = refl
lines-place n x (l ∷ ls) = ap (λ (y : ℕ). first_outside y ls) (tokens-place n x l.tokens) ∙ lines-place n (first_seen x l.tokens) ls

-- there is one if one was seen
tokens-seen : (x : Option ℕ) (ts : List Token) → is_some (first_seen x ts) ≡ (is_some x || any_outside ts)
unfolding first_seen any_outside
tokens-seen x [] = sym (or_false (is_some x))
tokens-seen x (token t ∷ ts) = tokens-seen x ts
tokens-seen x (own t ∷ ts) = tokens-seen x ts
tokens-seen None (outside at ∷ ts) = tokens-seen (Some at) ts
tokens-seen (Some p) (outside at ∷ ts) = tokens-seen (Some (min p at)) ts

lines-seen : (x : Option ℕ) (ls : List Line) → is_some (lines_seen x ls) ≡ (is_some x || lines_outside ls)
unfolding lines_seen lines_outside
lines-seen x [] = sym (or_false (is_some x))
lines-seen x (l ∷ ls) =
    lines-seen (first_seen x l.tokens) ls ∙ ap (λ (b : Bool). b || lines_outside ls) (tokens-seen x l.tokens) ∙ or_or (is_some x) (any_outside l.tokens) (lines_outside ls)

pub seen-none : (ls : List Line) → None ≡ lines_seen None ls → first_outside nowhere ls ≡ nowhere
seen-none ls e = lines-place nowhere None ls ∙ sym (ap (λ (x : Option ℕ). least x nowhere) e)

pub seen-place : (r : Rec) → size_of r ≤ nowhere → (p : ℕ) → Some p ≡ lines_seen None (lines_of r) → (first_outside nowhere (lines_of r) ≡ p) × (p < nowhere)
seen-place r s p e =
    let f : lines_outside (lines_of r) ≡ true = sym (lines-seen None (lines_of r)) ∙ sym (ap is_some e) in
    let g : first_outside nowhere (lines_of r) ≡ min nowhere p = lines-place nowhere None (lines_of r) ∙ sym (ap (λ (x : Option ℕ). least x nowhere) e) in
    (omega (arith, outside-place r f), omega (arith, outside-place r f))
