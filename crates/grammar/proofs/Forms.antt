-- The forms of a text: the digits of an integer one by one, and the number of a form.
use mathlib.Core.Path.{◌≡◌, refl, sym, ap, ◌∙◌}
use mathlib.Core.List.{List, [], ◌∷◌}
use mathlib.Core.Bool.{Bool, true, false, cond, ◌&&◌}
use Prim.Native.Nat.{ℕ, zero, suc, ◌/◌, ◌%◌, ◌<◌, ◌≤◌}
use native.Mathlib.Omega.{arith}
use borrow.Author.Tests.{ne_eqb, le-ltb, le-leb, lt-leb, ltb-true, ltb-false}
use lib.Dec.{eqb, ltb, leb}
use lib.ListN.{length, get_or, drop}
use Rattle.std.specs.List.{list_all}
use Rattle.definition.specs.Grammar.{Form.empty}
use Rattle.definition.specs.Check.{digits, is_integer}
use Rattle.definition.specs.Record.{has_flag}
use Rattle.grammar.specs.Slots.{form_at}

-- whether a byte is a digit
abbrev pub is_digit : ℕ → Bool
is_digit d = leb 48 d && leb d 57

digits_cons : (b c : Bool) (d : ℕ) (r : Bool) → ltb d 48 ≡ b → ltb 57 d ≡ c → cond b false (cond c false r) ≡ (is_digit d && r)
digits_cons true c d r p q = let h : d < 48 = ltb-true _ _ p in rw (lt-leb _ _ h)
digits_cons false true d r p q = let h : 48 ≤ d = ltb-false _ _ p in let k : 57 < d = ltb-true _ _ q in rw (le-leb _ _ h, lt-leb _ _ k)
digits_cons false false d r p q = let h : 48 ≤ d = ltb-false _ _ p in let k : d ≤ 57 = ltb-false _ _ q in rw (le-leb _ _ h, le-leb _ _ k)

digits_all : (ds : List ℕ) → digits ds ≡ list_all is_digit ds
unfolding digits
digits_all [] = refl
digits_all (d ∷ ds) = rw (digits_all ds) (digits_cons _ _ d (list_all is_digit ds) refl refl)

-- a sign, and no zero in front: what is left to say of the text is whether the bytes behind the sign are digits
pub all_digits : (t : List ℕ) → 2 ≤ length t → get_or t 0 0 ≤ 1 → (get_or t 1 0 ≡ 48 → ⊥) → list_all is_digit (drop 1 t) ≡ is_integer t
unfolding is_integer
all_digits t l s z = rw (le-ltb _ _ l, le-ltb _ _ s, ne_eqb _ _ z) (sym (digits_all (drop 1 t)))

-- a number that is none of 1 to 5 is that of the empty text
pub form_empty : (n : ℕ) → (n ≡ 1 → ⊥) → (n ≡ 2 → ⊥) → (n ≡ 3 → ⊥) → (n ≡ 4 → ⊥) → (n ≡ 5 → ⊥) → form_at n ≡ empty
unfolding form_at
form_empty zero a b c d e = refl
form_empty (suc zero) a b c d e = absurd (a refl)
form_empty (suc (suc zero)) a b c d e = absurd (b refl)
form_empty (suc (suc (suc zero))) a b c d e = absurd (c refl)
form_empty (suc (suc (suc (suc zero)))) a b c d e = absurd (d refl)
form_empty (suc (suc (suc (suc (suc zero))))) a b c d e = absurd (e refl)
form_empty (suc (suc (suc (suc (suc (suc n)))))) a b c d e = refl

-- the flag that says that a text is cooked, as the form asks for it
pub cooked-told : (f : ℕ) (b : Bool) → has_flag 1 f ≡ b → eqb (f % 2) 1 ≡ b
cooked-told f b e = (let n : f ≡ f / 1 = omega arith in ap (λ (m : ℕ). eqb (m % 2) 1) n ∙ e)
