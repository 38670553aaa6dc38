-- The texts of numbers and big integers, with their signs turned, and a literal with another text.
use Rattle.std.proofs.Common.{◌≡◌, ℕ, ◌+◌, ◌/◌, ◌%◌, ◌^◌, ◌<◌, ◌≤◌, Bool, true, false, cond, ◌&&◌, eqb, ltb, List, [], ◌∷◌, ◌++◌, length, get_or, drop, sym, refl, ap, ◌∙◌, append_assoc, arith, ltb-false, eqb-true}
use Rattle.definition.specs.Tree.{Head, Rec, rec, nil, head_bytes, encode}
use Rattle.definition.specs.Grammar.{mark}
use Rattle.definition.specs.Check.{is_integer, digits}
use Rattle.definition.specs.Record.{same_text, head_of, mark_of, text_of, Range, made, with_text}
use Rattle.definition.specs.Helpers.{ts_lit_type}
use Rattle.definition.specs.Typing.{turned, turned_integer, respelled}
use Rattle.definition.proofs.Kids.{nu_text, bi_text, text-length}
use Rattle.records.specs.declared.tree.Record.{Record}
use Rattle.records.specs.Views.{rec_of}
use Rattle.records.proofs.Puts.{encode-leaf, encode_one}
use Rattle.records.proofs.Views.{accepted, mark_here, text_here}
use Rattle.swc_helpers.specs.Literal.{u64_at, le8, turned_bits, turned_sign}
use Rattle.swc_helpers.specs.Lit.{lit_front}

-- ---- the texts of records of the tree

module _ (r : Record) where
  -- a Nu has eight bytes of f64
  pub number-long : mark_of (rec_of r) ≡ mark "Nu" → length (text_of (rec_of r)) ≡ 8
  number-long e = ap length (sym (text_here r)) ∙ (text-length _ _ _ (accepted r) ∙ nu_text _ _ _ (accepted r) (mark_here r ∙ e))

  -- a Bi has a sign and digits
  pub integer_text : mark_of (rec_of r) ≡ mark "Bi" → is_integer (text_of (rec_of r)) ≡ true
  integer_text e = ap is_integer (sym (text_here r)) ∙ bi_text _ _ _ (accepted r) (mark_here r ∙ e)

-- ---- the sign of a number

-- the number that eight bytes hold
pub number-read : (n : ℕ) → n < 2 ^ 64 → u64_at (le8 n) 0 ≡ n
number-read n h = omega arith

module _ (n : ℕ) where
  low_byte : (n + 0x8000_0000_0000_0000) % 0x1_0000_0000_0000_0000 % 256 ≡ n % 256
  low_byte = omega arith

  byte_1 : (n + 0x8000_0000_0000_0000) % 0x1_0000_0000_0000_0000 / 256 % 256 ≡ n / 256 % 256
  byte_1 = omega arith

  byte_2 : (n + 0x8000_0000_0000_0000) % 0x1_0000_0000_0000_0000 / 65536 % 256 ≡ n / 65536 % 256
  byte_2 = omega arith

  byte_3 : (n + 0x8000_0000_0000_0000) % 0x1_0000_0000_0000_0000 / 16777216 % 256 ≡ n / 16777216 % 256
  byte_3 = omega arith

  byte_4 : (n + 0x8000_0000_0000_0000) % 0x1_0000_0000_0000_0000 / 4294967296 % 256 ≡ n / 4294967296 % 256
  byte_4 = omega arith

  byte_5 : (n + 0x8000_0000_0000_0000) % 0x1_0000_0000_0000_0000 / 1099511627776 % 256 ≡ n / 1099511627776 % 256
  byte_5 = omega arith

  byte_6 : (n + 0x8000_0000_0000_0000) % 0x1_0000_0000_0000_0000 / 281474976710656 % 256 ≡ n / 281474976710656 % 256
  byte_6 = omega arith

  high_byte : (n + 0x8000_0000_0000_0000) % 0x1_0000_0000_0000_0000 / 72057594037927936 % 256 ≡ (n / 72057594037927936 % 256 + 128) % 256
  high_byte = omega arith

  pub turned-bits : le8 (turned_bits n) ≡ turned (le8 n)
  unfolding turned
  turned-bits = rw (low_byte, byte_1, byte_2, byte_3, byte_4, byte_5, byte_6, high_byte)

-- ---- the sign of a big integer

passed : (t x : Bool) → cond t false x ≡ true → x ≡ true
passed true x e = absurd cc
passed false x e = e

met : (t x : Bool) → cond t x false ≡ true → t ≡ true
met true x e = refl
met false x e = e

same_none : (ds : List ℕ) → length ds ≡ 0 → same_text ds [] ≡ true
unfolding same_text
same_none [] e = refl
same_none (d ∷ ds) e = absurd (omega arith)

-- the first digit tells zero from the others
by-digit : (z t : Bool) (sign : ℕ) (ds : List ℕ) → (z ≡ true → t ≡ true)
    → ◌≡◌ {A = List ℕ} (cond z 0 (cond (eqb sign 1) 0 1) ∷ ds) (cond (z && t) (0 ∷ ds) (cond (eqb sign 1) (0 ∷ ds) (1 ∷ ds)))
by-digit true t sign ds h = rw (h refl)
by-digit false t sign ds h = go (eqb sign 1)
  where
    go : (o : Bool) → ◌≡◌ {A = List ℕ} (cond o 0 1 ∷ ds) (cond o (0 ∷ ds) (1 ∷ ds))
    go true = refl
    go false = refl

only_zero : (z : Bool) (sign d : ℕ) (ds : List ℕ) (x : Bool) → cond z (cond (eqb (length (sign ∷ d ∷ ds)) 2) (eqb sign 0) false) x ≡ true → z ≡ true → same_text ds [] ≡ true
only_zero true sign d ds x e q =
    let n = eqb-true (length (sign ∷ d ∷ ds)) 2 (met (eqb (length (sign ∷ d ∷ ds)) 2) (eqb sign 0) e) in
    same_none ds (omega (arith, n))
only_zero false sign d ds x e q = absurd cc

pub turned-integer : (t : List ℕ) → is_integer t ≡ true → turned_sign (get_or t 0 0) (get_or t 1 0) ∷ drop 1 t ≡ turned_integer t
unfolding is_integer turned_integer same_text
turned-integer [] e = absurd cc
turned-integer (sign ∷ []) e = absurd cc
turned-integer (sign ∷ d ∷ ds) e =
    let e1 = passed (ltb (length (sign ∷ d ∷ ds)) 2) _ e in
    let e2 = passed (ltb 1 sign) _ e1 in
    by-digit (eqb d 48) (same_text ds []) sign (d ∷ ds) (only_zero (eqb d 48) sign d ds (digits (d ∷ ds)) e2)

pub integer-length : (t : List ℕ) → is_integer t ≡ true → 2 ≤ length t
unfolding is_integer
integer-length t e = ltb-false (length t) 2 (tested (ltb (length t) 2) _ e)
  where
    tested : (t x : Bool) → cond t false x ≡ true → t ≡ false
    tested true x e = absurd cc
    tested false x e = refl

-- ---- a literal with another text of the same length

same_head : (h : Head) (t : List ℕ) → length t ≡ length h.text → head_bytes h 0 ≡ head_bytes (with_text h t) 0
unfolding head_bytes
same_head h t e = rw e

pub respelled_is : (range : Range) (r : Rec) (t : List ℕ) → length t ≡ length (text_of r) → lit_front range r ++ t ≡ encode (ts_lit_type range (respelled r t))
respelled_is range r t e =
    append_assoc (head_bytes (made "Tl" 0 range []) 1) (head_bytes (head_of r) 0) t
    ∙ ap (λ (b : List ℕ). head_bytes (made "Tl" 0 range []) 1 ++ (b ++ t)) (same_head (head_of r) t e)
    ∙ ap (λ (b : List ℕ). head_bytes (made "Tl" 0 range []) 1 ++ b) (encode-leaf (with_text (head_of r) t))
    ∙ encode_one (made "Tl" 0 range []) (rec (with_text (head_of r) t) nil) refl
