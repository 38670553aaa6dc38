-- Bytes in their place: what it is that a list stands in another one at an offset, and the laws of it.
use mathlib.Core.Path.{◌≡◌, ap, sym, ◌∙◌}
use mathlib.Core.List.{List, [], ◌∷◌, ◌++◌}
use mathlib.Core.Logic.{◌⊎◌, inl, inr, ⊎_elim}
use Prim.Native.Nat.{ℕ, zero, suc, ◌+◌, ◌-◌, ◌/◌, ◌%◌, ◌≤◌, ◌<◌}
use native.Mathlib.Decide.{dec_lt}
use native.Mathlib.Omega.{arith}
use lib.ListN.{length, get_or, take, drop, length-append, length-take, length-drop, get_or-append}
use lib.Seq.{get_or-append-add, ext_get_or, get_or-take, get_or-drop}
use Rattle.definition.specs.Tree.{flags_place, start_place, length_place, count_place, le2, le4, flags_end, flag_bytes, u16_at, u32_at, flags_at, length_at, count_at, Bytes}

-- xs stands in s at the offset `at`
pub record At (s : List ℕ) (at : ℕ) (xs : List ℕ) : Type 0 where
  pub fits : at + length xs ≤ length s
  pub same : (i : ℕ) → i < length xs → get_or s (at + i) 0 ≡ get_or xs i 0

pub below_or_not : (m n : ℕ) → (m < n) ⊎ (n ≤ m)
below_or_not m n = go (dec_lt m n)
  where
    go : Dec (m < n) → (m < n) ⊎ (n ≤ m)
    go (yes h) = inl h
    go (no h) = inr (omega arith)

pub at_all : (s : List ℕ) → At s 0 s
at_all s = record { fits = omega arith; same = λ i lt. (let e : 0 + i ≡ i = omega arith in ap (λ (k : ℕ). get_or s k 0) e) }

pub at_none : (s : List ℕ) (at : ℕ) → at ≤ length s → At s at []
at_none s at h = record { fits = omega arith; same = λ i lt. absurd (omega arith) }

module _ (s : List ℕ) (at : ℕ) (xs ys : List ℕ) where
  pub at_left : At s at (xs ++ ys) → At s at xs
  at_left h = record {
    fits = omega (arith, h.fits, length-append xs ys);
    same = λ i lt. h.same i (omega (arith, length-append xs ys)) ∙ get_or-append xs ys 0 i lt;
  }

  pub at_right : At s at (xs ++ ys) → At s (at + length xs) ys
  at_right h = record {
    fits = omega (arith, h.fits, length-append xs ys);
    same = λ i lt.
        (let e : at + length xs + i ≡ at + (length xs + i) = omega arith in
        ap (λ (k : ℕ). get_or s k 0) e ∙ (h.same (length xs + i) (omega (arith, length-append xs ys)) ∙ get_or-append-add xs ys i 0));
  }

  pub at_join : At s at xs → At s (at + length xs) ys → At s at (xs ++ ys)
  at_join h k = record {
    fits = omega (arith, k.fits, length-append xs ys);
    same = λ i lt. ⊎_elim
        (λ (l : i < length xs). h.same i l ∙ sym (get_or-append xs ys 0 i l))
        (λ (l : length xs ≤ i).
        (let e : at + i ≡ at + length xs + (i - length xs) = omega arith in
        let f : length xs + (i - length xs) ≡ i = omega arith in
        ap (λ (j : ℕ). get_or s j 0) e ∙ (k.same (i - length xs) (omega (arith, length-append xs ys)) ∙ (sym (get_or-append-add xs ys (i - length xs) 0) ∙ ap (λ (j : ℕ). get_or (xs ++ ys) j 0) f))))
        (below_or_not i (length xs));
  }

-- what stands somewhere is read there
pub at_part : (s : List ℕ) (at : ℕ) (xs : List ℕ) → At s at xs → take (length xs) (drop at s) ≡ xs
at_part s at xs h =
    let l : length (take (length xs) (drop at s)) ≡ length xs = simp (length-take, length-drop) (omega (arith, h.fits)) in
    ext_get_or 0 _ _ l (λ i lt. get_or-take (length xs) (drop at s) i 0 (omega arith) ∙ (get_or-drop at s i 0 ∙ h.same i (omega arith)))

-- and a part that is read stands there
pub part_at : (s : List ℕ) (at n : ℕ) → at + n ≤ length s → At s at (take n (drop at s))
part_at s at n h =
    let l : length (take n (drop at s)) ≡ n = simp (length-take, length-drop) (omega arith) in
    record { fits = omega arith; same = λ i lt. sym (get_or-take n (drop at s) i 0 (omega arith) ∙ get_or-drop at s i 0) }

pub part_length : (s : List ℕ) (at n : ℕ) → at + n ≤ length s → length (take n (drop at s)) ≡ n
part_length s at n h = simp (length-take, length-drop) (omega arith)

-- a list that stands at 0 and is as long as the other is the other
pub at-whole : (s xs : List ℕ) → At s 0 xs → length xs ≡ length s → xs ≡ s
at-whole s xs h l = ext_get_or 0 xs s l (λ i lt. (let e : 0 + i ≡ i = omega arith in sym (h.same i lt) ∙ ap (λ (k : ℕ). get_or s k 0) e))

-- ---- numbers

pub le2-at : (s : List ℕ) (at n : ℕ) → n < 65536 → At s at (le2 n) → u16_at s at ≡ n
le2-at s at n lt h =
    let e0 : get_or s (at + 0) 0 ≡ n % 256 = h.same 0 (omega arith) in
    let e1 : get_or s (at + 1) 0 ≡ n / 256 % 256 = h.same 1 (omega arith) in
    let z : at + 0 ≡ at = omega arith in
    let f0 : get_or s at 0 ≡ n % 256 = rw z at e0 in
    omega arith

pub le4-at : (s : List ℕ) (at n : ℕ) → n < 4294967296 → At s at (le4 n) → u32_at s at ≡ n
le4-at s at n lt h =
    let e0 : get_or s (at + 0) 0 ≡ n % 256 = h.same 0 (omega arith) in
    let e1 : get_or s (at + 1) 0 ≡ n / 256 % 256 = h.same 1 (omega arith) in
    let e2 : get_or s (at + 2) 0 ≡ n / 65536 % 256 = h.same 2 (omega arith) in
    let top : n / 16777216 % 256 ≡ n / 16777216 = omega arith in
    let e3 : get_or s (at + 3) 0 ≡ n / 16777216 = h.same 3 (omega arith) ∙ top in
    let z : at + 0 ≡ at = omega arith in
    let f0 : get_or s at 0 ≡ n % 256 = rw z at e0 in
    omega arith

-- a byte that is known to be one, as the only element of a list in its place
byte_at : (s : List ℕ) (at : ℕ) → at < length s → Bytes s → At s at (get_or s at 0 % 256 ∷ [])
unfolding Bytes
byte_at s at h b = record { fits = omega arith; same = λ i lt. go i lt }
  where
    go : (i : ℕ) → i < 1 → get_or s (at + i) 0 ≡ get_or (get_or s at 0 % 256 ∷ []) i 0
    go zero lt = (let z : at + 0 ≡ at = omega arith in rw z (omega (arith, b at)))
    go (suc i) lt = absurd (omega arith)

pub u16_small : (s : List ℕ) (at : ℕ) → Bytes s → u16_at s at < 65536
unfolding Bytes
u16_small s at b = omega (arith, b at, b (at + 1))

-- a record's flags: the number that stands in their bytes, the bytes of the number that stands there, and its bound
pub flags-at : (s : List ℕ) (at n : ℕ) → n < flags_end → At s (at + flags_place) (flag_bytes n) → flags_at s at ≡ n
flags-at s at n lt h =
    let e : get_or s (at + flags_place + 0) 0 ≡ n % 256 = h.same 0 (omega arith) in
    let z : at + flags_place + 0 ≡ at + flags_place = omega arith in
    let f : get_or s (at + flags_place) 0 ≡ n % 256 = rw z at e in
    omega arith

pub at-flag_bytes : (s : List ℕ) (at : ℕ) → at + start_place ≤ length s → Bytes s → At s (at + flags_place) (flag_bytes (flags_at s at))
at-flag_bytes s at h b = byte_at s (at + flags_place) (omega arith) b

pub flags-small : (s : List ℕ) (at : ℕ) → Bytes s → flags_at s at < flags_end
unfolding Bytes
flags-small s at b = b (at + flags_place)

-- a record's text length and child count
pub length-small : (s : List ℕ) (at : ℕ) → Bytes s → length_at s at < 65536
length-small s at = u16_small s (at + length_place)

pub count_small : (s : List ℕ) (at : ℕ) → Bytes s → count_at s at < 65536
count_small s at = u16_small s (at + count_place)

pub u32_small : (s : List ℕ) (at : ℕ) → Bytes s → u32_at s at < 4294967296
unfolding Bytes
u32_small s at b = omega (arith, b at, b (at + 1), b (at + 2), b (at + 3))

pub at-le2 : (s : List ℕ) (at : ℕ) → at + 2 ≤ length s → Bytes s → At s at (le2 (u16_at s at))
unfolding Bytes
at-le2 s at h b = record { fits = h; same = λ i lt. go i lt }
  where
    go : (i : ℕ) → i < 2 → get_or s (at + i) 0 ≡ get_or (le2 (u16_at s at)) i 0
    go zero lt = (let z : at + 0 ≡ at = omega arith in rw z (omega (arith, b at, b (at + 1))))
    go (suc zero) lt = omega (arith, b at, b (at + 1))
    go (suc (suc i)) lt = absurd (omega arith)

pub at-le4 : (s : List ℕ) (at : ℕ) → at + 4 ≤ length s → Bytes s → At s at (le4 (u32_at s at))
unfolding Bytes
at-le4 s at h b = record { fits = h; same = λ i lt. go i lt }
  where
    go : (i : ℕ) → i < 4 → get_or s (at + i) 0 ≡ get_or (le4 (u32_at s at)) i 0
    go zero lt = (let z : at + 0 ≡ at = omega arith in rw z (omega (arith, b at, b (at + 1), b (at + 2), b (at + 3))))
    go (suc zero) lt = omega (arith, b at, b (at + 1), b (at + 2), b (at + 3))
    go (suc (suc zero)) lt = omega (arith, b at, b (at + 1), b (at + 2), b (at + 3))
    go (suc (suc (suc zero))) lt = omega (arith, b at, b (at + 1), b (at + 2), b (at + 3))
    go (suc (suc (suc (suc i)))) lt = absurd (omega arith)
