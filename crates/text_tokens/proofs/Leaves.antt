-- One token, written in parts: that they are its bytes, and which byte is the last.
use mathlib.Core.Path.{◌≡◌, refl, sym, ap, ◌∙◌}
use mathlib.Core.List.{List, [], ◌∷◌, ◌++◌, append-nil, append_assoc}
use mathlib.Core.Bool.{Bool, true, false, cond, ◌||◌}
use mathlib.Core.Option.{none, some}
use Prim.Native.Nat.{ℕ, suc, ◌+◌, ◌-◌, ◌/◌, ◌%◌, ◌<◌, ◌^◌}
use native.Mathlib.Numerals.{add-one}
use native.Mathlib.Omega.{arith}
use lib.Dec.{eqb, ltb}
use lib.ListN.{length, get_or, set, take, drop}
use lib.Seq.{length-sets, take-suc}
use Rattle.definition.specs.Text.{token, own, outside, full, any_written, last_byte, last_written, spaced, tokens_bytes, hex_digit, is_escaped, escaped_byte, escaped, string_token, minus, integer_token, decimal_token}
use Rattle.definition.specs.Numerals.{bits_of, is_negative, whole_of}
use Rattle.definition.specs.Names.{digit, decimal_up_to, decimal}
use Rattle.records.specs.Wrote.{sat, Put}
use Rattle.records.proofs.Puts.{put_byte, put-put, put_as}
use Rattle.text_tokens.specs.declared.State.{State}
use Rattle.text_tokens.specs.Writes.{Writes, begun_of, last_of, seen_of_token, first_seen, space_if, behind_of}
use Rattle.std.specs.Prelude.{Some, None}
use Rattle.std.specs.List.{slice_get}
use Rattle.std.proofs.lemmas.Option.{none-some, slice_get-get_or, slice_get_within, get_or_from_slice_get}
use Rattle.text_tokens.proofs.Writes.{or_false, or_true}

-- ---- lists

pub no_text : (t : List ℕ) → length t ≡ 0 → t ≡ []
no_text [] h = refl
no_text (b ∷ bs) h = absurd (omega arith)

pub last_append : (x : ℕ) (E F : List ℕ) → last_byte x (E ++ F) ≡ last_byte (last_byte x E) F
last_append x [] F = refl
last_append x (b ∷ E) F = last_append b E F

-- of bytes that are some, the last is their own
pub last-full : (x y : ℕ) (E : List ℕ) → full E ≡ true → last_byte x E ≡ last_byte y E
last-full x y [] h = cc
last-full x y (b ∷ E) h = refl

last-at : (x : ℕ) (t : List ℕ) → 0 < length t → get_or t (length t - 1) 0 ≡ last_byte x t
last-at x [] h = absurd (omega arith)
last-at x (b ∷ []) h = refl
last-at x (b ∷ c ∷ bs) h =
    let e : length (b ∷ c ∷ bs) - 1 ≡ suc (length (c ∷ bs) - 1) = omega arith in
    ap (λ (k : ℕ). get_or (b ∷ c ∷ bs) k 0) e ∙ last-at b (c ∷ bs) (omega arith)

-- a text without a last byte, and one with it
pub no_last : {t : List ℕ} → None ≡ slice_get t (length t - 1) → t ≡ []
no_last {t = []} e = refl
no_last {t = b ∷ bs} e = absurd (none-some _ (e ∙ slice_get-get_or (b ∷ bs) (length (b ∷ bs) - 1) 0 (omega arith)))

module _ {x : ℕ} (t : List ℕ) (e : Some x ≡ slice_get t (length t - 1)) where
  long : 0 < length t
  long = omega (arith, slice_get_within t (length t - 1) x (sym e))

  read : get_or t (length t - 1) 0 ≡ x
  read = get_or_from_slice_get t (length t - 1) x 0 (sym e)

  pub full-text : full t ≡ true
  full-text = go t long
    where
      go : (t : List ℕ) → 0 < length t → full t ≡ true
      go [] h = absurd (omega arith)
      go (b ∷ bs) h = refl

  pub last-text : (y : ℕ) → x ≡ last_byte y t
  last-text y = sym read ∙ last-at y t long

pub full-behind : (E F : List ℕ) → full F ≡ true → full (E ++ F) ≡ true
full-behind [] F h = h
full-behind (b ∷ E) F h = refl

-- ---- writes

-- of nothing
pub put-none : (o : List ℕ) {p : ℕ} → p < 2 ^ 64 → Put o o p [] p
put-none o h = record { bytes = refl; position = omega arith }

pub put_same : {o o' : List ℕ} {p : ℕ} {E : List ℕ} {q : ℕ} → Put o o' p E q → length o' ≡ length o
put_same {o} {p = p} {E = E} w = ap length w.bytes ∙ length-sets o p E

-- ---- a token that isn't empty

spaced-full : (b : Bool) (E : List ℕ) → full E ≡ true → space_if b ++ E ≡ spaced b E
spaced-full b [] h = cc
spaced-full true (x ∷ E) h = refl
spaced-full false (x ∷ E) h = refl

token-bytes : (b : Bool) (E : List ℕ) → full E ≡ true → space_if b ++ E ≡ tokens_bytes b (token E ∷ [])
unfolding tokens_bytes
token-bytes b E h = spaced-full b E h ∙ sym (append-nil (spaced b E))

module _ (s : State) (q last : ℕ) (E : List ℕ) (f : full E ≡ true) (e : last ≡ last_byte (last_of s) E) where
  any : (b : Bool) → true ≡ (b || (full E || false))
  any b = sym (ap (λ (c : Bool). b || (c || false)) f ∙ or_true b)

  behind-token : {o o' : List ℕ} → Put o o' s.written (tokens_bytes (begun_of s) (token E ∷ [])) q → Writes o o' s (behind_of s q last) (token E ∷ [])
  unfolding any_written last_written first_seen
  behind-token w = record { put = w; begun = any (begun_of s); some = any s.some; last = e; place = refl }

  behind-own : {o o' : List ℕ} → Put o o' s.written E q → Writes o o' s (behind_of s q last) (own E ∷ [])
  unfolding tokens_bytes any_written last_written first_seen
  behind-own w = record { put = put_as w (sym (append-nil E)); begun = any (begun_of s); some = any s.some; last = e; place = refl }

-- a token behind its space
pub writes-token : {o o₁ o' : List ℕ} {s s' : State} {E : List ℕ} {p q last : ℕ}
    → length o < 2 ^ 64 → Put o o₁ s.written (space_if (begun_of s)) p → Put o₁ o' p E q → full E ≡ true → last ≡ last_byte (last_of s) E
    → s' ≡ behind_of s q last → Writes o o' s s' (token E ∷ [])
writes-token {s = s} {E = E} {q = q} {last = last} h v w f e b =
    rw b (behind-token s q last E f e (put_as (put-put h v w) (token-bytes (begun_of s) E f)))

-- an own token
pub writes-own : {o o' : List ℕ} {s s' : State} {E : List ℕ} {q last : ℕ}
    → Put o o' s.written E q → full E ≡ true → last ≡ last_byte (last_of s) E → s' ≡ behind_of s q last → Writes o o' s s' (own E ∷ [])
writes-own {s = s} {E = E} {q = q} {last = last} w f e b = rw b (behind-own s q last E f e w)

-- ---- an empty token

module _ (o : List ℕ) (s : State) (h : s.written < 2 ^ 64) where
  pub no_token : {t : List ℕ} → t ≡ [] → Writes o o s s (token t ∷ [])
  unfolding tokens_bytes any_written last_written first_seen
  no_token e = rw e (record { put = put-none o h; begun = sym (or_false (begun_of s)); some = sym (or_false s.some); last = refl; place = refl })

  pub no_own : {t : List ℕ} → t ≡ [] → Writes o o s s (own t ∷ [])
  unfolding tokens_bytes any_written last_written first_seen
  no_own e = rw e (record { put = put-none o h; begun = sym (or_false (begun_of s)); some = sym (or_false s.some); last = refl; place = refl })

  pub no_escaped : {t : List ℕ} → t ≡ [] → Writes o o s s (own (escaped t) ∷ [])
  unfolding escaped
  no_escaped e = no_own (ap escaped e)

  -- a number outside the forms
  pub no_number : (at : ℕ) {l : ℕ} → Some l ≡ seen_of_token s.place (outside at) → Writes o o s (record s { place = Some l }) (outside at ∷ [])
  unfolding tokens_bytes any_written last_written first_seen
  no_number at e = record { put = put-none o h; begun = sym (or_false (begun_of s)); some = sym (or_false s.some); last = refl; place = e }

-- ---- strings

escaped_append : (E F : List ℕ) → escaped (E ++ F) ≡ escaped E ++ escaped F
unfolding escaped
escaped_append [] F = refl
escaped_append (b ∷ E) F =
    ap (λ (l : List ℕ). escaped_byte b ++ l) (escaped_append E F) ∙ sym (append_assoc (escaped_byte b) (escaped E) (escaped F))

full_escaped_byte : (b : ℕ) → full (escaped_byte b) ≡ true
unfolding escaped_byte
full_escaped_byte b = go (is_escaped b)
  where
    go : (c : Bool) → full (cond c (92 ∷ 117 ∷ 48 ∷ 48 ∷ hex_digit (b / 16) ∷ hex_digit (b % 16) ∷ []) (b ∷ [])) ≡ true
    go true = refl
    go false = refl

last-escaped : (x : ℕ) (t : List ℕ) → 0 < length t → last_byte 0 (escaped_byte (get_or t (length t - 1) 0)) ≡ last_byte x (escaped t)
unfolding escaped
last-escaped x [] h = absurd (omega arith)
last-escaped x (b ∷ []) h =
    last-full 0 x (escaped_byte b) (full_escaped_byte b) ∙ ap (last_byte x) (sym (append-nil (escaped_byte b)))
last-escaped x (b ∷ c ∷ bs) h =
    let e : length (b ∷ c ∷ bs) - 1 ≡ suc (length (c ∷ bs) - 1) = omega arith in
    ap (λ (k : ℕ). last_byte 0 (escaped_byte (get_or (b ∷ c ∷ bs) k 0))) e
    ∙ last-escaped (last_byte x (escaped_byte b)) (c ∷ bs) (omega arith) ∙ sym (last_append x (escaped_byte b) (escaped (c ∷ bs)))

-- of a text with a last byte: what is written for it is some, and the last of it is the last for that byte
module _ {x : ℕ} (t : List ℕ) (e : Some x ≡ slice_get t (length t - 1)) where
  pub full-escaped : full (escaped t) ≡ true
  unfolding escaped
  full-escaped = go t (long t e)
    where
      before : (E F : List ℕ) → full E ≡ true → full (E ++ F) ≡ true
      before [] F e = cc
      before (x ∷ E) F e = refl

      go : (t : List ℕ) → 0 < length t → full (escaped t) ≡ true
      go [] h = absurd (omega arith)
      go (b ∷ bs) h = before (escaped_byte b) (escaped bs) (full_escaped_byte b)

  pub ends-escaped : (y : ℕ) → last_byte 0 (escaped_byte x) ≡ last_byte y (escaped t)
  ends-escaped y = ap (λ (b : ℕ). last_byte 0 (escaped_byte b)) (sym (read t e)) ∙ last-escaped y t (long t e)

-- a loop that writes them byte by byte
pub escaped-more : (t : List ℕ) (i : ℕ) → i < length t → escaped (take i t) ++ escaped_byte (get_or t i 0) ≡ escaped (take (i + 1) t)
unfolding escaped
escaped-more t i h =
    sym
    (ap (λ (k : ℕ). escaped (take k t)) (add-one i) ∙ ap escaped (take-suc t i 0 h) ∙ escaped_append (take i t) (get_or t i 0 ∷ [])
    ∙ ap (λ (l : List ℕ). escaped (take i t) ++ l) (append-nil (escaped_byte (get_or t i 0))))

-- a string between its quotes
pub writes_string : {o o₁ o₂ o₃ o' : List ℕ} {s s' : State} {p q r e : ℕ} (t : List ℕ) → length o < 2 ^ 64
    → Put o o₁ s.written (space_if (begun_of s)) p → o₂ ≡ set o₁ p 34 → q ≡ sat p 1 → Put o₂ o₃ q (escaped t) r → o' ≡ set o₃ r 34 → e ≡ sat r 1
    → s' ≡ behind_of s e 34 → Writes o o' s s' (token (string_token t) ∷ [])
writes_string {o₁ = o₁} {s = s} {p = p} {r = r} t h v u a w u' a' b =
    let k : length o₁ < 2 ^ 64 = omega (arith, put_same v) in
    writes-token h v (put-put k (put-put k (put_byte p 34 u a) w) (put_byte r 34 u' a')) refl (sym (last_append 34 (escaped t) (34 ∷ []))) b

-- ---- numbers

-- the sign and the digits of a big integer
pub signed_digits : {o o₁ o₂ : List ℕ} {p q e : ℕ} {t : List ℕ} {sign : ℕ} {digits : List ℕ} → length o < 2 ^ 64 → t ≡ sign ∷ digits
    → Put o o₁ p (minus (eqb sign 1)) q → Put o₁ o₂ q digits e → Put o o₂ p (minus (eqb (get_or t 0 0) 1) ++ drop 1 t) e
signed_digits h z v w = rw z (put-put h v w)

pub unsigned : (o : List ℕ) {p : ℕ} (t : List ℕ) → p < 2 ^ 64 → length t ≡ 0 → Put o o p (minus (eqb (get_or t 0 0) 1) ++ drop 1 t) p
unsigned o t h z = rw (no_text t z) (put-none o h)

module _ {o o₁ : List ℕ} {s s' : State} {p : ℕ} (h : length o < 2 ^ 64) (v : Put o o₁ s.written (space_if (begun_of s)) p) where
  pub writes-integer : {o₂ o' : List ℕ} {e r : ℕ} (t : List ℕ)
      → Put o₁ o₂ p (minus (eqb (get_or t 0 0) 1) ++ drop 1 t) e → o' ≡ set o₂ e 110 → r ≡ sat e 1 → s' ≡ behind_of s r 110
      → Writes o o' s s' (token (integer_token t) ∷ [])
  writes-integer {e = e} t w u a b =
      let k : length o₁ < 2 ^ 64 = omega (arith, put_same v) in
      let M : List ℕ = minus (eqb (get_or t 0 0) 1) in
      writes-token h v (put_as (put-put k w (put_byte e 110 u a)) (append_assoc M (drop 1 t) (110 ∷ [])))
      (full-behind M (drop 1 t ++ (110 ∷ [])) (full-behind (drop 1 t) (110 ∷ []) refl))
      (sym (last_append (last_of s) M (drop 1 t ++ (110 ∷ [])) ∙ last_append (last_byte (last_of s) M) (drop 1 t) (110 ∷ []))) b

  pub writes-decimal : {o₂ o' : List ℕ} {q e : ℕ} (negative : Bool) (n : ℕ)
      → Put o₁ o₂ p (minus negative) q → Put o₂ o' q (decimal n) e → s' ≡ behind_of s e (48 + n % 10) → Writes o o' s s' (token (minus negative ++ decimal n) ∷ [])
  unfolding decimal_up_to
  writes-decimal negative n w x b =
      let k : length o₁ < 2 ^ 64 = omega (arith, put_same v) in
      let M : List ℕ = minus negative in
      let F : List ℕ = cond (ltb n 10) [] (decimal_up_to n (n / 10)) in
      let D : List ℕ = digit (n % 10) ∷ [] in
      writes-token h v (put-put k w x) (full-behind M (F ++ D) (full-behind F D refl))
      (sym (last_append (last_of s) M (F ++ D) ∙ last_append (last_byte (last_of s) M) F D)) b

-- a number by its bits: in decimal where it is whole, or its place
pub number-decimal : {o o₁ o₂ o' : List ℕ} {s s' : State} {b n p q e : ℕ} {negative : Bool} → length o < 2 ^ 64 → (at : ℕ) (t : List ℕ)
    → b ≡ bits_of t → some n ≡ whole_of b → Put o o₁ s.written (space_if (begun_of s)) p → negative ≡ is_negative b
    → Put o₁ o₂ p (minus negative) q → Put o₂ o' q (decimal n) e → s' ≡ behind_of s e (48 + n % 10)
    → Writes o o' s s' (decimal_token at (bits_of t) (whole_of (bits_of t)) ∷ [])
number-decimal {n = n} {negative = negative} h at t f g v i x y z = rw (← f, ← g, ← i) (writes-decimal h v negative n x y z)

pub number-outside : (o : List ℕ) (s : State) {b : ℕ} → s.written < 2 ^ 64 → (at : ℕ) (t : List ℕ) → b ≡ bits_of t → none ≡ whole_of b
    → {l : ℕ} → Some l ≡ seen_of_token s.place (outside at) → Writes o o s (record s { place = Some l }) (decimal_token at (bits_of t) (whole_of (bits_of t)) ∷ [])
number-outside o s h at t f g e = rw (← f, ← g) (no_number o s h at e)
