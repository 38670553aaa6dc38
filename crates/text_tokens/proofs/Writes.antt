-- Laws of `Writes`: no tokens, tokens behind tokens, the same tokens in another way; and what is asked of tokens, of a list in two parts.
use mathlib.Core.Path.{◌≡◌, refl, sym, ap, ◌∙◌}
use mathlib.Core.List.{List, [], ◌∷◌, ◌++◌, append_assoc}
use mathlib.Core.Bool.{Bool, true, false, ◌||◌}
use Prim.Native.Nat.{ℕ, ◌<◌, ◌^◌}
use native.Mathlib.Omega.{arith}
use lib.ListN.{length}
use lib.Seq.{length-sets}
use Rattle.definition.specs.Text.{Token, token, own, outside, is_written, any_written, last_of_token, last_written, token_bytes, tokens_bytes}
use Rattle.records.proofs.Puts.{put-put, put_as}
use Rattle.text_tokens.specs.declared.State.{State}
use Rattle.text_tokens.specs.Writes.{Writes, begun_of, last_of, seen_of_token, first_seen}
use Rattle.std.specs.Prelude.{Option}

-- ---- truth values

pub or_false : (b : Bool) → (b || false) ≡ b
or_false true = refl
or_false false = refl

pub or_true : (b : Bool) → (b || true) ≡ true
or_true true = refl
or_true false = refl

pub or_or : (a b c : Bool) → ((a || b) || c) ≡ (a || (b || c))
or_or true b c = refl
or_or false b c = refl

-- ---- a list of tokens in two parts

pub any_written_append : (ts us : List Token) → any_written (ts ++ us) ≡ (any_written ts || any_written us)
unfolding any_written
any_written_append [] us = refl
any_written_append (t ∷ ts) us = ap (λ (b : Bool). is_written t || b) (any_written_append ts us) ∙ sym (or_or (is_written t) (any_written ts) (any_written us))

pub last_written_append : (x : ℕ) (ts us : List Token) → last_written x (ts ++ us) ≡ last_written (last_written x ts) us
unfolding last_written
last_written_append x [] us = refl
last_written_append x (t ∷ ts) us = last_written_append (last_of_token x t) ts us

pub first_seen_append : (x : Option ℕ) (ts us : List Token) → first_seen x (ts ++ us) ≡ first_seen (first_seen x ts) us
unfolding first_seen
first_seen_append x [] us = refl
first_seen_append x (t ∷ ts) us = first_seen_append (seen_of_token x t) ts us

pub tokens_bytes_append : (b : Bool) (ts us : List Token) → tokens_bytes b (ts ++ us) ≡ tokens_bytes b ts ++ tokens_bytes (b || any_written ts) us
unfolding tokens_bytes any_written
tokens_bytes_append b [] us = ap (λ (c : Bool). tokens_bytes c us) (sym (or_false b))
tokens_bytes_append b (t ∷ ts) us =
    ap (λ (l : List ℕ). token_bytes b t ++ l)
    (tokens_bytes_append (b || is_written t) ts us
    ∙ ap (λ (c : Bool). tokens_bytes (b || is_written t) ts ++ tokens_bytes c us) (or_or b (is_written t) (any_written ts)))
    ∙ sym (append_assoc (token_bytes b t) (tokens_bytes (b || is_written t) ts) (tokens_bytes (b || (is_written t || any_written ts)) us))

-- where one is written, the last byte is its own
pub last-any : (x y : ℕ) (ts : List Token) → any_written ts ≡ true → last_written x ts ≡ last_written y ts
unfolding any_written last_written
last-any x y [] h = cc
last-any x y (token [] ∷ ts) h = last-any x y ts h
last-any x y (token (b ∷ bs) ∷ ts) h = refl
last-any x y (own [] ∷ ts) h = last-any x y ts h
last-any x y (own (b ∷ bs) ∷ ts) h = refl
last-any x y (outside at ∷ ts) h = last-any x y ts h

-- ---- writes

-- no tokens. A position is below 2 to the 64
pub writes-none : (o : List ℕ) (s : State) → s.written < 2 ^ 64 → Writes o o s s []
unfolding tokens_bytes any_written last_written first_seen
writes-none o s h =
    record {
      put = record { bytes = refl; position = omega arith };
      begun = sym (or_false (begun_of s));
      some = sym (or_false s.some);
      last = refl;
      place = refl;
    }

-- tokens, and tokens behind them
pub writes_then : {o o' o'' : List ℕ} {s s' s'' : State} {ts us : List Token}
    → length o < 2 ^ 64 → Writes o o' s s' ts → Writes o' o'' s' s'' us → Writes o o'' s s'' (ts ++ us)
writes_then {s = s} {s' = s'} {ts = ts} {us = us} h v w =
    record {
      put =
          put_as (put-put h v.put w.put)
          (ap (λ (b : Bool). tokens_bytes (begun_of s) ts ++ tokens_bytes b us) v.begun ∙ sym (tokens_bytes_append (begun_of s) ts us));
      begun = either (begun_of s) v.begun w.begun;
      some = either s.some v.some w.some;
      last = w.last ∙ ap (λ (x : ℕ). last_written x us) v.last ∙ sym (last_written_append (last_of s) ts us);
      place = w.place ∙ ap (λ (x : Option ℕ). first_seen x us) v.place ∙ sym (first_seen_append s.place ts us);
    }
  where
    either : (b : Bool) {b' b'' : Bool} → b' ≡ (b || any_written ts) → b'' ≡ (b' || any_written us) → b'' ≡ (b || any_written (ts ++ us))
    either b e f =
        f ∙ ap (λ (c : Bool). c || any_written us) e ∙ or_or b (any_written ts) (any_written us)
        ∙ ap (λ (c : Bool). b || c) (sym (any_written_append ts us))

-- the same tokens, in another way
pub writes_as : {o o' : List ℕ} {s s' : State} {ts us : List Token} → Writes o o' s s' ts → ts ≡ us → Writes o o' s s' us
writes_as w e = rw (← e) w

-- the output keeps its length
pub writes-same : {o o' : List ℕ} {s s' : State} {ts : List Token} → Writes o o' s s' ts → length o' ≡ length o
writes-same {o} {s = s} {ts = ts} w = ap length w.put.bytes ∙ length-sets o s.written (tokens_bytes (begun_of s) ts)
