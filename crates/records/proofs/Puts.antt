-- Laws of `Put`: one byte, a writer behind another, the same bytes in another way; and the bytes of records with few children.
use mathlib.Core.Path.{◌≡◌, sym, ap, ◌∙◌}
use mathlib.Core.List.{List, [], ◌∷◌, ◌++◌, append-nil, append_assoc}
use Prim.Native.Nat.{ℕ, ◌+◌, ◌≤◌, ◌<◌, ◌^◌}
use native.Mathlib.Decide.{dec_le}
use native.Mathlib.Omega.{arith}
use lib.ListN.{length, set, length-append}
use lib.Seq.{sets, length-sets}
use Rattle.definition.specs.Tree.{Head, Rec, rec, nil, cons, le4, head_bytes, encode, encodes}
use Rattle.definition.specs.Grammar.{mark}
use Rattle.definition.specs.Record.{made, ident, one}
use Rattle.records.specs.declared.Range.{Range}
use Rattle.records.specs.Fields.{field_bytes, span, made_fields}
use Rattle.records.specs.Wrote.{highest, sat, Put}
use Rattle.records.proofs.Stores.{sets_append, sets-out}

-- ---- writes

pub put_byte : {a b : List ℕ} (p x : ℕ) {q : ℕ} → b ≡ set a p x → q ≡ sat p 1 → Put a b p (x ∷ []) q
put_byte p x e h = record { bytes = e; position = h }

-- where positions stop there is no room
sets-sat : (b : List ℕ) (p n : ℕ) (F : List ℕ) → length b < 2 ^ 64 → sets b (sat p n) F ≡ sets b (p + n) F
sets-sat b p n F h = go (dec_le (p + n) highest)
  where
    go : Dec (p + n ≤ highest) → sets b (sat p n) F ≡ sets b (p + n) F
    go (yes l) = ap (λ (k : ℕ). sets b k F) (omega arith)
    go (no l) = sets-out b (sat p n) F (omega arith) ∙ sym (sets-out b (p + n) F (omega arith))

-- a write, and one at the position behind it
pub put-put : {a b c : List ℕ} {p : ℕ} {E : List ℕ} {q : ℕ} {F : List ℕ} {r : ℕ} → length a < 2 ^ 64 → Put a b p E q → Put b c q F r → Put a c p (E ++ F) r
put-put {a} {b} {c} {p} {E} {q} {F} {r} h v w =
    let l : length b ≡ length a = ap length v.bytes ∙ length-sets a p E in
    record {
      bytes =
          w.bytes ∙ ap (λ (k : ℕ). sets b k F) v.position ∙ sets-sat b p (length E) F (omega arith)
          ∙ ap (λ (o : List ℕ). sets o (p + length E) F) v.bytes ∙ sym (sets_append a p E F);
      position = omega (arith, v.position, w.position, length-append E F);
    }

-- the same bytes, written in another way
pub put_as : {a b : List ℕ} {p : ℕ} {E E' : List ℕ} {q : ℕ} → Put a b p E q → E ≡ E' → Put a b p E' q
put_as w e = rw (← e) w

-- ---- records

module _ (h : Head) where
  pub encode-leaf : head_bytes h 0 ++ h.text ≡ encode (rec h nil)
  unfolding encode encodes
  encode-leaf = rw append-nil

  pub encode_one : (r : Rec) → h.text ≡ [] → head_bytes h 1 ++ encode r ≡ encode (rec h (one r))
  unfolding encode encodes
  encode_one r e = rw (e, append-nil)

  pub encode-two : (r s : Rec) → h.text ≡ [] → head_bytes h 2 ++ (encode r ++ encode s) ≡ encode (rec h (cons r (one s)))
  unfolding encode encodes
  encode-two r s e = rw (e, append-nil)

-- an Id that is made, of which the length of the name is known before it: its front, and the name
pub ident-put : (at : Range) (name : List ℕ) {a b c : List ℕ} {p n q r : ℕ} → n ≡ length name → length a < 2 ^ 64
    → Put a b p (field_bytes (made_fields (mark "Id") 0 at (4 + n) 0) ++ le4 0) q → Put b c q name r → Put a c p (encode (ident (span at) name)) r
unfolding field_bytes head_bytes
ident-put at name {n = n} e h v w =
    put_as (put-put h v w)
    (append_assoc (field_bytes (made_fields (mark "Id") 0 at (4 + n) 0)) (le4 0) name
    ∙ ap (λ (n : ℕ). field_bytes (made_fields (mark "Id") 0 at n 0) ++ (le4 0 ++ name)) (omega arith)
    ∙ encode-leaf (made "Id" 0 (span at) (le4 0 ++ name)))
