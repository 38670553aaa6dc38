-- Laws of `WritesLines`: no lines, lines behind lines, the same lines in another way, a line of its parts; and the indent.
use mathlib.Core.Path.{◌≡◌, refl, sym, ap, ◌∙◌}
use mathlib.Core.List.{List, [], ◌∷◌, ◌++◌, append-nil, append_assoc}
use mathlib.Core.Bool.{false}
use Prim.Native.Nat.{ℕ, zero, suc, ◌+◌, ◌<◌, ◌^◌}
use native.Mathlib.Omega.{arith}
use lib.ListN.{length}
use native.Mathlib.Numerals.{add-one}
use Rattle.std.specs.Prelude.{Option, None}
use lib.Seq.{length-sets}
use Rattle.definition.specs.Text.{Token, Line, tokens_bytes, indent, line_bytes, lines_bytes}
use Rattle.records.specs.Wrote.{Put}
use Rattle.records.proofs.Puts.{put-put, put_as}
use Rattle.text_tokens.specs.declared.State.{State}
use Rattle.text_tokens.specs.Writes.{Writes, first_seen}
use Rattle.declaration_text.specs.Lines.{WritesLines, lines_seen}

-- ---- lines in two parts

lines_bytes_append : (ls ms : List Line) → lines_bytes (ls ++ ms) ≡ lines_bytes ls ++ lines_bytes ms
unfolding lines_bytes
lines_bytes_append [] ms = refl
lines_bytes_append (l ∷ ls) ms =
    ap (λ (bs : List ℕ). line_bytes l ++ bs) (lines_bytes_append ls ms) ∙ sym (append_assoc (line_bytes l) (lines_bytes ls) (lines_bytes ms))

lines_seen_append : (x : Option ℕ) (ls ms : List Line) → lines_seen x (ls ++ ms) ≡ lines_seen (lines_seen x ls) ms
unfolding lines_seen
lines_seen_append x [] ms = refl
lines_seen_append x (l ∷ ls) ms = lines_seen_append (first_seen x l.tokens) ls ms

-- ---- lines one after the other

-- no lines. A position is below 2 to the 64
pub lines_none : (o : List ℕ) (s : State) → s.written < 2 ^ 64 → WritesLines o o s s []
unfolding lines_bytes lines_seen
lines_none o s h = record { put = record { bytes = refl; position = omega arith }; place = refl }

-- lines, and lines behind them
pub lines_then : {o o' o'' : List ℕ} {s s' s'' : State} {ls ms : List Line}
    → length o < 2 ^ 64 → WritesLines o o' s s' ls → WritesLines o' o'' s' s'' ms → WritesLines o o'' s s'' (ls ++ ms)
lines_then {s = s} {ls = ls} {ms = ms} h v w = record {
  put = put_as (put-put h v.put w.put) (sym (lines_bytes_append ls ms));
  place = w.place ∙ (ap (λ (x : Option ℕ). lines_seen x ms) v.place ∙ sym (lines_seen_append s.place ls ms));
}

-- the same lines, in another way
pub lines-as : {o o' : List ℕ} {s s' : State} {ls ms : List Line} → WritesLines o o' s s' ls → ls ≡ ms → WritesLines o o' s s' ms
lines-as w e = rw (← e) w

-- the output keeps its length
pub lines_same : {o o' : List ℕ} {s s' : State} {ls : List Line} → WritesLines o o' s s' ls → length o' ≡ length o
lines_same {o} {s = s} {ls = ls} w = ap length w.put.bytes ∙ length-sets o s.written (lines_bytes ls)

-- ---- one line

-- its indent, its tokens, from the state b on in which they begin, and a line feed
pub line_put : {o o1 o2 o3 : List ℕ} (d : ℕ) {s b s2 s3 : State} {p : ℕ} {ts : List Token} → length o < 2 ^ 64 → Put o o1 s.written (indent d) p
    → b ≡ record s { written = p; last = None; some = false } → Writes o1 o2 b s2 ts
    → Put o2 o3 s2.written (10 ∷ []) s3.written → s3.place ≡ s2.place → WritesLines o o3 s s3 (record { spaces = d; tokens = ts } ∷ [])
unfolding lines_bytes lines_seen
line_put {o} {o1} {o2} d {s} {s2 = s2} {p = p} {ts = ts} h v e w x f =
    let z : Writes o1 o2 (record s { written = p; last = None; some = false }) s2 ts = rw e at w in
    record {
      put =
          put_as (put-put h (put-put h v z.put) x)
          (append_assoc (indent d) (tokens_bytes false ts) (10 ∷ []) ∙ sym (append-nil (indent d ++ (tokens_bytes false ts ++ (10 ∷ [])))));
      place = f ∙ z.place;
    }

-- ---- the indent

-- one level more
pub indent-more : (d : ℕ) → indent d ++ (32 ∷ 32 ∷ []) ≡ indent (d + 1)
unfolding indent
indent-more d = go d ∙ ap indent (sym (add-one d))
  where
    go : (d : ℕ) → indent d ++ (32 ∷ 32 ∷ []) ≡ indent (suc d)
    go zero = refl
    go (suc d) = ap (λ (bs : List ℕ). 32 ∷ 32 ∷ bs) (go d)
