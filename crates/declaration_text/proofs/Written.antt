-- What the functions of `record` write, by the definition: a child, the children behind the slots, one of them, a template, a piece, a row.
use mathlib.Core.Path.{◌≡◌, refl, sym, ap, ◌∙◌}
use mathlib.Core.List.{List, [], ◌∷◌, ◌++◌, append-nil, append_assoc}
use mathlib.Core.Logic.{⊎_elim}
use mathlib.Core.Bool.{Bool, true, false, cond, ◌&&◌, ◌||◌}
use Prim.Native.Nat.{ℕ, ◌+◌, ◌-◌, ◌*◌, ◌<◌, ◌≤◌, ◌^◌}
use native.Mathlib.Omega.{arith}
use lib.Dec.{eqb}
use lib.ListN.{length, get_or, drop}
use denote.Enum.Declared.{tag_of}
use Rattle.std.specs.Prelude.{Option, Some, None}
use Rattle.definition.specs.Tree.{Head, Recs, nil, cons, count}
use Rattle.definition.specs.Grammar.{mark, marks, member, known, place}
use Rattle.definition.specs.Record.{text, is, is_no, head_of, kids_of, mark_of, text_of}
use Rattle.definition.specs.Numerals.{bits_of, whole_of}
use Rattle.definition.specs.Text.{Token, token, own, is_written, any_written, last_written, decimal_token, Piece, Child, nth, tokens, children, body_of, text_rows, row_in, row_tokens, holds, more, closed, each_of, number_of, template_of, in_braces, in_turns, quasis, behind_quasis, expressions, what_tokens, piece_tokens, pieces_tokens}
use Rattle.definition.proofs.Children.{itself}
use Rattle.records.specs.declared.marks.Mark.{Mark}
use Rattle.records.specs.declared.tree.Record.{Record}
use Rattle.records.specs.declared.tree.Records.{Records}
use Rattle.records.specs.contracts.marks.Mark.{the_type}
use Rattle.records.specs.Marks as Code
use Rattle.records.specs.Views.{rec_of, ChildrenOf, Step, From, ChildIs}
use Rattle.records.proofs.SameMarks.{row_is}
use Rattle.records.proofs.Views.{accepted, mark_here}
use Rattle.text_tokens.specs.declared.State.{State}
use Rattle.text_tokens.specs.Writes.{Writes, last_of, cleared_of}
use Rattle.text_tokens.proofs.Writes.{or_true, writes-none, writes_then, writes_as, writes-same, any_written_append, last-any}
use Rattle.declaration_text.specs.Table.{each_by, cell, row_at, pieces_in, when_is, each_is, what_is, piece_is, SaysPiece}
use Rattle.declaration_text.specs.declared.pieces.Each.{Each}
use Rattle.declaration_text.specs.declared.pieces.Each.TheVariants.{Ops, Elements, Members}
use Rattle.declaration_text.specs.declared.pieces.What.{What as NamedWhat}
use Rattle.declaration_text.specs.declared.pieces.Piece.{Piece as NamedPiece}
use Rattle.declaration_text.specs.Steps.{part_of, parts_of, is_oc, parts_in, Plain, Name}
use Rattle.declaration_text.specs.Templates.{texts_of, tokens_of, QuasisAre, ExpressionsAre, quasi_if, braces_if}
use Rattle.declaration_text.proofs.Parts.{parts_none, parts_more, parts_are, parts_behind, part_is, no_part, parts_nil, parts_past, tokens_are}
use Rattle.declaration_text.proofs.RowsRead.{row-pieces, row-slots, pieces_none, pieces_end, pieces_more}

-- tokens that are none
pub writes_nothing : (o : List ℕ) (s : State) → s.written < 2 ^ 64 → {ts : List Token} → ts ≡ [] → Writes o o s s ts
writes_nothing o s h e = writes_as (writes-none o s h) (sym e)

module _ (r : Record) where
  -- ---- a child, by its number

  pub no_child_lem : {i : ℕ} → count (kids_of (rec_of r)) ≤ i → (nth i (parts_in r)).tokens ≡ []
  no_child_lem h = ap (λ (c : Child). c.tokens) (no_part r h)

  pub child-tokens : {i : ℕ} {x : Record} → ChildIs r i x → {under : Bool} → under ≡ is_oc (rec_of r) → tokens (rec_of x) under x.at ≡ (nth i (parts_in r)).tokens
  child-tokens c f = rw f (ap (λ (c : Child). c.tokens) (sym (part_is c)))

  -- ---- the children behind the slots

  pub none-behind : (f : Child → List Child → List Token) (n : ℕ) → count (kids_of (rec_of r)) ≤ n → each_of f (drop n (parts_in r)) ≡ []
  unfolding each_of
  none-behind f n h = rw (parts_past (kids_of (rec_of r)) (is_oc (rec_of r)) (body_of r.at (head_of (rec_of r))) n h)

  pub some-behind : (f : Child → List Child → List Token) {n : ℕ} {k : Records} → From r n k → {under : Bool} → under ≡ is_oc (rec_of r)
      → each_of f (parts_of under k) ≡ each_of f (drop n (parts_in r))
  some-behind f g u = rw u (ap (each_of f) (parts_behind g))

  -- ---- a number

  pub number-alone : count (kids_of (rec_of r)) ≤ 0 → {t : List ℕ} → t ≡ text_of (rec_of r)
      → decimal_token r.at (bits_of t) (whole_of (bits_of t)) ∷ [] ≡ number_of r.at (text_of (rec_of r)) (parts_in r)
  unfolding number_of
  number-alone h e = rw (e, parts_nil (kids_of (rec_of r)) (is_oc (rec_of r)) (body_of r.at (head_of (rec_of r))) h)

  pub number-spelt : 0 < count (kids_of (rec_of r)) → (nth 0 (parts_in r)).tokens ≡ number_of r.at (text_of (rec_of r)) (parts_in r)
  unfolding number_of children
  number-spelt h = go (kids_of (rec_of r)) h
    where
      go : (ks : Recs) → 0 < count ks
          → (nth 0 (children ks (is_oc (rec_of r)) (body_of r.at (head_of (rec_of r))))).tokens
          ≡ number_of r.at (text_of (rec_of r)) (children ks (is_oc (rec_of r)) (body_of r.at (head_of (rec_of r))))
      go nil h = absurd (omega arith)
      go (cons k ks) h = refl

-- ---- one of the children behind the slots, by what is written for each

module _ (x : Record) (under : Bool) (cs : List Child) where
  pub op-written : is "Op" (rec_of x) ≡ true → tokens (rec_of x) under x.at ≡ each_by Ops (part_of under x) cs
  unfolding each_by
  op-written m = rw m

  pub no_op : is "Op" (rec_of x) ≡ false → each_by Ops (part_of under x) cs ≡ []
  unfolding each_by
  no_op m = rw m

  pub no_element : is "Op" (rec_of x) ≡ true → each_by Elements (part_of under x) cs ≡ []
  unfolding each_by
  no_element m = rw m

  module _ (m : is "Op" (rec_of x) ≡ false) {b : Bool} (f : b ≡ (more cs || is_no (rec_of x))) where
    pub element-comma : b ≡ true → tokens (rec_of x) under x.at ++ (token (text ",") ∷ []) ≡ each_by Elements (part_of under x) cs
    unfolding each_by
    element-comma t = rw (m, ← f, t)

    pub element-last : b ≡ false → tokens (rec_of x) under x.at ≡ each_by Elements (part_of under x) cs
    unfolding each_by
    element-last t = rw (m, ← f, t) (sym (append-nil (tokens (rec_of x) under x.at)))

  pub op_no_member : is "Op" (rec_of x) ≡ true → each_by Members (part_of under x) cs ≡ []
  unfolding each_by
  op_no_member m = rw m

  module _ (m : is "Op" (rec_of x) ≡ false) where
    pub no_member : is "Dm" (rec_of x) ≡ true → each_by Members (part_of under x) cs ≡ []
    unfolding each_by
    no_member d = rw (m, d)

    pub member-closed : is "Dm" (rec_of x) ≡ false → closed (tokens (rec_of x) under x.at) ≡ each_by Members (part_of under x) cs
    unfolding each_by
    member-closed d = rw (m, d)

-- ---- tokens from a cleared state

module _ {o o' : List ℕ} (s : State) {r s' : State} {ts : List Token} (e : r ≡ cleared_of s) (v : Writes o o' r s' ts) where
  w : Writes o o' (cleared_of s) s' ts
  w = rw e at v

  -- whether there are any
  pub some_is : s'.some ≡ any_written ts
  some_is = w.some

  -- as from the state itself, if some were written
  pub uncleared : any_written ts ≡ true → Writes o o' s s' ts
  uncleared t = record { put = w.put; begun = w.begun; some = w.some ∙ t ∙ sym (ap (λ (b : Bool). s.some || b) t ∙ or_true s.some); last = w.last; place = w.place }

  -- as from the state itself, with one behind them that is written
  pub uncleared_then : length o < 2 ^ 64 → {o'' : List ℕ} {s'' : State} {t : Token} → is_written t ≡ true → Writes o' o'' s' s'' (t ∷ [])
      → Writes o o'' s s'' (ts ++ (t ∷ []))
  unfolding any_written
  uncleared_then h {s'' = s''} {t = t} q u =
      let both = writes_then h w u in
      record {
        put = both.put;
        begun = both.begun;
        some = u.some ∙ ap (λ (b : Bool). s'.some || (b || false)) q ∙ or_true s'.some ∙ sym (ap (λ (b : Bool). s.some || b) (any_written_append ts (t ∷ []) ∙ ap (λ (b : Bool). any_written ts || (b || false)) q ∙ or_true (any_written ts)) ∙ or_true s.some);
        last = both.last;
        place = both.place;
      }

  -- a member: its tokens end in `;`, or it follows
  module _ {b : Bool} (f : b ≡ (s'.some && eqb (last_of s') 59)) where
    ends : (x : Bool) → any_written ts ≡ x → b ≡ (any_written ts && eqb (last_written 0 ts) 59)
    ends true t = f ∙ ap (λ (c : Bool). c && eqb (last_of s') 59) (some_is ∙ t) ∙ ap (λ (x : ℕ). eqb x 59) (w.last ∙ last-any (last_of s) 0 ts t) ∙ sym (ap (λ (c : Bool). c && eqb (last_written 0 ts) 59) t)
    ends false t = f ∙ ap (λ (c : Bool). c && eqb (last_of s') 59) (some_is ∙ t) ∙ sym (ap (λ (c : Bool). c && eqb (last_written 0 ts) 59) t)

    pub member-ends : b ≡ true → Writes o o' s s' (closed ts)
    unfolding closed
    member-ends t = go (any_written ts) refl
      where
        go : (x : Bool) → any_written ts ≡ x → Writes o o' s s' (ts ++ cond (any_written ts && eqb (last_written 0 ts) 59) [] (token (text ";") ∷ []))
        go true q = writes_as (uncleared q) (rw (← ends true q, t) (sym (append-nil ts)))
        go false q = let z : true ≡ false = sym t ∙ ends false q ∙ ap (λ (c : Bool). c && eqb (last_written 0 ts) 59) q in let y : ◌≡◌ {A = ℕ} 0 1 = cc in absurd (omega arith)

    pub member_follows : length o < 2 ^ 64 → b ≡ false → {o'' : List ℕ} {s'' : State} → Writes o' o'' s' s'' (token (text ";") ∷ []) → Writes o o'' s s'' (closed ts)
    unfolding closed
    member_follows h t u = writes_as (uncleared_then h refl u) (rw (← ends (any_written ts) refl, t))

-- ---- the children behind the slots, one after the other

-- `done` was written, and for the records k it is to be written what f gives
pub record Telling (f : Child → List Child → List Token) (under : Bool) (total : List Token) (o0 o : List ℕ) (s0 s : State) (top : ℕ) (k : Records) : Type 0 where
  pub done : List Token
  pub wrote : Writes o0 o s0 s done
  pub same : total ≡ done ++ each_of f (parts_of under k)
  pub levels : k.levels ≡ top

pub telling_start : (f : Child → List Child → List Token) (under : Bool) (k : Records) (o : List ℕ) (s : State) → s.written < 2 ^ 64
    → Telling f under (each_of f (parts_of under k)) o o s s k.levels k
telling_start f under k o s h = record { done = []; wrote = writes-none o s h; same = refl; levels = refl }

module _ {f : Child → List Child → List Token} {under : Bool} {total : List Token} {o0 o : List ℕ} {s0 s : State} {top : ℕ} {k : Records}
    (l : Telling f under total o0 o s0 s top k) where
  pub telling_turn : length o0 < 2 ^ 64 → {x : Record} {rest : Records} → Step k (Some x) rest → {o' : List ℕ} {s' : State}
      → Writes o o' s s' (f (part_of under x) (parts_of under rest)) → Telling f under total o0 o' s0 s' top rest
  unfolding each_of
  telling_turn b {x} {rest} t w = record {
    done = l.done ++ f (part_of under x) (parts_of under rest);
    wrote = writes_then b l.wrote w;
    same =
        l.same ∙ ap (λ (cs : List Child). l.done ++ each_of f cs) (parts_more t.0 t.1 t.2 under)
        ∙ sym (append_assoc l.done (f (part_of under x) (parts_of under rest)) (each_of f (parts_of under rest)));
    levels = t.2.levels ∙ l.levels;
  }

  pub telling_done : {rest : Records} → Step k None rest → Writes o0 o s0 s total
  unfolding each_of
  telling_done t = writes_as l.wrote (sym (l.same ∙ ap (λ (cs : List Child). l.done ++ each_of f cs) (parts_none k under t.0) ∙ append-nil l.done))

-- ---- the pieces of a row, one after the other

-- `done` was written, and the pieces from the number k on are left
pub record Reading (row : ℕ) (under : Bool) (at : ℕ) (h : Head) (cs : List Child) (total : List Token) (o0 o : List ℕ) (s0 s : State) (k : ℕ) : Type 0 where
  pub done : List Token
  pub wrote : Writes o0 o s0 s done
  pub same : total ≡ done ++ pieces_tokens (pieces_in (8 - k) (row_at row) (k * 5 + 1)) under (cell row 0) at h cs

-- the row of a record, by its mark in the code
pub reading-start : (r : Record) (under : Bool) (m : Mark) {row : ℕ} → Code.number_of m ≡ mark_of (rec_of r) → row ≡ tag_of the_type m
    → (o : List ℕ) (st : State) → st.written < 2 ^ 64
    → Reading row under r.at (head_of (rec_of r)) (parts_in r) (tokens (rec_of r) under r.at) o o st st 0
reading-start r under m {row} e f o st h =
    let g : row ≡ place known (mark_of (rec_of r)) = f ∙ row_is m ∙ ap (place known) e in
    let k : place known (mark_of (rec_of r)) < length known = rw (mark_here r) at (itself r.levels r.tree.now r.at (accepted r)).known in
    rw g (record {
      done = [];
      wrote = writes-none o st h;
      same =
          tokens_are r under
          ∙ ap (λ (n : ℕ). pieces_tokens (row_in text_rows (mark_of (rec_of r))).pieces under n r.at (head_of (rec_of r)) (parts_in r)) (sym (row-slots (mark_of (rec_of r)) k))
          ∙ ap (λ (ps : List Piece). pieces_tokens ps under (cell (place known (mark_of (rec_of r))) 0) r.at (head_of (rec_of r)) (parts_in r)) (sym (row-pieces (mark_of (rec_of r)) k));
    })

module _ {row : ℕ} {under : Bool} {at : ℕ} {h : Head} {cs : List Child} {total : List Token} {o0 o : List ℕ} {s0 s : State} {k : ℕ}
    (l : Reading row under at h cs total o0 o s0 s k) where
  -- what is left, where the next piece is p, and where there is none
  next-is : k < 8 → (p : NamedPiece) → SaysPiece (row_at row) (k * 5 + 1) (Some p)
      → pieces_in (8 - k) (row_at row) (k * 5 + 1) ≡ piece_is p ∷ pieces_in (8 - (k + 1)) (row_at row) ((k + 1) * 5 + 1)
  next-is g p q =
      let n : 8 - k - 1 ≡ 8 - (k + 1) = omega arith in
      let i : k * 5 + 1 + 5 ≡ (k + 1) * 5 + 1 = omega arith in
      pieces_more (row_at row) (8 - k) (k * 5 + 1) (omega arith) q.0 ∙ rw (q.1, n, i)

  pub reading-turn : length o0 < 2 ^ 64 → k < 8 → (p : NamedPiece) → SaysPiece (row_at row) (k * 5 + 1) (Some p) → {o' : List ℕ} {s' : State}
      → Writes o o' s s' (piece_tokens (piece_is p) under (cell row 0) at h cs) → Reading row under at h cs total o0 o' s0 s' (k + 1)
  unfolding pieces_tokens
  reading-turn b g p q w =
      let rest : List Token = pieces_tokens (pieces_in (8 - (k + 1)) (row_at row) ((k + 1) * 5 + 1)) under (cell row 0) at h cs in
      record {
        done = l.done ++ piece_tokens (piece_is p) under (cell row 0) at h cs;
        wrote = writes_then b l.wrote w;
        same =
            l.same
            ∙ ap (λ (ps : List Piece). l.done ++ pieces_tokens ps under (cell row 0) at h cs) (next-is g p q)
            ∙ sym (append_assoc l.done (piece_tokens (piece_is p) under (cell row 0) at h cs) rest);
      }

  finished : pieces_in (8 - k) (row_at row) (k * 5 + 1) ≡ [] → Writes o0 o s0 s total
  unfolding pieces_tokens
  finished e = writes_as l.wrote (sym (l.same ∙ ap (λ (ps : List Piece). l.done ++ pieces_tokens ps under (cell row 0) at h cs) e ∙ append-nil l.done))

  pub reading-end : get_or (row_at row) (k * 5 + 1 + 2) 0 ≡ 0 → Writes o0 o s0 s total
  reading-end z = finished (pieces_end (row_at row) (8 - k) (k * 5 + 1) z)

  pub reading-done : 8 ≤ k → Writes o0 o s0 s total
  reading-done g = finished (pieces_none (row_at row) (8 - k) (k * 5 + 1) (omega arith))

-- ---- a piece

-- its tokens, by what it says, where it is written; none where it isn't
module _ (p : NamedPiece) (under : Bool) (slots at : ℕ) (h : Head) (cs : List Child) {b : Bool} (e : b ≡ holds (when_is p.when) under h cs) where
  pub piece-not : b ≡ false → piece_tokens (piece_is p) under slots at h cs ≡ []
  piece-not f = rw (← e, f)

  pub piece-says : b ≡ true → {w : NamedWhat} → p.what ≡ w → what_tokens (what_is w) slots at h cs ≡ piece_tokens (piece_is p) under slots at h cs
  piece-says f q = rw (← e, f, q)

-- what is told of each child behind the slots
pub behind-is : (e : Each) (n at : ℕ) (h : Head) (cs : List Child) → each_of (each_by e) (drop n cs) ≡ what_tokens (each_is e) n at h cs
unfolding each_by what_tokens
behind-is Ops n at h cs = refl
behind-is Elements n at h cs = refl
behind-is Members n at h cs = refl

-- ---- an expression of a template in its braces

module _ {o o1 o2 o3 : List ℕ} {s s1 r s2 s3 : State} {ts : List Token} (h : length o < 2 ^ 64)
    (u : Writes o o1 s s1 (own (text "${") ∷ [])) (e : r ≡ cleared_of s1) (v : Writes o1 o2 r s2 ts) where
  braced : {t : Token} → is_written t ≡ true → Writes o2 o3 s2 s3 (t ∷ []) → Writes o o3 s s3 (own (text "${") ∷ (ts ++ (t ∷ [])))
  braced q w = writes_then h u (uncleared_then s1 e v (let z = writes-same u in omega arith) q w)

  pub braced-some : s2.some ≡ true → Writes o2 o3 s2 s3 (token (text "}") ∷ []) → Writes o o3 s s3 (in_braces ts)
  unfolding in_braces
  braced-some t w = writes_as (braced refl w) (rw (← some_is s1 e v, t))

  pub braced-none : s2.some ≡ false → Writes o2 o3 s2 s3 (own (text "}") ∷ []) → Writes o o3 s s3 (in_braces ts)
  unfolding in_braces
  braced-none t w = writes_as (braced refl w) (rw (← some_is s1 e v, t))

-- ---- a template

-- one step over its quasis, and over its expressions: none is left, or one and those behind it
texts-none : (k : Records) (under : Bool) → k.count ≡ 0 → texts_of (parts_of under k) ≡ []
texts-none k under h = ap texts_of (parts_none k under h)

tokens_none : (k : Records) (under : Bool) → k.count ≡ 0 → tokens_of (parts_of under k) ≡ []
tokens_none k under h = ap tokens_of (parts_none k under h)

module _ (under : Bool) (q e q' e' : Records) where
  one-turn : (fq fe : Option Record) → Step q fq q' → Step e fe e'
      → in_turns (texts_of (parts_of under q)) (tokens_of (parts_of under e))
      ≡ quasi_if fq ++ (braces_if under fe ++ in_turns (texts_of (parts_of under q')) (tokens_of (parts_of under e')))
  unfolding in_turns
  one-turn None None a b = rw (a.1, b.1, texts-none q under a.0, tokens_none e under b.0)
  one-turn None (Some y) a b = rw (a.1, texts-none q under a.0, ap tokens_of (parts_more b.0 b.1 b.2 under))
  one-turn (Some x) None a b = rw (b.1, ap texts_of (parts_more a.0 a.1 a.2 under), tokens_none e under b.0)
  one-turn (Some x) (Some y) a b = rw (ap texts_of (parts_more a.0 a.1 a.2 under), ap tokens_of (parts_more b.0 b.1 b.2 under))

-- the levels of an expression, if there is one
abbrev pub levels_of : Option Record → ℕ
levels_of None = 0
levels_of (Some e) = e.levels

-- how many are left behind a step
step_count : (k : Records) (f : Option Record) (l : Records) → Step k f l → l.count ≡ k.count - 1
step_count k None l t = rw t.1 (omega (arith, t.0))
step_count k (Some x) l t = t.2.many

step_levels : (k : Records) (f : Option Record) (l : Records) → Step k f l → l.levels ≡ k.levels
step_levels k None l t = rw t.1
step_levels k (Some x) l t = t.2.levels

-- `done` was written, and the quasis q and the expressions e are left, for no more than n turns
pub record Turning (under : Bool) (total : List Token) (o0 o : List ℕ) (s0 s : State) (top : ℕ) (q e : Records) (n : ℕ) : Type 0 where
  pub quasis_turns : q.count ≤ n
  pub expressions_turns : e.count ≤ n
  pub levels : e.levels ≡ top
  pub done : List Token
  pub wrote : Writes o0 o s0 s done
  pub same : total ≡ done ++ (in_turns (texts_of (parts_of under q)) (tokens_of (parts_of under e)) ++ (own (96 ∷ []) ∷ []))

-- what stands between the two backticks of a template, and the second
abbrev pub turns_of : List Child → List Token
turns_of cs = in_turns (quasis cs) (expressions (behind_quasis cs)) ++ (own (96 ∷ []) ∷ [])

pub template-is : (cs : List Child) → (token (96 ∷ []) ∷ []) ++ turns_of cs ≡ template_of cs
unfolding template_of
template-is cs = refl

pub turning_start : (under : Bool) {k q rest e : Records} → QuasisAre k q rest → ExpressionsAre rest e → {n : ℕ} → (q.count ≤ n) × (e.count ≤ n)
    → (o : List ℕ) (s : State) → s.written < 2 ^ 64 → Turning under (turns_of (parts_of under k)) o o s s k.levels q e n
turning_start under {k} {q} {rest} {e} a b h o s w = record {
  quasis_turns = h.0;
  expressions_turns = h.1;
  levels = b.levels ∙ a.rest_levels;
  done = [];
  wrote = writes-none o s w;
  same = rw (a.texts under, a.behind under, b.tokens under);
}

module _ {under : Bool} {total : List Token} {o0 o : List ℕ} {s0 s : State} {top : ℕ} {q e : Records} {n : ℕ} (l : Turning under total o0 o s0 s top q e n) where
  pub turning_turn : length o0 < 2 ^ 64 → {n' : ℕ} → n ≤ n' + 1 → {q' e' : Records} (fq fe : Option Record) → Step q fq q' → Step e fe e' → {o1 o2 : List ℕ} {s1 s2 : State}
      → Writes o o1 s s1 (quasi_if fq) → Writes o1 o2 s1 s2 (braces_if under fe) → Turning under total o0 o2 s0 s2 top q' e' n'
  turning_turn b {n'} h {q'} {e'} fq fe a c v w =
      let C : List Token = in_turns (texts_of (parts_of under q')) (tokens_of (parts_of under e')) in
      let A : List Token = quasi_if fq in
      let B : List Token = braces_if under fe in
      record {
        quasis_turns = omega (arith, l.quasis_turns, h, step_count q fq q' a);
        expressions_turns = omega (arith, l.expressions_turns, h, step_count e fe e' c);
        levels = step_levels e fe e' c ∙ l.levels;
        done = l.done ++ (A ++ B);
        wrote = writes_then b l.wrote (writes_then (let z = writes-same l.wrote in omega arith) v w);
        same =
            l.same
            ∙ ap (λ (ts : List Token). l.done ++ (ts ++ (own (96 ∷ []) ∷ []))) (one-turn under q e q' e' fq fe a c ∙ sym (append_assoc A B C))
            ∙ ap (λ (ts : List Token). l.done ++ ts) (append_assoc (A ++ B) C (own (96 ∷ []) ∷ []))
            ∙ sym (append_assoc l.done (A ++ B) (C ++ (own (96 ∷ []) ∷ [])));
      }

  pub turning_done : length o0 < 2 ^ 64 → n ≤ 0 → {o' : List ℕ} {s' : State} → Writes o o' s s' (own (96 ∷ []) ∷ []) → Writes o0 o' s0 s' total
  unfolding in_turns
  turning_done b h w =
      writes_as (writes_then b l.wrote w)
      (sym (l.same ∙ rw (texts-none q under (omega (arith, l.quasis_turns, h)), tokens_none e under (omega (arith, l.expressions_turns, h)))))

-- a template of all children of a record
pub template_of_lem : {r : Record} {k : Records} → ChildrenOf r k → {under : Bool} → under ≡ is_oc (rec_of r) → template_of (parts_of under k) ≡ template_of (parts_in r)
template_of_lem c e = rw e (ap template_of (parts_are c))

-- ---- records with one token

module _ (r : Record) (under : Bool) where
  -- a row that gives the tokens ts where there are no children
  by_row : (w : ℕ) (ts : List Token) → row_tokens (row_in text_rows w) under r.at (head_of (rec_of r)) [] ≡ ts → count (kids_of (rec_of r)) ≡ 0 → mark_of (rec_of r) ≡ w
      → ts ≡ tokens (rec_of r) under r.at
  by_row w ts q z f =
      sym (tokens_are r under
      ∙ ap (λ (x : ℕ). row_tokens (row_in text_rows x) under r.at (head_of (rec_of r)) (parts_in r)) f
      ∙ ap (λ (cs : List Child). row_tokens (row_in text_rows w) under r.at (head_of (rec_of r)) cs) (parts_nil (kids_of (rec_of r)) (is_oc (rec_of r)) (body_of r.at (head_of (rec_of r))) (omega (arith, z)))
      ∙ q)

  pub plain-token : Plain (rec_of r) → {t : List ℕ} → t ≡ text_of (rec_of r) → token t ∷ [] ≡ tokens (rec_of r) under r.at
  unfolding text_rows row_in marks member pieces_tokens holds what_tokens each_of
  plain-token p g =
      ap (λ (t : List ℕ). token t ∷ []) g
      ∙ ⊎_elim (λ x. by_row (mark "Ki") (token (text_of (rec_of r)) ∷ []) refl p.alone x)
      (λ y. ⊎_elim (λ x. by_row (mark "Op") (token (text_of (rec_of r)) ∷ []) refl p.alone x) (λ x. by_row (mark "Kw") (token (text_of (rec_of r)) ∷ []) refl p.alone x) y) p.kind

  pub name-token : Name (rec_of r) → token (drop 4 (text_of (rec_of r))) ∷ [] ≡ tokens (rec_of r) under r.at
  unfolding text_rows row_in marks member pieces_tokens holds what_tokens each_of
  name-token p = by_row (mark "Id") (token (drop 4 (text_of (rec_of r))) ∷ []) (rw p.required) p.alone p.kind
