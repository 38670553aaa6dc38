-- Request §3: "An St, a Dm, a body, and the initial value of a declarator or class property are left out." No byte of the text depends on them
-- (`left_out_lem`): trees that agree without them have the same text (`same_text_lem`), and a number outside the forms is in both or in neither.
use Prim.Native.Nat.{ℕ, suc, ◌+◌, ◌≤◌}
use mathlib.Core.Path.{◌≡◌, refl, ap, ap₂, sym, ◌∙◌}
use mathlib.Core.List.{List, [], ◌∷◌, ◌++◌}
use mathlib.Core.Bool.{Bool, true, false, cond, ◌||◌}
use mathlib.Core.Logic.{◌⊎◌, inl, inr}
use lib.ListN.{length}
use lib.Dec.{eqb, leb}
use borrow.Author.Tests.{eqb-true, ne_eqb}
use Rattle.definition.specs.Tree.{Head, Rec, Recs, rec, nil, cons, tree_at, Bytes}
use Rattle.definition.specs.Grammar.{mark, marks, member, allowed, root}
use Rattle.definition.specs.Check.{fine, longest_tree, deepest, check_tree}
use Rattle.definition.specs.Record.{text, head_of, mark_of, absent, set_kid, one}
use Rattle.definition.specs.Text.{
  Token,
  token,
  own,
  outside,
  any_written,
  is_written,
  text_rows,
  row_in,
  Child,
  holds,
  each_of,
  op_of,
  member_of,
  what_tokens,
  pieces_tokens,
  row_tokens,
  size_of,
  body_of,
  tokens,
  Line,
  item_line,
  items_lines,
  block_lines,
  first_block,
  second_block,
  first_line,
  lines_of,
  token_bytes,
  tokens_bytes,
  indent,
  lines_bytes,
  text_of,
  nowhere,
  first_outside,
  Written,
  written_text,
  text_by,
  call_text,
}
use Rattle.definition.specs.Transform.{done, refused, over}
use Rattle.definition.specs.Formed.{Formed}
use Rattle.definition.specs.TextLeftOut.{left_out, without, without_members, leave, bare, bares, is_outside, any_outside, lines_outside}
use Rattle.definition.proofs.Tests.{by_eq}
use Rattle.definition.proofs.SmallTrees.{node, two, three, op, number, variable, class_of, property}
use Rattle.definition.proofs.Accepted.{accepted-tree}
use Rattle.definition.proofs.Converse.{read-accepted}
use Rattle.definition.proofs.Kids.{member-one}
use Rattle.definition.proofs.Formed.{formed}
use Rattle.definition.proofs.TextOutside.{outside-first}
use Rattle.definition.proofs.TextPlaceless.{unplaced, blank, blank-written, blank-any, look, looks, holder, seen, child_path, tokens-place, tokens_are}

-- ---- what a row doesn't mention

-- the children that are left out, by what f gives for each child
without-each : (f : Child → List Child → List Token) (m : ℕ) →
    ((c : Child) (cs ds : List Child) → f c cs ≡ f c ds) →
    ((c : Child) (cs : List Child) → mark_of c.itself ≡ m → f c cs ≡ []) →
    (o : Bool) (ks : Recs) → each_of f (looks o (without m ks)) ≡ each_of f (looks o ks)
unfolding each_of without
without-each f m e z o nil = refl
without-each f m e z o (cons r rs) = go (eqb (mark_of r) m) refl (without-each f m e z o rs)
  where
    go : (b : Bool) → eqb (mark_of r) m ≡ b → each_of f (looks o (without m rs)) ≡ each_of f (looks o rs) →
        each_of f (looks o (cond b (without m rs) (cons r (without m rs)))) ≡ f (look o r) (looks o rs) ++ each_of f (looks o rs)
    go true t q = q ∙ ap (λ (l : List Token). l ++ each_of f (looks o rs)) (sym (z (look o r) (looks o rs) (eqb-true (mark_of r) m t)))
    go false t q = ap₂ ◌++◌ (e (look o r) (looks o (without m rs)) (looks o rs)) q

-- an St is no Op, and a Dm neither an Op nor a member that is written
op-none : (c : Child) (cs : List Child) → mark_of c.itself ≡ mark "St" → op_of c cs ≡ []
op-none c cs e = rw e refl

op_none_member : (c : Child) (cs : List Child) → mark_of c.itself ≡ mark "Dm" → op_of c cs ≡ []
op_none_member c cs e = rw e refl

member-none : (c : Child) (cs : List Child) → mark_of c.itself ≡ mark "Dm" → member_of c cs ≡ []
member-none c cs e = rw e refl

module _ (under : Bool) (h : Head) (o : Bool) where
  -- the tokens of a record as if its mark were m, by its children
  abbrev row-tokens : ℕ → Recs → List Token
  row-tokens m ks = row_tokens (row_in text_rows m) under 0 h (looks o ks)

  function-same : (ks : Recs) → row-tokens (mark "Fu") (set_kid 2 absent ks) ≡ row-tokens (mark "Fu") ks
  unfolding row_in text_rows marks member pieces_tokens what_tokens holds
  function-same nil = refl
  function-same (cons a nil) = refl
  function-same (cons a (cons b nil)) = refl
  function-same (cons a (cons b (cons c ks))) = refl

  constructor-same : (ks : Recs) → row-tokens (mark "Co") (set_kid 0 absent ks) ≡ row-tokens (mark "Co") ks
  unfolding row_in text_rows marks member pieces_tokens what_tokens holds
  constructor-same nil = refl
  constructor-same (cons a ks) = refl

  declarator-same : (ks : Recs) → row-tokens (mark "Vr") (set_kid 1 absent ks) ≡ row-tokens (mark "Vr") ks
  unfolding row_in text_rows marks member pieces_tokens what_tokens holds
  declarator-same nil = refl
  declarator-same (cons a nil) = refl
  declarator-same (cons a (cons b ks)) = refl

  property-same : (ks : Recs) → row-tokens (mark "Cp") (set_kid 2 absent ks) ≡ row-tokens (mark "Cp") ks
  unfolding row_in text_rows marks member pieces_tokens what_tokens holds
  property-same nil = refl
  property-same (cons a nil) = refl
  property-same (cons a (cons b nil)) = refl
  property-same (cons a (cons b (cons c ks))) = refl

  module_same : (ks : Recs) → row-tokens (mark "Mo") (without (mark "St") ks) ≡ row-tokens (mark "Mo") ks
  unfolding row_in text_rows marks member pieces_tokens what_tokens holds
  module_same ks = rw (without-each op_of (mark "St") (λ c cs ds. refl) op-none o ks) refl

  block_same_row : (ks : Recs) → row-tokens (mark "Nb") (without (mark "St") ks) ≡ row-tokens (mark "Nb") ks
  unfolding row_in text_rows marks member pieces_tokens what_tokens holds
  block_same_row ks = rw (without-each op_of (mark "St") (λ c cs ds. refl) op-none o ks) refl

  class_same : (ks : Recs) → row-tokens (mark "Cl") (without_members ks) ≡ row-tokens (mark "Cl") ks
  unfolding row_in text_rows marks member pieces_tokens what_tokens holds without_members
  class_same nil = refl
  class_same (cons r ks) =
      rw (without-each op_of (mark "Dm") (λ c cs ds. refl) op_none_member o ks, without-each member_of (mark "Dm") (λ c cs ds. refl) member-none o ks) refl

  -- whatever the mark
  leave_same : (m : ℕ) (ks : Recs) → row-tokens m (leave (left_out m) ks) ≡ row-tokens m ks
  unfolding leave left_out
  leave_same m ks =
      by_eq m (mark "Fu") (λ e. rw e (function-same ks)) λ a.
      by_eq m (mark "Co") (λ e. rw e (constructor-same ks)) λ b.
      by_eq m (mark "Vr") (λ e. rw e (declarator-same ks)) λ c.
      by_eq m (mark "Cp") (λ e. rw e (property-same ks)) λ d.
      by_eq m (mark "Mo") (λ e. rw e (module_same ks)) λ f.
      by_eq m (mark "Nb") (λ e. rw e (block_same_row ks)) λ g.
      by_eq m (mark "Cl") (λ e. rw e (class_same ks)) λ i.
      rw (ne_eqb _ _ a, ne_eqb _ _ b, ne_eqb _ _ c, ne_eqb _ _ d, ne_eqb _ _ f, ne_eqb _ _ g, ne_eqb _ _ i) refl

-- ---- tokens

bare_head : (r : Rec) → head_of (bare r) ≡ head_of r
unfolding bare
bare_head (rec h ks) = refl

mutual
  unfolding bare

  -- a record has the same tokens without what is left out, but for places
  bare-tokens : (r : Rec) (under : Bool) → blank (tokens (bare r) under 0) ≡ blank (tokens r under 0)
  bare-tokens (rec h ks) under =
      tokens_are h (leave (left_out h.mark) (bares ks)) under 0
      ∙ (leave_same under h (holder h) h.mark (bares ks)
      ∙ (ap (seen under h) (bares-look ks (holder h))
      ∙ sym (tokens_are h ks under 0)))

  bares-look : (ks : Recs) (under : Bool) → looks under (bares ks) ≡ looks under ks
  bares-look nil under = refl
  bares-look (cons r rs) under =
      child_path (ap₂ (λ (h : Head) (ts : List Token). record { itself = rec h nil; tokens = ts }) (bare_head r) (bare-tokens r under)) (bares-look rs under)

-- wherever the two stand
pub bare_anywhere : (r : Rec) (at to : ℕ) → blank (tokens (bare r) false at) ≡ blank (tokens r false to)
bare_anywhere r at to = tokens-place (bare r) false at ∙ (bare-tokens r false ∙ sym (tokens-place r false to))

-- ---- lines without places

abbrev pub blank_line : Line → Line
blank_line l = record { spaces = l.spaces; tokens = blank l.tokens }

abbrev pub blank_lines : List Line → List Line
blank_lines [] = []
blank_lines (l ∷ ls) = blank_line l ∷ blank_lines ls

lines_join : (xs ys : List Line) → blank_lines (xs ++ ys) ≡ blank_lines xs ++ blank_lines ys
lines_join [] ys = refl
lines_join (x ∷ xs) ys = ap (λ (l : List Line). blank_line x ∷ l) (lines_join xs ys)

both-lines : (a b c d : List Line) → blank_lines a ≡ blank_lines c → blank_lines b ≡ blank_lines d → blank_lines (a ++ b) ≡ blank_lines (c ++ d)
both-lines a b c d p q = lines_join a b ∙ (ap₂ ◌++◌ p q ∙ sym (lines_join c d))

-- the line of an item, before the lines of its block
item-same : (r : Rec) (d at to : ℕ) (xs ys : List Line) → blank_lines xs ≡ blank_lines ys → blank_lines (item_line (bare r) d at xs) ≡ blank_lines (item_line r d to ys)
unfolding bare
item-same (rec h ks) d at to xs ys q =
    go (eqb h.mark (mark "St") || eqb h.mark (mark "Op")) (tokens (bare (rec h ks)) false at) (tokens (rec h ks) false to) (bare_anywhere (rec h ks) at to)
  where
    go : (b : Bool) (ts us : List Token) → blank ts ≡ blank us →
        blank_lines (cond b [] (record { spaces = d; tokens = ts } ∷ xs)) ≡ blank_lines (cond b [] (record { spaces = d; tokens = us } ∷ ys))
    go true ts us p = refl
    go false ts us p = ap₂ (λ (vs : List Token) (ls : List Line). record { spaces = d; tokens = vs } ∷ ls) p q

-- an item and those behind it: an St has no line
items-step : (r : Rec) (rs : Recs) (d at to : ℕ) →
    ((a b : ℕ) → blank_lines (block_lines (bare r) d a) ≡ blank_lines (block_lines r d b)) →
    ((a b : ℕ) → blank_lines (items_lines (without (mark "St") (bares rs)) d a) ≡ blank_lines (items_lines rs d b)) →
    blank_lines (items_lines (without (mark "St") (cons (bare r) (bares rs))) d at) ≡ blank_lines (items_lines (cons r rs) d to)
unfolding items_lines without bare
items-step (rec h ks) rs d at to block behind = go (eqb h.mark (mark "St")) refl
  where
    r : Rec
    r = rec h ks

    us : Recs
    us = without (mark "St") (bares rs)

    go : (b : Bool) → eqb h.mark (mark "St") ≡ b →
        blank_lines (items_lines (cond b us (cons (bare r) us)) d at) ≡ blank_lines (item_line r d to (block_lines r d to) ++ items_lines rs d (to + size_of r))
    go true t = behind at (to + size_of r) ∙ rw t refl
    go false t =
        both-lines (item_line (bare r) d at (block_lines (bare r) d at)) (items_lines us d (at + size_of (bare r)))
        (item_line r d to (block_lines r d to)) (items_lines rs d (to + size_of r))
        (item-same r d at to (block_lines (bare r) d at) (block_lines r d to) (block at to))
        (behind (at + size_of (bare r)) (to + size_of r))

-- the lines of the block in a record, by its mark
block-step : (h : Head) (us ks : Recs) (d at to : ℕ) →
    (eqb h.mark (mark "Nb") ≡ true → (a b : ℕ) → blank_lines (items_lines us (suc d) a) ≡ blank_lines (items_lines ks (suc d) b)) →
    (eqb h.mark (mark "Ed") ≡ true → (a b : ℕ) → blank_lines (first_block us d a) ≡ blank_lines (first_block ks d b)) →
    ((eqb h.mark (mark "Ns") || eqb h.mark (mark "Nd")) ≡ true → (a b : ℕ) → blank_lines (second_block us d a) ≡ blank_lines (second_block ks d b)) →
    blank_lines (block_lines (rec h us) d at) ≡ blank_lines (block_lines (rec h ks) d to)
unfolding items_lines
block-step h us ks d at to items first second = go (eqb h.mark (mark "Nb")) items (eqb h.mark (mark "Ed")) first (eqb h.mark (mark "Ns") || eqb h.mark (mark "Nd")) second
  where
    close : List Line
    close = record { spaces = d; tokens = token (text "}") ∷ [] } ∷ []

    go : (x : Bool) → (x ≡ true → (a b : ℕ) → blank_lines (items_lines us (suc d) a) ≡ blank_lines (items_lines ks (suc d) b)) →
        (y : Bool) → (y ≡ true → (a b : ℕ) → blank_lines (first_block us d a) ≡ blank_lines (first_block ks d b)) →
        (z : Bool) → (z ≡ true → (a b : ℕ) → blank_lines (second_block us d a) ≡ blank_lines (second_block ks d b)) →
        blank_lines (cond x (items_lines us (suc d) (body_of at h) ++ close) (cond y (first_block us d (body_of at h)) (cond z (second_block us d (body_of at h)) [])))
        ≡ blank_lines (cond x (items_lines ks (suc d) (body_of to h) ++ close) (cond y (first_block ks d (body_of to h)) (cond z (second_block ks d (body_of to h)) [])))
    go true p y q z s = both-lines (items_lines us (suc d) (body_of at h)) close (items_lines ks (suc d) (body_of to h)) close (p refl (body_of at h) (body_of to h)) refl
    go false p true q z s = q refl (body_of at h) (body_of to h)
    go false p false q true s = s refl (body_of at h) (body_of to h)
    go false p false q false s = refl

-- what is left out of the records on the way to a block
leave-block : (m : ℕ) (us : Recs) → eqb m (mark "Nb") ≡ true → leave (left_out m) us ≡ without (mark "St") us
unfolding leave left_out
leave-block m us t = rw (eqb-true m (mark "Nb") t) refl

leave_export : (m : ℕ) (us : Recs) → eqb m (mark "Ed") ≡ true → leave (left_out m) us ≡ us
unfolding leave left_out
leave_export m us t = rw (eqb-true m (mark "Ed") t) refl

leave-space : (m : ℕ) (us : Recs) → (eqb m (mark "Ns") || eqb m (mark "Nd")) ≡ true → leave (left_out m) us ≡ us
unfolding leave left_out
leave-space m us t = go (eqb m (mark "Ns")) refl t
  where
    go : (b : Bool) → eqb m (mark "Ns") ≡ b → (b || eqb m (mark "Nd")) ≡ true → leave (left_out m) us ≡ us
    go true p q = rw (eqb-true m (mark "Ns") p) refl
    go false p q = rw (eqb-true m (mark "Nd") q) refl

leave_module : (m : ℕ) (us : Recs) → m ≡ mark "Mo" → leave (left_out m) us ≡ without (mark "St") us
unfolding leave left_out
leave_module m us e = rw e refl

mutual
  unfolding items_lines bare without

  items-same : (ks : Recs) (d at to : ℕ) → blank_lines (items_lines (without (mark "St") (bares ks)) d at) ≡ blank_lines (items_lines ks d to)
  items-same nil d at to = refl
  items-same (cons r rs) d at to = items-step r rs d at to (λ a b. block_same r d a b) (λ a b. items-same rs d a b)

  block_same : (r : Rec) (d at to : ℕ) → blank_lines (block_lines (bare r) d at) ≡ blank_lines (block_lines r d to)
  block_same (rec h ks) d at to =
      block-step h (leave (left_out h.mark) (bares ks)) ks d at to
      (λ t a b. ap (λ (us : Recs). blank_lines (items_lines us (suc d) a)) (leave-block h.mark (bares ks) t) ∙ items-same ks (suc d) a b)
      (λ t a b. ap (λ (us : Recs). blank_lines (first_block us d a)) (leave_export h.mark (bares ks) t) ∙ first-same ks d a b)
      (λ t a b. ap (λ (us : Recs). blank_lines (second_block us d a)) (leave-space h.mark (bares ks) t) ∙ second-same ks d a b)

  first-same : (ks : Recs) (d at to : ℕ) → blank_lines (first_block (bares ks) d at) ≡ blank_lines (first_block ks d to)
  first-same nil d at to = refl
  first-same (cons r rs) d at to = block_same r d at to

  second-same : (ks : Recs) (d at to : ℕ) → blank_lines (second_block (bares ks) d at) ≡ blank_lines (second_block ks d to)
  second-same nil d at to = refl
  second-same (cons r rs) d at to = first-same rs d (at + size_of (bare r)) (to + size_of r)

-- ---- the text

first_line_lem : (ts : List Token) → blank_lines (first_line ts) ≡ first_line (blank ts)
first_line_lem ts = rw blank-any (go (any_written ts))
  where
    go : (b : Bool) → blank_lines (cond b (record { spaces = 0; tokens = ts } ∷ []) []) ≡ cond b (record { spaces = 0; tokens = blank ts } ∷ []) []
    go true = refl
    go false = refl

-- a Mo has the same lines without what is left out, but for places
pub lines_same : (r : Rec) → mark_of r ≡ mark "Mo" → blank_lines (lines_of (bare r)) ≡ blank_lines (lines_of r)
unfolding lines_of bare
lines_same (rec h ks) e =
    both-lines (first_line (tokens (bare (rec h ks)) false 0)) (items_lines (leave (left_out h.mark) (bares ks)) 0 (body_of 0 h))
    (first_line (tokens (rec h ks) false 0)) (items_lines ks 0 (body_of 0 h))
    (first_line_lem (tokens (bare (rec h ks)) false 0) ∙ (ap first_line (bare-tokens (rec h ks) false) ∙ sym (first_line_lem (tokens (rec h ks) false 0))))
    (ap (λ (us : Recs). blank_lines (items_lines us 0 (body_of 0 h))) (leave_module h.mark (bares ks) e) ∙ items-same ks 0 (body_of 0 h) (body_of 0 h))

-- places are no bytes
token-blank : (begun : Bool) (t : Token) → token_bytes begun (unplaced t) ≡ token_bytes begun t
token-blank begun (token t) = refl
token-blank begun (own t) = refl
token-blank begun (outside at) = refl

tokens-blank : (ts : List Token) (begun : Bool) → tokens_bytes begun (blank ts) ≡ tokens_bytes begun ts
unfolding tokens_bytes
tokens-blank [] begun = refl
tokens-blank (t ∷ ts) begun =
    ap₂ ◌++◌ (token-blank begun t) (ap (λ (b : Bool). tokens_bytes (begun || b) (blank ts)) (blank-written t) ∙ tokens-blank ts (begun || is_written t))

lines-blank : (ls : List Line) → lines_bytes (blank_lines ls) ≡ lines_bytes ls
unfolding lines_bytes
lines-blank [] = refl
lines-blank (l ∷ ls) = ap₂ ◌++◌ (ap (λ (bs : List ℕ). indent l.spaces ++ (bs ++ (10 ∷ []))) (tokens-blank l.tokens false)) (lines-blank ls)

-- the text is that of the tree without what is left out
pub left_out_lem : (r : Rec) → mark_of r ≡ mark "Mo" → text_of (bare r) ≡ text_of r
unfolding text_of
left_out_lem r e = sym (lines-blank (lines_of (bare r))) ∙ (ap lines_bytes (lines_same r e) ∙ lines-blank (lines_of r))

-- so trees that differ only in it have the same text
pub same_text_lem : (r q : Rec) → mark_of r ≡ mark "Mo" → mark_of q ≡ mark "Mo" → bare r ≡ bare q → text_of r ≡ text_of q
same_text_lem r q e f p = sym (left_out_lem r e) ∙ (ap text_of p ∙ left_out_lem q f)

-- ---- numbers outside the forms

token-outside : (t : Token) → is_outside (unplaced t) ≡ is_outside t
token-outside (token t) = refl
token-outside (own t) = refl
token-outside (outside at) = refl

tokens-outside : (ts : List Token) → any_outside (blank ts) ≡ any_outside ts
unfolding any_outside
tokens-outside [] = refl
tokens-outside (t ∷ ts) = ap₂ ◌||◌ (token-outside t) (tokens-outside ts)

lines-outside : (ls : List Line) → lines_outside (blank_lines ls) ≡ lines_outside ls
unfolding lines_outside
lines-outside [] = refl
lines-outside (l ∷ ls) = ap₂ ◌||◌ (tokens-outside l.tokens) (lines-outside ls)

-- none of them is in what is left out
pub left-outside : (r : Rec) → mark_of r ≡ mark "Mo" → lines_outside (lines_of (bare r)) ≡ lines_outside (lines_of r)
left-outside r e = sym (lines-outside (lines_of (bare r))) ∙ (ap lines_outside (lines_same r e) ∙ lines-outside (lines_of r))

pub same-outside : (r q : Rec) → mark_of r ≡ mark "Mo" → mark_of q ≡ mark "Mo" → bare r ≡ bare q → lines_outside (lines_of r) ≡ lines_outside (lines_of q)
same-outside r q e f p = sym (left-outside r e) ∙ (ap (λ (b : Rec). lines_outside (lines_of b)) p ∙ left-outside q f)

-- ---- the call

-- the text in a buffer, by the room
abbrev fitted : List ℕ → List ℕ → Written
fitted t out = cond (leb (length t) (length out)) (record { answer = done (length t) 0; out = over t out }) (record { answer = refused 9 0; out = out })

abbrev refusal : ℕ → List ℕ → Written
refusal place out = record { answer = refused 11 place; out = out }

module _ (r : Rec) (out : List ℕ) (short : size_of r ≤ longest_tree) where
  written-outside : lines_outside (lines_of r) ≡ true → written_text (lines_of r) out ≡ refusal (first_outside nowhere (lines_of r)) out
  unfolding written_text
  written-outside e = rw (outside-first r short ∙ e) refl

  written-fitted : lines_outside (lines_of r) ≡ false → written_text (lines_of r) out ≡ fitted (text_of r) out
  unfolding written_text text_of
  written-fitted e = rw (outside-first r short ∙ e) refl

-- what is written of two trees that differ only in what is left out: the same, or both are refused for a number
abbrev pub SameWritten : Written → Written → List ℕ → Type 0
SameWritten w v out = (w ≡ v) ⊎ ((p q : ℕ) × (w ≡ record { answer = refused 11 p; out = out }) × (v ≡ record { answer = refused 11 q; out = out }))

same-written : (r q : Rec) (out : List ℕ) → size_of r ≤ longest_tree → size_of q ≤ longest_tree → mark_of r ≡ mark "Mo" → mark_of q ≡ mark "Mo" → bare r ≡ bare q →
    SameWritten (written_text (lines_of r) out) (written_text (lines_of q) out) out
same-written r q out s t e f p = go (lines_outside (lines_of r)) refl
  where
    go : (b : Bool) → lines_outside (lines_of r) ≡ b → SameWritten (written_text (lines_of r) out) (written_text (lines_of q) out) out
    go true i = inr (first_outside nowhere (lines_of r), first_outside nowhere (lines_of q), written-outside r out s i, written-outside q out t (sym (same-outside r q e f p) ∙ i))
    go false i = inl (written-fitted r out s i ∙ (ap (λ (x : List ℕ). fitted x out) (same_text_lem r q e f p) ∙ sym (written-fitted q out t (sym (same-outside r q e f p) ∙ i))))

-- an accepted tree is a Mo, no longer than allowed, and its lines are written
pub root-mark : (r : Rec) → Formed root r → mark_of r ≡ mark "Mo"
unfolding Formed allowed marks
root-mark (rec h ks) f = member-one h.mark (mark "Mo") f.0

accepted-short : (tree : List ℕ) (e : ℕ) → Bytes tree → check_tree tree [] ≡ fine e → size_of (tree_at deepest tree 0) ≤ longest_tree
accepted-short tree e bytes f = rw (read-accepted tree [] e bytes f).same (accepted-tree tree [] e f).0.short

accepted-call : (tree out : List ℕ) (e : ℕ) → check_tree tree [] ≡ fine e → call_text tree out ≡ written_text (lines_of (tree_at deepest tree 0)) out
unfolding call_text text_by
accepted-call tree out e f = rw f refl

-- "An St, a Dm, a body, and the initial value of a declarator or class property are left out": calls on accepted trees that differ in nothing else,
-- with the same buffer, agree in the answer and in every byte, or both are refused with 11
pub same-call : (tree other out : List ℕ) (e f : ℕ) → Bytes tree → Bytes other → check_tree tree [] ≡ fine e → check_tree other [] ≡ fine f →
    bare (tree_at deepest tree 0) ≡ bare (tree_at deepest other 0) → SameWritten (call_text tree out) (call_text other out) out
same-call tree other out e f b c p q same =
    rw (accepted-call tree out e p, accepted-call other out f q)
    (same-written (tree_at deepest tree 0) (tree_at deepest other 0) out (accepted-short tree e b p) (accepted-short other f c q)
    (root-mark (tree_at deepest tree 0) (formed tree [] e p)) (root-mark (tree_at deepest other 0) (formed other [] f q)) same)

-- ---- an example

-- `f(); class A { constructor() { } a = 1; #b; }` with an St in a namespace, and the same without what is left out
abbrev full-tree : Rec
full-tree =
    node "Mo" (three
    (node "St" nil)
    (class_of 0 (three (node "Co" (one (op "{ }"))) (property absent number) (node "Dm" nil)))
    (node "Ns" (two (op "N") (node "Nb" (two (variable 2 "c" absent number) (node "St" nil))))))

abbrev bare-tree : Rec
bare-tree =
    node "Mo" (two
    (class_of 0 (two (node "Co" (one absent)) (property absent absent)))
    (node "Ns" (two (op "N") (node "Nb" (one (variable 2 "c" absent absent))))))

pub bare-is : (bare full-tree ≡ bare-tree) × (bare bare-tree ≡ bare-tree)
unfolding left_out without without_members leave bare
bare-is = (refl, refl)
