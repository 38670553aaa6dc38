-- Request §3: "one item to a line". A line feed ends each line, and inside a line only what is written as it stands can have one: strings and quasis
-- escape theirs, and numbers are digits.
use Prim.Native.Nat.{ℕ, zero, suc, ◌+◌, ◌/◌, ◌%◌}
use mathlib.Core.Path.{◌≡◌, refl, ap, ap₂, sym, ◌∙◌}
use mathlib.Core.List.{List, [], ◌∷◌, ◌++◌, map}
use mathlib.Core.Bool.{Bool, true, false, cond, not, ◌&&◌, ◌||◌}
use mathlib.Core.Option.{Option, none, some}
use native.Mathlib.Omega.{arith}
use lib.ListN.{length, get_or, drop}
use lib.Dec.{eqb, ltb}
use borrow.Author.Tests.{eqb-true, ltb-false, ne_eqb}
use Rattle.definition.specs.Tree.{Head, Rec, Recs, rec, nil, cons, head_bytes, encode, mark_at, flags_at, count_at, text_at, body_at, head_at, read_all, end_at, tree_at}
use Rattle.definition.specs.Grammar.{mark, marks, member, Part, grammar, known, forms, place, after, root}
use Rattle.definition.specs.Check.{digits, is_integer, has_form, form_of, inside, fine, check_all, check_at, deepest, check_tree}
use Rattle.definition.specs.Record.{text, mark_of, is, absent, set_kid, one}
use Rattle.definition.specs.Numerals.{bits_of, is_negative, whole_of}
use Rattle.definition.specs.Names.{digit, decimal_up_to, decimal}
use Rattle.definition.specs.Text.{
  Token,
  token,
  own,
  outside,
  hex_digit,
  escaped_byte,
  escaped,
  string_token,
  minus,
  integer_token,
  decimal_token,
  is_written,
  What,
  a_token,
  a_child,
  the_ops,
  the_list,
  the_members,
  the_template,
  the_text,
  the_symbol,
  the_string,
  the_number,
  the_integer,
  Piece,
  Row,
  text_rows,
  row_in,
  Child,
  holds,
  each_of,
  op_of,
  what_tokens,
  pieces_tokens,
  row_tokens,
  size_of,
  body_of,
  tokens,
  children,
  any_written,
  Line,
  item_line,
  items_lines,
  block_lines,
  first_block,
  second_block,
  first_line,
  lines_of,
  token_bytes,
  tokens_bytes,
  indent,
  line_bytes,
  lines_bytes,
  text_of,
}
use Rattle.definition.specs.TextLeftOut.{LeftOut, nothing, child, statements, members, left_out, without, without_members, leave, bare, bares}
use Rattle.definition.specs.TextLines.{ItemAt, lists_items, is_item, depth_in, items, all_items, items_of, EachItem, blocks, item, line_of, feeds, feeds_of, feeds_in, lines_feeds, as_it_stands, feeds_within, all_feeds_within, feeds_on_line, all_feeds_on_line}
use Rattle.definition.proofs.Tests.{never, and-true}
use Rattle.definition.proofs.Kids.{member-one, contained, member-wider}
use Rattle.definition.proofs.SmallTrees.{leaf, node, two, three, op, variable}
use Rattle.definition.proofs.Accepted.{accepted, accepted-left, first-accepted, accepted-tree}
use Rattle.definition.proofs.Formed.{formed}
use Rattle.definition.proofs.TextLeftOut.{bare_anywhere, blank_lines, lines_same, left_out_lem, root-mark}
use Rattle.definition.proofs.TextLines.{accepted-count}
use Rattle.definition.proofs.TextPlaceless.{unplaced, blank}
use Rattle.definition.proofs.TextTokens.{Every, EveryChild, Adds, AllAdd, Marks, join-every, pieces-every}

-- ---- bytes

feeds-join : (xs ys : List ℕ) → feeds (xs ++ ys) ≡ feeds xs + feeds ys
unfolding feeds
feeds-join [] ys = omega arith
feeds-join (x ∷ xs) ys = omega (arith, feeds-join xs ys)

-- bytes of which none is one
no_feed : (b : ℕ) (bs : List ℕ) → (b ≡ 10 → ⊥) → feeds bs ≡ 0 → feeds (b ∷ bs) ≡ 0
unfolding feeds
no_feed b bs n e = rw (ne_eqb b 10 n) (omega arith)

hex_no : (d : ℕ) → hex_digit d ≡ 10 → ⊥
hex_no d = go (ltb d 10)
  where
    go : (b : Bool) → cond b (48 + d) (87 + d) ≡ 10 → ⊥
    go true e = omega arith
    go false e = omega arith

-- "bytes below 32 .. become \u and four small hex digits"
escaped_byte_none : (b : ℕ) → feeds (escaped_byte b) ≡ 0
unfolding escaped_byte feeds
escaped_byte_none b = go (ltb b 32) (eqb b 34 || (eqb b 36 || (eqb b 92 || eqb b 96))) refl
  where
    digits-none : feeds (92 ∷ 117 ∷ 48 ∷ 48 ∷ hex_digit (b / 16) ∷ hex_digit (b % 16) ∷ []) ≡ 0
    digits-none = omega (arith, no_feed (hex_digit (b / 16)) (hex_digit (b % 16) ∷ []) (hex_no (b / 16)) (no_feed (hex_digit (b % 16)) [] (hex_no (b % 16)) refl))

    go : (x y : Bool) → ltb b 32 ≡ x → feeds (cond (x || y) (92 ∷ 117 ∷ 48 ∷ 48 ∷ hex_digit (b / 16) ∷ hex_digit (b % 16) ∷ []) (b ∷ [])) ≡ 0
    go true y e = digits-none
    go false true e = digits-none
    go false false e = no_feed b [] (λ q. let l = ltb-false b 32 e in omega arith) refl

escaped-none : (t : List ℕ) → feeds (escaped t) ≡ 0
unfolding escaped feeds
escaped-none [] = refl
escaped-none (b ∷ bs) = omega (arith, feeds-join (escaped_byte b) (escaped bs), escaped_byte_none b, escaped-none bs)

string_none : (t : List ℕ) → feeds (string_token t) ≡ 0
unfolding feeds
string_none t = omega (arith, feeds-join (escaped t) (34 ∷ []), escaped-none t)

-- digits
minus-none : (b : Bool) → feeds (minus b) ≡ 0
unfolding feeds
minus-none true = refl
minus-none false = refl

decimal-none : (most n : ℕ) → feeds (decimal_up_to most n) ≡ 0
unfolding decimal_up_to feeds
decimal-none zero n = refl
decimal-none (suc most) n =
    omega (
      arith,
      feeds-join (cond (ltb n 10) [] (decimal_up_to most (n / 10))) (digit (n % 10) ∷ []),
      front (ltb n 10) (decimal-none most (n / 10)),
      no_feed (digit (n % 10)) [] (λ e. omega arith) refl,
    )
  where
    front : (b : Bool) → feeds (decimal_up_to most (n / 10)) ≡ 0 → feeds (cond b [] (decimal_up_to most (n / 10))) ≡ 0
    front true e = refl
    front false e = e

number-none : (at b : ℕ) (w : Option ℕ) → feeds_of (decimal_token at b w) ≡ 0
number-none at b none = refl
number-none at b (some n) = omega (arith, feeds-join (minus (is_negative b)) (decimal n), minus-none (is_negative b), decimal-none (suc n) n)

digits-none : (ds : List ℕ) → digits ds ≡ true → feeds ds ≡ 0
unfolding digits feeds
digits-none [] e = refl
digits-none (d ∷ ds) e = go (ltb d 48) (ltb 57 d) refl e (λ f. digits-none ds f)
  where
    go : (x y : Bool) → ltb d 48 ≡ x → cond x false (cond y false (digits ds)) ≡ true → (digits ds ≡ true → feeds ds ≡ 0) → feeds (d ∷ ds) ≡ 0
    go true y l f ih = absurd (never f)
    go false true l f ih = absurd (never f)
    go false false l f ih = no_feed d ds (λ q. let k = ltb-false d 48 l in omega arith) (ih f)

integer-digits : (t : List ℕ) → is_integer t ≡ true → feeds (drop 1 t) ≡ 0
unfolding is_integer feeds
integer-digits [] e = refl
integer-digits (s ∷ t) e = go (ltb (length (s ∷ t)) 2) (ltb 1 s) (eqb (get_or t 0 0) 48) (eqb (length (s ∷ t)) 2) refl refl e
  where
    zero-digit : (ds : List ℕ) → get_or ds 0 0 ≡ 48 → suc (length ds) ≡ 2 → feeds ds ≡ 0
    zero-digit [] d l = refl
    zero-digit (x ∷ []) d l = no_feed x [] (λ q. omega arith) refl
    zero-digit (x ∷ (y ∷ ds)) d l = absurd (omega arith)

    go : (a b c d : Bool) → eqb (get_or t 0 0) 48 ≡ c → eqb (length (s ∷ t)) 2 ≡ d →
        cond a false (cond b false (cond c (cond d (eqb s 0) false) (digits t))) ≡ true → feeds t ≡ 0
    go true b c d p q f = absurd (never f)
    go false true c d p q f = absurd (never f)
    go false false true true p q f = zero-digit t (eqb-true (get_or t 0 0) 48 p) (eqb-true (length (s ∷ t)) 2 q)
    go false false true false p q f = absurd (never f)
    go false false false d p q f = digits-none t f

integer-none : (t : List ℕ) → is_integer t ≡ true → feeds (integer_token t) ≡ 0
unfolding feeds
integer-none t e =
    omega (arith, feeds-join (minus (eqb (get_or t 0 0) 1)) (drop 1 t ++ text "n"), feeds-join (drop 1 t) (text "n"), minus-none (eqb (get_or t 0 0) 1), integer-digits t e)

-- ---- lines

-- a space is none
spaced-feeds : (begun : Bool) (t : Token) → feeds (token_bytes begun t) ≡ feeds_of t
unfolding feeds
spaced-feeds begun (token []) = refl
spaced-feeds true (token (b ∷ bs)) = omega arith
spaced-feeds false (token (b ∷ bs)) = refl
spaced-feeds begun (own t) = refl
spaced-feeds begun (outside at) = refl

tokens-feeds : (ts : List Token) (begun : Bool) → feeds (tokens_bytes begun ts) ≡ feeds_in ts
unfolding tokens_bytes feeds feeds_in
tokens-feeds [] begun = refl
tokens-feeds (t ∷ ts) begun =
    omega (arith, feeds-join (token_bytes begun t) (tokens_bytes (begun || is_written t) ts), spaced-feeds begun t, tokens-feeds ts (begun || is_written t))

indent-feeds : (d : ℕ) → feeds (indent d) ≡ 0
unfolding indent feeds
indent-feeds zero = refl
indent-feeds (suc d) = omega (arith, indent-feeds d)

-- one at the end of a line, and those of its tokens
pub line_feeds : (l : Line) → feeds (line_bytes l) ≡ suc (feeds_in l.tokens)
unfolding feeds
line_feeds l =
    omega (
      arith,
      feeds-join (indent l.spaces) (tokens_bytes false l.tokens ++ (10 ∷ [])),
      feeds-join (tokens_bytes false l.tokens) (10 ∷ []),
      indent-feeds l.spaces,
      tokens-feeds l.tokens false,
    )

-- one for each line, and those of their tokens
pub lines-feeds : (ls : List Line) → feeds (lines_bytes ls) ≡ length ls + lines_feeds ls
unfolding lines_bytes feeds lines_feeds
lines-feeds [] = refl
lines-feeds (l ∷ ls) = omega (arith, feeds-join (line_bytes l) (lines_bytes ls), line_feeds l, lines-feeds ls)

-- ---- the table

abbrev Plain : Token → Type 0
Plain t = feeds_of t ≡ 0

-- what a piece of a row adds is written out in the table, or is in a row of marks whose texts are looked at
abbrev sound : List ℕ → What → Bool
sound ms (a_token t) = eqb (feeds t) 0
sound ms (a_child i) = true
sound ms the_ops = true
sound ms the_list = true
sound ms the_members = true
sound ms the_template = true
sound ms the_text = contained ms (marks "Op Ki Kw")
sound ms the_symbol = contained ms (marks "Id")
sound ms the_string = true
sound ms the_number = true
sound ms the_integer = contained ms (marks "Bi")

abbrev sound_pieces : List ℕ → List Piece → Bool
sound_pieces ms [] = true
sound_pieces ms (p ∷ ps) = sound ms p.what && sound_pieces ms ps

abbrev sound_rows : List Row → Bool
sound_rows [] = true
sound_rows (r ∷ rs) = sound_pieces r.marks r.pieces && sound_rows rs

all_sound : sound_rows text_rows ≡ true
unfolding text_rows marks member feeds
all_sound = refl

-- the text of a record is free of line feeds, as far as it is written as it stands or in digits
record Clean (h : Head) : Type 0 where
  whole : member h.mark (marks "Op Ki Kw") ≡ true → feeds h.text ≡ 0
  symbol : member h.mark (marks "Id") ≡ true → feeds (drop 4 h.text) ≡ 0
  integer : member h.mark (marks "Bi") ≡ true → feeds (integer_token h.text) ≡ 0

module _ (at : ℕ) (h : Head) (c : Clean h) where
  piece-adds : (w : What) (ms : List ℕ) → member h.mark ms ≡ true → sound ms w ≡ true → Adds Plain at h w
  piece-adds (a_token t) ms m e = eqb-true (feeds t) 0 e
  piece-adds (a_child i) ms m e = tt
  piece-adds the_ops ms m e = tt
  piece-adds the_list ms m e = tt
  piece-adds the_members ms m e = tt
  piece-adds the_template ms m e = tt
  piece-adds the_text ms m e = c.whole (member-wider h.mark ms (marks "Op Ki Kw") e m)
  piece-adds the_symbol ms m e = c.symbol (member-wider h.mark ms (marks "Id") e m)
  piece-adds the_string ms m e = string_none h.text
  piece-adds the_number ms m e = number-none at (bits_of h.text) (whole_of (bits_of h.text))
  piece-adds the_integer ms m e = c.integer (member-wider h.mark ms (marks "Bi") e m)

  pieces_add : (ps : List Piece) (ms : List ℕ) → member h.mark ms ≡ true → sound_pieces ms ps ≡ true → AllAdd Plain at h ps
  pieces_add [] ms m e = tt
  pieces_add (p ∷ ps) ms m e = let z = and-true (sound ms p.what) (sound_pieces ms ps) e in (piece-adds p.what ms m z.0, pieces_add ps ms m z.1)

  row-adds : (rs : List Row) → sound_rows rs ≡ true → AllAdd Plain at h (row_in rs h.mark).pieces
  unfolding row_in
  row-adds [] e = tt
  row-adds (r ∷ rs) e = let z = and-true (sound_pieces r.marks r.pieces) (sound_rows rs) e in go (member h.mark r.marks) refl z.0 (row-adds rs z.1)
    where
      go : (b : Bool) → member h.mark r.marks ≡ b → sound_pieces r.marks r.pieces ≡ true → AllAdd Plain at h (row_in rs h.mark).pieces →
          AllAdd Plain at h (cond b r (row_in rs h.mark)).pieces
      go true m f ih = pieces_add r.pieces r.marks m f
      go false m f ih = ih

plain-marks : Marks Plain
unfolding feeds
plain-marks = record {
  comma = refl;
  semicolon = refl;
  tick = refl;
  tick_own = refl;
  brace = refl;
  close = refl;
  close_own = refl;
  quasi = λ q. escaped-none q;
}

-- ---- records

-- "sign byte (1 negative, else 0) and decimal digits": each Bi of a tree has that text
unfoldable mutual
  Integers : Rec → Type 0
  Integers (rec h ks) = (h.mark ≡ mark "Bi" → is_integer h.text ≡ true) × AllIntegers ks

  AllIntegers : Recs → Type 0
  AllIntegers nil = Unit {0}
  AllIntegers (cons r rs) = Integers r × AllIntegers rs

clean : (h : Head) → (h.mark ≡ mark "Bi" → is_integer h.text ≡ true) → feeds (as_it_stands h) ≡ 0 → Clean h
unfolding as_it_stands marks member
clean h i e = record {
  whole = λ m. rw m at e;
  symbol = λ m. let q = member-one h.mark (mark "Id") m in rw q at e;
  integer = λ m. integer-none h.text (i (member-one h.mark (mark "Bi") m));
}

-- the children that are written on the record's own line
abbrev KidsPlain : Bool → List Child → Type 0
KidsPlain lists [] = Unit {0}
KidsPlain lists (c ∷ cs) = ((lists && not (is "Op" c.itself)) ≡ false → Every Plain c.tokens) × KidsPlain lists cs

kids-all : (cs : List Child) → KidsPlain false cs → EveryChild Plain cs
kids-all [] p = tt
kids-all (c ∷ cs) p = (p.0 refl, kids-all cs p.1)

kids-ops : (cs : List Child) → KidsPlain true cs → Every Plain (each_of op_of cs)
unfolding each_of
kids-ops [] p = tt
kids-ops (c ∷ cs) p = go (is "Op" c.itself) p.0 (kids-ops cs p.1)
  where
    go : (b : Bool) → (not b ≡ false → Every Plain c.tokens) → Every Plain (each_of op_of cs) → Every Plain (cond b c.tokens [] ++ each_of op_of cs)
    go true q ih = join-every Plain c.tokens (each_of op_of cs) (q refl) ih
    go false q ih = ih

module _ (h : Head) (cs : List Child) (under : Bool) (at : ℕ) where
  -- a Mo's and an Nb's: their Ops, and a brace
  lists-plain : lists_items h.mark ≡ true → KidsPlain true cs → Every Plain (row_tokens (row_in text_rows h.mark) under at h cs)
  unfolding text_rows marks member row_in holds what_tokens pieces_tokens feeds
  lists-plain l p = go (eqb h.mark (mark "Mo")) refl l
    where
      go : (b : Bool) → eqb h.mark (mark "Mo") ≡ b → (b || eqb h.mark (mark "Nb")) ≡ true → Every Plain (row_tokens (row_in text_rows h.mark) under at h cs)
      go true m n = rw (eqb-true h.mark (mark "Mo") m) (join-every Plain (each_of op_of cs) [] (kids-ops cs p) tt)
      go false m n = rw (eqb-true h.mark (mark "Nb") n) (join-every Plain (each_of op_of cs) (token (text "{") ∷ []) (kids-ops cs p) (refl, tt))

  row_plain : Clean h → KidsPlain (lists_items h.mark) cs → Every Plain (row_tokens (row_in text_rows h.mark) under at h cs)
  row_plain c p = go (lists_items h.mark) refl p
    where
      go : (b : Bool) → lists_items h.mark ≡ b → KidsPlain b cs → Every Plain (row_tokens (row_in text_rows h.mark) under at h cs)
      go true l q = lists-plain l q
      go false l q =
          pieces-every Plain plain-marks (row_in text_rows h.mark).slots at h (row_in text_rows h.mark).pieces under cs (row-adds at h c text_rows all_sound) (kids-all cs q)

mutual
  unfolding tokens Integers feeds_on_line

  tokens-plain : (r : Rec) (under : Bool) (at : ℕ) → Integers r → feeds_on_line r ≡ 0 → Every Plain (tokens r under at)
  tokens-plain (rec h ks) under at i e =
      row_plain h (children ks (eqb h.mark (mark "Oc")) (body_of at h)) under at (clean h i.0 (omega arith))
      (children-plain ks (eqb h.mark (mark "Oc")) (body_of at h) (lists_items h.mark) i.1 (omega arith))

  children-plain : (ks : Recs) (under : Bool) (at : ℕ) (lists : Bool) → AllIntegers ks → all_feeds_on_line ks lists ≡ 0 → KidsPlain lists (children ks under at)
  children-plain nil under at lists i e = tt
  children-plain (cons r rs) under at lists i e =
      (λ q. tokens-plain r under at i.0 (let z = rw q at e in omega arith), children-plain rs under (at + size_of r) lists i.1 (omega arith))

every-none : (ts : List Token) → Every Plain ts → feeds_in ts ≡ 0
unfolding feeds_in
every-none [] p = refl
every-none (t ∷ ts) p = omega (arith, p.0, every-none ts p.1)

-- the tokens of a record have no line feed, if nothing that stands on its line has
record_plain : (r : Rec) (under : Bool) (at : ℕ) → Integers r → feeds_on_line r ≡ 0 → feeds_in (tokens r under at) ≡ 0
record_plain r under at i e = every-none (tokens r under at) (tokens-plain r under at i e)

-- ---- lines of records

choice_none : (b : Bool) (n : ℕ) → n ≡ 0 → cond b 0 n ≡ 0
choice_none true n e = refl
choice_none false n e = e

-- what has none at all has none on its line
mutual
  unfolding feeds_within feeds_on_line

  line_none : (r : Rec) → feeds_within r ≡ 0 → feeds_on_line r ≡ 0
  line_none (rec h ks) e = omega (arith, lines_none ks (lists_items h.mark) (omega arith))

  lines_none : (ks : Recs) (lists : Bool) → all_feeds_within ks ≡ 0 → all_feeds_on_line ks lists ≡ 0
  lines_none nil lists e = refl
  lines_none (cons r rs) lists e = omega (arith, choice_none (lists && not (is "Op" r)) (feeds_on_line r) (line_none r (omega arith)), lines_none rs lists (omega arith))

lines_join : (xs ys : List Line) → lines_feeds xs ≡ 0 → lines_feeds ys ≡ 0 → lines_feeds (xs ++ ys) ≡ 0
unfolding lines_feeds
lines_join [] ys p q = q
lines_join (x ∷ xs) ys p q = omega (arith, lines_join xs ys (omega arith) q)

lines_choice : (b : Bool) (xs ys : List Line) → lines_feeds xs ≡ 0 → lines_feeds ys ≡ 0 → lines_feeds (cond b xs ys) ≡ 0
lines_choice true xs ys p q = p
lines_choice false xs ys p q = q

item-plain : (r : Rec) (d at : ℕ) (ls : List Line) → Integers r → feeds_within r ≡ 0 → lines_feeds ls ≡ 0 → lines_feeds (item_line r d at ls) ≡ 0
unfolding lines_feeds
item-plain r d at ls i e p =
    lines_choice (is "St" r || is "Op" r) [] (record { spaces = d; tokens = tokens r false at } ∷ ls) refl (omega (arith, record_plain r false at i (line_none r e)))

mutual
  unfolding items_lines Integers feeds_within lines_feeds feeds_in feeds

  items-plain : (ks : Recs) (d at : ℕ) → AllIntegers ks → all_feeds_within ks ≡ 0 → lines_feeds (items_lines ks d at) ≡ 0
  items-plain nil d at i e = refl
  items-plain (cons r rs) d at i e =
      lines_join (item_line r d at (block_lines r d at)) (items_lines rs d (at + size_of r))
      (item-plain r d at (block_lines r d at) i.0 (omega arith) (block-plain r d at i.0 (omega arith))) (items-plain rs d (at + size_of r) i.1 (omega arith))

  block-plain : (r : Rec) (d at : ℕ) → Integers r → feeds_within r ≡ 0 → lines_feeds (block_lines r d at) ≡ 0
  block-plain (rec h ks) d at i e =
      lines_choice (eqb h.mark (mark "Nb")) _ _
      (lines_join (items_lines ks (suc d) (body_of at h)) (record { spaces = d; tokens = token (text "}") ∷ [] } ∷ []) (items-plain ks (suc d) (body_of at h) i.1 (omega arith)) refl)
      (lines_choice (eqb h.mark (mark "Ed")) _ _ (first_plain ks d (body_of at h) i.1 (omega arith))
      (lines_choice (eqb h.mark (mark "Ns") || eqb h.mark (mark "Nd")) _ [] (second_plain ks d (body_of at h) i.1 (omega arith)) refl))

  first_plain : (ks : Recs) (d at : ℕ) → AllIntegers ks → all_feeds_within ks ≡ 0 → lines_feeds (first_block ks d at) ≡ 0
  first_plain nil d at i e = refl
  first_plain (cons r rs) d at i e = block-plain r d at i.0 (omega arith)

  second_plain : (ks : Recs) (d at : ℕ) → AllIntegers ks → all_feeds_within ks ≡ 0 → lines_feeds (second_block ks d at) ≡ 0
  second_plain nil d at i e = refl
  second_plain (cons r rs) d at i e = first_plain rs d (at + size_of r) i.1 (omega arith)

lines-plain : (r : Rec) → Integers r → feeds_within r ≡ 0 → lines_feeds (lines_of r) ≡ 0
unfolding lines_of Integers feeds_within lines_feeds
lines-plain (rec h ks) i e =
    lines_join (first_line (tokens (rec h ks) false 0)) (items_lines ks 0 (body_of 0 h))
    (lines_choice (any_written (tokens (rec h ks) false 0)) (record { spaces = 0; tokens = tokens (rec h ks) false 0 } ∷ []) []
    (omega (arith, record_plain (rec h ks) false 0 i (line_none (rec h ks) e))) refl)
    (items-plain ks 0 (body_of 0 h) i.1 (omega arith))

text-feeds : (r : Rec) → Integers r → feeds_within r ≡ 0 → feeds (text_of r) ≡ length (lines_of r)
unfolding text_of
text-feeds r i e = omega (arith, lines-feeds (lines_of r), lines-plain r i e)

-- ---- what is left out

without-integers : (m : ℕ) (ks : Recs) → AllIntegers ks → AllIntegers (without m ks)
unfolding without Integers
without-integers m nil i = tt
without-integers m (cons r rs) i = go (eqb (mark_of r) m) (without-integers m rs i.1)
  where
    go : (b : Bool) → AllIntegers (without m rs) → AllIntegers (cond b (without m rs) (cons r (without m rs)))
    go true j = j
    go false j = (i.0, j)

set-integers : (n : ℕ) (ks : Recs) → AllIntegers ks → AllIntegers (set_kid n absent ks)
unfolding Integers
set-integers n nil i = tt
set-integers zero (cons r rs) i = ((λ e. absurd (let z : mark "No" ≡ mark "Bi" = e in omega arith), tt), i.1)
set-integers (suc n) (cons r rs) i = (i.0, set-integers n rs i.1)

leave-integers : (l : LeftOut) (ks : Recs) → AllIntegers ks → AllIntegers (leave l ks)
unfolding leave without_members Integers
leave-integers nothing ks i = i
leave-integers (child n) ks i = set-integers n ks i
leave-integers statements ks i = without-integers (mark "St") ks i
leave-integers members nil i = tt
leave-integers members (cons r rs) i = (i.0, without-integers (mark "Dm") rs i.1)

mutual
  unfolding bare Integers

  bare-integers : (r : Rec) → Integers r → Integers (bare r)
  bare-integers (rec h ks) i = (i.0, leave-integers (left_out h.mark) (bares ks) (bares-integers ks i.1))

  bares-integers : (ks : Recs) → AllIntegers ks → AllIntegers (bares ks)
  bares-integers nil i = tt
  bares-integers (cons r rs) i = (bare-integers r i.0, bares-integers rs i.1)

blank-length : (ls : List Line) → length (blank_lines ls) ≡ length ls
blank-length [] = refl
blank-length (l ∷ ls) = ap suc (blank-length ls)

bare-count : (r : Rec) → mark_of r ≡ mark "Mo" → length (lines_of (bare r)) ≡ length (lines_of r)
bare-count r e = sym (blank-length (lines_of (bare r))) ∙ (ap length (lines_same r e) ∙ blank-length (lines_of r))

-- ---- accepted trees

module _ (levels : ℕ) (s : List ℕ) (good : (at : ℕ) (ps : List Part) (e : ℕ) → check_at levels s at ps ≡ fine e → Integers (tree_at levels s at)) where
  all-integers : (n at : ℕ) (ps : List Part) (e : ℕ) → check_all (check_at levels s) s n at ps ≡ fine e → AllIntegers (read_all (tree_at levels s) (end_at levels s) n at)
  unfolding Integers read_all
  all-integers zero at ps e f = tt
  all-integers (suc n) at ps e f =
      let u = first-accepted levels s n at ps e f in (good at ps (end_at levels s at) u.0, all-integers n (end_at levels s at) (after ps (mark_at s at)) e u.1)

integer-text : (m f : ℕ) (t : List ℕ) → has_form (form_of m) f t ≡ true → m ≡ mark "Bi" → is_integer t ≡ true
unfolding grammar known forms place has_form
integer-text m f t h e = rw e at h

integers-at : (levels : ℕ) (s : List ℕ) (at : ℕ) (ps : List Part) (e : ℕ) → check_at levels s at ps ≡ fine e → Integers (tree_at levels s at)
unfolding Integers tree_at head_at
integers-at zero s at ps e f = absurd (let z = accepted-left zero s at ps e f in omega arith)
integers-at (suc levels) s at ps e f =
    let a = accepted levels s at ps e f in (
      integer-text (mark_at s at) (flags_at s at) (text_at s at) a.itself.form,
      all-integers levels s (integers-at levels s) (count_at s at) (body_at s at) (inside ps (mark_at s at)) e a.all,
    )

-- ---- each item

token-unplaced : (t : Token) → feeds_of (unplaced t) ≡ feeds_of t
token-unplaced (token t) = refl
token-unplaced (own t) = refl
token-unplaced (outside at) = refl

tokens-unplaced : (ts : List Token) → feeds_in (blank ts) ≡ feeds_in ts
unfolding feeds_in
tokens-unplaced [] = refl
tokens-unplaced (t ∷ ts) = ap₂ ◌+◌ (token-unplaced t) (tokens-unplaced ts)

-- the line of an item has no line feed but its last byte, if nothing that is written there as it stands has one
abbrev pub OneLine : ItemAt → Type 0
OneLine x = feeds_on_line (bare x.itself) ≡ 0 → feeds (line_bytes (line_of (item x))) ≡ 1

item-one : (x : ItemAt) → Integers x.itself → OneLine x
item-one x i e =
    omega (
      arith,
      line_feeds (line_of (item x)),
      record_plain (bare x.itself) false x.at (bare-integers x.itself i) e,
      sym (tokens-unplaced (tokens (bare x.itself) false x.at)) ∙ (ap feeds_in (bare_anywhere x.itself x.at x.at) ∙ tokens-unplaced (tokens x.itself false x.at)),
    )

each-join : (xs ys : List ItemAt) → EachItem OneLine xs → EachItem OneLine ys → EachItem OneLine (xs ++ ys)
each-join [] ys p q = q
each-join (x ∷ xs) ys p q = (p.0, each-join xs ys p.1 q)

each_choice : (b : Bool) (x : ItemAt) → OneLine x → EachItem OneLine (cond b (x ∷ []) [])
each_choice true x p = (p, tt)
each_choice false x p = tt

mutual
  unfolding items Integers

  each_item : (r : Rec) (listed : Bool) (d at : ℕ) → Integers r → EachItem OneLine (items r listed d at)
  each_item (rec h ks) listed d at i =
      each-join (cond (is_item listed h.mark) (record { itself = rec h ks; depth = d; at = at } ∷ []) []) (all_items ks (lists_items h.mark) (depth_in d h.mark) (body_of at h))
      (each_choice (is_item listed h.mark) (record { itself = rec h ks; depth = d; at = at }) (item-one (record { itself = rec h ks; depth = d; at = at }) i))
      (each-items ks (lists_items h.mark) (depth_in d h.mark) (body_of at h) i.1)

  each-items : (ks : Recs) (listed : Bool) (d at : ℕ) → AllIntegers ks → EachItem OneLine (all_items ks listed d at)
  each-items nil listed d at i = tt
  each-items (cons r rs) listed d at i =
      each-join (items r listed d at) (all_items rs listed d (at + size_of r)) (each_item r listed d at i.0) (each-items rs listed d (at + size_of r) i.1)

-- ---- the law

module _ (tree list : List ℕ) (e : ℕ) (f : check_tree tree list ≡ fine e) where
  abbrev r : Rec
  r = tree_at deepest tree 0

  integers : Integers r
  integers = integers-at deepest tree 0 root _ (accepted-tree tree list e f).0.root_fine

  -- each item of an accepted tree is one line of the text, if nothing that is written there as it stands has a line feed, whatever other lines have
  pub items_are_lines : EachItem OneLine (items_of (tree_at deepest tree 0))
  unfolding items_of
  items_are_lines = each_item r false 0 0 integers

  -- where nothing that is written as it stands has one, the text has as many line feeds as lines
  pub feeds_are : feeds_within (bare (tree_at deepest tree 0)) ≡ 0 → feeds (text_of (tree_at deepest tree 0)) ≡ length (lines_of (tree_at deepest tree 0))
  feeds_are z =
      let mo = root-mark r (formed tree list e f) in
      sym (ap feeds (left_out_lem r mo)) ∙ (text-feeds (bare r) (bare-integers r integers) z ∙ bare-count r mo)

  -- that is one for each item and each block, and one for the Mo's own Ops, if they are written
  pub feeds-count : feeds_within (bare (tree_at deepest tree 0)) ≡ 0 →
      feeds (text_of (tree_at deepest tree 0)) ≡ length (first_line (tokens (tree_at deepest tree 0) false 0)) + length (items_of (tree_at deepest tree 0)) + blocks (tree_at deepest tree 0)
  feeds-count z = feeds_are z ∙ accepted-count tree list e f

-- ---- an example

-- `namespace A { let a; export namespace B.C { f(); let b; } type T = 1; }`, where the type's source is two lines, and a Mo's own Op
abbrev sample : Rec
sample =
    node "Mo" (two
    (node "Ns" (two (op "A") (node "Nb" (three
    (variable 0 "a" absent absent)
    (node "Ed" (one (node "Ns" (two (op "B") (node "Nd" (two (op "C") (node "Nb" (two (node "St" nil) (variable 0 "b" absent absent)))))))))
    (node "Ty" (one (leaf "Op" (text "type T =" ++ (10 ∷ text "1;")))))))))
    (op "// 1"))

-- five items with their depths, of which the type's line has a line feed more; eight lines, the first of them the Mo's own and two the ends of blocks
pub sample-lines :
    (map (λ (x : ItemAt). x.depth) (items_of sample) ≡ 0 ∷ 1 ∷ 1 ∷ 2 ∷ 1 ∷ []) ×
    (map (λ (x : ItemAt). feeds_on_line x.itself) (items_of sample) ≡ 0 ∷ 0 ∷ 0 ∷ 0 ∷ 1 ∷ []) ×
    (map (λ (l : Line). l.spaces) (lines_of sample) ≡ 0 ∷ 0 ∷ 1 ∷ 1 ∷ 2 ∷ 1 ∷ 1 ∷ 0 ∷ []) ×
    (blocks sample ≡ 2) ×
    (feeds (text_of sample) ≡ 9)
unfolding
    head_bytes encode marks member text_rows row_in holds each_of what_tokens pieces_tokens any_written tokens items_lines lines_of tokens_bytes indent lines_bytes text_of
    items items_of blocks feeds as_it_stands feeds_on_line
sample-lines = (refl, refl, refl, refl, refl)
