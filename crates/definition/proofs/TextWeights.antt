-- Request §3: what the tokens of a record can weigh: six bytes for each of its text and of what it holds, and little for each record more. No row writes
-- a child or the text twice (`all_once_lem`).
use Prim.Native.Nat.{ℕ, zero, suc, ◌+◌, ◌*◌, ◌/◌, ◌%◌, ◌≤◌, ◌<◌}
use mathlib.Core.Path.{◌≡◌, refl, ap, sym, ◌∙◌}
use mathlib.Core.List.{List, [], ◌∷◌, ◌++◌}
use mathlib.Core.Bool.{Bool, true, false, cond, not, ◌&&◌, ◌||◌}
use mathlib.Core.Option.{Option, none, some}
use native.Mathlib.Omega.{arith}
use lib.ListN.{length, get_or, drop, length-append, length-drop}
use lib.Dec.{eqb, leb, ltb}
use borrow.Author.Tests.{eqb-true, ltb-false, leb-true}
use Rattle.definition.specs.Tree.{Head, Rec, Recs, rec, nil, cons}
use Rattle.definition.specs.Grammar.{mark, marks, member}
use Rattle.definition.specs.Record.{text, mark_of, is, is_no}
use Rattle.definition.specs.Record as Record
use Rattle.definition.specs.Numerals.{bits_of, is_negative, whole_of}
use Rattle.definition.specs.Names.{decimal_up_to, decimal, digit}
use Rattle.definition.specs.Text.{
  Token,
  token,
  own,
  outside,
  is_escaped,
  hex_digit,
  escaped_byte,
  escaped,
  minus,
  integer_token,
  decimal_token,
  is_written,
  any_written,
  last_written,
  What,
  a_token,
  a_child,
  the_ops,
  the_list,
  the_members,
  the_template,
  the_text,
  the_symbol,
  the_string,
  the_number,
  the_integer,
  Piece,
  word,
  ops,
  Row,
  text_rows,
  row_in,
  Child,
  nth,
  holds,
  each_of,
  op_of,
  more,
  comma,
  element_of,
  closed,
  member_of,
  quasis,
  behind_quasis,
  expressions,
  in_braces,
  in_turns,
  template_of,
  number_of,
  what_tokens,
  piece_tokens,
  pieces_tokens,
  row_tokens,
  size_of,
  body_of,
  tokens,
  children,
  token_bytes,
  tokens_bytes,
}
use Rattle.definition.specs.TextLines.{lists_items}
use Rattle.definition.proofs.Tests.{never, and-true}
use Rattle.definition.proofs.Numerals.{whole_is_lem}

-- ---- the weight of tokens: their bytes, and a space for each that can have one

abbrev pub weighs : Token → ℕ
weighs (token t) = suc (length t)
weighs (own t) = length t
weighs (outside at) = 0

abbrev pub weight : List Token → ℕ
weight [] = 0
weight (t ∷ ts) = weighs t + weight ts

weight-join : (xs ys : List Token) → weight (xs ++ ys) ≡ weight xs + weight ys
weight-join [] ys = omega arith
weight-join (x ∷ xs) ys = omega (arith, weight-join xs ys)

token-short : (begun : Bool) (t : Token) → length (token_bytes begun t) ≤ weighs t
token-short begun (token []) = omega arith
token-short true (token (b ∷ bs)) = omega arith
token-short false (token (b ∷ bs)) = omega arith
token-short begun (own t) = omega arith
token-short begun (outside at) = omega arith

pub tokens-short : (ts : List Token) (begun : Bool) → length (tokens_bytes begun ts) ≤ weight ts
unfolding tokens_bytes
tokens-short [] begun = omega arith
tokens-short (t ∷ ts) begun =
    omega (arith, length-append (token_bytes begun t) (tokens_bytes (begun || is_written t) ts), token-short begun t, tokens-short ts (begun || is_written t))

-- tokens that are written if a test holds
choice_weight : (b : Bool) (ts : List Token) → weight (cond b ts []) ≤ weight ts
choice_weight true ts = omega arith
choice_weight false ts = omega arith

-- ---- texts

byte_short : (b : ℕ) → length (escaped_byte b) ≤ 6
unfolding escaped_byte
byte_short b = go (is_escaped b)
  where
    go : (x : Bool) → length (cond x (92 ∷ 117 ∷ 48 ∷ 48 ∷ hex_digit (b / 16) ∷ hex_digit (b % 16) ∷ []) (b ∷ [])) ≤ 6
    go true = omega arith
    go false = omega arith

escaped-short : (t : List ℕ) → length (escaped t) ≤ 6 * length t
unfolding escaped
escaped-short [] = omega arith
escaped-short (b ∷ bs) = omega (arith, length-append (escaped_byte b) (escaped bs), byte_short b, escaped-short bs)

minus-short : (b : Bool) → length (minus b) ≤ 1
minus-short true = omega arith
minus-short false = omega arith

integer-short : (t : List ℕ) → length (integer_token t) ≤ length t + 2
integer-short t =
    omega (
      arith,
      length-append (minus (eqb (get_or t 0 0) 1)) (drop 1 t ++ text "n"),
      length-append (drop 1 t) (text "n"),
      length-drop 1 t,
      minus-short (eqb (get_or t 0 0) 1),
    )

-- 10 to the k
abbrev power : ℕ → ℕ
power zero = 1
power (suc k) = 10 * power k

decimal-short : (most n k : ℕ) → n < power (suc k) → length (decimal_up_to most n) ≤ suc k
unfolding decimal_up_to
decimal-short zero n k l = omega arith
decimal-short (suc most) n k l =
    omega (arith, length-append (cond (ltb n 10) [] (decimal_up_to most (n / 10))) (digit (n % 10) ∷ []), front (ltb n 10) k refl l (λ j m. decimal-short most (n / 10) j m))
  where
    front : (b : Bool) (i : ℕ) → ltb n 10 ≡ b → n < power (suc i) → ((j : ℕ) → n / 10 < power (suc j) → length (decimal_up_to most (n / 10)) ≤ suc j) →
        length (cond b [] (decimal_up_to most (n / 10))) ≤ i
    front true i e m ih = omega arith
    front false zero e m ih = absurd (omega (arith, ltb-false n 10 e))
    front false (suc i) e m ih = ih i (omega arith)

-- a number below 2 to the 53 has at most 16 digits
number_short : (at b : ℕ) (w : Option ℕ) → whole_of b ≡ w → weighs (decimal_token at b w) ≤ 18
number_short at b none e = omega arith
number_short at b (some n) e =
    omega (
      arith,
      length-append (minus (is_negative b)) (decimal n),
      minus-short (is_negative b),
      decimal-short (suc n) n 15 (let z = (whole_is_lem b n e).0 in omega arith),
    )

-- ---- what a record can weigh on its line

-- by its row: an Nb's word is a brace, and the words of others are at most 27 bytes (`all_once_lem`)
abbrev pub row_cost : ℕ → ℕ
row_cost m = cond (eqb m (mark "Nb")) 2 27

-- a child has four bytes more, for a comma, a semicolon, or the braces of a template; the items that a Mo or an Nb lists have lines of their own
unfoldable mutual
  pub cost : Rec → ℕ
  cost (rec h ks) = row_cost h.mark + 6 * length h.text + costs ks (lists_items h.mark)

  pub costs : Recs → Bool → ℕ
  costs nil lists = 0
  costs (cons r rs) lists = cond (lists && not (is "Op" r)) 0 (4 + cost r) + costs rs lists

abbrev share : Child → ℕ
share c = 4 + cost c.itself

abbrev Fair : List Child → Type 0
Fair [] = Unit {0}
Fair (c ∷ cs) = (weight c.tokens ≤ cost c.itself) × Fair cs

-- the shares of children that are left: of the Ops, and of the others
abbrev rest : Bool → Bool → List Child → ℕ
rest ops others [] = 0
rest ops others (c ∷ cs) = cond (cond (is "Op" c.itself) ops others) (share c) 0 + rest ops others cs

-- and of the first children, which have a test each
abbrev left : List Bool → Bool → Bool → List Child → ℕ
left [] ops others cs = rest ops others cs
left (b ∷ bs) ops others [] = 0
left (b ∷ bs) ops others (c ∷ cs) = cond b (share c) 0 + left bs ops others cs

-- ---- children in slots

abbrev free_at : ℕ → List Bool → Bool
free_at i [] = false
free_at zero (b ∷ bs) = b
free_at (suc i) (b ∷ bs) = free_at i bs

abbrev spent : ℕ → List Bool → List Bool
spent i [] = []
spent zero (b ∷ bs) = false ∷ bs
spent (suc i) (b ∷ bs) = b ∷ spent i bs

spent-length : (i : ℕ) (bs : List Bool) → length (spent i bs) ≡ length bs
spent-length i [] = refl
spent-length zero (b ∷ bs) = refl
spent-length (suc i) (b ∷ bs) = ap suc (spent-length i bs)

slot-weight : (i : ℕ) (bs : List Bool) (o l : Bool) (cs : List Child) → Fair cs → free_at i bs ≡ true →
    weight (nth i cs).tokens + left (spent i bs) o l cs ≤ left bs o l cs
slot-weight i [] o l cs p e = absurd (never e)
slot-weight zero (b ∷ bs) o l [] p e = omega arith
slot-weight (suc i) (b ∷ bs) o l [] p e = omega arith
slot-weight zero (true ∷ bs) o l (c ∷ cs) p e = omega arith
slot-weight zero (false ∷ bs) o l (c ∷ cs) p e = absurd (never e)
slot-weight (suc i) (b ∷ bs) o l (c ∷ cs) p e = omega (arith, slot-weight i bs o l cs p.1 e)

-- ---- children behind the slots

-- what is spent of them is spent of all
behind : (g : List Child → List Token) (bs : List Bool) (o l o' l' : Bool) (cs : List Child) → Fair cs →
    ((ds : List Child) → Fair ds → weight (g ds) + rest o' l' ds ≤ rest o l ds) → weight (g (drop (length bs) cs)) + left bs o' l' cs ≤ left bs o l cs
behind g [] o l o' l' cs p q = q cs p
behind g (b ∷ bs) o l o' l' [] p q = q [] tt
behind g (b ∷ bs) o l o' l' (c ∷ cs) p q = omega (arith, behind g bs o l o' l' cs p.1 q)

rest_more : (o : Bool) (cs : List Child) → rest o false cs ≤ rest o true cs
rest_more o [] = omega arith
rest_more o (c ∷ cs) = omega (arith, go (is "Op" c.itself), rest_more o cs)
  where
    go : (b : Bool) → cond (cond b o false) (share c) 0 ≤ cond (cond b o true) (share c) 0
    go true = omega arith
    go false = omega arith

ops-weight : (l : Bool) (cs : List Child) → Fair cs → weight (each_of op_of cs) + rest false l cs ≤ rest true l cs
unfolding each_of
ops-weight l [] p = omega arith
ops-weight l (c ∷ cs) p = omega (arith, weight-join (op_of c cs) (each_of op_of cs), go (is "Op" c.itself), ops-weight l cs p.1)
  where
    go : (b : Bool) → weight (cond b c.tokens []) + cond (cond b false l) (share c) 0 ≤ cond (cond b true l) (share c) 0
    go true = omega arith
    go false = omega arith

-- a list, and members
each-weight : (f : Child → List Child → List Token) →
    ((c : Child) (cs : List Child) → weight c.tokens ≤ cost c.itself → weight (f c cs) ≤ cond (is "Op" c.itself) 0 (share c)) →
    (o : Bool) (cs : List Child) → Fair cs → weight (each_of f cs) + rest o false cs ≤ rest o true cs
unfolding each_of
each-weight f g o [] p = omega arith
each-weight f g o (c ∷ cs) p = omega (arith, weight-join (f c cs) (each_of f cs), go (is "Op" c.itself) (g c cs p.0), each-weight f g o cs p.1)
  where
    go : (b : Bool) → weight (f c cs) ≤ cond b 0 (share c) → weight (f c cs) + cond (cond b o false) (share c) 0 ≤ cond (cond b o true) (share c) 0
    go true q = omega arith
    go false q = omega arith

element-weight : (c : Child) (cs : List Child) → weight c.tokens ≤ cost c.itself → weight (element_of c cs) ≤ cond (is "Op" c.itself) 0 (share c)
element-weight c cs p = go (is "Op" c.itself)
  where
    go : (b : Bool) → weight (cond b [] (c.tokens ++ comma c cs)) ≤ cond b 0 (share c)
    go true = omega arith
    go false = omega (arith, weight-join c.tokens (comma c cs), choice_weight (more cs || is_no c.itself) (token (text ",") ∷ []))

closed-weight : (ts : List Token) → weight (closed ts) ≤ weight ts + 2
unfolding closed
closed-weight ts = go (any_written ts && eqb (last_written 0 ts) 59)
  where
    go : (b : Bool) → weight (ts ++ cond b [] (token (text ";") ∷ [])) ≤ weight ts + 2
    go true = omega (arith, weight-join ts [])
    go false = omega (arith, weight-join ts (token (text ";") ∷ []))

member-weight : (c : Child) (cs : List Child) → weight c.tokens ≤ cost c.itself → weight (member_of c cs) ≤ cond (is "Op" c.itself) 0 (share c)
member-weight c cs p = go (is "Op" c.itself) (is "Dm" c.itself)
  where
    go : (a b : Bool) → weight (cond (a || b) [] (closed c.tokens)) ≤ cond a 0 (share c)
    go true b = omega arith
    go false true = omega arith
    go false false = omega (arith, closed-weight c.tokens)

-- ---- templates

abbrev quasis_cost : List (List ℕ) → ℕ
quasis_cost [] = 0
quasis_cost (q ∷ qs) = 6 * length q + quasis_cost qs

abbrev braces_cost : List (List Token) → ℕ
braces_cost [] = 0
braces_cost (e ∷ es) = 4 + weight e + braces_cost es

braces_weight : (ts : List Token) → weight (in_braces ts) ≤ 4 + weight ts
unfolding in_braces
braces_weight ts = go (any_written ts)
  where
    go : (b : Bool) → weight (own (text "${") ∷ (ts ++ (cond b (token (text "}")) (own (text "}")) ∷ []))) ≤ 4 + weight ts
    go true = omega (arith, weight-join ts (token (text "}") ∷ []))
    go false = omega (arith, weight-join ts (own (text "}") ∷ []))

turns-weight : (qs : List (List ℕ)) (es : List (List Token)) → weight (in_turns qs es) ≤ quasis_cost qs + braces_cost es
unfolding in_turns
turns-weight [] [] = omega arith
turns-weight [] (e ∷ es) = omega (arith, weight-join (in_braces e) (in_turns [] es), braces_weight e, turns-weight [] es)
turns-weight (q ∷ qs) [] = omega (arith, escaped-short q, turns-weight qs [])
turns-weight (q ∷ qs) (e ∷ es) = omega (arith, escaped-short q, weight-join (in_braces e) (in_turns qs es), braces_weight e, turns-weight qs es)

expressions-weight : (o : Bool) (cs : List Child) → Fair cs → braces_cost (expressions cs) + rest o false cs ≤ rest o true cs
unfolding expressions
expressions-weight o [] p = omega arith
expressions-weight o (c ∷ cs) p = go (is "Op" c.itself) (expressions-weight o cs p.1)
  where
    go : (b : Bool) → braces_cost (expressions cs) + rest o false cs ≤ rest o true cs →
        braces_cost (cond b [] (c.tokens ∷ expressions cs)) + (cond (cond b o false) (share c) 0 + rest o false cs) ≤
        cond (cond b o true) (share c) 0 + rest o true cs
    go true q = omega (arith, rest_more o cs)
    go false q = omega arith

text-cost : (r : Rec) → 6 * length (Record.text_of r) ≤ cost r
unfolding cost
text-cost (rec h ks) = omega arith

quasi-other : (m : ℕ) → eqb m (mark "Qu") ≡ true → eqb m (mark "Op") ≡ false
quasi-other m e = rw (eqb-true m (mark "Qu") e) refl

parts-weight : (o : Bool) (cs : List Child) → Fair cs → quasis_cost (quasis cs) + braces_cost (expressions (behind_quasis cs)) + rest o false cs ≤ rest o true cs
unfolding quasis behind_quasis
parts-weight o [] p = omega (arith, expressions-weight o [] tt)
parts-weight o (c ∷ cs) p = go (is "Qu" c.itself) refl (parts-weight o cs p.1)
  where
    go : (b : Bool) → is "Qu" c.itself ≡ b → quasis_cost (quasis cs) + braces_cost (expressions (behind_quasis cs)) + rest o false cs ≤ rest o true cs →
        quasis_cost (cond b (Record.text_of c.itself ∷ quasis cs) []) + braces_cost (expressions (cond b (behind_quasis cs) (c ∷ cs))) + rest o false (c ∷ cs) ≤ rest o true (c ∷ cs)
    go true e q = rw (quasi-other (mark_of c.itself) e) (omega (arith, text-cost c.itself))
    go false e q = omega (arith, expressions-weight o (c ∷ cs) p)

template-weight : (o : Bool) (cs : List Child) → Fair cs → weight (template_of cs) + rest o false cs ≤ 3 + rest o true cs
unfolding template_of
template-weight o cs p =
    omega (
      arith,
      weight-join (in_turns (quasis cs) (expressions (behind_quasis cs))) (own (96 ∷ []) ∷ []),
      turns-weight (quasis cs) (expressions (behind_quasis cs)),
      parts-weight o cs p,
    )

-- ---- a number, which has its first child's tokens or digits

spent_all : (cs : List Child) → rest false false cs ≡ 0
spent_all [] = refl
spent_all (c ∷ cs) = go (is "Op" c.itself) (spent_all cs)
  where
    go : (b : Bool) → rest false false cs ≡ 0 → cond (cond b false false) (share c) 0 + rest false false cs ≡ 0
    go true e = omega arith
    go false e = omega arith

number-weight : (at : ℕ) (t : List ℕ) (cs : List Child) → Fair cs → weight (number_of at t cs) + rest false false cs ≤ 18 + rest true true cs
unfolding number_of
number-weight at t [] p = omega (arith, number_short at (bits_of t) (whole_of (bits_of t)) refl)
number-weight at t (c ∷ cs) p = omega (arith, spent_all (c ∷ cs), go (is "Op" c.itself))
  where
    go : (b : Bool) → weight c.tokens ≤ cond (cond b true true) (share c) 0
    go true = omega arith
    go false = omega arith

-- ---- pieces

-- what a piece adds by itself, but for the record's text
abbrev fixed : What → ℕ
fixed (a_token t) = suc (length t)
fixed (a_child i) = 0
fixed the_ops = 0
fixed the_list = 0
fixed the_members = 0
fixed the_template = 3
fixed the_text = 1
fixed the_symbol = 1
fixed the_string = 3
fixed the_number = 18
fixed the_integer = 3

abbrev fixed_all : List Piece → ℕ
fixed_all [] = 0
fixed_all (p ∷ ps) = fixed p.what + fixed_all ps

-- whether pieces write no child and no text twice: they are told what is left to write, the slots, the Ops, the others and the text
abbrev is_empty : List Bool → Bool
is_empty [] = true
is_empty (b ∷ bs) = false

abbrev Writes : Type 0
Writes = List Bool → Bool → Bool → Bool → Bool

abbrev once_by : What → Writes → Writes
once_by (a_token x) f bs o l t = f bs o l t
once_by (a_child i) f bs o l t = free_at i bs && f (spent i bs) o l t
once_by the_ops f bs o l t = o && f bs false l t
once_by the_list f bs o l t = l && f bs o false t
once_by the_members f bs o l t = l && f bs o false t
once_by the_template f bs o l t = is_empty bs && (l && f bs o false t)
once_by the_text f bs o l t = t && f bs o l false
once_by the_symbol f bs o l t = t && f bs o l false
once_by the_string f bs o l t = t && f bs o l false
once_by the_number f bs o l t = is_empty bs && (o && (l && f bs false false t))
once_by the_integer f bs o l t = t && f bs o l false

abbrev once : List Piece → Writes
once [] bs o l t = true
once (p ∷ ps) bs o l t = once_by p.what (once ps) bs o l t

abbrev text_left : Bool → Head → ℕ
text_left t h = cond t (6 * length h.text) 0

module _ (at : ℕ) (h : Head) (cs : List Child) (fair : Fair cs) where
  -- a piece, and those that follow, which weigh R and add F by themselves
  what-weight : (w : What) (f : Writes) (R F : ℕ) (n : ℕ) (bs : List Bool) (o l t : Bool) → n ≡ length bs →
      ((bs' : List Bool) (o' l' t' : Bool) → n ≡ length bs' → f bs' o' l' t' ≡ true → R ≤ F + left bs' o' l' cs + text_left t' h) →
      once_by w f bs o l t ≡ true → weight (what_tokens w n at h cs) + R ≤ fixed w + F + left bs o l cs + text_left t h
  unfolding what_tokens
  what-weight (a_token x) f R F n bs o l t s ih e = omega (arith, ih bs o l t s e)
  what-weight (a_child i) f R F n bs o l t s ih e =
      let z = and-true (free_at i bs) (f (spent i bs) o l t) e in
      omega (arith, slot-weight i bs o l cs fair z.0, ih (spent i bs) o l t (s ∙ sym (spent-length i bs)) z.1)
  what-weight the_ops f R F n bs true l t s ih e =
      rw s (omega (arith, behind (each_of op_of) bs true l false l cs fair (ops-weight l), ih bs false l t s e))
  what-weight the_ops f R F n bs false l t s ih e = absurd (never e)
  what-weight the_list f R F n bs o true t s ih e =
      rw s (omega (arith, behind (each_of element_of) bs o true o false cs fair (each-weight element_of element-weight o), ih bs o false t s e))
  what-weight the_list f R F n bs o false t s ih e = absurd (never e)
  what-weight the_members f R F n bs o true t s ih e =
      rw s (omega (arith, behind (each_of member_of) bs o true o false cs fair (each-weight member_of member-weight o), ih bs o false t s e))
  what-weight the_members f R F n bs o false t s ih e = absurd (never e)
  what-weight the_template f R F n [] o true t s ih e = omega (arith, template-weight o cs fair, ih [] o false t s e)
  what-weight the_template f R F n [] o false t s ih e = absurd (never e)
  what-weight the_template f R F n (b ∷ bs) o l t s ih e = absurd (never e)
  what-weight the_text f R F n bs o l true s ih e = omega (arith, ih bs o l false s e)
  what-weight the_text f R F n bs o l false s ih e = absurd (never e)
  what-weight the_symbol f R F n bs o l true s ih e = omega (arith, length-drop 4 h.text, ih bs o l false s e)
  what-weight the_symbol f R F n bs o l false s ih e = absurd (never e)
  what-weight the_string f R F n bs o l true s ih e = omega (arith, length-append (escaped h.text) (34 ∷ []), escaped-short h.text, ih bs o l false s e)
  what-weight the_string f R F n bs o l false s ih e = absurd (never e)
  what-weight the_number f R F n [] true true t s ih e = omega (arith, number-weight at h.text cs fair, ih [] false false t s e)
  what-weight the_number f R F n [] true false t s ih e = absurd (never e)
  what-weight the_number f R F n [] false l t s ih e = absurd (never e)
  what-weight the_number f R F n (b ∷ bs) o l t s ih e = absurd (never e)
  what-weight the_integer f R F n bs o l true s ih e = omega (arith, integer-short h.text, ih bs o l false s e)
  what-weight the_integer f R F n bs o l false s ih e = absurd (never e)

  pieces-weight : (ps : List Piece) (under : Bool) (n : ℕ) (bs : List Bool) (o l t : Bool) → n ≡ length bs → once ps bs o l t ≡ true →
      weight (pieces_tokens ps under n at h cs) ≤ fixed_all ps + left bs o l cs + text_left t h
  unfolding pieces_tokens
  pieces-weight [] under n bs o l t s e = omega arith
  pieces-weight (p ∷ ps) under n bs o l t s e =
      omega (
        arith,
        weight-join (piece_tokens p under n at h cs) (pieces_tokens ps under n at h cs),
        choice_weight (holds p.when under h cs) (what_tokens p.what n at h cs),
        what-weight p.what (once ps) (weight (pieces_tokens ps under n at h cs)) (fixed_all ps) n bs o l t s (λ bs' o' l' t' s' e'. pieces-weight ps under n bs' o' l' t' s' e') e,
      )

-- ---- the table

abbrev frees : ℕ → List Bool
frees zero = []
frees (suc n) = true ∷ frees n

frees-length : (n : ℕ) → n ≡ length (frees n)
frees-length zero = refl
frees-length (suc n) = ap suc (frees-length n)

abbrev row_once : Row → Bool
row_once r = once r.pieces (frees r.slots) true true true && leb (fixed_all r.pieces) 27

abbrev all_once : List Row → Bool
all_once [] = true
all_once (r ∷ rs) = row_once r && all_once rs

-- no row writes a child or the text twice, and its words are at most 27 bytes
all_once_lem : all_once text_rows ≡ true
unfolding text_rows
all_once_lem = refl

row-once : (rs : List Row) (m : ℕ) → all_once rs ≡ true → row_once (row_in rs m) ≡ true
unfolding row_in
row-once [] m e = refl
row-once (r ∷ rs) m e = let z = and-true (row_once r) (all_once rs) e in go (member m r.marks) z.0 (row-once rs m z.1)
  where
    go : (b : Bool) → row_once r ≡ true → row_once (row_in rs m) ≡ true → row_once (cond b r (row_in rs m)) ≡ true
    go true p q = p
    go false p q = q

frees-left : (n : ℕ) (cs : List Child) → left (frees n) true true cs ≤ rest true true cs
frees-left zero cs = omega arith
frees-left (suc n) [] = omega arith
frees-left (suc n) (c ∷ cs) = omega (arith, frees-left n cs, go (is "Op" c.itself))
  where
    go : (b : Bool) → cond (cond b true true) (share c) 0 ≡ share c
    go true = refl
    go false = refl

-- ---- records

rest-costs : (ks : Recs) (lists under : Bool) (at : ℕ) → rest true (not lists) (children ks under at) ≡ costs ks lists
unfolding cost tokens
rest-costs nil lists under at = refl
rest-costs (cons r rs) lists under at = omega (arith, go (is "Op" r) lists, rest-costs rs lists under (at + size_of r))
  where
    go : (b l : Bool) → cond (cond b true (not l)) (4 + cost r) 0 ≡ cond (l && not b) 0 (4 + cost r)
    go true true = refl
    go true false = refl
    go false true = refl
    go false false = refl

pub cost-is : (h : Head) (ks : Recs) → cost (rec h ks) ≡ row_cost h.mark + 6 * length h.text + costs ks (lists_items h.mark)
unfolding cost
cost-is h ks = refl

-- a Mo and an Nb write their Ops, and not what they list
record Lists (m : ℕ) (ps : List Piece) : Type 0 where
  pieces : (row_in text_rows m).pieces ≡ ps
  slots : (row_in text_rows m).slots ≡ 0
  lists : lists_items m ≡ true
  once : once ps [] true false true ≡ true
  short : fixed_all ps ≤ row_cost m

module_lists : (m : ℕ) → m ≡ mark "Mo" → Lists m (ops ∷ [])
unfolding text_rows marks member row_in
module_lists m e = rw e (record { pieces = refl; slots = refl; lists = refl; once = refl; short = leb-true 0 27 refl })

block-lists : (m : ℕ) → m ≡ mark "Nb" → Lists m (ops ∷ word "{" ∷ [])
unfolding text_rows marks member row_in
block-lists m e = rw e (record { pieces = refl; slots = refl; lists = refl; once = refl; short = leb-true 2 2 refl })

module _ (h : Head) (ks : Recs) (inner under : Bool) (at body : ℕ) (fair : Fair (children ks inner body)) where
  abbrev Light : Type 0
  Light = weight (row_tokens (row_in text_rows h.mark) under at h (children ks inner body)) ≤ cost (rec h ks)

  lists-weight : (ps : List Piece) → Lists h.mark ps → Light
  lists-weight ps l =
      let e = l.pieces in
      let n = l.slots in
      rw (e, n) (omega (
        arith,
        pieces-weight at h (children ks inner body) fair ps under 0 [] true false true refl l.once,
        rest-costs ks true inner body,
        cost-is h ks,
        ap (costs ks) l.lists,
      ))

  other-weight : eqb h.mark (mark "Mo") ≡ false → eqb h.mark (mark "Nb") ≡ false → Light
  unfolding cost
  other-weight m n =
      let r : Row = row_in text_rows h.mark in
      let z = and-true (once r.pieces (frees r.slots) true true true) (leb (fixed_all r.pieces) 27) (row-once text_rows h.mark all_once_lem) in
      rw (m, n) (omega (
        arith,
        pieces-weight at h (children ks inner body) fair r.pieces under r.slots (frees r.slots) true true true (frees-length r.slots) z.0,
        leb-true (fixed_all r.pieces) 27 z.1,
        frees-left r.slots (children ks inner body),
        rest-costs ks false inner body,
      ))

  row-weight : Light
  row-weight = go (eqb h.mark (mark "Mo")) (eqb h.mark (mark "Nb")) refl refl
    where
      go : (a b : Bool) → eqb h.mark (mark "Mo") ≡ a → eqb h.mark (mark "Nb") ≡ b → Light
      go true b m n = lists-weight _ (module_lists h.mark (eqb-true h.mark (mark "Mo") m))
      go false true m n = lists-weight _ (block-lists h.mark (eqb-true h.mark (mark "Nb") n))
      go false false m n = other-weight m n

mutual
  unfolding tokens

  pub tokens-weight : (r : Rec) (under : Bool) (at : ℕ) → weight (tokens r under at) ≤ cost r
  tokens-weight (rec h ks) under at =
      row-weight h ks (eqb h.mark (mark "Oc")) under at (body_of at h) (children_fair ks (eqb h.mark (mark "Oc")) (body_of at h))

  children_fair : (ks : Recs) (under : Bool) (at : ℕ) → Fair (children ks under at)
  children_fair nil under at = tt
  children_fair (cons r rs) under at = (tokens-weight r under at, children_fair rs under (at + size_of r))
