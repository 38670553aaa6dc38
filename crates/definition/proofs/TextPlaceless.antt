-- The tokens of a record without the places of numbers: they don't depend on where the record stands, and of a child they ask for its head and tokens
-- only (`tokens_are`).
use Prim.Native.Nat.{ℕ, zero, suc, ◌+◌}
use mathlib.Core.Path.{◌≡◌, refl, ap, ap₂, sym, ◌∙◌}
use mathlib.Core.List.{List, [], ◌∷◌, ◌++◌, map}
use mathlib.Core.Bool.{Bool, true, false, cond, not, ◌&&◌, ◌||◌}
use mathlib.Core.Option.{Option, none, some}
use lib.ListN.{drop}
use lib.Dec.{eqb}
use Rattle.definition.specs.Tree.{Head, Rec, Recs, rec, nil, cons}
use Rattle.definition.specs.Grammar.{mark}
use Rattle.definition.specs.Record.{text, head_of, is, is_no}
use Rattle.definition.specs.Record as Record
use Rattle.definition.specs.Numerals.{bits_of, whole_of}
use Rattle.definition.specs.Text.{
  Token,
  token,
  own,
  outside,
  escaped,
  decimal_token,
  is_written,
  any_written,
  last_of_token,
  last_written,
  When,
  always,
  flagged,
  unflagged,
  getter,
  there,
  dotted,
  quoted,
  unquoted,
  chained,
  linked,
  What,
  a_token,
  a_child,
  the_ops,
  the_list,
  the_members,
  the_template,
  the_text,
  the_symbol,
  the_string,
  the_number,
  the_integer,
  Piece,
  text_rows,
  row_in,
  Child,
  nth,
  is_quoted,
  holds,
  each_of,
  op_of,
  more,
  comma,
  element_of,
  closed,
  member_of,
  quasis,
  behind_quasis,
  expressions,
  in_braces,
  in_turns,
  template_of,
  number_of,
  what_tokens,
  piece_tokens,
  pieces_tokens,
  row_tokens,
  size_of,
  body_of,
  tokens,
  children,
}

-- ---- tokens without places

abbrev pub unplaced : Token → Token
unplaced (token t) = token t
unplaced (own t) = own t
unplaced (outside at) = outside 0

abbrev pub blank : List Token → List Token
blank [] = []
blank (t ∷ ts) = unplaced t ∷ blank ts

pub blank_join : (xs ys : List Token) → blank (xs ++ ys) ≡ blank xs ++ blank ys
blank_join [] ys = refl
blank_join (x ∷ xs) ys = ap (λ (l : List Token). unplaced x ∷ l) (blank_join xs ys)

pub blank-written : (t : Token) → is_written (unplaced t) ≡ is_written t
blank-written (token t) = refl
blank-written (own t) = refl
blank-written (outside at) = refl

pub blank-any : (ts : List Token) → any_written (blank ts) ≡ any_written ts
unfolding any_written
blank-any [] = refl
blank-any (t ∷ ts) = ap₂ ◌||◌ (blank-written t) (blank-any ts)

blank_last_token : (x : ℕ) (t : Token) → last_of_token x (unplaced t) ≡ last_of_token x t
blank_last_token x (token t) = refl
blank_last_token x (own t) = refl
blank_last_token x (outside at) = refl

blank-last : (ts : List Token) (x : ℕ) → last_written x (blank ts) ≡ last_written x ts
unfolding last_written
blank-last [] x = refl
blank-last (t ∷ ts) x = ap (λ (y : ℕ). last_written y (blank ts)) (blank_last_token x t) ∙ blank-last ts (last_of_token x t)

-- what has no number in it is as it was
blank_choice : (b : Bool) (t : List ℕ) → blank (cond b [] (token t ∷ [])) ≡ cond b [] (token t ∷ [])
blank_choice true t = refl
blank_choice false t = refl

blank_choice_other : (b : Bool) (t : List ℕ) → blank (cond b (token t ∷ []) []) ≡ cond b (token t ∷ []) []
blank_choice_other true t = refl
blank_choice_other false t = refl

blank-closed : (ts : List Token) → blank (closed ts) ≡ closed (blank ts)
unfolding closed
blank-closed ts =
    rw (blank-any, blank-last)
    (blank_join ts _ ∙ ap (λ (l : List Token). blank ts ++ l) (blank_choice (any_written ts && eqb (last_written 0 ts) 59) (text ";")))

blank_braces : (ts : List Token) → blank (in_braces ts) ≡ in_braces (blank ts)
unfolding in_braces
blank_braces ts =
    rw blank-any
    (ap (λ (l : List Token). own (text "${") ∷ l) (blank_join ts _ ∙ ap (λ (l : List Token). blank ts ++ l) (brace (any_written ts))))
  where
    brace : (b : Bool) → blank (cond b (token (text "}")) (own (text "}")) ∷ []) ≡ cond b (token (text "}")) (own (text "}")) ∷ []
    brace true = refl
    brace false = refl

blank-turns : (qs : List (List ℕ)) (es : List (List Token)) → blank (in_turns qs es) ≡ in_turns qs (map blank es)
unfolding in_turns
blank-turns [] [] = refl
blank-turns [] (e ∷ es) = blank_join (in_braces e) (in_turns [] es) ∙ ap₂ ◌++◌ (blank_braces e) (blank-turns [] es)
blank-turns (q ∷ qs) [] = ap (λ (l : List Token). own (escaped q) ∷ l) (blank-turns qs [])
blank-turns (q ∷ qs) (e ∷ es) =
    ap (λ (l : List Token). own (escaped q) ∷ l) (blank_join (in_braces e) (in_turns qs es) ∙ ap₂ ◌++◌ (blank_braces e) (blank-turns qs es))

-- ---- what is looked at of a child: its head, and its tokens without places

abbrev pub face : Child → Child
face c = record { itself = rec (head_of c.itself) nil; tokens = blank c.tokens }

abbrev pub faces : List Child → List Child
faces [] = []
faces (c ∷ cs) = face c ∷ faces cs

nth-faces : (i : ℕ) (cs : List Child) → nth i (faces cs) ≡ face (nth i cs)
nth-faces i [] = refl
nth-faces zero (c ∷ cs) = refl
nth-faces (suc i) (c ∷ cs) = nth-faces i cs

drop-faces : (n : ℕ) (cs : List Child) → drop n (faces cs) ≡ faces (drop n cs)
drop-faces zero cs = refl
drop-faces (suc n) [] = refl
drop-faces (suc n) (c ∷ cs) = drop-faces n cs

-- whether a piece is written
holds-faces : (w : When) (under : Bool) (h : Head) (cs : List Child) → holds w under h (faces cs) ≡ holds w under h cs
unfolding holds
holds-faces always under h cs = refl
holds-faces (flagged b) under h cs = refl
holds-faces (unflagged b) under h cs = refl
holds-faces getter under h cs = refl
holds-faces (there i) under h cs = ap (λ (c : Child). not (is_no c.itself)) (nth-faces i cs)
holds-faces dotted under h cs = ap (λ (c : Child). is "Nd" c.itself) (nth-faces 1 cs)
holds-faces quoted under h cs = ap (λ (c : Child). is_quoted (Record.text_of c.itself)) (nth-faces 0 cs)
holds-faces unquoted under h cs = ap (λ (c : Child). not (is_quoted (Record.text_of c.itself))) (nth-faces 0 cs)
holds-faces chained under h cs = refl
holds-faces linked under h cs = ap (λ (c : Child). not under && is "Ki" c.itself) (nth-faces 1 cs)

-- what f gives for each child
each-faces : (f : Child → List Child → List Token) → ((c : Child) (cs : List Child) → blank (f c cs) ≡ f (face c) (faces cs)) →
    (cs : List Child) → blank (each_of f cs) ≡ each_of f (faces cs)
unfolding each_of
each-faces f e [] = refl
each-faces f e (c ∷ cs) = blank_join (f c cs) (each_of f cs) ∙ ap₂ ◌++◌ (e c cs) (each-faces f e cs)

-- a choice between nothing and tokens
either-faces : (b : Bool) (xs ys : List Token) → blank xs ≡ ys → blank (cond b [] xs) ≡ cond b [] ys
either-faces true xs ys e = refl
either-faces false xs ys e = e

op-faces : (c : Child) (cs : List Child) → blank (op_of c cs) ≡ op_of (face c) (faces cs)
op-faces c cs = go (is "Op" c.itself)
  where
    go : (b : Bool) → blank (cond b c.tokens []) ≡ cond b (blank c.tokens) []
    go true = refl
    go false = refl

more-faces : (cs : List Child) → more (faces cs) ≡ more cs
more-faces [] = refl
more-faces (c ∷ cs) = refl

comma-faces : (c : Child) (cs : List Child) → blank (comma c cs) ≡ comma (face c) (faces cs)
comma-faces c cs = rw more-faces (blank_choice_other (more cs || is_no c.itself) (text ","))

element-faces : (c : Child) (cs : List Child) → blank (element_of c cs) ≡ element_of (face c) (faces cs)
element-faces c cs =
    either-faces (is "Op" c.itself) (c.tokens ++ comma c cs) (blank c.tokens ++ comma (face c) (faces cs))
    (blank_join c.tokens (comma c cs) ∙ ap (λ (l : List Token). blank c.tokens ++ l) (comma-faces c cs))

member-faces : (c : Child) (cs : List Child) → blank (member_of c cs) ≡ member_of (face c) (faces cs)
member-faces c cs = either-faces (is "Op" c.itself || is "Dm" c.itself) (closed c.tokens) (closed (blank c.tokens)) (blank-closed c.tokens)

-- templates
quasis-faces : (cs : List Child) → quasis (faces cs) ≡ quasis cs
unfolding quasis
quasis-faces [] = refl
quasis-faces (c ∷ cs) = ap (λ (l : List (List ℕ)). cond (is "Qu" c.itself) (Record.text_of c.itself ∷ l) []) (quasis-faces cs)

behind-faces : (cs : List Child) → behind_quasis (faces cs) ≡ faces (behind_quasis cs)
unfolding behind_quasis
behind-faces [] = refl
behind-faces (c ∷ cs) = go (is "Qu" c.itself) (behind-faces cs)
  where
    go : (b : Bool) → behind_quasis (faces cs) ≡ faces (behind_quasis cs) → cond b (behind_quasis (faces cs)) (face c ∷ faces cs) ≡ faces (cond b (behind_quasis cs) (c ∷ cs))
    go true e = e
    go false e = refl

expressions-faces : (cs : List Child) → expressions (faces cs) ≡ map blank (expressions cs)
unfolding expressions
expressions-faces [] = refl
expressions-faces (c ∷ cs) = go (is "Op" c.itself) (expressions-faces cs)
  where
    go : (b : Bool) → expressions (faces cs) ≡ map blank (expressions cs) → cond b [] (blank c.tokens ∷ expressions (faces cs)) ≡ map blank (cond b [] (c.tokens ∷ expressions cs))
    go true e = refl
    go false e = ap (λ (l : List (List Token)). blank c.tokens ∷ l) e

template-faces : (cs : List Child) → blank (template_of cs) ≡ template_of (faces cs)
unfolding template_of
template-faces cs =
    rw (quasis-faces, behind-faces, expressions-faces)
    (ap (λ (l : List Token). token (96 ∷ []) ∷ l)
    (blank_join (in_turns (quasis cs) (expressions (behind_quasis cs))) (own (96 ∷ []) ∷ [])
    ∙ ap (λ (l : List Token). l ++ (own (96 ∷ []) ∷ [])) (blank-turns (quasis cs) (expressions (behind_quasis cs)))))

-- numbers
decimal-blank : (at b : ℕ) (n : Option ℕ) → unplaced (decimal_token at b n) ≡ decimal_token 0 b n
decimal-blank at b none = refl
decimal-blank at b (some n) = refl

number-faces : (at : ℕ) (t : List ℕ) (cs : List Child) → blank (number_of at t cs) ≡ number_of 0 t (faces cs)
unfolding number_of
number-faces at t [] = ap (λ (x : Token). x ∷ []) (decimal-blank at (bits_of t) (whole_of (bits_of t)))
number-faces at t (c ∷ cs) = refl

-- ---- pieces

module _ (n at : ℕ) (h : Head) (cs : List Child) where
  what-faces : (w : What) → blank (what_tokens w n at h cs) ≡ what_tokens w n 0 h (faces cs)
  unfolding what_tokens
  what-faces (a_token t) = refl
  what-faces (a_child i) = ap (λ (c : Child). c.tokens) (sym (nth-faces i cs))
  what-faces the_ops = rw drop-faces (each-faces op_of op-faces (drop n cs))
  what-faces the_list = rw drop-faces (each-faces element_of element-faces (drop n cs))
  what-faces the_members = rw drop-faces (each-faces member_of member-faces (drop n cs))
  what-faces the_template = template-faces cs
  what-faces the_text = refl
  what-faces the_symbol = refl
  what-faces the_string = refl
  what-faces the_number = number-faces at h.text cs
  what-faces the_integer = refl

  piece-faces : (p : Piece) (under : Bool) → blank (piece_tokens p under n at h cs) ≡ piece_tokens p under n 0 h (faces cs)
  piece-faces p under = rw holds-faces (go (holds p.when under h cs))
    where
      go : (b : Bool) → blank (cond b (what_tokens p.what n at h cs) []) ≡ cond b (what_tokens p.what n 0 h (faces cs)) []
      go true = what-faces p.what
      go false = refl

  pieces-faces : (ps : List Piece) (under : Bool) → blank (pieces_tokens ps under n at h cs) ≡ pieces_tokens ps under n 0 h (faces cs)
  unfolding pieces_tokens
  pieces-faces [] under = refl
  pieces-faces (p ∷ ps) under =
      blank_join (piece_tokens p under n at h cs) (pieces_tokens ps under n at h cs) ∙ ap₂ ◌++◌ (piece-faces p under) (pieces-faces ps under)

-- ---- records

-- what is looked at of records, each as if it stood at the offset 0
abbrev pub look : Bool → Rec → Child
look under r = record { itself = rec (head_of r) nil; tokens = blank (tokens r under 0) }

abbrev pub looks : Bool → Recs → List Child
looks under nil = []
looks under (cons r rs) = look under r ∷ looks under rs

-- whether the children of a record are held by an Oc
abbrev pub holder : Head → Bool
holder h = eqb h.mark (mark "Oc")

-- the tokens of a record by what is looked at of its children
abbrev pub seen : Bool → Head → List Child → List Token
seen under h cs = row_tokens (row_in text_rows h.mark) under 0 h cs

tokens-seen : (h : Head) (ks : Recs) (under : Bool) (at : ℕ) → blank (tokens (rec h ks) under at) ≡ seen under h (faces (children ks (holder h) (body_of at h)))
unfolding tokens
tokens-seen h ks under at =
    pieces-faces (row_in text_rows h.mark).slots at h (children ks (holder h) (body_of at h)) (row_in text_rows h.mark).pieces under

pub child_path : {a b : Child} {xs ys : List Child} → a ≡ b → xs ≡ ys → a ∷ xs ≡ b ∷ ys
child_path p q = ap₂ (λ (x : Child) (l : List Child). x ∷ l) p q

mutual
  unfolding tokens

  pub tokens-place : (r : Rec) (under : Bool) (at : ℕ) → blank (tokens r under at) ≡ blank (tokens r under 0)
  tokens-place (rec h ks) under at =
      tokens-seen h ks under at
      ∙ (ap (seen under h) (children-place ks (holder h) (body_of at h) ∙ sym (children-place ks (holder h) (body_of 0 h)))
      ∙ sym (tokens-seen h ks under 0))

  pub children-place : (ks : Recs) (under : Bool) (at : ℕ) → faces (children ks under at) ≡ looks under ks
  children-place nil under at = refl
  children-place (cons r rs) under at =
      child_path (ap (λ (ts : List Token). record { itself = rec (head_of r) nil; tokens = ts }) (tokens-place r under at)) (children-place rs under (at + size_of r))

pub tokens_are : (h : Head) (ks : Recs) (under : Bool) (at : ℕ) → blank (tokens (rec h ks) under at) ≡ seen under h (looks (holder h) ks)
tokens_are h ks under at = tokens-seen h ks under at ∙ ap (seen under h) (children-place ks (holder h) (body_of at h))
