-- A property of tokens: if those that the pieces of its row add by themselves have it, and those of its children do, every token of a record has it.
use Prim.Native.Nat.{ℕ, zero, suc}
use mathlib.Core.List.{List, [], ◌∷◌, ◌++◌}
use mathlib.Core.Bool.{Bool, true, false, cond, ◌&&◌, ◌||◌}
use lib.ListN.{drop}
use lib.Dec.{eqb}
use Rattle.definition.specs.Tree.{Head}
use Rattle.definition.specs.Record.{text, is, is_no}
use Rattle.definition.specs.Numerals.{bits_of, whole_of}
use Rattle.definition.specs.Text.{
  Token,
  token,
  own,
  escaped,
  string_token,
  integer_token,
  decimal_token,
  any_written,
  last_written,
  What,
  a_token,
  a_child,
  the_ops,
  the_list,
  the_members,
  the_template,
  the_text,
  the_symbol,
  the_string,
  the_number,
  the_integer,
  Piece,
  Child,
  nth,
  holds,
  each_of,
  op_of,
  more,
  comma,
  element_of,
  closed,
  member_of,
  quasis,
  behind_quasis,
  expressions,
  in_braces,
  in_turns,
  template_of,
  number_of,
  what_tokens,
  piece_tokens,
  pieces_tokens,
}

module _ (P : Token → Type 0) where
  abbrev pub Every : List Token → Type 0
  Every [] = Unit {0}
  Every (t ∷ ts) = P t × Every ts

  abbrev EveryEach : List (List Token) → Type 0
  EveryEach [] = Unit {0}
  EveryEach (ts ∷ es) = Every ts × EveryEach es

  abbrev pub EveryChild : List Child → Type 0
  EveryChild [] = Unit {0}
  EveryChild (c ∷ cs) = Every c.tokens × EveryChild cs

  -- the token that a piece adds by itself, of a record at an offset
  abbrev pub Adds : ℕ → Head → What → Type 0
  Adds at h (a_token t) = P (token t)
  Adds at h (a_child i) = Unit {0}
  Adds at h the_ops = Unit {0}
  Adds at h the_list = Unit {0}
  Adds at h the_members = Unit {0}
  Adds at h the_template = Unit {0}
  Adds at h the_text = P (token h.text)
  Adds at h the_symbol = P (token (drop 4 h.text))
  Adds at h the_string = P (token (string_token h.text))
  Adds at h the_number = P (decimal_token at (bits_of h.text) (whole_of (bits_of h.text)))
  Adds at h the_integer = P (token (integer_token h.text))

  abbrev pub AllAdd : ℕ → Head → List Piece → Type 0
  AllAdd at h [] = Unit {0}
  AllAdd at h (p ∷ ps) = Adds at h p.what × AllAdd at h ps

  -- the tokens between elements and behind members, and those of a template
  pub record Marks : Type 0 where
    pub comma : P (token (text ","))
    pub semicolon : P (token (text ";"))
    pub tick : P (token (96 ∷ []))
    pub tick_own : P (own (96 ∷ []))
    pub brace : P (own (text "${"))
    pub close : P (token (text "}"))
    pub close_own : P (own (text "}"))
    pub quasi : (q : List ℕ) → P (own (escaped q))

  pub join-every : (xs ys : List Token) → Every xs → Every ys → Every (xs ++ ys)
  join-every [] ys p q = q
  join-every (x ∷ xs) ys p q = (p.0, join-every xs ys p.1 q)

  choice_every : (b : Bool) (xs ys : List Token) → Every xs → Every ys → Every (cond b xs ys)
  choice_every true xs ys p q = p
  choice_every false xs ys p q = q

  nth-every : (i : ℕ) (cs : List Child) → EveryChild cs → Every (nth i cs).tokens
  nth-every i [] p = tt
  nth-every zero (c ∷ cs) p = p.0
  nth-every (suc i) (c ∷ cs) p = nth-every i cs p.1

  drop-every : (k : ℕ) (cs : List Child) → EveryChild cs → EveryChild (drop k cs)
  drop-every zero cs p = p
  drop-every (suc k) [] p = tt
  drop-every (suc k) (c ∷ cs) p = drop-every k cs p.1

  each-every : (f : Child → List Child → List Token) → ((c : Child) (cs : List Child) → Every c.tokens → Every (f c cs)) →
      (cs : List Child) → EveryChild cs → Every (each_of f cs)
  unfolding each_of
  each-every f g [] p = tt
  each-every f g (c ∷ cs) p = join-every (f c cs) (each_of f cs) (g c cs p.0) (each-every f g cs p.1)

  op-every : (c : Child) (cs : List Child) → Every c.tokens → Every (op_of c cs)
  op-every c cs p = choice_every (is "Op" c.itself) c.tokens [] p tt

  behind-every : (cs : List Child) → EveryChild cs → EveryChild (behind_quasis cs)
  unfolding behind_quasis
  behind-every [] p = tt
  behind-every (c ∷ cs) p = go (is "Qu" c.itself) (behind-every cs p.1)
    where
      go : (b : Bool) → EveryChild (behind_quasis cs) → EveryChild (cond b (behind_quasis cs) (c ∷ cs))
      go true q = q
      go false q = p

  expressions-every : (cs : List Child) → EveryChild cs → EveryEach (expressions cs)
  unfolding expressions
  expressions-every [] p = tt
  expressions-every (c ∷ cs) p = go (is "Op" c.itself) (expressions-every cs p.1)
    where
      go : (b : Bool) → EveryEach (expressions cs) → EveryEach (cond b [] (c.tokens ∷ expressions cs))
      go true q = tt
      go false q = (p.0, q)

  module _ (m : Marks) where
    element-every : (c : Child) (cs : List Child) → Every c.tokens → Every (element_of c cs)
    element-every c cs p =
        choice_every (is "Op" c.itself) [] (c.tokens ++ comma c cs) tt
        (join-every c.tokens (comma c cs) p (choice_every (more cs || is_no c.itself) (token (text ",") ∷ []) [] (m.comma, tt) tt))

    closed-every : (ts : List Token) → Every ts → Every (closed ts)
    unfolding closed
    closed-every ts p = join-every ts _ p (choice_every (any_written ts && eqb (last_written 0 ts) 59) [] (token (text ";") ∷ []) tt (m.semicolon, tt))

    member-every : (c : Child) (cs : List Child) → Every c.tokens → Every (member_of c cs)
    member-every c cs p = choice_every (is "Op" c.itself || is "Dm" c.itself) [] (closed c.tokens) tt (closed-every c.tokens p)

    braces_every : (ts : List Token) → Every ts → Every (in_braces ts)
    unfolding in_braces
    braces_every ts p = (m.brace, join-every ts _ p (go (any_written ts)))
      where
        go : (b : Bool) → Every (cond b (token (text "}")) (own (text "}")) ∷ [])
        go true = (m.close, tt)
        go false = (m.close_own, tt)

    turns-every : (qs : List (List ℕ)) (es : List (List Token)) → EveryEach es → Every (in_turns qs es)
    unfolding in_turns
    turns-every [] [] p = tt
    turns-every [] (e ∷ es) p = join-every (in_braces e) (in_turns [] es) (braces_every e p.0) (turns-every [] es p.1)
    turns-every (q ∷ qs) [] p = (m.quasi q, turns-every qs [] tt)
    turns-every (q ∷ qs) (e ∷ es) p = (m.quasi q, join-every (in_braces e) (in_turns qs es) (braces_every e p.0) (turns-every qs es p.1))

    template-every : (cs : List Child) → EveryChild cs → Every (template_of cs)
    unfolding template_of
    template-every cs p = (
      m.tick,
      join-every (in_turns (quasis cs) (expressions (behind_quasis cs))) (own (96 ∷ []) ∷ [])
          (turns-every (quasis cs) (expressions (behind_quasis cs)) (expressions-every (behind_quasis cs) (behind-every cs p))) (m.tick_own, tt),
    )

    module _ (k at : ℕ) (h : Head) where
      number-every : (cs : List Child) → Adds at h the_number → EveryChild cs → Every (number_of at h.text cs)
      unfolding number_of
      number-every [] a p = (a, tt)
      number-every (c ∷ cs) a p = p.0

      what-every : (w : What) (cs : List Child) → Adds at h w → EveryChild cs → Every (what_tokens w k at h cs)
      unfolding what_tokens
      what-every (a_token t) cs a p = (a, tt)
      what-every (a_child i) cs a p = nth-every i cs p
      what-every the_ops cs a p = each-every op_of op-every (drop k cs) (drop-every k cs p)
      what-every the_list cs a p = each-every element_of element-every (drop k cs) (drop-every k cs p)
      what-every the_members cs a p = each-every member_of member-every (drop k cs) (drop-every k cs p)
      what-every the_template cs a p = template-every cs p
      what-every the_text cs a p = (a, tt)
      what-every the_symbol cs a p = (a, tt)
      what-every the_string cs a p = (a, tt)
      what-every the_number cs a p = number-every cs a p
      what-every the_integer cs a p = (a, tt)

      pub pieces-every : (ps : List Piece) (under : Bool) (cs : List Child) → AllAdd at h ps → EveryChild cs → Every (pieces_tokens ps under k at h cs)
      unfolding pieces_tokens
      pieces-every [] under cs a p = tt
      pieces-every (q ∷ ps) under cs a p =
          join-every (piece_tokens q under k at h cs) (pieces_tokens ps under k at h cs)
          (choice_every (holds q.when under h cs) (what_tokens q.what k at h cs) [] (what-every q.what cs a.0 p) tt) (pieces-every ps under cs a.1 p)
