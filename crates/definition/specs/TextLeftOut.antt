-- Request §3: "An St, a Dm, a body, and the initial value of a declarator or class property are left out." A tree without them, at any depth.
use Rattle.std.specs.Prelude.{ℕ, List, [], ◌∷◌, Bool, true, false, cond, ◌||◌, eqb}
use Rattle.definition.specs.Tree.{Rec, Recs, rec, nil, cons}
use Rattle.definition.specs.Grammar.{mark}
use Rattle.definition.specs.Record.{mark_of, absent, set_kid}
use Rattle.definition.specs.Text.{Token, token, own, outside, Line}
use Rattle.definition.specs.ChildNames.{fu_body, vr_init, cp_value}

-- what is left out of a record's children: nothing, the one at a place, every St, every Dm behind the first, which is the slot of type parameters
pub data LeftOut : Type 0 where
  nothing : LeftOut
  child : ℕ → LeftOut
  statements members : LeftOut

-- `Co`: a constructor; its parameters follow
abbrev pub co_body : ℕ
co_body = 0

-- by the mark
unfoldable pub left_out : ℕ → LeftOut
left_out m =
    cond (eqb m (mark "Fu")) (child fu_body)
    (cond (eqb m (mark "Co")) (child co_body)
    (cond (eqb m (mark "Vr")) (child vr_init)
    (cond (eqb m (mark "Cp")) (child cp_value)
    (cond (eqb m (mark "Mo") || eqb m (mark "Nb")) statements
    (cond (eqb m (mark "Cl")) members nothing)))))

-- records without those that have a mark
unfoldable pub without : ℕ → Recs → Recs
without m nil = nil
without m (cons r rs) = cond (eqb (mark_of r) m) (without m rs) (cons r (without m rs))

unfoldable pub without_members : Recs → Recs
without_members nil = nil
without_members (cons r rs) = cons r (without (mark "Dm") rs)

-- a `No` stands in the place of a child that is left out
unfoldable pub leave : LeftOut → Recs → Recs
leave nothing ks = ks
leave (child i) ks = set_kid i absent ks
leave statements ks = without (mark "St") ks
leave members ks = without_members ks

unfoldable mutual
  pub bare : Rec → Rec
  bare (rec h ks) = rec h (leave (left_out h.mark) (bares ks))

  pub bares : Recs → Recs
  bares nil = nil
  bares (cons r rs) = cons (bare r) (bares rs)

-- ---- numbers outside the forms

-- whether a token is one, whether one of a list is, and of lines
abbrev pub is_outside : Token → Bool
is_outside (token t) = false
is_outside (own t) = false
is_outside (outside at) = true

unfoldable pub any_outside : List Token → Bool
any_outside [] = false
any_outside (t ∷ ts) = is_outside t || any_outside ts

unfoldable pub lines_outside : List Line → Bool
lines_outside [] = false
lines_outside (l ∷ ls) = any_outside l.tokens || lines_outside ls
