-- The literal that a record is: its kind and its mark; what was written for it.
use Rattle.std.proofs.Common.{◌≡◌, ℕ, Bool, true, false, cond, eqb, sym, refl, ap, ◌∙◌, eqb-true, Option as Answer}
use mathlib.Core.Option.{Option, none}
use lib.Ieee.{Float}
use Rattle.definition.specs.Tree.{Rec}
use Rattle.definition.specs.Grammar.{mark}
use Rattle.definition.specs.Record.{mark_of, text_of}
use Rattle.definition.specs.Helpers.{Lit, l_str, l_bool, l_null, l_num, l_big_int, l_regex, l_jsx_text, lit_kind}
use Rattle.definition.specs.Typing.{minus_by}
use Rattle.records.specs.declared.tree.Record.{Record}
use Rattle.records.specs.declared.writer.Writer.{Writer}
use Rattle.records.specs.Views.{rec_of}
use Rattle.swc_helpers.specs.declared.lit.Literal.{Literal}
use Rattle.swc_helpers.specs.declared.lit.Literal.TheVariants.{Str, Num, BigInt, Bool as Boolean, Null, Regex, JsxText}
use Rattle.swc_helpers.specs.declared.DeclMutabilityKind.{DeclMutabilityKind}
use Rattle.swc_helpers.specs.Literal.{number_of}
use Rattle.swc_helpers.specs.Lit.{lit_by, lit_of}
use Rattle.swc_helpers.specs.Found.{is_const}
use Rattle.swc_helpers.specs.Maybe.{MakesType}

-- ---- the kind of a literal

-- of one that was read
abbrev pub kind_of : Literal → Lit
kind_of (Str r) = l_str
kind_of (Num v) = l_num
kind_of (BigInt r) = l_big_int
kind_of (Boolean b) = l_bool
kind_of Null = l_null
kind_of Regex = l_regex
kind_of JsxText = l_jsx_text

kind-by : (k : Lit) (r : Record) → kind_of (lit_by k r) ≡ k
unfolding lit_by
kind-by l_str r = refl
kind-by l_bool r = refl
kind-by l_null r = refl
kind-by l_num r = refl
kind-by l_big_int r = refl
kind-by l_regex r = refl
kind-by l_jsx_text r = refl

-- it is what the mark says
pub kind_is : (r : Record) {lit l : Literal} → lit ≡ lit_of r → lit ≡ l → lit_kind (mark_of (rec_of r)) ≡ kind_of l
kind_is r f e = sym (kind-by (lit_kind (mark_of (rec_of r))) r) ∙ ap kind_of (sym f ∙ e)

-- what is written for a literal of a case, where the definition is F, in a position of a kind
pub lit_makes : (F : Lit → Rec → Bool → Option Rec) (r : Record) {a b : Writer} {lit l : Literal} {kind k : DeclMutabilityKind} {t : Option Rec} {x : Answer (Unit {0})}
    → lit ≡ lit_of r → lit ≡ l → kind ≡ k → t ≡ F (kind_of l) (rec_of r) (is_const k) → MakesType a b t x
    → MakesType a b (F (lit_kind (mark_of (rec_of r))) (rec_of r) (is_const kind)) x
lit_makes F r f e d q w = rw (kind_is r f e, d, ← q) w

-- ---- a literal under a minus

-- the mark of a number, and of a big integer
is_number : (a b c d e f : Bool) → cond a l_str (cond b l_bool (cond c l_null (cond d l_num (cond e l_big_int (cond f l_regex l_jsx_text))))) ≡ l_num → d ≡ true
is_number true b c d e f q = absurd cc
is_number false true c d e f q = absurd cc
is_number false false true d e f q = absurd cc
is_number false false false true e f q = refl
is_number false false false false true f q = absurd cc
is_number false false false false false true q = absurd cc
is_number false false false false false false q = absurd cc

is_big : (a b c d e f : Bool) → cond a l_str (cond b l_bool (cond c l_null (cond d l_num (cond e l_big_int (cond f l_regex l_jsx_text))))) ≡ l_big_int → e ≡ true
is_big true b c d e f q = absurd cc
is_big false true c d e f q = absurd cc
is_big false false true d e f q = absurd cc
is_big false false false true e f q = absurd cc
is_big false false false false true f q = refl
is_big false false false false false true q = absurd cc
is_big false false false false false false q = absurd cc

module _ (m : ℕ) where
  number-mark : lit_kind m ≡ l_num → m ≡ mark "Nu"
  unfolding lit_kind
  number-mark q =
      eqb-true m (mark "Nu") (is_number (eqb m (mark "Ss")) (eqb m (mark "Bl")) (eqb m (mark "Nl")) (eqb m (mark "Nu")) (eqb m (mark "Bi")) (eqb m (mark "Re")) q)

  big_mark : lit_kind m ≡ l_big_int → m ≡ mark "Bi"
  unfolding lit_kind
  big_mark q =
      eqb-true m (mark "Bi") (is_big (eqb m (mark "Ss")) (eqb m (mark "Bl")) (eqb m (mark "Nl")) (eqb m (mark "Nu")) (eqb m (mark "Bi")) (eqb m (mark "Re")) q)

other-minus : (lit : Literal) (r : Rec) (c : Bool) → ((v : Float) → lit ≡ Num v → ⊥) → ((x : Record) → lit ≡ BigInt x → ⊥) → none ≡ minus_by (kind_of lit) r c
unfolding minus_by
other-minus (Str x) r c n b = refl
other-minus (Num v) r c n b = absurd (n v refl)
other-minus (BigInt x) r c n b = absurd (b x refl)
other-minus (Boolean t) r c n b = refl
other-minus Null r c n b = refl
other-minus Regex r c n b = refl
other-minus JsxText r c n b = refl

value-by : (k : Lit) (r : Record) (v : Float) → lit_by k r ≡ Num v → v ≡ number_of (text_of (rec_of r))
unfolding lit_by
value-by l_num r v q = cc
value-by l_str r v q = absurd cc
value-by l_bool r v q = absurd cc
value-by l_null r v q = absurd cc
value-by l_big_int r v q = absurd cc
value-by l_regex r v q = absurd cc
value-by l_jsx_text r v q = absurd cc

big-by : (k : Lit) (r x : Record) → lit_by k r ≡ BigInt x → x ≡ r
unfolding lit_by
big-by l_big_int r x q = cc
big-by l_num r x q = absurd cc
big-by l_str r x q = absurd cc
big-by l_bool r x q = absurd cc
big-by l_null r x q = absurd cc
big-by l_regex r x q = absurd cc
big-by l_jsx_text r x q = absurd cc

module _ (r : Record) {lit : Literal} (f : lit ≡ lit_of r) where
  -- a number that was read is that of the text of a Nu
  pub number_marked : {v : Float} → lit ≡ Num v → mark_of (rec_of r) ≡ mark "Nu"
  number_marked e = number-mark (mark_of (rec_of r)) (kind_is r f e)

  pub number_value : {v : Float} → lit ≡ Num v → v ≡ number_of (text_of (rec_of r))
  number_value {v} e = value-by (lit_kind (mark_of (rec_of r))) r v (sym f ∙ e)

  -- a big integer is the record itself, a Bi
  pub big_marked : {x : Record} → lit ≡ BigInt x → mark_of (rec_of r) ≡ mark "Bi"
  big_marked e = big_mark (mark_of (rec_of r)) (kind_is r f e)

  pub big_is : {x : Record} → lit ≡ BigInt x → x ≡ r
  big_is {x} e = big-by (lit_kind (mark_of (rec_of r))) r x (sym f ∙ e)

  -- any other literal has no type under a minus
  pub no_minus : ((v : Float) → lit ≡ Num v → ⊥) → ((x : Record) → lit ≡ BigInt x → ⊥) → (c : Bool) → none ≡ minus_by (lit_kind (mark_of (rec_of r))) (rec_of r) c
  no_minus n b c = rw (kind_is r f refl) (other-minus lit (rec_of r) c n b)
