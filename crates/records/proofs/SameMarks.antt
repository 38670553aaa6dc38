-- The marks of the code: two are the same where their numbers are, and what a test or an arm of a `match` says of the number.
use mathlib.Core.Path.{◌≡◌, refl, sym, ap, ◌∙◌}
use mathlib.Core.Bool.{Bool, true, false, not}
use Prim.Native.Nat.{ℕ}
use lib.Dec.{eqb}
use denote.Enum.Declared.{tag_of}
use denote.Enum.Bare.{sameb, same_true}
use borrow.Author.Tests.{eq-eqb, ne_eqb, eqb-true, eqb-false, not-true, not-false}
use Rattle.definition.specs.Grammar.{grammar, known, place}
use Rattle.records.specs.declared.marks.Mark.{Mark}
-- printed by tools/grammar-tables: marks
use Rattle.records.specs.declared.marks.Mark.TheVariants.{Mo, Op, No, Im, St, Ed, Xd, Xe, Fd, Cd, Vd, Us, En, Ns, In, Ty, Vr, Em, Nb, Nd, Fu, Pa, Pp, Cl, Co, Me, Cp, Dm, Ix, Ps, Om, Pb, Po, Bd, Ag, Rs, Pe, Pi, Ki, Kc, Ss, Nu, Bi, Bl, Nl, Re, Jt, Id, Ar, Ob, Fx, Cx, Aw, Te, Mi, Ca, Ne, Mb, Bn, Oc, Tc, Nn, Pr, As, Ts, Ta, Oe, Sp, Kv, Sh, Pq, Qu, Tm, Kw, Tl, Rf, Tf, Li, Ay, Tu, Rt, Ro, Ft, Ct, Ot}
-- end of what is printed
use Rattle.records.specs.contracts.marks.Mark.{the_type}
use Rattle.records.specs.Marks.{number_of}

-- a mark's place in the code's enum is its row in the grammar
-- printed by tools/grammar-tables: rows

pub row_is : (m : Mark) → tag_of the_type m ≡ place known (number_of m)
unfolding grammar known place
row_is Mo = refl
row_is Op = refl
row_is No = refl
row_is Im = refl
row_is St = refl
row_is Ed = refl
row_is Xd = refl
row_is Xe = refl
row_is Fd = refl
row_is Cd = refl
row_is Vd = refl
row_is Us = refl
row_is En = refl
row_is Ns = refl
row_is In = refl
row_is Ty = refl
row_is Vr = refl
row_is Em = refl
row_is Nb = refl
row_is Nd = refl
row_is Fu = refl
row_is Pa = refl
row_is Pp = refl
row_is Cl = refl
row_is Co = refl
row_is Me = refl
row_is Cp = refl
row_is Dm = refl
row_is Ix = refl
row_is Ps = refl
row_is Om = refl
row_is Pb = refl
row_is Po = refl
row_is Bd = refl
row_is Ag = refl
row_is Rs = refl
row_is Pe = refl
row_is Pi = refl
row_is Ki = refl
row_is Kc = refl
row_is Ss = refl
row_is Nu = refl
row_is Bi = refl
row_is Bl = refl
row_is Nl = refl
row_is Re = refl
row_is Jt = refl
row_is Id = refl
row_is Ar = refl
row_is Ob = refl
row_is Fx = refl
row_is Cx = refl
row_is Aw = refl
row_is Te = refl
row_is Mi = refl
row_is Ca = refl
row_is Ne = refl
row_is Mb = refl
row_is Bn = refl
row_is Oc = refl
row_is Tc = refl
row_is Nn = refl
row_is Pr = refl
row_is As = refl
row_is Ts = refl
row_is Ta = refl
row_is Oe = refl
row_is Sp = refl
row_is Kv = refl
row_is Sh = refl
row_is Pq = refl
row_is Qu = refl
row_is Tm = refl
row_is Kw = refl
row_is Tl = refl
row_is Rf = refl
row_is Tf = refl
row_is Li = refl
row_is Ay = refl
row_is Tu = refl
row_is Rt = refl
row_is Ro = refl
row_is Ft = refl
row_is Ct = refl
row_is Ot = refl

-- end of what is printed

-- so the number tells the mark
pub same_number : (m n : Mark) → number_of m ≡ number_of n → m ≡ n
same_number m n e = same_true the_type _ m n (eq-eqb _ _ (row_is m ∙ (ap (place known) e ∙ sym (row_is n))))

-- `a == b` of two marks
pub same_mark : (m n : Mark) → sameb the_type m n ≡ eqb (number_of m) (number_of n)
same_mark m n = go (eqb (number_of m) (number_of n)) refl
  where
    go : (b : Bool) → eqb (number_of m) (number_of n) ≡ b → sameb the_type m n ≡ b
    go true e = eq-eqb _ _ (row_is m ∙ (ap (place known) (eqb-true _ _ e) ∙ sym (row_is n)))
    go false e = ne_eqb _ _ (λ t. eqb-false _ _ e (ap number_of (same_true the_type _ m n (eq-eqb _ _ t))))

-- what is known of a mark m that was read where k stands
module _ (m : Mark) {k : ℕ} (r : number_of m ≡ k) where
  -- by `==`
  pub tested : (n : Mark) → sameb the_type m n ≡ eqb k (number_of n)
  tested n = same_mark m n ∙ ap (λ (j : ℕ). eqb j (number_of n)) r

  -- by `!=`
  pub same : {b : Bool} (n : Mark) → b ≡ not (sameb the_type m n) → b ≡ false → eqb k (number_of n) ≡ true
  same n e f = sym (tested n) ∙ not-false _ (sym e ∙ f)

  pub other : {b : Bool} (n : Mark) → b ≡ not (sameb the_type m n) → b ≡ true → eqb k (number_of n) ≡ false
  other n e f = sym (tested n) ∙ not-true _ (sym e ∙ f)

  -- in the arm of n
  pub marked : {n : Mark} → m ≡ n → k ≡ number_of n
  marked e = sym r ∙ ap number_of e

  -- in another arm
  pub not_marked : (n : Mark) → (m ≡ n → ⊥) → eqb k (number_of n) ≡ false
  not_marked n h = ne_eqb _ _ (λ e. h (same_number m n (r ∙ e)))
