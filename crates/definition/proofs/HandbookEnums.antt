-- Where the initial values of enum members are those of the handbook.
use mathlib.Core.Path.{◌≡◌, refl, ap₂}
use mathlib.Core.Bool.{Bool, true, false, ◌&&◌, ◌||◌}
use Prim.Native.Nat.{ℕ}
use native.Mathlib.Omega.{arith}
use lib.Dec.{eqb}
use borrow.Author.Tests.{eqb-true}
use Rattle.definition.specs.Tree.{Rec, Recs, rec, nil, cons}
use Rattle.definition.specs.Grammar.{mark, marks, member}
use Rattle.definition.specs.Enums.{init_kind, valid_by, valid_enum_init_expr, valid_first, valid_both, valid_all}
use Rattle.definition.proofs.Tests.{and-true}
use Rattle.definition.specs.Handbook.{
  enum_kind,
  constant_by,
  constant_enum,
  constant_first,
  constant_both,
  entity_name,
  entity_first,
  ordinary_kind,
  ordinary_by,
  ordinary,
  ordinary_first,
  ordinary_both,
}

never : {A : Type 0} → ◌≡◌ {A = Bool} false true → A
never z = absurd (let y : ◌≡◌ {A = ℕ} 0 1 = cc in omega arith)

-- by the mark that a number is, or is not
by-mark : {G : Type 0} (m x : ℕ) → (m ≡ x → G) → (eqb m x ≡ false → G) → G
by-mark {G} m x f g = go (eqb m x) refl
  where
    go : (b : Bool) → eqb m x ≡ b → G
    go true e = f (eqb-true m x e)
    go false e = g e

-- ---- enum members

-- an initial value of ordinary form, with what holds of its children
module _ (m : ℕ) (ks : Recs) (entity first both valid-first valid-both valid-all constant-first constant-both : Bool) where
  value_agrees : (entity ≡ true → valid-first ≡ true) → (first ≡ true → valid-first ≡ constant-first) → (both ≡ true → valid-both ≡ constant-both) →
      ordinary_by (ordinary_kind m) entity first both ≡ true → valid_by (init_kind m) ks valid-first valid-both valid-all ≡ constant_by (enum_kind m) true constant-first constant-both
  unfolding ordinary_kind ordinary_by init_kind valid_by enum_kind constant_by marks member
  value_agrees f g k o =
      by-mark m (mark "Bn") (λ x. rw x (k (rw x at o))) (λ no-bn.
      by-mark m (mark "Mb") (λ x. rw x (f (rw x at o))) (λ no-mb.
      by-mark m (mark "Pr") (λ x. rw x (g (rw x at o))) (λ no-pr.
      by-mark m (mark "Oc") (λ x. never (rw x at o)) (λ no-oc.
      by-mark m (mark "Id") (λ x. rw x) (λ no-id.
      by-mark m (mark "Nu") (λ x. rw x) (λ no-nu.
      by-mark m (mark "Ss") (λ x. rw x) (λ no-ss.
      by-mark m (mark "Te") (λ x. never (rw x at o)) (λ no-te.
      by-mark m (mark "As") (λ x. never (rw x at o)) (λ no-as.
      by-mark m (mark "Ta") (λ x. never (rw x at o)) (λ no-ta.
      by-mark m (mark "Mi") (λ x. never (rw x at o)) (λ no-mi.
      rw (no-bn, no-mb, no-pr, no-oc, no-id, no-nu, no-ss, no-te, no-as, no-ta, no-mi))))))))))))

entity_valid_by : (m : ℕ) (ks : Recs) (entity first both all : Bool) → (entity ≡ true → first ≡ true) → (eqb m (mark "Id") || (eqb m (mark "Mb") && entity)) ≡ true →
    valid_by (init_kind m) ks first both all ≡ true
unfolding init_kind valid_by
entity_valid_by m ks entity first both all f o =
    by-mark m (mark "Id") (λ x. rw x) (λ no-id.
    by-mark m (mark "Mb") (λ x. rw x (f (rw x at o))) (λ no-mb. never (rw (no-id, no-mb) at o)))

mutual
  unfolding entity_name valid_enum_init_expr

  entity_valid : (e : Rec) → entity_name e ≡ true → valid_enum_init_expr e ≡ true
  entity_valid (rec h ks) o = entity_valid_by h.mark ks (entity_first ks) (valid_first ks) (valid_both ks) (valid_all ks) (λ p. entity_valid_first ks p) o

  entity_valid_first : (ks : Recs) → entity_first ks ≡ true → valid_first ks ≡ true
  entity_valid_first nil o = o
  entity_valid_first (cons e es) o = entity_valid e o

-- any reference is to a constant member
abbrev every : Rec → Bool
every r = true

mutual
  unfolding ordinary valid_enum_init_expr constant_enum

  -- where every name is that of a constant member, an initial value of ordinary form stays if it is a constant enum expression, and goes if it is not
  pub enum_agrees : (e : Rec) → ordinary e ≡ true → valid_enum_init_expr e ≡ constant_enum every e
  enum_agrees (rec h ks) o =
      value_agrees h.mark ks (entity_first ks) (ordinary_first ks) (ordinary_both ks) (valid_first ks) (valid_both ks) (valid_all ks) (constant_first every ks)
      (constant_both every ks) (entity_valid_first ks) (λ p. first_agrees ks p) (λ p. both-agree ks p) o

  first_agrees : (ks : Recs) → ordinary_first ks ≡ true → valid_first ks ≡ constant_first every ks
  first_agrees nil o = refl
  first_agrees (cons e es) o = enum_agrees e o

  both-agree : (ks : Recs) → ordinary_both ks ≡ true → valid_both ks ≡ constant_both every ks
  both-agree nil o = refl
  both-agree (cons e es) o = ap₂ ◌&&◌ (enum_agrees e (and-true (ordinary e) (ordinary_first es) o).0) (first_agrees es (and-true (ordinary e) (ordinary_first es) o).1)
