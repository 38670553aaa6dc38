-- Records in a row with what they hold: the loop over them, and a law for each answer of the code.
use mathlib.Core.Path.{◌≡◌, refl, sym, ap, ◌∙◌}
use mathlib.Core.List.{List}
use Prim.Native.Nat.{ℕ, suc, ◌-◌, ◌<◌, ◌≤◌}
use native.Mathlib.Omega.{arith}
use lib.ListN.{length}
use Rattle.std.specs.declared.result.Result.{Result}
use Rattle.std.specs.declared.result.Result.TheVariants.{Ok, Err}
use Rattle.std.specs.Result.{MatchResult, IsErrAnd}
use Rattle.std.proofs.lemmas.Result.{err_from_is_err_and}
use Rattle.definition.specs.Tree.{mark_at, body_at}
use Rattle.definition.specs.Grammar.{Part, after}
use Rattle.definition.specs.Check.{Opening.opened, Opening.stopped, open_at, Checked, Checked.fine, Checked.refused, onward, check_all, check_at}
use Rattle.definition.proofs.Accepted.{record_open, check_lies}

-- a row of one record
alone : (r : Checked) → onward r (λ e. fine e) ≡ r
alone (fine e) = refl
alone (refused k q) = refl

pub check_alone : (levels : ℕ) (s : List ℕ) (at : ℕ) (ps : List Part) → check_all (check_at levels s) s 1 at ps ≡ check_at levels s at ps
unfolding check_all
check_alone levels s at ps = alone (check_at levels s at ps)

-- the children of a record that is in order by itself begin in the bytes
pub body-inside : (s : List ℕ) (at : ℕ) (ps : List Part) (b n : ℕ) (qs : List Part) → opened b n qs ≡ open_at s at ps → b ≤ length s
body-inside s at ps b n qs e =
    let o = record_open s at ps b n qs (sym e) in
    let b≡ : body_at s at ≡ b = cc o.1 in
    omega (arith, o.0.fits)

-- ---- what the tests of a record by itself found, with its place

-- r is o with an error that is made of its error
module _ {T E D : Type 0} (P : E → D → Type 0) where
  pub same_ok : (o : Result T E) {r : Result T D} → MatchResult o (λ x. r ≡ Ok x) (λ e. IsErrAnd r (P e)) → {x : T} → r ≡ Ok x → o ≡ Ok x
  same_ok (Ok y) m q = let z = sym m ∙ q in cc
  same_ok (Err e) m q = absurd (let p = err_from_is_err_and _ m in let z = sym p.1 ∙ q in cc)

  pub same_err : (o : Result T E) {r : Result T D} → MatchResult o (λ x. r ≡ Ok x) (λ e. IsErrAnd r (P e)) → {d : D} → r ≡ Err d → (e : E) × (o ≡ Err e) × P e d
  same_err (Ok y) m q = absurd (let z = sym m ∙ q in cc)
  same_err (Err e) m {d} q = let p = err_from_is_err_and _ m in let z : p.0 ≡ d = (let w = sym p.1 ∙ q in cc) in (e, refl, rw z at p.2)

-- n records are left, the first of them at p, at the slots qs: r is what their check finds
pub record Passed (levels : ℕ) (s : List ℕ) (r : Checked) (n p : ℕ) (qs : List Part) : Type 0 where
  pub inside : p ≤ length s
  pub same : r ≡ check_all (check_at levels s) s n p qs

module _ (levels : ℕ) (s : List ℕ) (r : Checked) (n p : ℕ) (qs : List Part) (d : Passed levels s r n p qs) where
  pub passed-all : n ≤ 0 → fine p ≡ r
  unfolding check_all
  passed-all h = let z : n ≡ 0 = omega arith in sym (d.same ∙ rw z)

  module _ (h : 0 < n) where
    one_more : n ≡ suc (n - 1)
    one_more = omega arith

    first : r ≡ onward (check_at levels s p qs) (λ e. check_all (check_at levels s) s (n - 1) e (after qs (mark_at s p)))
    unfolding check_all
    first = d.same ∙ ap (λ (k : ℕ). check_all (check_at levels s) s k p qs) one_more

    pub no_level : levels ≡ 0 → refused 7 p ≡ r
    unfolding check_at
    no_level e = sym (first ∙ rw e)

    module _ (l : levels ≡ 0 → ⊥) where
      some_left : levels ≡ suc (levels - 1)
      some_left = omega arith

      pub stopped-here : (k : ℕ) → stopped k ≡ open_at s p qs → refused k p ≡ r
      unfolding check_at
      stopped-here k e = sym (first ∙ rw (some_left, ← e))

      -- the first one is in order by itself, and the check of its m children from b on, at the slots ps, finds x
      module _ (b m : ℕ) (ps : List Part) (e : opened b m ps ≡ open_at s p qs) where
        whole : (x : Checked) → x ≡ check_all (check_at (levels - 1) s) s m b ps → check_at levels s p qs ≡ x
        unfolding check_at
        whole x f = ap (λ (k : ℕ). check_at k s p qs) some_left ∙ rw (← e, ← f)

        pub passed-turn : (q : ℕ) → fine q ≡ check_all (check_at (levels - 1) s) s m b ps → Passed levels s r (n - 1) q (after qs (mark_at s p))
        passed-turn q f = record {
          inside = (check_lies levels s p qs q (whole (fine q) f)).inside;
          same = first ∙ rw (whole (fine q) f);
        }

        -- it has no children
        pub passed-leaf : m ≡ 0 → Passed levels s r (n - 1) b (after qs (mark_at s p))
        unfolding check_all
        passed-leaf z = passed-turn b (rw z)

        pub passed-refused : (k q : ℕ) → refused k q ≡ check_all (check_at (levels - 1) s) s m b ps → refused k q ≡ r
        passed-refused k q f = sym (first ∙ rw (whole (refused k q) f))
