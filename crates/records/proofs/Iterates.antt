-- What `all` and `any` over records answer: what a definition by recursion over their trees says.
use mathlib.Core.Path.{◌≡◌, refl, sym, ◌∙◌}
use mathlib.Core.List.{List, [], ◌∷◌}
use mathlib.Core.Bool.{Bool, true, false, ◌&&◌, ◌||◌}
use Prim.Native.Nat.{ℕ, zero, suc, ◌<◌}
use native.Mathlib.Omega.{arith}
use lib.ListN.{length}
use denote.Param.Members.{Mut}
use Rattle.std.specs.Prelude.{Option, MatchOption}
use Rattle.std.specs.Bool.{MatchBool}
use Rattle.std.specs.Fn.{Called}
use Rattle.std.specs.Iterator.{AlwaysYields, YieldsThen}
use Rattle.std.specs.List.{FoldsTo, AllWithin, HoldsAt}
use Rattle.std.proofs.lemmas.Iterator.{YieldsList, cases_from_all, cases_from_any}
use Rattle.definition.specs.Tree.{Rec, Recs, nil, cons}
use Rattle.records.specs.declared.tree.Record.{Record}
use Rattle.records.specs.declared.tree.Records.{Records}
use Rattle.records.specs.Views.{rec_of, recs_of, Step}
use Rattle.records.proofs.Records.{recs_none, recs_step}

-- the trees as a list
list_of : Recs → List Rec
list_of nil = []
list_of (cons r rs) = r ∷ list_of rs

yields_by : (ys : Recs) (k : Records) → recs_of k ≡ ys → AlwaysYields Step rec_of k (list_of ys)
unfolding list_of
yields_by nil k e = λ x j s. absurd (clash (sym (recs_step s.0 s.1 s.2) ∙ e))
  where
    clash : {r : Rec} {rs : Recs} → cons r rs ≡ nil → ⊥
    clash q = cc
yields_by (cons y ys) k e = (
  λ j s. absurd (clash (sym (recs_none k s.0) ∙ e)),
  λ x j s. let q = sym (recs_step s.0 s.1 s.2) ∙ e in (cc q, yields_by ys j (cc q)),
)
  where
    clash : {r : Rec} {rs : Recs} → nil ≡ cons r rs → ⊥
    clash q = cc

yields : (k : Records) → YieldsList Step rec_of k (list_of (recs_of k))
yields k = record { runs = yields_by (recs_of k) k refl }

module _ (P : Rec → Bool) (F : Recs → Bool) where
  all-true : F nil ≡ true → ((r : Rec) (rs : Recs) → F (cons r rs) ≡ (P r && F rs)) → (rs : Recs) → AllWithin (λ r. P r ≡ true) (list_of rs) 0 (length (list_of rs)) → F rs ≡ true
  unfolding list_of
  all-true z s nil a = z
  all-true z s (cons r rs) a = s r rs ∙ rw (a 0 r (omega arith) (omega arith)) (all-true z s rs (λ k d l h. a (suc k) d (omega arith) (omega (arith, h))))

  all-false : ((r : Rec) (rs : Recs) → F (cons r rs) ≡ (P r && F rs)) → (rs : Recs) (k : ℕ) → k < length (list_of rs) → HoldsAt (λ r. P r ≡ false) (list_of rs) k → F rs ≡ false
  unfolding list_of
  all-false s nil k h a = absurd (omega (arith, h))
  all-false s (cons r rs) zero h a = s r rs ∙ rw (a r) refl
  all-false s (cons r rs) (suc k) h a = s r rs ∙ and-false (P r) (all-false s rs k (omega (arith, h)) a)
    where
      and-false : (b : Bool) {c : Bool} → c ≡ false → (b && c) ≡ false
      and-false true e = e
      and-false false e = refl

  any-false : F nil ≡ false → ((r : Rec) (rs : Recs) → F (cons r rs) ≡ (P r || F rs)) → (rs : Recs) → AllWithin (λ r. P r ≡ false) (list_of rs) 0 (length (list_of rs)) → F rs ≡ false
  unfolding list_of
  any-false z s nil a = z
  any-false z s (cons r rs) a = s r rs ∙ rw (a 0 r (omega arith) (omega arith)) (any-false z s rs (λ k d l h. a (suc k) d (omega arith) (omega (arith, h))))

  any-true : ((r : Rec) (rs : Recs) → F (cons r rs) ≡ (P r || F rs)) → (rs : Recs) (k : ℕ) → k < length (list_of rs) → HoldsAt (λ r. P r ≡ true) (list_of rs) k → F rs ≡ true
  unfolding list_of
  any-true s nil k h a = absurd (omega (arith, h))
  any-true s (cons r rs) zero h a = s r rs ∙ rw (a r) refl
  any-true s (cons r rs) (suc k) h a = s r rs ∙ or-true (P r) (any-true s rs k (omega (arith, h)) a)
    where
      or-true : (b : Bool) {c : Bool} → c ≡ true → (b || c) ≡ true
      or-true true e = refl
      or-true false e = e

-- `k.all(f)`, where a call of f on a record says P of its tree and leaves f as it was
pub all_of : (P : Rec → Bool) (C : Recs → Bool) → C nil ≡ true → ((r : Rec) (rs : Recs) → C (cons r rs) ≡ (P r && C rs))
    → {F : Type 0} {g : Mut F (Record × Unit {0}) Bool} {k : Records} {u : Records} {f : F} {b : Bool}
    → (xs : List Record) × (o : Option Record) × (j : F) × YieldsThen Step k xs o u × FoldsTo (λ p x q. Called g p (x, tt) true q) f xs j
    × MatchOption o (b ≡ true) (λ x. (b ≡ false) × ((h : F) × Called g j (x, tt) false h))
    → ((x : Record) (q : F) → Called g f (x, tt) true q → (q ≡ f) × (P (rec_of x) ≡ true))
    → ((x : Record) (q : F) → Called g f (x, tt) false q → P (rec_of x) ≡ false)
    → b ≡ C (recs_of k)
all_of P C z s {k = k} {u = u} {f = f} {b = b} ran on off =
    go b (cases_from_all u f b (λ r. P r ≡ true) (λ r. P r ≡ false) ran (yields k) on off)
  where
    go : (b : Bool) → MatchBool b (AllWithin (λ r. P r ≡ true) (list_of (recs_of k)) 0 (length (list_of (recs_of k)))) ((i : ℕ) × (i < length (list_of (recs_of k))) × HoldsAt (λ r. P r ≡ false) (list_of (recs_of k)) i) → b ≡ C (recs_of k)
    go true a = sym (all-true P C z s (recs_of k) a)
    go false a = sym (all-false P C s (recs_of k) a.0 a.1 a.2)

-- the same of `any`
pub any_of : (P : Rec → Bool) (C : Recs → Bool) → C nil ≡ false → ((r : Rec) (rs : Recs) → C (cons r rs) ≡ (P r || C rs))
    → {F : Type 0} {g : Mut F (Record × Unit {0}) Bool} {k : Records} {u : Records} {f : F} {b : Bool}
    → (xs : List Record) × (o : Option Record) × (j : F) × YieldsThen Step k xs o u × FoldsTo (λ p x q. Called g p (x, tt) false q) f xs j
    × MatchOption o (b ≡ false) (λ x. (b ≡ true) × ((h : F) × Called g j (x, tt) true h))
    → ((x : Record) (q : F) → Called g f (x, tt) true q → P (rec_of x) ≡ true)
    → ((x : Record) (q : F) → Called g f (x, tt) false q → (q ≡ f) × (P (rec_of x) ≡ false))
    → b ≡ C (recs_of k)
any_of P C z s {k = k} {u = u} {f = f} {b = b} ran on off =
    go b (cases_from_any u f b (λ r. P r ≡ true) (λ r. P r ≡ false) ran (yields k) on off)
  where
    go : (b : Bool) → MatchBool b ((i : ℕ) × (i < length (list_of (recs_of k))) × HoldsAt (λ r. P r ≡ true) (list_of (recs_of k)) i) (AllWithin (λ r. P r ≡ false) (list_of (recs_of k)) 0 (length (list_of (recs_of k)))) → b ≡ C (recs_of k)
    go true a = sym (any-true P C s (recs_of k) a.0 a.1 a.2)
    go false a = sym (any-false P C z s (recs_of k) a)
