-- The children of an accepted object literal: "`Ob` (Kv|Sh|Pq|Sp)*", then Ops; so each of them is a member of its type or is told of.
use mathlib.Core.Path.{◌≡◌, refl, sym, ap, ◌∙◌, subst}
use mathlib.Core.List.{List, [], ◌∷◌}
use mathlib.Core.Bool.{Bool, true, false, ◌||◌}
use mathlib.Core.Option.{some}
use mathlib.Core.Logic.{◌⊎◌, inl, inr, ⊎_elim}
use Prim.Native.Nat.{ℕ, zero, suc, ◌-◌}
use native.Mathlib.Omega.{arith}
use borrow.Author.Tests.{eqb-false}
use Rattle.definition.specs.Tree.{Rec, Recs, rec, nil, cons, mark_at, count_at, body_at, head_at, read_all, end_at, tree_at}
use Rattle.definition.specs.Grammar.{mark, marks, member, Part, Part.many, grammar, known, slots, place, allowed, after}
use Rattle.definition.specs.Check.{inside, Checked.fine, check_all, check_at}
use Rattle.definition.specs.Children.{AcceptedAt}
use Rattle.definition.specs.Record.{kids_of, mark_of, ranged}
use Rattle.definition.specs.Prescan.{PrescannedModuleIds}
use Rattle.definition.specs.Typing.{expr_to_ts_type}
use Rattle.definition.specs.Silence.{OneOf, here, there, Ledger}
use Rattle.definition.proofs.Accepted.{Accepted, accepted, first-accepted}
use Rattle.definition.proofs.Children.{some_left, itself, tree_is}
use Rattle.definition.proofs.Kids.{member-wider, mark-is, inside-plain}
use Rattle.definition.proofs.Silence.{none-missing}

-- the slots of an Ob, and those after its first Op
abbrev properties : List Part
properties = many "Kv Sh Pq Sp" ∷ many "Op" ∷ []

abbrev ops : List Part
ops = many "Op" ∷ []

-- what may stand there, and the slots after it
either-set : (a b : Bool) → (a || (b || false)) ≡ true → (a ≡ true) ⊎ (b ≡ true)
either-set true b e = inl refl
either-set false true e = inr refl
either-set false false e = absurd (let z : ◌≡◌ {A = ℕ} 0 1 = cc in omega arith)

only_set : (b : Bool) → (b || false) ≡ true → b ≡ true
only_set true e = refl
only_set false e = e

allowed-mark : (ps : List Part) (m : ℕ) → (ps ≡ properties) ⊎ (ps ≡ ops) → allowed ps m ≡ true → member m (marks "Kv Sh Pq Sp Op") ≡ true
unfolding allowed marks
allowed-mark ps m (inl q) a =
    ⊎_elim (λ p. member-wider m (marks "Kv Sh Pq Sp") (marks "Kv Sh Pq Sp Op") (unfold member in refl) p)
    (λ p. member-wider m (marks "Op") (marks "Kv Sh Pq Sp Op") (unfold member in refl) p)
    (either-set (member m (marks "Kv Sh Pq Sp")) (member m (marks "Op")) (subst (λ (ps : List Part). allowed ps m ≡ true) q a))
allowed-mark ps m (inr q) a =
    member-wider m (marks "Op") (marks "Kv Sh Pq Sp Op") (unfold member in refl) (only_set (member m (marks "Op")) (subst (λ (ps : List Part). allowed ps m ≡ true) q a))

after-slots : (ps : List Part) (m : ℕ) → (ps ≡ properties) ⊎ (ps ≡ ops) → allowed ps m ≡ true → (after ps m ≡ properties) ⊎ (after ps m ≡ ops)
unfolding allowed after
after-slots ps m (inl q) a = subst (λ (ps : List Part). (after ps m ≡ properties) ⊎ (after ps m ≡ ops)) (sym q) (go (member m (marks "Kv Sh Pq Sp")) refl)
  where
    go : (b : Bool) → member m (marks "Kv Sh Pq Sp") ≡ b → (after properties m ≡ properties) ⊎ (after properties m ≡ ops)
    go true e = inl (rw e)
    go false e =
        let o : member m (marks "Op") ≡ true = only_set _ (rw e at (subst (λ (ps : List Part). allowed ps m ≡ true) q a)) in
        inr (rw (e, o))
after-slots ps m (inr q) a =
    let o : member m (marks "Op") ≡ true = only_set _ (subst (λ (ps : List Part). allowed ps m ≡ true) q a) in
    inr (subst (λ (ps : List Part). after ps m ≡ ops) (sym q) (rw o))

in_cons : {q r : Rec} {rs : Recs} → OneOf q (cons r rs) → (q ≡ r) ⊎ OneOf q rs
in_cons here = inl refl
in_cons (there i) = inr i

in_nil : {q : Rec} {A : Type 0} → OneOf q nil → A
in_nil i = elim i [ ]

-- n records at such slots
all-marks : (levels : ℕ) (s : List ℕ) (n p : ℕ) (ps : List Part) (e : ℕ) → (ps ≡ properties) ⊎ (ps ≡ ops) → check_all (check_at levels s) s n p ps ≡ fine e →
    (q : Rec) → OneOf q (read_all (tree_at levels s) (end_at levels s) n p) → member (mark_of q) (marks "Kv Sh Pq Sp Op") ≡ true
unfolding read_all
all-marks levels s zero p ps e k c q i = in_nil i
all-marks levels s (suc n) p ps e k c q i =
    let f = first-accepted levels s n p ps e c in
    let a : AcceptedAt levels s p = record { slots = ps; past = end_at levels s p; checked = f.0 } in
    let o : allowed ps (mark_at s p) ≡ true = (itself levels s p a).slot in
    ⊎_elim (λ z. subst (λ (m : ℕ). member m (marks "Kv Sh Pq Sp Op") ≡ true) (sym (ap mark_of z ∙ mark-is levels s p)) (allowed-mark ps (mark_at s p) k o))
    (λ j. all-marks levels s n (end_at levels s p) (after ps (mark_at s p)) e (after-slots ps (mark_at s p) k o) f.1 q j)
    (in_cons i)

module _ (levels : ℕ) (s : List ℕ) (at : ℕ) (a : AcceptedAt levels s at) (ob : mark_at s at ≡ mark "Ob") where
  apart : Accepted (levels - 1) s at a.slots a.past
  apart = accepted (levels - 1) s at a.slots a.past (subst (λ (k : ℕ). check_at k s at a.slots ≡ fine a.past) (some_left levels s at a) a.checked)

  slots_are : inside a.slots (mark_at s at) ≡ properties
  unfolding grammar known slots place
  slots_are = ap (inside a.slots) ob ∙ inside-plain a.slots (mark "Ob") (eqb-false (mark "Ob") (mark "Ag") refl)

  pub object_properties : (p : Rec) → OneOf p (kids_of (tree_at levels s at)) → member (mark_of p) (marks "Kv Sh Pq Sp Op") ≡ true
  object_properties p i =
      all-marks (levels - 1) s (count_at s at) (body_at s at) (inside a.slots (mark_at s at)) a.past (inl slots_are) apart.all p
      (subst (λ (r : Rec). OneOf p (kids_of r)) (tree_is levels s at a) i)

  -- so in an accepted tree every property of an object literal is a member of its type or is told of, in order
  pub none_missing_accepted : (ids : PrescannedModuleIds) (ctx : ℕ) (c r : Bool) (n : ℕ) →
      (ms : Recs) × ((expr_to_ts_type ids ctx (tree_at levels s at) c r n).0 ≡ some (rec (ranged "Li" (head_at s at) []) ms))
      × Ledger ids ctx c r n (kids_of (tree_at levels s at)) ms (expr_to_ts_type ids ctx (tree_at levels s at) c r n).1
  unfolding head_at
  none_missing_accepted ids ctx c r n =
      rw (tree_is levels s at a)
      (none-missing ids ctx (head_at s at) (read_all (tree_at (levels - 1) s) (end_at (levels - 1) s) (count_at s at) (body_at s at)) ob
      (λ p i. object_properties p (subst (λ (r : Rec). OneOf p (kids_of r)) (sym (tree_is levels s at a)) i)) c r n)
