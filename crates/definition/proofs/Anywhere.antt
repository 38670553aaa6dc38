-- A record that is accepted at some slots is accepted at `anywhere`, where records of every mark may stand: so that it is accepted is a fact of which
-- there is one proof at most, and a struct can hold it.
use mathlib.Core.Path.{◌≡◌, refl, sym, ap}
use mathlib.Core.List.{List, [], ◌∷◌}
use mathlib.Core.Bool.{Bool, true, false, cond, ◌||◌}
use Prim.Native.Nat.{ℕ, zero, suc, ◌+◌, ◌-◌, ◌<◌}
use native.Mathlib.Omega.{arith}
use lib.Dec.{eqb, leb, ltb}
use lib.ListN.{length}
use borrow.Author.Tests.{eqb-true, eq-eqb}
use Rattle.definition.specs.Tree.{head_size, mark_at, flags_at, start_at, last_at, length_at, count_at, text_at, body_at}
use Rattle.definition.specs.Grammar.{mark, Part, marks, member, known, place, slots, grammar, allowed, after, is_property, undestructured, pattern, least}
use Rattle.definition.specs.Check.{has_form, form_of, slots_of, inside, Opening, Opening.opened, Opening.stopped, open_body, open_at, Checked, Checked.fine, Checked.refused, check_all, check_at}
use Rattle.definition.specs.Children.{AcceptedAt, AllAccepted, anywhere, is_fine, IsAcceptedAt, AreAcceptedAt}
use Rattle.definition.proofs.Tests.{never}
use Rattle.definition.proofs.Accepted.{passed, met, never-opened, never-fine, onward-fine, within-fine, accepted, record_open}
use Rattle.definition.proofs.Kids.{member-wider}

-- ---- marks that are known

or-first : (t u : Bool) → t ≡ true → (t || u) ≡ true
or-first true u e = refl
or-first false u e = absurd (never e)

or-second : (t u : Bool) → u ≡ true → (t || u) ≡ true
or-second true u e = refl
or-second false u e = e

place-member : (m : ℕ) (xs : List ℕ) → place xs m < length xs → member m xs ≡ true
unfolding place member
place-member m [] h = absurd (omega arith)
place-member m (x ∷ xs) h = go (eqb x m) refl (place-member m xs) h
  where
    go : (t : Bool) → eqb x m ≡ t → (place xs m < length xs → member m xs ≡ true) → cond t 0 (suc (place xs m)) < length (x ∷ xs) → (eqb m x || member m xs) ≡ true
    go true e f h = or-first (eqb m x) (member m xs) (eq-eqb m x (sym (eqb-true x m e)))
    go false e f h = or-second (eqb m x) (member m xs) (f (omega arith))

anywhere-allowed : (m : ℕ) → place known m < length known → allowed anywhere m ≡ true
unfolding anywhere allowed marks known grammar
anywhere-allowed m h = or-first (member m known) false (place-member m known h)

anywhere-after : (m : ℕ) → place known m < length known → after anywhere m ≡ anywhere
unfolding anywhere after marks known grammar
anywhere-after m h = rw (place-member m known h) refl

-- ---- a record by itself, at other slots where its mark may stand

module _ (s : List ℕ) (at : ℕ) (ps qs : List Part) (b n : ℕ) (rs : List Part) where
  body-reopened : (m : ℕ) → open_body s at ps m ≡ opened b n rs → open_body s at qs m ≡ opened b n (inside qs m)
  unfolding open_body
  body-reopened m e =
      let h2 : Opening = opened (body_at s at) (count_at s at) (inside ps m) in
      let h1 : Opening = cond (ltb (count_at s at) (least (slots_of m))) (stopped 5) h2 in
      let t1 = has_form (form_of m) (flags_at s at) (text_at s at) in
      let e1 = passed (opened b n rs) (ltb (length s - (at + head_size)) (length_at s at)) (stopped 3) (cond t1 h1 (stopped 5)) (never-opened 3 b n rs) e in
      let e2 = met (opened b n rs) t1 h1 (stopped 5) (never-opened 5 b n rs) e1.1 in
      let e3 = passed (opened b n rs) (ltb (count_at s at) (least (slots_of m))) (stopped 5) h2 (never-opened 5 b n rs) e2.1 in
      let z0 : body_at s at ≡ b = cc e3.1 in
      let z1 : count_at s at ≡ n = cc e3.1 in
      rw (e1.0, e2.0, e3.0, z0, z1) refl

  reopened : allowed qs (mark_at s at) ≡ true → open_at s at ps ≡ opened b n rs → open_at s at qs ≡ opened b n (inside qs (mark_at s at))
  unfolding open_at
  reopened a e =
      let h4 : Opening = open_body s at ps (mark_at s at) in
      let h3 : Opening = cond (ltb (last_at s at) (start_at s at)) (stopped 6) h4 in
      let h2 : Opening = cond (allowed ps (mark_at s at)) h3 (stopped 5) in
      let e1 = passed (opened b n rs) (ltb (length s - at) head_size) (stopped 3) (cond (leb (length known) (place known (mark_at s at))) (stopped 4) h2) (never-opened 3 b n rs) e in
      let e2 = passed (opened b n rs) (leb (length known) (place known (mark_at s at))) (stopped 4) h2 (never-opened 4 b n rs) e1.1 in
      let e3 = met (opened b n rs) (allowed ps (mark_at s at)) h3 (stopped 5) (never-opened 5 b n rs) e2.1 in
      let e4 = passed (opened b n rs) (ltb (last_at s at) (start_at s at)) (stopped 6) h4 (never-opened 6 b n rs) e3.1 in
      rw (e1.0, e2.0, a, e4.0) (body-reopened (mark_at s at) e4.1)

-- ---- a record with what it holds

-- with what it holds, where its children are accepted at the slots that it then has
again : (levels : ℕ) (s : List ℕ) (at : ℕ) (ps qs : List Part) (e : ℕ) → check_at (suc levels) s at ps ≡ fine e → allowed qs (mark_at s at) ≡ true →
    (check_all (check_at levels s) s (count_at s at) (body_at s at) (inside ps (mark_at s at)) ≡ fine e → check_all (check_at levels s) s (count_at s at) (body_at s at) (inside qs (mark_at s at)) ≡ fine e) →
    check_at (suc levels) s at qs ≡ fine e
unfolding check_at
again levels s at ps qs e f a g =
    let u = within-fine (open_at s at ps) at (λ b n qs. check_all (check_at levels s) s n b qs) e f in
    let o = record_open s at ps u.0 u.1 u.2 u.3 in
    let z0 : body_at s at ≡ u.0 = cc o.1 in
    let z1 : count_at s at ≡ u.1 = cc o.1 in
    rw (reopened s at ps qs u.0 u.1 u.2 a u.3, sym z0, sym z1) (g (accepted levels s at ps e f).all)

-- no Pp's slot on either side: the children's slots are the same
inside-same : (ps qs : List Part) (m : ℕ) → is_property ps ≡ false → is_property qs ≡ false → inside ps m ≡ inside qs m
inside-same ps qs m e f = rw (e, f) refl

-- the children of an Ag in a Pp stand at the slots of every Ag too: only the first slot differs, and a mark that may stand there may stand here
undestructured-wider : (m : ℕ) → allowed undestructured m ≡ true → allowed (slots_of (mark "Ag")) m ≡ true
unfolding allowed grammar known slots place marks member
undestructured-wider m e = member-wider m (marks "Bd Rs Ag Pe Pi") (marks pattern) refl e

undestructured-after : (m : ℕ) → after undestructured m ≡ after (slots_of (mark "Ag")) m
unfolding after grammar known slots place
undestructured-after m = refl

undestructured-plain : (is_property undestructured ≡ false) × (is_property (slots_of (mark "Ag")) ≡ false)
unfolding is_property grammar known slots place
undestructured-plain = (refl, refl)

first_ag : (levels : ℕ) (s : List ℕ) (at e : ℕ) → check_at levels s at undestructured ≡ fine e → check_at levels s at (slots_of (mark "Ag")) ≡ fine e
unfolding check_at
first_ag zero s at e f = absurd (never-fine 7 at e f)
first_ag (suc levels) s at e f =
    let u = accepted levels s at undestructured e f in
    again levels s at undestructured (slots_of (mark "Ag")) e f (undestructured-wider (mark_at s at) u.itself.slot)
    (λ g. rw (inside-same (slots_of (mark "Ag")) undestructured (mark_at s at) undestructured-plain.1 undestructured-plain.0) g)

all_ag : (levels : ℕ) (s : List ℕ) (n at e : ℕ) → check_all (check_at levels s) s n at undestructured ≡ fine e → check_all (check_at levels s) s n at (slots_of (mark "Ag")) ≡ fine e
unfolding check_all
all_ag levels s zero at e f = f
all_ag levels s (suc n) at e f =
    let u = onward-fine (check_at levels s at undestructured) (λ x. check_all (check_at levels s) s n x (after undestructured (mark_at s at))) e f in
    rw (first_ag levels s at u.0 u.1, sym (undestructured-after (mark_at s at))) u.2

-- the children of a record at some slots stand at the slots of its mark
to_slots_of : (levels : ℕ) (s : List ℕ) (n b e : ℕ) (ps : List Part) (m : ℕ) → check_all (check_at levels s) s n b (inside ps m) ≡ fine e → check_all (check_at levels s) s n b (slots_of m) ≡ fine e
to_slots_of levels s n b e ps m f = go (is_property ps) refl (eqb m (mark "Ag")) refl f
  where
    go : (p : Bool) → is_property ps ≡ p → (t : Bool) → eqb m (mark "Ag") ≡ t → check_all (check_at levels s) s n b (cond p (cond t undestructured (slots_of m)) (slots_of m)) ≡ fine e → check_all (check_at levels s) s n b (slots_of m) ≡ fine e
    go false p t q f = f
    go true p false q f = f
    go true p true q f = rw (eqb-true m (mark "Ag") q) (all_ag levels s n b e f)

anywhere-inside : (m : ℕ) → inside anywhere m ≡ slots_of m
unfolding anywhere is_property
anywhere-inside m = refl

pub check_anywhere : (levels : ℕ) (s : List ℕ) (at : ℕ) (ps : List Part) (e : ℕ) → check_at levels s at ps ≡ fine e → check_at levels s at anywhere ≡ fine e
unfolding check_at
check_anywhere zero s at ps e f = absurd (never-fine 7 at e f)
check_anywhere (suc levels) s at ps e f =
    let u = accepted levels s at ps e f in
    again levels s at ps anywhere e f (anywhere-allowed (mark_at s at) u.itself.known)
    (λ g. rw (anywhere-inside (mark_at s at)) (to_slots_of levels s (count_at s at) (body_at s at) e ps (mark_at s at) g))

check_known : (levels : ℕ) (s : List ℕ) (at : ℕ) (ps : List Part) (e : ℕ) → check_at levels s at ps ≡ fine e → place known (mark_at s at) < length known
unfolding check_at
check_known zero s at ps e f = absurd (never-fine 7 at e f)
check_known (suc levels) s at ps e f = (accepted levels s at ps e f).itself.known

pub all_anywhere : (levels : ℕ) (s : List ℕ) (n at : ℕ) (ps : List Part) (e : ℕ) → check_all (check_at levels s) s n at ps ≡ fine e → check_all (check_at levels s) s n at anywhere ≡ fine e
unfolding check_all
all_anywhere levels s zero at ps e f = f
all_anywhere levels s (suc n) at ps e f =
    let u = onward-fine (check_at levels s at ps) (λ x. check_all (check_at levels s) s n x (after ps (mark_at s at))) e f in
    rw (check_anywhere levels s at ps u.0 u.1, anywhere-after (mark_at s at) (check_known levels s at ps u.0 u.1)) (all_anywhere levels s n u.0 (after ps (mark_at s at)) e u.2)

-- ---- the facts that a struct holds

fine_is : (r : Checked) → is_fine r ≡ true → (e : ℕ) × (r ≡ fine e)
unfolding is_fine
fine_is (fine e) h = (e, refl)
fine_is (refused n p) h = absurd (never h)

pub is_accepted : {levels : ℕ} {s : List ℕ} {at : ℕ} → AcceptedAt levels s at → IsAcceptedAt levels s at
unfolding is_fine
is_accepted {levels} {s} {at} a = ap is_fine (check_anywhere levels s at a.slots a.past a.checked)

pub accepted_at : {levels : ℕ} {s : List ℕ} {at : ℕ} → IsAcceptedAt levels s at → AcceptedAt levels s at
accepted_at {levels} {s} {at} h = let z = fine_is (check_at levels s at anywhere) h in record { slots = anywhere; past = z.0; checked = z.1 }

pub are_accepted : {levels : ℕ} {s : List ℕ} {n at : ℕ} → AllAccepted levels s n at → AreAcceptedAt levels s n at
unfolding is_fine
are_accepted {levels} {s} {n} {at} a = ap is_fine (all_anywhere levels s n at a.slots a.past a.checked)

pub all_accepted : {levels : ℕ} {s : List ℕ} {n at : ℕ} → AreAcceptedAt levels s n at → AllAccepted levels s n at
all_accepted {levels} {s} {n} {at} h = let z = fine_is (check_all (check_at levels s) s n at anywhere) h in record { slots = anywhere; past = z.0; checked = z.1 }
