-- What an accepted record is: what holds of it by itself, that it lies in the tree and ends where its counts say, and that each of its children
-- is accepted at its own slots.
use mathlib.Core.Path.{◌≡◌, refl, sym, ap, ◌∙◌}
use mathlib.Core.List.{List}
use mathlib.Core.Bool.{Bool, true, false, cond}
use Prim.Native.Nat.{ℕ, zero, suc, ◌+◌, ◌-◌, ◌<◌, ◌≤◌}
use native.Mathlib.Nat.{not-suc-le-zero, le_of_suc-le-suc}
use native.Mathlib.Omega.{arith}
use lib.Dec.{leb, ltb}
use lib.ListN.{length}
use borrow.Author.Tests.{ltb-false, leb-false}
use Rattle.definition.specs.Tree.{
  head_size,
  mark_at,
  flags_at,
  start_at,
  last_at,
  length_at,
  count_at,
  text_at,
  body_at,
  end_of_all,
  end_at,
}
use Rattle.definition.specs.Grammar.{Part, known, place, after, allowed, least, root}
use Rattle.definition.specs.Check.{
  has_form,
  form_of,
  slots_of,
  inside,
  Opening,
  Opening.opened,
  Opening.stopped,
  open_body,
  open_at,
  Checked,
  Checked.fine,
  Checked.refused,
  onward,
  check_all,
  within,
  check_at,
  longest_tree,
  deepest,
  list_fine,
  whole,
  check_tree,
}

-- ---- a test that was passed

module _ {A : Type 0} (v : A) where
  -- the refusal is not v, so the test was not met
  pub passed : (t : Bool) (x y : A) → (x ≡ v → ⊥) → cond t x y ≡ v → (t ≡ false) × (y ≡ v)
  passed true x y n e = absurd (n e)
  passed false x y n e = (refl, e)

  pub met : (t : Bool) (x y : A) → (y ≡ v → ⊥) → cond t x y ≡ v → (t ≡ true) × (x ≡ v)
  met true x y n e = (refl, e)
  met false x y n e = absurd (n e)

pub never-opened : (k b n : ℕ) (qs : List Part) → stopped k ≡ opened b n qs → ⊥
never-opened k b n qs e = let z : ◌≡◌ {A = ℕ} 0 1 = cc in omega arith

pub never-fine : (k p e : ℕ) → refused k p ≡ fine e → ⊥
never-fine k p e q = let z : ◌≡◌ {A = ℕ} 0 1 = cc in omega arith

-- ---- a record by itself

-- what holds of a record that is in order by itself, at the slots ps
pub record Open (s : List ℕ) (at : ℕ) (ps : List Part) : Type 0 where
  pub room : at + head_size ≤ length s
  pub known : place known (mark_at s at) < length known
  pub slot : allowed ps (mark_at s at) ≡ true
  pub order : start_at s at ≤ last_at s at
  pub fits : body_at s at ≤ length s
  pub form : has_form (form_of (mark_at s at)) (flags_at s at) (text_at s at) ≡ true
  pub enough : least (slots_of (mark_at s at)) ≤ count_at s at

module _ (s : List ℕ) (at : ℕ) (ps : List Part) (b n : ℕ) (qs : List Part) where
  -- the answer of the tests that a record passed
  abbrev Told : ℕ → Type 0
  Told m = opened (body_at s at) (count_at s at) (inside ps m) ≡ opened b n qs

  body_open : (m : ℕ) → open_body s at ps m ≡ opened b n qs →
      (length_at s at ≤ length s - (at + head_size)) × (has_form (form_of m) (flags_at s at) (text_at s at) ≡ true) × (least (slots_of m) ≤ count_at s at) × Told m
  unfolding open_body
  body_open m e =
      let h2 : Opening = opened (body_at s at) (count_at s at) (inside ps m) in
      let h1 : Opening = cond (ltb (count_at s at) (least (slots_of m))) (stopped 5) h2 in
      let t1 = has_form (form_of m) (flags_at s at) (text_at s at) in
      let e1 = passed (opened b n qs) (ltb (length s - (at + head_size)) (length_at s at)) (stopped 3) (cond t1 h1 (stopped 5)) (never-opened 3 b n qs) e in
      let e2 = met (opened b n qs) t1 h1 (stopped 5) (never-opened 5 b n qs) e1.1 in
      let e3 = passed (opened b n qs) (ltb (count_at s at) (least (slots_of m))) (stopped 5) h2 (never-opened 5 b n qs) e2.1 in
      (ltb-false _ _ e1.0, e2.0, ltb-false _ _ e3.0, e3.1)

  pub record_open : open_at s at ps ≡ opened b n qs → Open s at ps × Told (mark_at s at)
  unfolding open_at
  record_open e =
      let h4 : Opening = open_body s at ps (mark_at s at) in
      let h3 : Opening = cond (ltb (last_at s at) (start_at s at)) (stopped 6) h4 in
      let h2 : Opening = cond (allowed ps (mark_at s at)) h3 (stopped 5) in
      let e1 = passed (opened b n qs) (ltb (length s - at) head_size) (stopped 3) (cond (leb (length known) (place known (mark_at s at))) (stopped 4) h2) (never-opened 3 b n qs) e in
      let e2 = passed (opened b n qs) (leb (length known) (place known (mark_at s at))) (stopped 4) h2 (never-opened 4 b n qs) e1.1 in
      let e3 = met (opened b n qs) (allowed ps (mark_at s at)) h3 (stopped 5) (never-opened 5 b n qs) e2.1 in
      let e4 = passed (opened b n qs) (ltb (last_at s at) (start_at s at)) (stopped 6) h4 (never-opened 6 b n qs) e3.1 in
      let v = body_open (mark_at s at) e4.1 in
      let r = ltb-false (length s - at) head_size e1.0 in (
        record {
          room = omega (arith, r);
          known = leb-false _ _ e2.0;
          slot = e3.0;
          order = ltb-false _ _ e4.0;
          fits = omega (arith, r, v.0);
          form = v.1;
          enough = v.2;
        },
        v.3,
      )

-- ---- a record with what it holds

pub onward-fine : (r : Checked) (f : ℕ → Checked) (e : ℕ) → onward r f ≡ fine e → (x : ℕ) × (r ≡ fine x) × (f x ≡ fine e)
onward-fine (fine x) f e p = (x, refl, p)
onward-fine (refused n q) f e p = absurd (never-fine n q e p)

pub within-fine : (h : Opening) (at : ℕ) (f : ℕ → ℕ → List Part → Checked) (e : ℕ) → within h at f ≡ fine e →
    (b : ℕ) × (n : ℕ) × (qs : List Part) × (h ≡ opened b n qs) × (f b n qs ≡ fine e)
within-fine (opened b n qs) at f e p = (b, n, qs, refl, p)
within-fine (stopped k) at f e p = absurd (never-fine k at e p)

-- an accepted record, taken apart: `levels` levels are left for its children
pub record Accepted (levels : ℕ) (s : List ℕ) (at : ℕ) (ps : List Part) (e : ℕ) : Type 0 where
  pub itself : Open s at ps
  pub all : check_all (check_at levels s) s (count_at s at) (body_at s at) (inside ps (mark_at s at)) ≡ fine e

pub accepted : (levels : ℕ) (s : List ℕ) (at : ℕ) (ps : List Part) (e : ℕ) → check_at (suc levels) s at ps ≡ fine e → Accepted levels s at ps e
unfolding check_at
accepted levels s at ps e f =
    let u = within-fine (open_at s at ps) at (λ b n qs. check_all (check_at levels s) s n b qs) e f in
    let o = record_open s at ps u.0 u.1 u.2 u.3 in
    let b≡ : body_at s at ≡ u.0 = cc o.1 in
    let n≡ : count_at s at ≡ u.1 = cc o.1 in
    let q≡ : inside ps (mark_at s at) ≡ u.2 = cc o.1 in
    record { itself = o.0; all = rw (b≡, n≡, q≡) u.4 }

-- fuel is left for every accepted record
pub accepted-left : (levels : ℕ) (s : List ℕ) (at : ℕ) (ps : List Part) (e : ℕ) → check_at levels s at ps ≡ fine e → levels ≡ suc (levels - 1)
unfolding check_at
accepted-left zero s at ps e f = absurd (never-fine 7 at e f)
accepted-left (suc levels) s at ps e f = omega arith

-- ---- where an accepted record lies

pub record Lies (s : List ℕ) (at e : ℕ) : Type 0 where
  pub longer : at + head_size ≤ e
  pub inside : e ≤ length s

all_lie : (check : ℕ → List Part → Checked) (s : List ℕ) → ((p : ℕ) (ps : List Part) (e : ℕ) → check p ps ≡ fine e → Lies s p e) →
    (n p : ℕ) (ps : List Part) (e : ℕ) → p ≤ length s → check_all check s n p ps ≡ fine e → (p ≤ e) × (e ≤ length s)
unfolding check_all
all_lie check s good zero p ps e h f = let z : p ≡ e = cc in (omega arith, omega arith)
all_lie check s good (suc n) p ps e h f =
    let u = onward-fine (check p ps) (λ x. check_all check s n x (after ps (mark_at s p))) e f in
    let g = good p ps u.0 u.1 in
    let r = all_lie check s good n u.0 (after ps (mark_at s p)) e g.inside u.2 in
    (omega (arith, r.0, g.longer), r.1)

pub check_lies : (levels : ℕ) (s : List ℕ) (at : ℕ) (ps : List Part) (e : ℕ) → check_at levels s at ps ≡ fine e → Lies s at e
unfolding check_at
check_lies zero s at ps e f = absurd (never-fine 7 at e f)
check_lies (suc levels) s at ps e f =
    let a = accepted levels s at ps e f in
    let r = all_lie (check_at levels s) s (λ p rs x. check_lies levels s p rs x) (count_at s at) (body_at s at) (inside ps (mark_at s at)) e a.itself.fits a.all in
    record { longer = omega (arith, r.0); inside = r.1 }

-- it ends where its counts say
all_end : (check : ℕ → List Part → Checked) (s : List ℕ) (f : ℕ → ℕ) → ((p : ℕ) (ps : List Part) (e : ℕ) → check p ps ≡ fine e → f p ≡ e) →
    (n p : ℕ) (ps : List Part) (e : ℕ) → check_all check s n p ps ≡ fine e → end_of_all f n p ≡ e
unfolding check_all end_of_all
all_end check s f good zero p ps e h = cc
all_end check s f good (suc n) p ps e h =
    let u = onward-fine (check p ps) (λ x. check_all check s n x (after ps (mark_at s p))) e h in
    rw (good p ps u.0 u.1) (all_end check s f good n u.0 (after ps (mark_at s p)) e u.2)

pub check_ends : (levels : ℕ) (s : List ℕ) (at : ℕ) (ps : List Part) (e : ℕ) → check_at levels s at ps ≡ fine e → end_at levels s at ≡ e
unfolding check_at end_at
check_ends zero s at ps e f = absurd (never-fine 7 at e f)
check_ends (suc levels) s at ps e f =
    let a = accepted levels s at ps e f in
    all_end (check_at levels s) s (end_at levels s) (λ p rs x. check_ends levels s p rs x) (count_at s at) (body_at s at) (inside ps (mark_at s at)) e a.all

-- ---- acceptance falls to the children

-- the slots of the i-th of the children that begin at p, where the first has the slots ps
unfoldable pub slots_at : (ℕ → ℕ) → List ℕ → List Part → ℕ → ℕ → List Part
slots_at end s ps p zero = ps
slots_at end s ps p (suc i) = slots_at end s (after ps (mark_at s p)) (end p) i

-- the i-th child is accepted at its slots, and ends where the next begins
pub child-accepted : (levels : ℕ) (s : List ℕ) (n p : ℕ) (ps : List Part) (e : ℕ) → check_all (check_at levels s) s n p ps ≡ fine e → (i : ℕ) → i < n →
    check_at levels s (end_of_all (end_at levels s) i p) (slots_at (end_at levels s) s ps p i) ≡ fine (end_of_all (end_at levels s) (suc i) p)
unfolding check_all end_of_all slots_at
child-accepted levels s zero p ps e f i h = absurd (not-suc-le-zero h)
child-accepted levels s (suc n) p ps e f zero h =
    let u = onward-fine (check_at levels s p ps) (λ x. check_all (check_at levels s) s n x (after ps (mark_at s p))) e f in
    u.1 ∙ ap fine (sym (check_ends levels s p ps u.0 u.1))
child-accepted levels s (suc n) p ps e f (suc i) h =
    let u = onward-fine (check_at levels s p ps) (λ x. check_all (check_at levels s) s n x (after ps (mark_at s p))) e f in
    let z = check_ends levels s p ps u.0 u.1 in
    child-accepted levels s n (end_at levels s p) (after ps (mark_at s p)) e (rw z u.2) i (le_of_suc-le-suc h)

-- the first child and the others, as a loop meets them
pub first-accepted : (levels : ℕ) (s : List ℕ) (n p : ℕ) (ps : List Part) (e : ℕ) → check_all (check_at levels s) s (suc n) p ps ≡ fine e →
    (check_at levels s p ps ≡ fine (end_at levels s p)) × (check_all (check_at levels s) s n (end_at levels s p) (after ps (mark_at s p)) ≡ fine e)
unfolding check_all
first-accepted levels s n p ps e f =
    let u = onward-fine (check_at levels s p ps) (λ x. check_all (check_at levels s) s n x (after ps (mark_at s p))) e f in
    let z = check_ends levels s p ps u.0 u.1 in
    (u.1 ∙ ap fine (sym z), rw z u.2)

-- ---- an accepted tree

whole-fine : (r : Checked) (n e : ℕ) → whole r n ≡ fine e → (r ≡ fine e) × (n ≤ e)
whole-fine (fine x) n e p =
    let u = passed (fine e) (ltb x n) (refused 8 x) (fine x) (never-fine 8 x e) p in
    let z : x ≡ e = cc u.1 in
    (u.1, omega (arith, ltb-false x n u.0, z))
whole-fine (refused k q) n e p = absurd (never-fine k q e p)

-- it is no longer than allowed, its list is in order, its root is accepted, and it ends exactly at its length
pub record AcceptedTree (tree list : List ℕ) : Type 0 where
  pub short : length tree ≤ longest_tree
  pub list_fine_lem : list_fine list ≡ true
  pub root_fine : check_at deepest tree 0 root ≡ fine (length tree)

pub accepted-tree : (tree list : List ℕ) (e : ℕ) → check_tree tree list ≡ fine e → AcceptedTree tree list × (e ≡ length tree)
unfolding check_tree
accepted-tree tree list e f =
    let h1 : Checked = whole (check_at deepest tree 0 root) (length tree) in
    let u = passed (fine e) (ltb longest_tree (length tree)) (refused 1 0) (cond (list_fine list) h1 (refused 2 0)) (never-fine 1 0 e) f in
    let v = met (fine e) (list_fine list) h1 (refused 2 0) (never-fine 2 0 e) u.1 in
    let w = whole-fine (check_at deepest tree 0 root) (length tree) e v.1 in
    let l = check_lies deepest tree 0 root e w.0 in
    let z : e ≡ length tree = omega (arith, l.inside, w.1) in
    (record { short = ltb-false _ _ u.0; list_fine_lem = v.0; root_fine = w.0 ∙ ap fine z }, z)
