-- From the mark of an accepted record to its text and its children: how many there are at least, which marks they have, and that they are accepted.
use mathlib.Core.Path.{◌≡◌, refl, sym, ap, ◌∙◌, subst}
use mathlib.Core.List.{List, [], ◌∷◌}
use mathlib.Core.Bool.{Bool, true, false, cond, ◌&&◌, ◌||◌}
use mathlib.Core.Logic.{◌⊎◌, inl, inr, ⊎_elim}
use mathlib.Core.Option.{Option, none, some}
use Prim.Native.Nat.{ℕ, zero, suc, ◌+◌, ◌-◌, ◌<◌, ◌≤◌}
use Prim.Native.String.{String}
use native.Mathlib.Nat.{not-suc-le-zero, le_of_suc-le-suc}
use native.Mathlib.Omega.{arith}
use lib.Dec.{eqb}
use lib.ListN.{length}
use borrow.Author.Tests.{eqb-true, eqb-false, leb-true, eq-eqb, ne_eqb}
use Rattle.definition.specs.Tree.{Head, Rec, nil, head_size, mark_at, flags_at, length_at, count_at, text_at, body_at, head_at, read_all, end_of_all, end_at, tree_at}
use Rattle.definition.specs.Grammar.{mark, marks, member, Part, Part.one, Part.many, Part.property, Form, Form.empty, Form.eight, Form.integer, Form.identifier, grammar, known, forms, slots, place, allowed, after, least, is_property, undestructured, expression, pattern}
use Rattle.definition.specs.Check.{has_form, is_integer, form_of, slots_of, inside, Checked.fine, check_at}
use Rattle.definition.specs.Children.{AcceptedAt, AllAccepted, child_at}
use Rattle.definition.specs.Record.{head_of, kids_of, mark_of, text_of, absent, kid}
use Rattle.definition.proofs.Places.{part_length}
use Rattle.definition.proofs.Accepted.{Accepted, accepted, child-accepted, slots_at}
use Rattle.definition.proofs.Children.{some_left, itself, tree_is, children, others}
use Rattle.definition.proofs.Tests.{and-true}

-- ---- how many children there are at least

-- the marks that are asked about, each with its number
abbrev least_table : List (ℕ × ℕ)
least_table =
    (mark "Ed", 1) ∷ (mark "Xd", 1) ∷ (mark "Xe", 1) ∷ (mark "Fd", 2) ∷ (mark "Cd", 2) ∷ (mark "Ns", 2) ∷ (mark "Nd", 2) ∷ (mark "Vr", 2) ∷ (mark "Em", 2) ∷
    (mark "Fu", 3) ∷ (mark "Cl", 1) ∷ (mark "Co", 1) ∷ (mark "Me", 2) ∷ (mark "Cp", 3) ∷ (mark "Pa", 1) ∷ (mark "Pp", 1) ∷
    (mark "Bd", 2) ∷ (mark "Pb", 1) ∷ (mark "Po", 1) ∷ (mark "Ag", 2) ∷
    (mark "Fx", 2) ∷ (mark "Cx", 2) ∷ (mark "Aw", 2) ∷ (mark "Ca", 1) ∷ (mark "Mb", 2) ∷ (mark "Bn", 2) ∷ (mark "Oc", 1) ∷ (mark "Pr", 1) ∷
    (mark "As", 2) ∷ (mark "Ta", 2) ∷ (mark "Tl", 1) ∷
    []

abbrev least_in : List (ℕ × ℕ) → ℕ → ℕ
least_in [] m = 0
least_in (x ∷ xs) m = cond (eqb x.0 m) x.1 (least_in xs m)

-- the number of a mark, and 0 for one that is not asked about
abbrev pub least_of : ℕ → ℕ
least_of m = least_in least_table m

-- each is what the grammar's row asks
abbrev asked : List (ℕ × ℕ) → Bool
asked [] = true
asked (x ∷ xs) = eqb (least (slots_of x.0)) x.1 && asked xs

all_asked : asked least_table ≡ true
unfolding grammar known slots place least
all_asked = refl

least_first : (x : ℕ × ℕ) (k m : ℕ) → eqb (least (slots_of x.0)) x.1 ≡ true → k ≤ least (slots_of m) → (b : Bool) → eqb x.0 m ≡ b → cond b x.1 k ≤ least (slots_of m)
least_first x k m e h true p = omega (arith, eqb-true (least (slots_of x.0)) x.1 e, ap (λ (i : ℕ). least (slots_of i)) (eqb-true x.0 m p))
least_first x k m e h false p = h

least_in_lem : (xs : List (ℕ × ℕ)) → asked xs ≡ true → (m : ℕ) → least_in xs m ≤ least (slots_of m)
least_in_lem [] e m = omega arith
least_in_lem (x ∷ xs) e m =
    let b = and-true (eqb (least (slots_of x.0)) x.1) (asked xs) e in
    least_first x (least_in xs m) m b.0 (least_in_lem xs b.1 m) (eqb x.0 m) refl

-- ---- sets of marks

-- a mark in a set that is not its first is one of the others
pub member-rest : (m x : ℕ) (xs : List ℕ) → member m (x ∷ xs) ≡ true → (m ≡ x → ⊥) → member m xs ≡ true
unfolding member
member-rest m x xs e n = let z = ne_eqb m x n in rw z at e

-- a mark in a set of one
pub member-one : (m x : ℕ) → member m (x ∷ []) ≡ true → m ≡ x
unfolding member
member-one m x e = eqb-true m x (go (eqb m x) e)
  where
    go : (b : Bool) → (b || false) ≡ true → b ≡ true
    go true e = refl
    go false e = e

-- a mark in a set is none that the set lacks: `member-not m x xs refl h`
pub member-not : (m x : ℕ) (xs : List ℕ) → member x xs ≡ false → member m xs ≡ true → m ≡ x → ⊥
member-not m x xs f e q = let z : ◌≡◌ {A = Bool} true false = sym e ∙ (ap (λ (k : ℕ). member k xs) q ∙ f) in let y : ◌≡◌ {A = ℕ} 0 1 = cc in omega arith

-- a mark in a set is in a larger one: `member-wider m xs ys refl h`
abbrev pub contained : List ℕ → List ℕ → Bool
contained [] ys = true
contained (x ∷ xs) ys = member x ys && contained xs ys

pub member-wider : (m : ℕ) (xs ys : List ℕ) → contained xs ys ≡ true → member m xs ≡ true → member m ys ≡ true
unfolding member
member-wider m [] ys c e = absurd (let z : ◌≡◌ {A = ℕ} 0 1 = cc in omega arith)
member-wider m (x ∷ xs) ys c e = go (eqb m x) refl (member-wider m xs ys (and-true (member x ys) (contained xs ys) c).1) e
  where
    go : (b : Bool) → eqb m x ≡ b → (member m xs ≡ true → member m ys ≡ true) → (b || member m xs) ≡ true → member m ys ≡ true
    go true q f h = rw (eqb-true m x q) (and-true (member x ys) (contained xs ys) c).0
    go false q f h = f h

-- ---- the head of the tree that stands at an offset, accepted or not

pub head_is : (levels : ℕ) (s : List ℕ) (at : ℕ) → head_of (tree_at levels s at) ≡ head_at s at
unfolding tree_at
head_is zero s at = refl
head_is (suc levels) s at = refl

pub mark-is : (levels : ℕ) (s : List ℕ) (at : ℕ) → mark_of (tree_at levels s at) ≡ mark_at s at
unfolding head_at
mark-is levels s at = ap (λ (h : Head). h.mark) (head_is levels s at)

pub flags-is : (levels : ℕ) (s : List ℕ) (at : ℕ) → (head_of (tree_at levels s at)).flags ≡ flags_at s at
unfolding head_at
flags-is levels s at = ap (λ (h : Head). h.flags) (head_is levels s at)

pub text-is : (levels : ℕ) (s : List ℕ) (at : ℕ) → text_of (tree_at levels s at) ≡ text_at s at
unfolding head_at
text-is levels s at = ap (λ (h : Head). h.text) (head_is levels s at)

-- whether it has a mark: `is S (tree_at left s at)`, from a comparison of numbers
pub is-mark : (levels : ℕ) (s : List ℕ) (at m : ℕ) → mark_at s at ≡ m → eqb (mark_of (tree_at levels s at)) m ≡ true
is-mark levels s at m e = eq-eqb _ _ (mark-is levels s at ∙ e)

pub not-mark : (levels : ℕ) (s : List ℕ) (at m : ℕ) → (mark_at s at ≡ m → ⊥) → eqb (mark_of (tree_at levels s at)) m ≡ false
not-mark levels s at m n = ne_eqb _ _ (λ e. n (sym (mark-is levels s at) ∙ e))

-- ---- one of n records

pub kid-read : (read : ℕ → Rec) (end : ℕ → ℕ) (n at i : ℕ) → i < n → kid i (read_all read end n at) ≡ read (end_of_all end i at)
unfolding read_all end_of_all
kid-read read end zero at i h = absurd (not-suc-le-zero h)
kid-read read end (suc n) at zero h = refl
kid-read read end (suc n) at (suc i) h = kid-read read end n (end at) i (le_of_suc-le-suc h)

pub kid_read_none : (read : ℕ → Rec) (end : ℕ → ℕ) (n at i : ℕ) → n ≤ i → kid i (read_all read end n at) ≡ absent
unfolding read_all
kid_read_none read end zero at i h = go i
  where
    go : (j : ℕ) → kid j nil ≡ absent
    go zero = refl
    go (suc j) = refl
kid_read_none read end (suc n) at zero h = absurd (not-suc-le-zero h)
kid_read_none read end (suc n) at (suc i) h = kid_read_none read end n (end at) i (le_of_suc-le-suc h)

-- the first slot asks one of its marks
pub allowed-one : (S : String) (ps : List Part) (m : ℕ) → allowed (one S ∷ ps) m ≡ true → member m (marks S) ≡ true
unfolding allowed
allowed-one S ps m e = e

-- ---- the slots that a row fixes by their number: those before the first `*`

-- the set of marks at the slot i
unfoldable pub fixed : List Part → ℕ → Option String
fixed [] i = none
fixed (one s ∷ ps) zero = some s
fixed (one s ∷ ps) (suc i) = fixed ps i
fixed (many s ∷ ps) i = none
fixed (property ∷ ps) zero = some "Bd Ag"
fixed (property ∷ ps) (suc i) = fixed ps i

never-some : (S : String) → none ≡ some S → ⊥
never-some S e = let z : ◌≡◌ {A = ℕ} 0 1 = cc in omega arith

fixed-least : (ps : List Part) (i : ℕ) (S : String) → fixed ps i ≡ some S → i < least ps
unfolding fixed least
fixed-least [] i S e = absurd (never-some S e)
fixed-least (one s ∷ ps) zero S e = omega arith
fixed-least (one s ∷ ps) (suc i) S e = omega (arith, fixed-least ps i S e)
fixed-least (many s ∷ ps) i S e = absurd (never-some S e)
fixed-least (property ∷ ps) zero S e = omega arith
fixed-least (property ∷ ps) (suc i) S e = omega (arith, fixed-least ps i S e)

fixed-allowed : (end : ℕ → ℕ) (s : List ℕ) (ps : List Part) (p i m : ℕ) (S : String) → fixed ps i ≡ some S →
    allowed (slots_at end s ps p i) m ≡ true → member m (marks S) ≡ true
unfolding fixed slots_at after allowed
fixed-allowed end s [] p i m S e a = absurd (never-some S e)
fixed-allowed end s (one t ∷ ps) p zero m S e a = let z : t ≡ S = cc in rw z at a
fixed-allowed end s (one t ∷ ps) p (suc i) m S e a = fixed-allowed end s ps (end p) i m S e a
fixed-allowed end s (many t ∷ ps) p i m S e a = absurd (never-some S e)
fixed-allowed end s (property ∷ ps) p zero m S e a = let z : "Bd Ag" ≡ S = cc in rw z at a
fixed-allowed end s (property ∷ ps) p (suc i) m S e a = fixed-allowed end s ps (end p) i m S e a

plain : (p b : Bool) (x y : List Part) → b ≡ false → cond p (cond b x y) y ≡ y
plain true true x y e = absurd (let z : ◌≡◌ {A = ℕ} 0 1 = cc in omega arith)
plain true false x y e = refl
plain false b x y e = refl

-- the slots inside a record are its row's, but for an Ag
pub inside-plain : (ps : List Part) (m : ℕ) → (m ≡ mark "Ag" → ⊥) → inside ps m ≡ slots_of m
inside-plain ps m n = plain (is_property ps) (eqb m (mark "Ag")) undestructured (slots_of m) (ne_eqb m (mark "Ag") n)

inside_ag : (ps : List Part) → (inside ps (mark "Ag") ≡ undestructured) ⊎ (inside ps (mark "Ag") ≡ slots_of (mark "Ag"))
inside_ag ps = go (is_property ps)
  where
    go : (p : Bool) → (cond p undestructured (slots_of (mark "Ag")) ≡ undestructured) ⊎ (cond p undestructured (slots_of (mark "Ag")) ≡ slots_of (mark "Ag"))
    go true = inl refl
    go false = inr refl

-- ---- the children of an accepted record

-- records that were accepted one after the other, without the first k of them
pub all_others : (levels : ℕ) (s : List ℕ) (n at : ℕ) → AllAccepted levels s n at → (k : ℕ) → k ≤ n → AllAccepted levels s (n - k) (end_of_all (end_at levels s) k at)
unfolding end_of_all
all_others levels s n at a zero h = let z : n - 0 ≡ n = omega arith in rw z a
all_others levels s n at a (suc k) h =
    let z : n - suc k ≡ n - 1 - k = omega arith in
    rw z (all_others levels s (n - 1) (end_at levels s at) (others levels s n at a (omega arith)) k (omega arith))

-- its child with the number i is there, stands at p, is accepted, is the tree's child, and has one of the marks S
pub record Child (levels : ℕ) (s : List ℕ) (at i p : ℕ) (S : String) : Type 0 where
  pub there : i < count_at s at
  pub accepted : AcceptedAt (levels - 1) s p
  pub tree : kid i (kids_of (tree_at levels s at)) ≡ tree_at (levels - 1) s p
  pub marks : member (mark_at s p) (marks S) ≡ true

-- the same by another name of its place, as a call returns it
pub placed : {levels : ℕ} {s : List ℕ} {at i p : ℕ} {S : String} → Child levels s at i p S → {q : ℕ} → q ≡ p → Child levels s at i q S
placed {levels} {s} {at} {i} {p} {S} c e = subst (λ (k : ℕ). Child levels s at i k S) (sym e) c

-- the same with a larger set: `wider c T refl`, with the line `unfolding marks member`
pub wider : {levels : ℕ} {s : List ℕ} {at i p : ℕ} {S : String} → Child levels s at i p S → (T : String) → contained (marks S) (marks T) ≡ true → Child levels s at i p T
wider {levels} {s} {at} {i} {p} {S} c T w =
    record { there = c.there; accepted = c.accepted; tree = c.tree; marks = member-wider (mark_at s p) (marks S) (marks T) w c.marks }

module _ (levels : ℕ) (s : List ℕ) (at : ℕ) (a : AcceptedAt levels s at) where
  pub kids_are : kids_of (tree_at levels s at) ≡ read_all (tree_at (levels - 1) s) (end_at (levels - 1) s) (count_at s at) (body_at s at)
  kids_are = ap kids_of (tree_is levels s at a)

  -- the child i, and what stands for one that is not there
  pub kid_is : (i : ℕ) → i < count_at s at → kid i (kids_of (tree_at levels s at)) ≡ tree_at (levels - 1) s (child_at levels s at i)
  kid_is i h = ap (kid i) kids_are ∙ kid-read (tree_at (levels - 1) s) (end_at (levels - 1) s) (count_at s at) (body_at s at) i h

  pub kid-none : (i : ℕ) → count_at s at ≤ i → kid i (kids_of (tree_at levels s at)) ≡ absent
  kid-none i h = ap (kid i) kids_are ∙ kid_read_none (tree_at (levels - 1) s) (end_at (levels - 1) s) (count_at s at) (body_at s at) i h

  -- a record with the mark m has as many children as its row asks
  at_least : (m : ℕ) → mark_at s at ≡ m → (n : ℕ) → least (slots_of m) ≡ n → n ≤ count_at s at
  at_least m e n l = let z : least (slots_of (mark_at s at)) ≡ n = rw e l in omega (arith, (itself levels s at a).enough, z)

  pub has-least : (m : ℕ) → mark_at s at ≡ m → least_of m ≤ count_at s at
  has-least m e = let z = least_in_lem least_table all_asked m in let k = at_least m e (least (slots_of m)) refl in omega arith

  apart : Accepted (levels - 1) s at a.slots a.past
  apart = accepted (levels - 1) s at a.slots a.past (subst (λ (k : ℕ). check_at k s at a.slots ≡ fine a.past) (some_left levels s at a) a.checked)

  slot_in : (qs : List Part) → inside a.slots (mark_at s at) ≡ qs → (i : ℕ) (S : String) → fixed qs i ≡ some S → i < count_at s at → Child levels s at i (child_at levels s at i) S
  slot_in qs q i S f h =
      let p : ℕ = child_at levels s at i in
      let c : AcceptedAt (levels - 1) s p = record {
        slots = slots_at (end_at (levels - 1) s) s (inside a.slots (mark_at s at)) (body_at s at) i;
        past = end_of_all (end_at (levels - 1) s) (suc i) (body_at s at);
        checked = child-accepted (levels - 1) s (count_at s at) (body_at s at) (inside a.slots (mark_at s at)) a.past apart.all i h;
      } in
      record {
        there = h;
        accepted = c;
        tree = kid_is i h;
        marks = fixed-allowed (end_at (levels - 1) s) s qs (body_at s at) i (mark_at s p) S f (rw (sym q) (itself (levels - 1) s p c).slot);
      }

  -- the child at a slot that the row of its mark fixes: `child_in (mark "Ft") e refl 1 type refl`, with the line
  -- `unfolding grammar known slots place fixed`
  pub child_in : (m : ℕ) → mark_at s at ≡ m → eqb m (mark "Ag") ≡ false → (i : ℕ) (S : String) → fixed (slots_of m) i ≡ some S → Child levels s at i (child_at levels s at i) S
  child_in m e n i S f =
      slot_in (slots_of m) (ap (inside a.slots) e ∙ inside-plain a.slots m (eqb-false m (mark "Ag") n)) i S f
      (let l = fixed-least (slots_of m) i S f in let k = at_least m e (least (slots_of m)) refl in omega (arith, l, k))

  -- the first child stands where the children begin, and the second where the first ends
  pub first_in : (m : ℕ) → mark_at s at ≡ m → eqb m (mark "Ag") ≡ false → (S : String) → fixed (slots_of m) 0 ≡ some S → Child levels s at 0 (body_at s at) S
  unfolding end_of_all
  first_in m e n S f = child_in m e n 0 S f

  pub second_in : (m : ℕ) → mark_at s at ≡ m → eqb m (mark "Ag") ≡ false → (S : String) → fixed (slots_of m) 1 ≡ some S →
      Child levels s at 1 (end_at (levels - 1) s (body_at s at)) S
  unfolding end_of_all
  second_in m e n S f = child_in m e n 1 S f

  pub third_in : (m : ℕ) → mark_at s at ≡ m → eqb m (mark "Ag") ≡ false → (S : String) → fixed (slots_of m) 2 ≡ some S →
      Child levels s at 2 (end_at (levels - 1) s (end_at (levels - 1) s (body_at s at))) S
  unfolding end_of_all
  third_in m e n S f = child_in m e n 2 S f

  -- the children from the number k on, as a loop meets them
  pub rest-accepted : (k : ℕ) → k ≤ count_at s at → AllAccepted (levels - 1) s (count_at s at - k) (child_at levels s at k)
  rest-accepted k h = all_others (levels - 1) s (count_at s at) (body_at s at) (children levels s at a) k h

  -- the same for an Ag, wherever it stands: its left side and its right side
  pub left_of_lem : mark_at s at ≡ mark "Ag" → Child levels s at 0 (body_at s at) pattern
  unfolding end_of_all grammar known slots place fixed least marks member
  left_of_lem e = ⊎_elim
      (λ q. wider (slot_in undestructured (ap (inside a.slots) e ∙ q) 0 "Bd Rs Ag Pe Pi" refl (omega (arith, at_least (mark "Ag") e 2 refl))) pattern refl)
      (λ q. slot_in (slots_of (mark "Ag")) (ap (inside a.slots) e ∙ q) 0 pattern refl (omega (arith, at_least (mark "Ag") e 2 refl)))
      (inside_ag a.slots)

  pub right_of : mark_at s at ≡ mark "Ag" → Child levels s at 1 (end_at (levels - 1) s (body_at s at)) expression
  unfolding end_of_all grammar known slots place fixed least
  right_of e = ⊎_elim
      (λ q. slot_in undestructured (ap (inside a.slots) e ∙ q) 1 expression refl (omega (arith, at_least (mark "Ag") e 2 refl)))
      (λ q. slot_in (slots_of (mark "Ag")) (ap (inside a.slots) e ∙ q) 1 expression refl (omega (arith, at_least (mark "Ag") e 2 refl)))
      (inside_ag a.slots)

  -- ---- its text

  pub text-length : length (text_at s at) ≡ length_at s at
  text-length = part_length s (at + head_size) (length_at s at) (itself levels s at a).fits

  -- it has the form of its mark's row: `form-is m e f refl`, with the line `unfolding grammar known forms place`
  pub form-is : (m : ℕ) → mark_at s at ≡ m → (f : Form) → form_of m ≡ f → has_form f (flags_at s at) (text_at s at) ≡ true
  form-is m e f q = rw (sym q, sym e) (itself levels s at a).form

  -- a text that is empty; the context of an Id; the bytes of a Nu; the sign and the digits of a Bi
  pub no_text : (m : ℕ) → mark_at s at ≡ m → form_of m ≡ empty → length_at s at ≡ 0
  unfolding has_form
  no_text m e q = sym text-length ∙ eqb-true _ 0 (form-is m e empty q)

  pub id-text : mark_at s at ≡ mark "Id" → 4 ≤ length_at s at
  unfolding grammar known forms place has_form
  id-text e = let l = leb-true 4 (length (text_at s at)) (form-is (mark "Id") e identifier refl) in omega (arith, text-length)

  pub nu_text : mark_at s at ≡ mark "Nu" → length_at s at ≡ 8
  unfolding grammar known forms place has_form
  nu_text e = sym text-length ∙ eqb-true _ 8 (form-is (mark "Nu") e eight refl)

  pub bi_text : mark_at s at ≡ mark "Bi" → is_integer (text_at s at) ≡ true
  unfolding grammar known forms place has_form
  bi_text e = form-is (mark "Bi") e integer refl

-- a record with the mark m has as many children as its row asks: `has (mark "Fu") _ _ _ a e : 3 ≤ count_at s at`
pub has : (m : ℕ) (levels : ℕ) (s : List ℕ) (at : ℕ) → AcceptedAt levels s at → mark_at s at ≡ m → least_of m ≤ count_at s at
has m levels s at a e = has-least levels s at a m e
