-- Laws of `Whole`: a record that lies in the bytes, its children, where it ends; and that an accepted record is whole.
use mathlib.Core.Path.{◌≡◌, refl, sym, ◌∙◌, ap, subst}
use mathlib.Core.List.{List}
use Prim.Native.Nat.{ℕ, zero, suc, ◌+◌, ◌*◌, ◌-◌, ◌≤◌, ◌<◌}
use native.Mathlib.Omega.{arith}
use lib.ListN.{length, get_or}
use mir.Syntax.{w8}
use mir.Val.{Fits}
use Rattle.definition.specs.Tree.{head_size, mark_at, count_at, body_at, Bytes, encode, end_of_all, end_at, tree_at}
use Rattle.definition.specs.Grammar.{Part, after}
use Rattle.definition.specs.Check.{inside, Checked.fine, check_all, check_at}
use Rattle.definition.proofs.Accepted.{accepted, accepted-left, first-accepted, check_ends}
use Rattle.definition.proofs.Children.{end_of_all-more, end_of_all-none}
use Rattle.definition.proofs.Converse.{encode-tree_at}
use Rattle.records.specs.Whole.{Each, Whole, part_at}
use Rattle.records.specs.Wrote.{Put}

-- ---- a record that is whole

-- its head and its text lie in the bytes
pub whole-body : (levels : ℕ) (s : List ℕ) (at : ℕ) → Whole levels s at → body_at s at ≤ length s
unfolding Whole
whole-body zero s at w = absurd w
whole-body (suc levels) s at w = w.0

-- ---- the first of some records, and the others

module _ (n : ℕ) (h : 0 < n) where
  one_more : n ≡ suc (n - 1)
  one_more = omega arith

  each_first : (P : ℕ → Type 0) (end : ℕ → ℕ) (at : ℕ) → Each P end n at → P at
  unfolding Each
  each_first P end at e = (subst (λ (k : ℕ). Each P end k at) one_more e).0

  each-rest : (P : ℕ → Type 0) (end : ℕ → ℕ) (at : ℕ) → Each P end n at → Each P end (n - 1) (end at)
  unfolding Each
  each-rest P end at e = (subst (λ (k : ℕ). Each P end k at) one_more e).1

-- ---- where a record ends

each-span : (P : ℕ → Type 0) (end : ℕ → ℕ) (m : ℕ) → ((a : ℕ) → P a → (a ≤ end a) × (end a ≤ m)) → (n at : ℕ) → at ≤ m → Each P end n at
    → (at ≤ end_of_all end n at) × (end_of_all end n at ≤ m)
unfolding Each end_of_all
each-span P end m f zero at h e = (omega arith, h)
each-span P end m f (suc n) at h e =
    let p = f at e.0 in
    let q = each-span P end m f n (end at) p.1 e.1 in
    (omega arith, q.1)

-- a whole record ends behind its head, within the bytes
pub whole-span : (levels : ℕ) (s : List ℕ) (at : ℕ) → Whole levels s at → (at + head_size ≤ end_at levels s at) × (end_at levels s at ≤ length s)
unfolding Whole end_at
whole-span zero s at w = absurd w
whole-span (suc levels) s at w =
    let q = each-span (Whole levels s) (end_at levels s) (length s) (λ (a : ℕ) (v : Whole levels s a). (omega (arith, whole-span levels s a v), (whole-span levels s a v).1)) (count_at s at) (body_at s at) w.0 w.1 in
    (omega arith, q.1)

-- ---- one level more, and one row behind another

each_more : (P Q : ℕ → Type 0) (f g : ℕ → ℕ) → ((a : ℕ) → P a → Q a × (g a ≡ f a)) → (n at : ℕ) → Each P f n at
    → Each Q g n at × (end_of_all g n at ≡ end_of_all f n at)
unfolding Each end_of_all
each_more P Q f g h zero at e = (tt, refl)
each_more P Q f g h (suc n) at e =
    let a = h at e.0 in
    let r = each_more P Q f g h n (f at) e.1 in
    ((a.0, subst (λ (k : ℕ). Each Q g n k) (sym a.1) r.0), ap (end_of_all g n) a.1 ∙ r.1)

-- a whole record is whole with one level more, and ends at the same place
whole-more : (levels : ℕ) (s : List ℕ) (at : ℕ) → Whole levels s at → Whole (suc levels) s at × (end_at (suc levels) s at ≡ end_at levels s at)
unfolding Whole end_at
whole-more zero s at w = absurd w
whole-more (suc levels) s at w =
    let r = each_more (Whole levels s) (Whole (suc levels) s) (end_at levels s) (end_at (suc levels) s) (λ a v. whole-more levels s a v) (count_at s at) (body_at s at) w.1 in
    ((w.0, r.0), r.1)

row-end : (end : ℕ → ℕ) (m n at : ℕ) → end_of_all end (m + n) at ≡ end_of_all end n (end_of_all end m at)
unfolding end_of_all
row-end end zero n at = let e : zero + n ≡ n = omega arith in rw e
row-end end (suc m) n at = let e : suc m + n ≡ suc (m + n) = omega arith in rw e (row-end end m n (end at))

row-each : (P : ℕ → Type 0) (end : ℕ → ℕ) (m n at : ℕ) → Each P end m at → Each P end n (end_of_all end m at) → Each P end (m + n) at
unfolding Each end_of_all
row-each P end zero n at a b = let e : zero + n ≡ n = omega arith in rw e b
row-each P end (suc m) n at a b = let e : suc m + n ≡ suc (m + n) = omega arith in rw e (a.0, row-each P end m n (end at) a.1 b)

-- ---- the loop of `record_end`

-- n records are pending in one row, the first of them at c: they are whole, and behind them is e
pub record Pending (levels : ℕ) (s : List ℕ) (n c e : ℕ) : Type 0 where
  pub all : Each (Whole levels s) (end_at levels s) n c
  pub end : end_of_all (end_at levels s) n c ≡ e

-- each of them takes a head
each-room : (levels : ℕ) (s : List ℕ) (n c : ℕ) → c ≤ length s → Each (Whole levels s) (end_at levels s) n c → c + head_size * n ≤ length s
unfolding Each
each-room levels s zero c h a = omega arith
each-room levels s (suc n) c h a =
    let w = whole-span levels s c a.0 in
    omega (arith, each-room levels s n (end_at levels s c) w.1 a.1)

pub pending_start : (levels : ℕ) (s : List ℕ) (at : ℕ) → Whole levels s at → Pending levels s 1 at (end_at levels s at)
unfolding Each end_of_all
pending_start levels s at w = record { all = (w, tt); end = refl }

module _ (levels : ℕ) (s : List ℕ) (n c e : ℕ) (l : Pending levels s n c e) where
  pending_first : 0 < n → Whole levels s c
  pending_first h = each_first n h (Whole levels s) (end_at levels s) c l.all

  pub pending_body : 0 < n → body_at s c ≤ length s
  pending_body h = whole-body levels s c (pending_first h)

  pub pending_room : 0 < n → c + head_size * n ≤ length s
  pending_room h = each-room levels s n c (omega (arith, pending_body h)) l.all

  pub pending_done : n ≤ 0 → c ≡ e
  pending_done h = sym (end_of_all-none (end_at levels s) n c h) ∙ l.end

-- the children of the first one take its place, with a level more than they need
pub pending_turn : (levels : ℕ) (s : List ℕ) (n c e : ℕ) → Pending levels s n c e → 0 < n → Pending levels s (n - 1 + count_at s c) (body_at s c) e
unfolding Whole end_at
pending_turn zero s n c e l h = absurd (each_first n h (Whole zero s) (end_at zero s) c l.all)
pending_turn (suc k) s n c e l h =
    let P = Whole (suc k) s in
    let f = end_at (suc k) s in
    let w : Whole (suc k) s c = each_first n h P f c l.all in
    let r = each_more (Whole k s) P (end_at k s) f (λ a v. whole-more k s a v) (count_at s c) (body_at s c) w.1 in
    let others = each-rest n h P f c l.all in
    let q : n - 1 + count_at s c ≡ count_at s c + (n - 1) = omega arith in
    record {
      all = subst (λ (m : ℕ). Each P f m (body_at s c)) (sym q)
          (row-each P f (count_at s c) (n - 1) (body_at s c) r.0 (subst (λ (a : ℕ). Each P f (n - 1) a) (sym r.1) others));
      end = ap (λ (m : ℕ). end_of_all f m (body_at s c)) q
          ∙ (row-end f (count_at s c) (n - 1) (body_at s c)
          ∙ (ap (end_of_all f (n - 1)) r.1 ∙ (sym (end_of_all-more f n c h) ∙ l.end)));
    }

-- ---- an accepted record

accepted-each : (levels : ℕ) (s : List ℕ) → ((a : ℕ) (ps : List Part) (e : ℕ) → check_at levels s a ps ≡ fine e → Whole levels s a) →
    (n a : ℕ) (ps : List Part) (e : ℕ) → check_all (check_at levels s) s n a ps ≡ fine e → Each (Whole levels s) (end_at levels s) n a
unfolding Each
accepted-each levels s whole zero a ps e f = tt
accepted-each levels s whole (suc n) a ps e f =
    let u = first-accepted levels s n a ps e f in
    (whole a ps (end_at levels s a) u.0, accepted-each levels s whole n (end_at levels s a) (after ps (mark_at s a)) e u.1)

-- it is whole
pub accepted-whole : (levels : ℕ) (s : List ℕ) (at : ℕ) (ps : List Part) (e : ℕ) → check_at levels s at ps ≡ fine e → Whole levels s at
unfolding Whole
accepted-whole zero s at ps e f = absurd (let z = accepted-left zero s at ps e f in omega (arith, z))
accepted-whole (suc levels) s at ps e f =
    let a = accepted levels s at ps e f in
    (a.itself.fits, accepted-each levels s (λ b qs x. accepted-whole levels s b qs x) (count_at s at) (body_at s at) (inside ps (mark_at s at)) e a.all)

-- the part of the tree that it fills is the encoding of what is read there
pub accepted_part : (levels : ℕ) (s : List ℕ) (at : ℕ) (ps : List Part) (e : ℕ) → Bytes s → check_at levels s at ps ≡ fine e → part_at levels s at ≡ encode (tree_at levels s at)
accepted_part levels s at ps e bytes f = rw (check_ends levels s at ps e f) (encode-tree_at s bytes levels at ps e f)

-- so that is what a copy of it writes
pub accepted-put : (levels : ℕ) (s : List ℕ) (at : ℕ) (ps : List Part) (e : ℕ) → Bytes s → check_at levels s at ps ≡ fine e → {a b : List ℕ} {p q : ℕ}
    → Put a b p (part_at levels s at) q → Put a b p (encode (tree_at levels s at)) q
accepted-put levels s at ps e bytes f w = rw (← (accepted_part levels s at ps e bytes f)) w

-- the contents of a `&[u8]` are bytes, as `shared_slice_known` has it
pub slice_bytes : (s : List ℕ) → ((i : ℕ) → Fits w8 (get_or s i 0)) → Bytes s
unfolding Bytes
slice_bytes s f i = (f i).fits
