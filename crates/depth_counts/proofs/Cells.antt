-- The table cell by cell, the diagnostics that are counted in it, and its sums.
use mathlib.Core.Path.{◌≡◌, refl, sym, ap, ◌∙◌, subst}
use mathlib.Core.List.{List, [], ◌∷◌, ◌++◌}
use mathlib.Core.Bool.{Bool, true, false, cond, ◌&&◌, ◌||◌}
use Prim.Native.Nat.{ℕ, zero, suc, ◌+◌, ◌*◌, ◌-◌, ◌<◌, ◌≤◌}
use native.Mathlib.Omega.{arith}
use lib.Dec.{eqb}
use lib.ListN.{length, get_or, set, length-set, length-append, take, drop}
use lib.Seq.{get_or-set_same, get_or-set_other}
use borrow.Author.Tests.{eqb-true, eq-eqb, ne_eqb}
use Rattle.definition.specs.Tree.{le2, le4, u16_at}
use Rattle.definition.specs.Grammar.{mark, member}
use Rattle.definition.specs.Record.{Diag, diagnostic_marks, diag_bytes, diags_bytes}
use Rattle.definition.specs.Marked.{Kinds}
use Rattle.definition.specs.Depths.{columns, all_at, count_of}
use Rattle.definition.proofs.Tests.{by_eq}
use Rattle.definition.proofs.Places.{At, at_left, at_right, part_at, part_length, le2-at}
use Rattle.definition.proofs.Calls.{length-diags_bytes}
use Rattle.depth_counts.specs.Tables.{rows, Shape, cell, Small, AddsOne, Adds, diags_at, Holds}

-- a test counts for one at most
pub one_most : (b : Bool) → cond b 1 0 ≤ 1
one_most true = omega arith
one_most false = omega arith

-- ---- one more

pub added : (t : List (List ℕ)) (row depth : ℕ) → Shape t → row < rows → depth < columns
    → {u : List (List ℕ)} → u ≡ set t row (set (get_or t row []) depth (cell t row depth + 1)) → AddsOne t u row depth
added t row depth s hr hd e = rw e (record { shape = record { tall = length-set t row new ∙ s.tall; wide = wide }; cells = cells })
  where
    new : List ℕ
    new = set (get_or t row []) depth (cell t row depth + 1)

    wide : (r : ℕ) → r < rows → length (get_or (set t row new) r []) ≡ columns
    wide r h = by_eq r row
        (λ q. rw q (ap length (get_or-set_same t row new [] (omega (arith, s.tall))) ∙ (length-set (get_or t row []) depth _ ∙ s.wide row hr)))
        (λ q. ap length (get_or-set_other t row r new [] q) ∙ s.wide r h)

    cells : (r d : ℕ) → r < rows → d < columns → cell (set t row new) r d ≡ cond (eqb row r && eqb depth d) 1 0 + cell t r d
    cells r d h k = by_eq r row
        (λ q. rw (q, eq-eqb row row refl) (ap (λ (l : List ℕ). get_or l d 0) (get_or-set_same t row new [] (omega (arith, s.tall))) ∙ by_eq d depth
        (λ z. rw (z, eq-eqb depth depth refl) (get_or-set_same (get_or t row []) depth _ 0 (omega (arith, s.wide row hr)) ∙ omega arith))
        (λ z. rw (ne_eqb depth d (λ y. z (sym y))) (get_or-set_other (get_or t row []) depth d _ 0 z ∙ omega arith))))
        (λ q. rw (ne_eqb row r (λ y. q (sym y))) (ap (λ (l : List ℕ). get_or l d 0) (get_or-set_other t row r new [] q) ∙ omega arith))

-- ---- the rows

-- a mark of the five that is none of the first four is the fifth
pub last_row : (m : ℕ) → member m diagnostic_marks ≡ true → (m ≡ mark "d1" → ⊥) → (m ≡ mark "d2" → ⊥) → (m ≡ mark "d3" → ⊥) → (m ≡ mark "d4" → ⊥) → mark "d5" ≡ m
unfolding member
last_row m e a b c d = go (eqb m (mark "d5")) refl (rw (ne_eqb _ _ a, ne_eqb _ _ b, ne_eqb _ _ c, ne_eqb _ _ d) at e)
  where
    go : (b : Bool) → eqb m (mark "d5") ≡ b → (eqb m (mark "d5") || false) ≡ true → mark "d5" ≡ m
    go true q z = sym (eqb-true _ _ q)
    go false q z = absurd (let y : false ≡ true = rw q at z in let w : ◌≡◌ {A = ℕ} 0 1 = cc in omega arith)

-- the marks of the rows, in order
row-mark : (q : ℕ) → q < rows → get_or diagnostic_marks q 0 ≡ mark "d1" + 256 * q
row-mark zero h = refl
row-mark (suc zero) h = refl
row-mark (suc (suc zero)) h = refl
row-mark (suc (suc (suc zero))) h = refl
row-mark (suc (suc (suc (suc zero)))) h = refl
row-mark (suc (suc (suc (suc (suc q))))) h = absurd (omega arith)

-- so that rows are told apart by them
apart : (q r : ℕ) → q < rows → r < rows → eqb (get_or diagnostic_marks q 0) (get_or diagnostic_marks r 0) ≡ eqb q r
apart q r h k = rw (row-mark q h, row-mark r k) (by_eq q r
    (λ e. eq-eqb (mark "d1" + 256 * q) (mark "d1" + 256 * r) (omega arith) ∙ sym (eq-eqb q r e))
    (λ n. ne_eqb (mark "d1" + 256 * q) (mark "d1" + 256 * r) (λ e. n (omega (arith, e))) ∙ sym (ne_eqb q r n)))

-- ---- diagnostics that are counted one after the other

-- of the n diagnostics from `at` on those that stand in `left` are left, k of them, from p on, `size` bytes each: what is counted and what is left are
-- as much as before
pub record Marking (g : List ℕ) (at n depth : ℕ) (t u : List (List ℕ)) (size : ℕ) (left : List ℕ) : Type 0 where
  pub p : ℕ
  pub k : ℕ
  pub each : size ≡ 10
  pub many : length left ≡ 10 * k
  pub stands : At g p left
  pub room : p + 10 * k ≡ at + 10 * n
  pub small : Small u p
  pub kinds : Kinds (diags_at g p k)
  pub same : (r d : ℕ) → r < rows → d < columns → cell t r d + count_of (get_or diagnostic_marks r 0) d (all_at depth (diags_at g at n))
      ≡ cell u r d + count_of (get_or diagnostic_marks r 0) d (all_at depth (diags_at g p k))

module _ (g : List ℕ) (at n depth : ℕ) {t : List (List ℕ)} where
  pub marking_start : at + 10 * n ≤ length g → Small t at → Kinds (diags_at g at n) → {size : ℕ} {left : List ℕ} → size ≡ 10 → left ≡ take (10 * n) (drop at g) → Marking g at n depth t t size left
  marking_start h s k {size} {left} e f = record {
    p = at;
    k = n;
    each = e;
    many = ap length f ∙ part_length g at (10 * n) h;
    stands = rw f (part_at g at (10 * n) h);
    room = refl;
    small = s;
    kinds = k;
    same = λ r d h l. refl;
  }

  module _ {u : List (List ℕ)} {size : ℕ} {left : List ℕ} (l : Marking g at n depth t u size left) where
    -- one that the iterator gives
    module _ (x others : List ℕ) (e : left ≡ x ++ others) (f : length x ≡ size) where
      some_left : l.k ≡ suc (l.k - 1)
      some_left = let w = l.many in let y = l.each in omega (arith, w, y, f, ap length e, length-append x others)

      own : At g l.p (x ++ others)
      own = rw (← e) l.stands

      pub marking_read : u16_at x 0 ≡ u16_at g l.p
      marking_read =
          let a = at_left g l.p x others own in
          let z : l.p + 0 ≡ l.p = omega arith in
          let b : get_or g (l.p + 0) 0 ≡ get_or x 0 0 = a.same 0 (let y = l.each in omega (arith, f, y)) in
          let c : get_or g (l.p + 1) 0 ≡ get_or x 1 0 = a.same 1 (let y = l.each in omega (arith, f, y)) in
          let d : get_or g l.p 0 ≡ get_or x 0 0 = rw z at b in
          omega (arith, c, d)

      pub marking_mark : member (u16_at x 0) diagnostic_marks ≡ true
      unfolding diags_at
      marking_mark = rw marking_read (subst (λ (j : ℕ). Kinds (diags_at g l.p j)) some_left l.kinds).0

      pub marking_turn : {row : ℕ} {v : List (List ℕ)} → row < rows → get_or diagnostic_marks row 0 ≡ u16_at x 0 → AddsOne u v row depth → {next : ℕ} → next ≡ size → Marking g at n depth t v next others
      unfolding diags_at all_at count_of
      marking_turn {row} {v} hr m w q = record {
        p = l.p + 10;
        k = l.k - 1;
        each = q ∙ l.each;
        many = (let a = l.many in let y = l.each in omega (arith, a, y, f, ap length e, length-append x others));
        stands = subst (λ (j : ℕ). At g j others) (let y = l.each in omega (arith, f, y)) (at_right g l.p x others own);
        room = (let a = l.room in omega (arith, a, some_left));
        small = record { shape = w.shape; cells = λ r d hr' hd. omega (arith, w.cells r d hr' hd, l.small.cells r d hr' hd, one_most (eqb row r && eqb depth d)) };
        kinds = (subst (λ (j : ℕ). Kinds (diags_at g l.p j)) some_left l.kinds).1;
        same = λ r d hr' hd.
            l.same r d hr' hd
            ∙ (ap (λ (j : ℕ). cell u r d + count_of (get_or diagnostic_marks r 0) d (all_at depth (diags_at g l.p j))) some_left
            ∙ (ap (λ (b : Bool). cell u r d + (cond (b && eqb depth d) 1 0 + count_of (get_or diagnostic_marks r 0) d (all_at depth (diags_at g (l.p + 10) (l.k - 1)))))
            (ap (λ (m : ℕ). eqb m (get_or diagnostic_marks r 0)) (sym (m ∙ marking_read)) ∙ apart row r hr hr')
            ∙ omega (arith, w.cells r d hr' hd)));
      }

    pub marking_done : length left < size → Adds t u (all_at depth (diags_at g at n))
    unfolding diags_at all_at count_of
    marking_done h = record {
      shape = l.small.shape;
      cells = λ r d hr hd.
          let z : l.k ≡ 0 = (let a = l.many in let y = l.each in omega (arith, a, y, h)) in
          let e = ap (λ (j : ℕ). count_of (get_or diagnostic_marks r 0) d (all_at depth (diags_at g l.p j))) z in
          omega (arith, e, l.same r d hr hd);
    }

-- ---- what stands in the buffer

abbrev pub marks_of : List Diag → List ℕ
marks_of [] = []
marks_of (x ∷ xs) = x.mark ∷ marks_of xs

-- marks alone are counted
counts_by_marks : (m d e : ℕ) (xs ys : List Diag) → marks_of xs ≡ marks_of ys → count_of m d (all_at e xs) ≡ count_of m d (all_at e ys)
unfolding count_of all_at
counts_by_marks m d e [] [] q = refl
counts_by_marks m d e [] (y ∷ ys) q = absurd (let z = ap length q in omega arith)
counts_by_marks m d e (x ∷ xs) [] q = absurd (let z = ap length q in omega arith)
counts_by_marks m d e (x ∷ xs) (y ∷ ys) q =
    let a : x.mark ≡ y.mark = ap (λ (l : List ℕ). get_or l 0 0) q in
    let b : marks_of xs ≡ marks_of ys = ap (drop 1) q in
    rw a (ap (λ (z : ℕ). cond (eqb y.mark m && eqb e d) 1 0 + z) (counts_by_marks m d e xs ys b))

kinds_by_marks : (xs ys : List Diag) → marks_of xs ≡ marks_of ys → Kinds xs → Kinds ys
kinds_by_marks [] [] q k = tt
kinds_by_marks [] (y ∷ ys) q k = absurd (let z = ap length q in omega arith)
kinds_by_marks (x ∷ xs) [] q k = tt
kinds_by_marks (x ∷ xs) (y ∷ ys) q k =
    let a : x.mark ≡ y.mark = ap (λ (l : List ℕ). get_or l 0 0) q in
    (rw (sym a) k.0, kinds_by_marks xs ys (ap (drop 1) q) k.1)

-- a mark of the five has two bytes
kind-small : (m : ℕ) → member m diagnostic_marks ≡ true → m < 65536
kind-small m e = by_eq m (mark "d1") (λ q. omega arith) (λ a. by_eq m (mark "d2") (λ q. omega arith) (λ b. by_eq m (mark "d3") (λ q. omega arith) (λ c. by_eq m (mark "d4") (λ q. omega arith) (λ d. let z = last_row m e a b c d in omega arith))))

held_at : {g : List ℕ} {p : ℕ} {ds : List Diag} → Holds g p ds → At g p (diags_bytes ds)
held_at h = record { fits = h.fits; same = h.same }

marks-read : (g : List ℕ) (p : ℕ) (ds : List Diag) → Kinds ds → At g p (diags_bytes ds) → marks_of (diags_at g p (length ds)) ≡ marks_of ds
unfolding diags_at diags_bytes
marks-read g p [] k a = refl
marks-read g p (x ∷ xs) k a =
    let own : At g p (diag_bytes x) = at_left g p (diag_bytes x) (diags_bytes xs) a in
    let m : u16_at g p ≡ x.mark = le2-at g p x.mark (kind-small x.mark k.0) (at_left g p (le2 x.mark) (le4 x.start ++ le4 x.end) own) in
    let others : At g (p + 10) (diags_bytes xs) = at_right g p (diag_bytes x) (diags_bytes xs) a in
    rw m (ap (λ (ms : List ℕ). x.mark ∷ ms) (marks-read g (p + 10) xs k.1 others))

module _ (g : List ℕ) (p : ℕ) (ds : List Diag) (k : Kinds ds) (h : Holds g p ds) where
  pub held-kinds : Kinds (diags_at g p (length ds))
  held-kinds = kinds_by_marks ds (diags_at g p (length ds)) (sym (marks-read g p ds k (held_at h))) k

  -- the diagnostics of the buffer are counted as those that stand there
  pub held-adds : {t u : List (List ℕ)} (depth : ℕ) → Adds t u (all_at depth (diags_at g p (length ds))) → Adds t u (all_at depth ds)
  held-adds {t} {u} depth w = record {
    shape = w.shape;
    cells = λ r d hr hd. w.cells r d hr hd ∙ ap (λ (z : ℕ). cell t r d + z) (counts_by_marks (get_or diagnostic_marks r 0) d depth (diags_at g p (length ds)) ds (marks-read g p ds k (held_at h)));
  }

  pub held-room : p + 10 * length ds ≤ length g
  held-room = omega (arith, h.fits, length-diags_bytes ds)
