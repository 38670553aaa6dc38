-- A parameter whose name is generated once its type has been written: how long the names are, and a front that is longer than the room that was left for it.
use mathlib.Core.Path.{◌≡◌, refl, sym, ap, ◌∙◌}
use mathlib.Core.List.{List, [], ◌∷◌, ◌++◌, append-nil}
use mathlib.Core.Bool.{Bool, true, false, cond, ◌&&◌}
use mathlib.Core.Logic.{⊎_elim}
use mathlib.Core.Option.{Option}
use Prim.Native.Nat.{ℕ, zero, suc, ◌+◌, ◌-◌, ◌/◌, ◌%◌, ◌≤◌, ◌<◌}
use native.Mathlib.Omega.{arith}
use lib.Dec.{ltb}
use lib.ListN.{length, get_or, length-append, get_or-append}
use lib.Seq.{sets, length-sets, get_or-append-add}
use borrow.Author.Tests.{ltb-true, ltb-false, lt-ltb}
use Rattle.definition.specs.Tree.{Head, Rec, head_bytes, encode, encodes}
use Rattle.definition.specs.Record.{Range, ident_at, Diag, Out}
use Rattle.definition.specs.Typing.{binding_ident}
use Rattle.definition.specs.Names.{digit, decimal_up_to, gen_unique_name}
use Rattle.definition.specs.Transform.{texts_fit, all_texts_fit}
use Rattle.definition.proofs.Places.{below_or_not}
use Rattle.records.specs.declared.writer.Writer.{Writer}
use Rattle.records.specs.Fields.{span, range_of}
use Rattle.records.specs.Wrote.{sat, Wrote}
use Rattle.records.specs.Writers.{Writes}
use Rattle.records.proofs.Stores.{sets_below, sets-above, sets_in}
use Rattle.output.specs.declared.Output.{Output}
use Rattle.output.specs.declared.Start.{Start}
use Rattle.output.specs.Outputs.{start_of, Skipped, Step}
use Rattle.output.proofs.Steps.{step-as, IsSome}
use Rattle.typing.specs.Unnamed.{Moved, Unnamed}
use Rattle.typing.specs.Parts.{binding_front, unique_front, longest_front}
use Rattle.typing.proofs.BindingFronts.{binding-encode, binding-fits}

-- ---- a front that is longer than the room that was left for it

wrote-raised : {a b c E : List ℕ} (p k by to : ℕ) (H : List ℕ) → Wrote a b (sat p k) E → to ≡ sat (sat p k) (length E) → Moved b c (sat p k) to by → length H ≡ k + by
    → Wrote a (sets c p H) p (H ++ E)
wrote-raised {a} {b} {c} {E} p k by to H w e m h =
    record {
      same = length-sets c p H ∙ (m.same ∙ w.same);
      keep = λ i l t. sets_below c p H i l ∙ (m.keep i (omega arith) ∙ w.keep i (omega arith) t);
      new = λ i l r t. ⊎_elim
          (λ (q : i < length H).
          let s : length c ≡ length a = m.same ∙ w.same in
          sets_in c p H i q (omega arith) ∙ sym (get_or-append H E 0 i q))
          (λ (q : length H ≤ i).
          let s : length b ≡ length a = w.same in
          let n : length (H ++ E) ≡ length H + length E = length-append H E in
          let j : ℕ = i - length H in
          let z : p + i ≡ sat p k + by + j = omega arith in
          let y : i ≡ length H + j = omega arith in
          sets-above c p H (p + i) (omega arith)
          ∙ (ap (λ (x : ℕ). get_or c x 0) z
          ∙ (m.moved j (omega arith) (omega arith)
          ∙ (w.new j (omega arith) (omega arith) (omega arith)
          ∙ sym (ap (λ (x : ℕ). get_or (H ++ E) x 0) y ∙ get_or-append-add H E j 0)))))
          (below_or_not i (length H));
    }

-- ---- the length of a generated name

-- more digits where more are allowed, and of a larger number
digits_step : (most n : ℕ) → length (decimal_up_to (suc most) n) ≡ length (cond (ltb n 10) [] (decimal_up_to most (n / 10))) + 1
unfolding decimal_up_to
digits_step most n = length-append (cond (ltb n 10) [] (decimal_up_to most (n / 10))) (digit (n % 10) ∷ [])

cond-length : (b : Bool) (x y : List ℕ) → length x ≤ length y → length (cond b [] x) ≤ length (cond b [] y)
cond-length true x y h = omega arith
cond-length false x y h = h

digits_more : (most n : ℕ) → length (decimal_up_to most n) ≤ length (decimal_up_to (suc most) n)
unfolding decimal_up_to
digits_more zero n = omega arith
digits_more (suc most) n =
    omega (arith, digits_step most n, digits_step (suc most) n, cond-length (ltb n 10) (decimal_up_to most (n / 10)) (decimal_up_to (suc most) (n / 10)) (digits_more most (n / 10)))

digits_fuel : (k most n : ℕ) → length (decimal_up_to most n) ≤ length (decimal_up_to (k + most) n)
digits_fuel zero most n =
    let e : zero + most ≡ most = omega arith in
    rw e (omega arith)
digits_fuel (suc k) most n =
    let e : suc k + most ≡ suc (k + most) = omega arith in
    rw e (omega (arith, digits_fuel k most n, digits_more (k + most) n))

cond_grow : (a b : Bool) (x y : List ℕ) → (a ≡ false → b ≡ true → ⊥) → length x ≤ length y → length (cond a [] x) ≤ length (cond b [] y)
cond_grow true b x y n h = omega arith
cond_grow false true x y n h = absurd (n refl refl)
cond_grow false false x y n h = h

digits_grow : (most n m : ℕ) → n ≤ m → length (decimal_up_to most n) ≤ length (decimal_up_to most m)
unfolding decimal_up_to
digits_grow zero n m h = omega arith
digits_grow (suc most) n m h =
    omega (
      arith,
      digits_step most n,
      digits_step most m,
      cond_grow (ltb n 10) (ltb m 10) (decimal_up_to most (n / 10)) (decimal_up_to most (m / 10))
          (λ e f. let a = ltb-false n 10 e in let b = ltb-true m 10 f in omega arith) (digits_grow most (n / 10) (m / 10) (omega arith)),
    )

pub room-grows : (n m : ℕ) → n ≤ m → unique_front n ≤ unique_front m
unfolding gen_unique_name
room-grows n m h =
    let e : (m - n) + suc n ≡ suc m = omega arith in
    omega (arith, rw e at (digits_fuel (m - n) (suc n) n), digits_grow (suc m) n m h)

-- ---- what is written of such a parameter

-- the type was moved up, and then the front was written, where the parameter began
pub named-behind : {o o' : Output} (start : Start) (n : ℕ) {at : Range} {k l from : ℕ} (w1 : Writer) {w2 w3 : Writer} → k ≡ unique_front (n + 1) → l ≡ unique_front (o.names.id_counter + 1) → l ≤ longest_front → n ≤ o.names.id_counter → from ≡ sat start.at k
    → Moved o.out.now.out.now w1.out.now from o.out.now.at (l - k) → w1.out.ghost_name ≡ o.out.now.out.ghost_name → w1.at ≡ sat o.out.now.at (l - k) → w2.out ≡ w1.out → w2.at ≡ start.at
    → Writes w2 w3 (binding_front at (gen_unique_name (o.names.id_counter + 1))) → o'.out.now.out ≡ w3.out → o'.out.now.at ≡ w1.at → o'.out.ghost_name ≡ o.out.ghost_name → o'.diagnostics ≡ o.diagnostics → o'.names.id_counter ≡ o.names.id_counter + 1 → o'.fits ≡ o.fits
    → Unnamed o o' start n at
named-behind {o} start n {k = k} {l = l} w1 {w3 = w3} e f z h g m b p i j v q t s d c y = record {
  same = s;
  between = w1.out.now;
  next = w3.at;
  by = l - k;
  short = omega (arith, f, z);
  size = omega (arith, e, f, room-grows (n + 1) (o.names.id_counter + 1) (omega arith));
  moved = rw (← e, ← g) m;
  put = rw (q, ← i, ← j) v.put;
  buffer = ap (λ x. x.ghost_name) q ∙ (v.buffer ∙ (ap (λ x. x.ghost_name) i ∙ b));
  position = t ∙ p;
  diagnostics = d;
  counter = c;
  fits = y;
}

-- the size of a front
front-size : (at : Range) (name : List ℕ) → length (binding_front at name) ≡ 15 + 15 + 4 + length name
unfolding encode encodes head_bytes
front-size at name = omega (arith, ap length (append-nil name))

-- the type was written behind the room for the name that the counter n gives: the parameter is the front and the type
pub step-unnamed : {a b c d : Output} (n : ℕ) {E : List ℕ} {ds : List Diag} {m : ℕ} {f : Bool} {at : Range} → Skipped a b (unique_front (n + 1)) → Step b c E ds m f → Unnamed c d (start_of a) n at
    → Step a d (binding_front at (gen_unique_name (m + 1)) ++ E) ds (m + 1) f
step-unnamed {a} {b} {c} {d} n {E} {ds} {m} {f} {at} s w u =
    let H : List ℕ = binding_front at (gen_unique_name (c.names.id_counter + 1)) in
    let l : length H ≡ unique_front (n + 1) + u.by = front-size at (gen_unique_name (c.names.id_counter + 1)) ∙ sym u.size in
    let p : b.out.now.at ≡ sat a.out.now.at (unique_front (n + 1)) = s.skips.position in
    rw (← w.counter) (record {
      out = record {
        buffer = u.buffer ∙ (w.out.buffer ∙ s.skips.buffer);
        wrote =
            let v : Wrote a.out.now.out.now c.out.now.out.now (sat a.out.now.at (unique_front (n + 1))) E = rw (← p, ← s.skips.same) w.out.wrote in
            rw u.put.bytes (wrote-raised a.out.now.at (unique_front (n + 1)) u.by c.out.now.at H v (w.out.position ∙ ap (λ (x : ℕ). sat x (length E)) p) u.moved l);
        position = omega (arith, u.position, w.out.position, p, l, length-append H E);
      };
      diagnostics = rw (ap (λ x. x.now) u.diagnostics, ← ap (λ x. x.now) s.diagnostics) w.diagnostics;
      writers = record { out = u.same ∙ (w.writers.out ∙ s.same); diagnostics = ap (λ x. x.ghost_name) u.diagnostics ∙ (w.writers.diagnostics ∙ ap (λ x. x.ghost_name) s.diagnostics) };
      counter = u.counter;
      fits = u.fits ∙ (w.fits ∙ ap (λ (x : Bool). x && f) s.fits);
    })

-- the type stands behind that room
pub room-left : {a b c : Output} {k : ℕ} {E : List ℕ} {ds : List Diag} {m : ℕ} {f : Bool} → Skipped a b k → Step b c E ds m f → sat a.out.now.at k ≤ c.out.now.at
room-left {a} s w = omega (arith, s.skips.position, w.out.position)

-- the texts of the Id fit, whatever its name is
name-fits : (h : Head) (name : List ℕ) → length name ≤ 25 → texts_fit (ident_at h name) ≡ true
unfolding texts_fit all_texts_fit
name-fits h name l = rw (lt-ltb (suc (suc (suc (suc (length name))))) 65536 (omega arith))

pub unnamed-made : (h : Head) {a b c d : Output} (n : ℕ) {y : Out (Option Rec)} → Skipped a b (unique_front (n + 1)) → (w : IsSome b c y) → Unnamed c d (start_of a) n (span (range_of h))
    → Step a d (encode (binding_ident h (gen_unique_name (y.2 + 1)) w.type)) y.1 (y.2 + 1) (texts_fit (binding_ident h (gen_unique_name (y.2 + 1)) w.type))
unnamed-made h {c = c} n {y} s w u =
    let f : texts_fit (ident_at h (gen_unique_name (y.2 + 1))) ≡ true = rw (← w.step.counter) (name-fits h (gen_unique_name (c.names.id_counter + 1)) (omega (arith, u.short))) in
    step-as (step-unnamed n s w.step u) (binding-encode h (gen_unique_name (y.2 + 1)) w.type) refl refl (binding-fits h (gen_unique_name (y.2 + 1)) w.type f)
