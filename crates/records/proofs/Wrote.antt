-- Laws of `Wrote`, `Put` and `Ran`: writes one after the other, a front that is written last, a part that is given up.
use mathlib.Core.Path.{◌≡◌, refl, sym, ◌∙◌, ap, subst}
use mathlib.Core.List.{List, [], ◌++◌}
use mathlib.Core.Logic.{⊎_elim}
use Prim.Native.Nat.{ℕ, ◌+◌, ◌-◌, ◌≤◌, ◌<◌}
use native.Mathlib.Nat.{zero-add}
use native.Mathlib.Omega.{arith}
use lib.ListN.{length, get_or, length-append, get_or-append}
use lib.Seq.{sets, length-sets, get_or-append-add, ext_get_or}
use Rattle.definition.proofs.Places.{below_or_not}
use Rattle.records.specs.Wrote.{highest, sat, Wrote, Put, Ran}
use Rattle.records.proofs.Stores.{sets_below, sets-above, sets_in}

get_d_second : (E F : List ℕ) (i : ℕ) → length E ≤ i → get_or (E ++ F) i 0 ≡ get_or F (i - length E) 0
get_d_second E F i h = ap (λ (k : ℕ). get_or (E ++ F) k 0) (omega arith) ∙ get_or-append-add E F (i - length E) 0

-- ---- one slice

pub wrote_none : (a : List ℕ) (p : ℕ) → Wrote a a p []
wrote_none a p = record { same = refl; keep = λ i h g. refl; new = λ i h g k. absurd (omega arith) }

pub wrote-sets : (a : List ℕ) (p : ℕ) (E : List ℕ) → Wrote a (sets a p E) p E
wrote-sets a p E = record { same = length-sets a p E; keep = λ i h g. sets_below a p E i h; new = λ i h g k. sets_in a p E i h g }

pub wrote_eq : (a : List ℕ) {b : List ℕ} (p : ℕ) (E : List ℕ) → b ≡ sets a p E → Wrote a b p E
wrote_eq a p E e = rw e (wrote-sets a p E)

-- what was written is given up
pub wrote-drop : {a b : List ℕ} {p : ℕ} {E : List ℕ} → Wrote a b p E → Wrote a b p []
wrote-drop w = record { same = w.same; keep = w.keep; new = λ i h g k. absurd (omega arith) }

-- a write, and one behind it
pub wrote_then : {a b c : List ℕ} {p : ℕ} {E F : List ℕ} → Wrote a b p E → Wrote b c (sat p (length E)) F → Wrote a c p (E ++ F)
wrote_then {a} {b} {c} {p} {E} {F} v w =
    record {
      same = w.same ∙ v.same;
      keep = λ i h g. w.keep i (omega arith) g ∙ v.keep i h g;
      new = λ i h g k. ⊎_elim
          (λ (l : i < length E). w.keep (p + i) (omega arith) k ∙ v.new i l g k ∙ sym (get_or-append E F 0 i l))
          (λ (l : length E ≤ i).
          let n : length (E ++ F) ≡ length E + length F = length-append E F in
          let s : length b ≡ length a = v.same in
          let e : p + i ≡ sat p (length E) + (i - length E) = omega arith in
          ap (λ (q : ℕ). get_or c q 0) e ∙ w.new (i - length E) (omega arith) (omega arith) (omega arith) ∙ sym (get_d_second E F i l))
          (below_or_not i (length E));
    }

-- a write behind the room for a front, and then the front, as a head is written behind its children
pub wrote-front : {a b K : List ℕ} (p : ℕ) (H : List ℕ) → Wrote a b (sat p (length H)) K → Wrote a (sets b p H) p (H ++ K)
wrote-front {a} {b} {K} p H w =
    record {
      same = length-sets b p H ∙ w.same;
      keep = λ i h g. sets_below b p H i h ∙ w.keep i (omega arith) g;
      new = λ i h g k. ⊎_elim
          (λ (l : i < length H).
          let s : length b ≡ length a = w.same in
          sets_in b p H i l (omega arith) ∙ sym (get_or-append H K 0 i l))
          (λ (l : length H ≤ i).
          let n : length (H ++ K) ≡ length H + length K = length-append H K in
          let e : p + i ≡ sat p (length H) + (i - length H) = omega arith in
          sets-above b p H (p + i) (omega arith) ∙ ap (λ (q : ℕ). get_or b q 0) e ∙ w.new (i - length H) (omega arith) (omega arith) (omega arith) ∙ sym (get_d_second H K i l))
          (below_or_not i (length H));
    }

-- on a slice that E just fills, the slice is E
pub wrote_exact : {a b E : List ℕ} → Wrote a b 0 E → length a ≡ length E → length E < highest → b ≡ E
wrote_exact {a} {b} {E} w h k =
    ext_get_or 0 b E (w.same ∙ h) (λ i l.
    let s = w.same in
    sym (ap (λ (j : ℕ). get_or b j 0) (zero-add i)) ∙ w.new i (omega arith) (omega arith) (omega arith))

pub put-wrote : {a b : List ℕ} {p : ℕ} {E : List ℕ} {q : ℕ} → Put a b p E q → Wrote a b p E
put-wrote {a} {p = p} {E = E} w = wrote_eq a p E w.bytes

-- a writer's bytes, and a write at the position that it returned
pub put_then : {a b c : List ℕ} {p : ℕ} {E : List ℕ} {q : ℕ} {F : List ℕ} → Put a b p E q → Wrote b c q F → Wrote a c p (E ++ F)
put_then {b = b} {c = c} {F = F} v w = wrote_then (put-wrote v) (subst (λ (x : ℕ). Wrote b c x F) v.position w)

-- ---- two slices

pub ran-none : (o g : List ℕ) (p d : ℕ) → p ≤ highest → d ≤ highest → Ran o o g g p d p d [] []
ran-none o g p d h k = record { out = wrote_none o p; dia = wrote_none g d; atp = omega arith; atd = omega arith }

-- only the output is written, or only the diagnostics
pub ran_out : {o o' : List ℕ} (g : List ℕ) {p d p' : ℕ} {E : List ℕ} → Wrote o o' p E → p' ≡ sat p (length E) → d ≤ highest → Ran o o' g g p d p' d E []
ran_out g {d = d} w e k = record { out = w; dia = wrote_none g d; atp = e; atd = omega arith }

pub ran-dia : (o : List ℕ) {g g' : List ℕ} {p d d' : ℕ} {D : List ℕ} → Wrote g g' d D → d' ≡ sat d (length D) → p ≤ highest → Ran o o g g' p d p d' [] D
ran-dia o {p = p} w e k = record { out = wrote_none o p; dia = w; atp = omega arith; atd = e }

pub ran_then : {o o' o'' g g' g'' : List ℕ} {p d p' d' p'' d'' : ℕ} {E D F G : List ℕ}
    → Ran o o' g g' p d p' d' E D → Ran o' o'' g' g'' p' d' p'' d'' F G → Ran o o'' g g'' p d p'' d'' (E ++ F) (D ++ G)
ran_then {o' = o'} {o'' = o''} {g' = g'} {g'' = g''} {E = E} {D = D} {F = F} {G = G} r s =
    record {
      out = wrote_then r.out (subst (λ (q : ℕ). Wrote o' o'' q F) r.atp s.out);
      dia = wrote_then r.dia (subst (λ (q : ℕ). Wrote g' g'' q G) r.atd s.dia);
      atp = omega (arith, r.atp, s.atp, length-append E F);
      atd = omega (arith, r.atd, s.atd, length-append D G);
    }

-- the output is given up: its position goes back to p, from where it was, or from k behind p
pub ran-back : {o o' g g' : List ℕ} {p d p' d' : ℕ} {E D : List ℕ} → p ≤ highest → Ran o o' g g' p d p' d' E D → Ran o o' g g' p d p d' [] D
ran-back h r = record { out = wrote-drop r.out; dia = r.dia; atp = omega arith; atd = r.atd }

pub ran-lower : {o o' g g' : List ℕ} (p k : ℕ) {d p' d' : ℕ} {E D : List ℕ} → p ≤ highest → Ran o o' g g' (sat p k) d p' d' E D → Ran o o' g g' p d p d' [] D
ran-lower p k h r = record {
  out = record { same = r.out.same; keep = λ i l m. r.out.keep i (omega arith) m; new = λ i l m n. absurd (omega arith) };
  dia = r.dia;
  atp = omega arith;
  atd = r.atd;
}

-- the front of the output is written last
pub ran-front : {o o' g g' : List ℕ} (p : ℕ) (H : List ℕ) {d p' d' : ℕ} {K D : List ℕ}
    → Ran o o' g g' (sat p (length H)) d p' d' K D → Ran o (sets o' p H) g g' p d p' d' (H ++ K) D
ran-front p H {K = K} r =
    record { out = wrote-front p H r.out; dia = r.dia; atp = omega (arith, r.atp, length-append H K); atd = r.atd }

-- the same bytes, written in another way
pub ran-as : {o o' g g' : List ℕ} {p d p' d' : ℕ} {E D E' D' : List ℕ} → Ran o o' g g' p d p' d' E D → E ≡ E' → D ≡ D' → Ran o o' g g' p d p' d' E' D'
ran-as r e f = rw (← e, ← f) r
