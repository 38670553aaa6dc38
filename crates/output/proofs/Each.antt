-- Steps on every record of several: `each` and `flat`, and the loops that do them.
use mathlib.Core.Path.{◌≡◌, refl, sym, ap, ◌∙◌}
use mathlib.Core.List.{List, [], ◌++◌, append-nil, append_assoc}
use Prim.Native.Nat.{ℕ, suc, ◌+◌, ◌*◌, ◌-◌, ◌≤◌, ◌<◌}
use native.Mathlib.Nat.{mul-suc}
use native.Mathlib.Omega.{arith}
use Rattle.definition.specs.Tree.{Rec, Recs, nil, cons, count, end_at}
use Rattle.definition.specs.Record.{join, Out, pure, single, each, flat}
use Rattle.definition.specs.Counting.{records}
use Rattle.records.specs.declared.tree.Record.{Record}
use Rattle.records.specs.declared.tree.Records.{Records}
use Rattle.records.specs.Views.{rec_of, recs_of, FirstOf, RestOf}
use Rattle.records.proofs.Records.{recs_none, recs_step}
use Rattle.records.proofs.Views.{accepted}
use Rattle.output.specs.declared.Output.{Output}
use Rattle.output.specs.Outputs.{Makes, MakesAll}
use Rattle.output.proofs.Counter.{records-within}
use Rattle.output.proofs.Recs.{join-nil, join_assoc, count-join}
use Rattle.output.proofs.Framing.{all-as, all_none, all_one, all_join}

-- ---- a step that does not look at the place

module _ (f : Rec → ℕ → Out Rec) where
  -- `each` of it does not depend on where it starts
  pub each-flat : (i : ℕ) (ks : Recs) (n : ℕ) → each (λ _. f) i ks n ≡ flat (λ r m. single (f r m)) ks n
  unfolding each flat
  each-flat i nil n = refl
  each-flat i (cons r rs) n = ap (λ (y : Out Recs). (cons (f r n).0 y.0, (f r n).1 ++ y.1, y.2)) (each-flat (suc i) rs (f r n).2)

  pub each_anywhere : (i j : ℕ) (ks : Recs) (n : ℕ) → each (λ _. f) i ks n ≡ each (λ _. f) j ks n
  each_anywhere i j ks n = each-flat i ks n ∙ sym (each-flat j ks n)

  -- a step that is f from some place on: `each-behind g (λ i. suc (suc i)) (λ i. refl) (λ i r n. refl) 0 0 ks n`
  pub each-behind : (g : ℕ → Rec → ℕ → Out Rec) (k : ℕ → ℕ) → ((i : ℕ) → suc (k i) ≡ k (suc i)) → ((i : ℕ) (r : Rec) (n : ℕ) → g (k i) r n ≡ f r n) → (i j : ℕ) (ks : Recs) (n : ℕ)
      → each g (k i) ks n ≡ each (λ _. f) j ks n
  unfolding each
  each-behind g k up same i j nil n = refl
  each-behind g k up same i j (cons r rs) n =
      ap (λ (x : Out Rec). (cons x.0 (each g (suc (k i)) rs x.2).0, x.1 ++ (each g (suc (k i)) rs x.2).1, (each g (suc (k i)) rs x.2).2)) (same i r n)
      ∙ ap (λ (y : Out Recs). (cons (f r n).0 y.0, (f r n).1 ++ y.1, y.2))
      (ap (λ (m : ℕ). each g m rs (f r n).2) (up i) ∙ each-behind g k up same (suc i) (suc j) rs (f r n).2)

-- a step that changes nothing
pub each_pure : (i : ℕ) (ks : Recs) (n : ℕ) → each (λ _. pure) i ks n ≡ pure ks n
unfolding each
each_pure i nil n = refl
each_pure i (cons r rs) n = ap (λ (y : Out Recs). (cons r y.0, y.1, y.2)) (each_pure (suc i) rs n)

pub each-count : (f : ℕ → Rec → ℕ → Out Rec) (i : ℕ) (ks : Recs) (n : ℕ) → count (each f i ks n).0 ≡ count ks
unfolding each
each-count f i nil n = refl
each-count f i (cons r rs) n = ap suc (each-count f (suc i) rs (f i r n).2)

-- ---- loops

-- one step, then another
abbrev pub both : Out Recs → Out Recs → Out Recs
both x y = (join x.0 y.0, x.1 ++ y.1, y.2)

both_assoc : (x y z : Out Recs) → both x (both y z) ≡ both (both x y) z
both_assoc x y z = λ i. (sym (join_assoc x.0 y.0 z.0) i, sym (append_assoc x.1 y.1 z.1) i, z.2)

-- the records k are left; the step f is done on all before them, and that on all is `total`
pub record Making (f : Rec → ℕ → Out Recs) (total : Out Recs) (a b : Output) (k : Records) : Type 0 where
  pub low : b.names.id_counter ≤ k.at
  pub done : Out Recs
  pub makes : MakesAll a b done
  pub left : both done (flat f (recs_of k) b.names.id_counter) ≡ total

-- the same with the number n of the records that were made, b of them before the loop; each gives `most` at most, and all `limit`
pub record Numbering (before most limit : ℕ) (f : Rec → ℕ → Out Recs) (total : Out Recs) (a b : Output) (k : Records) (n : ℕ) : Type 0 where
  pub making : Making f total a b k
  pub many : n ≡ count making.done.0 + before
  pub few : n + most * k.count ≤ limit

-- where the next record begins, and how many lie before it
next-low : {k l : Records} {x : Record} {n m : ℕ} → FirstOf k x → RestOf k l → n ≤ k.at → m ≤ n + records (rec_of x) → m ≤ l.at
unfolding rec_of
next-low {k} {l} {x} e q h g =
    let p : end_at x.levels x.tree.now x.at ≡ l.at = rw (e.levels, e.tree, e.place) (sym q.place) in
    omega (arith, records-within x.levels x.tree.now x.at (accepted x), p, e.place, h, g)

module _ (f : Rec → ℕ → Out Recs) where
  pub making_start : (o : Output) (k : Records) → o.names.id_counter ≤ k.at → Making f (flat f (recs_of k) o.names.id_counter) o o k
  making_start o k l = record { low = l; done = (nil, [], o.names.id_counter); makes = all_none o; left = refl }

  module _ {total : Out Recs} {a b : Output} {k : Records} (i : Making f total a b k) where
    pub making_turn : {x : Record} {l : Records} {c : Output} → (0 < k.count) × FirstOf k x × RestOf k l → (f (rec_of x) b.names.id_counter).2 ≤ b.names.id_counter + records (rec_of x) → MakesAll b c (f (rec_of x) b.names.id_counter)
        → Making f total a c l
    unfolding flat
    making_turn {x} {l} {c} n high w =
        let y : Out Recs = f (rec_of x) b.names.id_counter in
        record {
          low = next-low n.1 n.2 i.low (omega (arith, w.step.counter, high));
          done = both i.done y;
          makes = all_join i.makes w;
          left =
              ap (λ (m : ℕ). both (both i.done y) (flat f (recs_of l) m)) w.step.counter
              ∙ (sym (both_assoc i.done y (flat f (recs_of l) y.2)) ∙ (ap (λ (ks : Recs). both i.done (flat f ks b.names.id_counter)) (sym (recs_step n.0 n.1 n.2)) ∙ i.left));
        }

    made_all : k.count ≡ 0 → i.done ≡ total
    unfolding flat
    made_all h = (λ j. (sym (join-nil i.done.0) j, sym (append-nil i.done.1) j, sym i.makes.step.counter j)) ∙ (ap (λ (ks : Recs). both i.done (flat f ks b.names.id_counter)) (sym (recs_none k h)) ∙ i.left)

    pub making_done : k.count ≡ 0 → MakesAll a b total
    making_done h = all-as i.makes (made_all h)

  -- ---- with a count

  pub numbering_start : (before most limit : ℕ) (o : Output) (k : Records) → o.names.id_counter ≤ k.at → before + most * k.count ≤ limit → Numbering before most limit f (flat f (recs_of k) o.names.id_counter) o o k before
  unfolding making_start
  numbering_start before most limit o k l e = record { making = making_start o k l; many = omega arith; few = e }

  module _ {before most limit : ℕ} {total : Out Recs} {a b : Output} {k : Records} {n : ℕ} (i : Numbering before most limit f total a b k n) where
    pub numbering_turn : {x : Record} {l : Records} {c : Output} {m : ℕ} → (0 < k.count) × FirstOf k x × RestOf k l → (f (rec_of x) b.names.id_counter).2 ≤ b.names.id_counter + records (rec_of x) → count (f (rec_of x) b.names.id_counter).0 ≤ most
        → MakesAll b c (f (rec_of x) b.names.id_counter) → m ≡ count (f (rec_of x) b.names.id_counter).0 → Numbering before most limit f total a c l (n + m)
    unfolding making_turn
    numbering_turn {x} {m = m} p high few w e = record {
      making = making_turn i.making p high w;
      many = omega (arith, i.many, e, count-join i.making.done.0 (f (rec_of x) b.names.id_counter).0);
      few = let z : k.count ≡ suc (k.count - 1) = omega (arith, p.0) in omega (arith, i.few, e, few, p.2.many, ap (λ (x : ℕ). most * x) z ∙ mul-suc most (k.count - 1), ap (λ (x : ℕ). most * x) p.2.many);
    }

    pub numbering_count : k.count ≡ 0 → n ≡ count total.0 + before
    numbering_count h = i.many ∙ ap (λ (x : Out Recs). count x.0 + before) (made_all i.making h)

-- ---- a step on each record

module _ (f : Rec → ℕ → Out Rec) where
  abbrev pub Eaching : Out Recs → Output → Output → Records → Type 0
  Eaching total a b k = Making (λ r m. single (f r m)) total a b k

  pub eaching_start : (i : ℕ) (o : Output) (k : Records) → o.names.id_counter ≤ k.at → Eaching (each (λ _. f) i (recs_of k) o.names.id_counter) o o k
  eaching_start i o k l = rw (each-flat f i (recs_of k) o.names.id_counter) (making_start (λ r m. single (f r m)) o k l)

  pub eaching_turn : {total : Out Recs} {a b c : Output} {k l : Records} {x : Record} → Eaching total a b k → (0 < k.count) × FirstOf k x × RestOf k l → (f (rec_of x) b.names.id_counter).2 ≤ b.names.id_counter + records (rec_of x)
      → Makes b c (f (rec_of x) b.names.id_counter) → Eaching total a c l
  eaching_turn i n high w = making_turn (λ r m. single (f r m)) i n high (all_one w)
