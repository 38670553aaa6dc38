-- The quasis and the expressions of a template, counted by a loop over children: what is counted of the children behind a place, and of all.
use mathlib.Core.Path.{◌≡◌, refl, sym, ap, ◌∙◌, subst}
use mathlib.Core.Bool.{Bool, true, false}
use mathlib.Core.List.{List, ◌∷◌}
use Prim.Native.Nat.{ℕ, zero, suc, ◌+◌, ◌-◌, ◌<◌, ◌≤◌}
use native.Mathlib.Decide.{dec_lt}
use native.Mathlib.Omega.{arith}
use Rattle.definition.specs.Tree.{mark_at, end_of_all, end_at, tree_at}
use Rattle.definition.specs.Grammar.{Part, mark, after}
use Rattle.definition.specs.Check.{Checked, fine, onward, check_all, check_at}
use Rattle.definition.specs.Children.{AcceptedAt, AllAccepted}
use Rattle.definition.specs.Record.{mark_of, text_of}
use Rattle.definition.specs.Text.{Token, tokens, quasis, behind_quasis, expressions}
use Rattle.definition.proofs.Accepted.{onward-fine}
use Rattle.definition.proofs.Children.{first_one, others}
use Rattle.definition.proofs.Kids.{is-mark, not-mark}
use Rattle.records.specs.declared.marks.Mark.{Mark}
use Rattle.records.specs.declared.marks.Mark.TheVariants.{Op, Qu}
use Rattle.records.proofs.SameMarks.{same_number}
use Rattle.records.specs.declared.tree.Record.{Record}
use Rattle.records.specs.declared.tree.Records.{Records}
use Rattle.records.specs.Marks.{number_of}
use Rattle.records.specs.Views.{rec_of, recs_of, FirstOf, RestOf}
use Rattle.records.proofs.Views.{all_here, mark_here}
use Rattle.declaration_text.specs.Templates.{Before, Quasis, Expressions, OfMark, Split, QuasisAre, ExpressionsAre}
use Rattle.declaration_text.proofs.Children.{end-more, children-none, children-first}

-- k of n children are left from c on, and what Q counts of these is counted of all
pub record Counting (Q : ℕ → ℕ → ℕ → Type 0) (levels : ℕ) (s : List ℕ) (n at k c : ℕ) : Type 0 where
  pub few : k ≤ n
  pub kids : AllAccepted levels s k c
  pub back : (r : ℕ) → Q k c r → Q n at (n - k + r)

pub counting_start : (Q : ℕ → ℕ → ℕ → Type 0) (levels : ℕ) (s : List ℕ) (n at : ℕ) → AllAccepted levels s n at → Counting Q levels s n at n at
counting_start Q levels s n at a = record { few = omega arith; kids = a; back = λ r. λ q. let z : n - n + r ≡ r = omega arith in rw z q }

module _ {Q : ℕ → ℕ → ℕ → Type 0} {levels : ℕ} {s : List ℕ} {n at k c : ℕ} (l : Counting Q levels s n at k c) where
  -- one more is counted
  pub counting_turn : 0 < k → ((r : ℕ) → Q (k - 1) (end_at levels s c) r → Q k c (suc r)) → {d : ℕ} → d ≡ end_at levels s c → Counting Q levels s n at (k - 1) d
  counting_turn h step e =
      let f = l.few in
      rw e (record {
        few = omega arith;
        kids = others levels s k c l.kids h;
        back = λ r. λ q. let z : n - (k - 1) + r ≡ n - k + suc r = omega arith in rw z (l.back (suc r) (step r q));
      })

  -- no more are counted
  pub counting_stop : Q k c 0 → Q n at (n - k)
  counting_stop q = let z : n - k ≡ n - k + 0 = omega arith in rw z (l.back 0 q)

module _ (levels : ℕ) (s : List ℕ) where
  pub quasis-none : (k c : ℕ) → k ≤ 0 → Quasis levels s k c 0
  unfolding quasis behind_quasis end_of_all
  quasis-none k c h = record {
    few = omega arith;
    texts = λ under. rw (children-none levels s under k c h, children-none levels s under 0 c (omega arith));
    behind = λ under. let z : k - 0 ≡ k = omega arith in rw (z, children-none levels s under k c h);
  }

  pub quasis-stop : (k c : ℕ) → AcceptedAt levels s c → 0 < k → (mark_at s c ≡ mark "Qu" → ⊥) → Quasis levels s k c 0
  unfolding quasis behind_quasis end_of_all
  quasis-stop k c a h n = record {
    few = omega arith;
    texts = λ under. rw (children-first levels s under k c a h, not-mark levels s c (mark "Qu") n, children-none levels s under 0 c (omega arith));
    behind = λ under. let z : k - 0 ≡ k = omega arith in rw (z, children-first levels s under k c a h, not-mark levels s c (mark "Qu") n);
  }

  pub quasis-more : (k c : ℕ) → AcceptedAt levels s c → 0 < k → mark_at s c ≡ mark "Qu" → (r : ℕ) → Quasis levels s (k - 1) (end_at levels s c) r → Quasis levels s k c (suc r)
  unfolding quasis behind_quasis end_of_all
  quasis-more k c a h e r q = let f = q.few in record {
    few = omega arith;
    texts = λ under. let z : suc r - 1 ≡ r = omega arith in
        rw (children-first levels s under k c a h, is-mark levels s c (mark "Qu") e, children-first levels s under (suc r) c a (omega arith), z)
        (ap (λ (ts : List (List ℕ)). text_of (tree_at levels s c) ∷ ts) (q.texts under));
    behind = λ under. let z : k - suc r ≡ k - 1 - r = omega arith in
        rw (children-first levels s under k c a h, is-mark levels s c (mark "Qu") e, z) (q.behind under);
  }

  pub expressions-none : (k c : ℕ) → k ≤ 0 → Expressions levels s k c 0
  unfolding expressions
  expressions-none k c h = record {
    few = omega arith;
    tokens = λ under. rw (children-none levels s under k c h, children-none levels s under 0 c (omega arith));
  }

  pub expressions-stop : (k c : ℕ) → AcceptedAt levels s c → 0 < k → mark_at s c ≡ mark "Op" → Expressions levels s k c 0
  unfolding expressions
  expressions-stop k c a h e = record {
    few = omega arith;
    tokens = λ under. rw (children-first levels s under k c a h, is-mark levels s c (mark "Op") e, children-none levels s under 0 c (omega arith));
  }

  pub expressions-more : (k c : ℕ) → AcceptedAt levels s c → 0 < k → (mark_at s c ≡ mark "Op" → ⊥) → (r : ℕ) → Expressions levels s (k - 1) (end_at levels s c) r → Expressions levels s k c (suc r)
  unfolding expressions
  expressions-more k c a h n r q = let f = q.few in record {
    few = omega arith;
    tokens = λ under. let z : suc r - 1 ≡ r = omega arith in
        rw (children-first levels s under k c a h, not-mark levels s c (mark "Op") n, children-first levels s under (suc r) c a (omega arith), z)
        (ap (λ (ts : List (List Token)). tokens (tree_at levels s c) under c ∷ ts) (q.tokens under));
  }

  -- what was counted by the mark
  module _ (P : ℕ → Bool → Type 0) where
    pub before-quasis : (r k c : ℕ) → AllAccepted levels s k c → Before P levels s k c r → ((m : ℕ) → P m true → m ≡ mark "Qu") → ((m : ℕ) → P m false → m ≡ mark "Qu" → ⊥) → Quasis levels s k c r
    unfolding Before
    before-quasis zero k c a b is isnt = go (dec_lt 0 k)
      where
        go : Dec (0 < k) → Quasis levels s k c 0
        go (yes h) = quasis-stop k c (first_one levels s k c a h) h (isnt (mark_at s c) (b h))
        go (no h) = quasis-none k c (omega arith)
    before-quasis (suc r) k c a b is isnt =
        quasis-more k c (first_one levels s k c a b.0) b.0 (is (mark_at s c) b.1.0) r
        (before-quasis r (k - 1) (end_at levels s c) (others levels s k c a b.0) b.1.1 is isnt)

    pub before-expressions : (r k c : ℕ) → AllAccepted levels s k c → Before P levels s k c r → ((m : ℕ) → P m true → m ≡ mark "Op" → ⊥) → ((m : ℕ) → P m false → m ≡ mark "Op") → Expressions levels s k c r
    unfolding Before
    before-expressions zero k c a b is isnt = go (dec_lt 0 k)
      where
        go : Dec (0 < k) → Expressions levels s k c 0
        go (yes h) = expressions-stop k c (first_one levels s k c a h) h (isnt (mark_at s c) (b h))
        go (no h) = expressions-none k c (omega arith)
    before-expressions (suc r) k c a b is isnt =
        expressions-more k c (first_one levels s k c a b.0) b.0 (is (mark_at s c) b.1.0) r
        (before-expressions r (k - 1) (end_at levels s c) (others levels s k c a b.0) b.1.1 is isnt)

-- ---- fewer records

front_fine : (levels : ℕ) (s : List ℕ) (n m at : ℕ) (ps : List Part) (e : ℕ) → m ≤ n → check_all (check_at levels s) s n at ps ≡ fine e
    → (x : ℕ) × (check_all (check_at levels s) s m at ps ≡ fine x)
unfolding check_all
front_fine levels s n zero at ps e h f = (at, refl)
front_fine levels s zero (suc m) at ps e h f = absurd (omega arith)
front_fine levels s (suc n) (suc m) at ps e h f =
    let u = onward-fine (check_at levels s at ps) (λ x. check_all (check_at levels s) s n x (after ps (mark_at s at))) e f in
    let w = front_fine levels s n m u.0 (after ps (mark_at s at)) e (omega arith) u.2 in
    (w.0, subst (λ (c : Checked). onward c (λ x. check_all (check_at levels s) s m x (after ps (mark_at s at))) ≡ fine w.0) (sym u.1) w.1)

-- the first m of n accepted records are accepted
pub all_front : (levels : ℕ) (s : List ℕ) (n at : ℕ) {m : ℕ} → AllAccepted levels s n at → m ≤ n → AllAccepted levels s m at
all_front levels s n at {m} a h =
    let z = front_fine levels s n m at a.slots a.past h a.checked in
    record { slots = a.slots; past = z.0; checked = z.1 }

-- ---- by records of the code

-- those behind rest are left, and what Before counts of these is counted of all
pub record Splitting (P : Mark → Bool → Type 0) (k rest : Records) : Type 0 where
  pub counting : Counting (Before (OfMark P) k.levels k.tree.now) k.levels k.tree.now k.count k.at rest.count rest.at
  pub tree : rest.tree ≡ k.tree
  pub place : rest.at ≡ end_of_all (end_at k.levels k.tree.now) (k.count - rest.count) k.at
  pub levels : rest.levels ≡ k.levels

pub splitting_start : (P : Mark → Bool → Type 0) (k : Records) → Splitting P k k
unfolding end_of_all
splitting_start P k = let z : k.count - k.count ≡ 0 = omega arith in record {
  counting = counting_start (Before (OfMark P) k.levels k.tree.now) k.levels k.tree.now k.count k.at (all_here k);
  tree = refl;
  place = rw z;
  levels = refl;
}

module _ {P : Mark → Bool → Type 0} {k rest : Records} (l : Splitting P k rest) where
  marked : {x : Record} → FirstOf rest x → (m : Mark) → number_of m ≡ mark_of (rec_of x) → number_of m ≡ mark_at k.tree.now rest.at
  marked {x} f m e = e ∙ sym (mark_here x) ∙ rw (f.tree, f.place, l.tree)

  pub splitting_turn : 0 < rest.count → {x : Record} → FirstOf rest x → (m : Mark) → number_of m ≡ mark_of (rec_of x) → P m true → {next : Records} → RestOf rest next → Splitting P k next
  unfolding Before
  splitting_turn h {x} f m e p {next} r =
      let w = l.counting.few in
      let n : k.count - next.count ≡ suc (k.count - rest.count) = omega (arith, r.many) in
      let g : next.at ≡ end_at k.levels k.tree.now rest.at = rw (← l.levels, ← l.tree) r.place in
      record {
        counting = rw r.many (counting_turn l.counting h (λ j q. (h, ((m, marked f m e, p), q))) g);
        tree = r.tree ∙ l.tree;
        place = g ∙ rw n (rw l.place (sym (end-more (end_at k.levels k.tree.now) (k.count - rest.count) k.at)));
        levels = r.levels ∙ l.levels;
      }

  module _ {front : Records} (t : front.tree ≡ k.tree) (a : front.at ≡ k.at) (v : front.levels ≡ k.levels) (c : front.count ≡ k.count - rest.count) where
    made : Before (OfMark P) k.levels k.tree.now k.count k.at (k.count - rest.count) → Split P k front rest
    made b = record {
      counted = rw c b;
      tree = t;
      place = a;
      levels = v;
      rest_tree = l.tree;
      rest_place = rw c l.place;
      rest_levels = l.levels;
      many = omega (arith, c, l.counting.few);
    }

    pub splitting_stop : 0 < rest.count → {x : Record} → FirstOf rest x → (m : Mark) → number_of m ≡ mark_of (rec_of x) → P m false → Split P k front rest
    unfolding Before
    splitting_stop h f m e p = made (counting_stop l.counting (λ _. (m, marked f m e, p)))

    pub splitting_done : rest.count ≤ 0 → Split P k front rest
    unfolding Before
    splitting_done h = made (counting_stop l.counting (λ z. absurd (omega (arith, z, h))))

-- what the parts are
module _ {P : Mark → Bool → Type 0} {k front rest : Records} (d : Split P k front rest) where
  few : front.count ≤ k.count
  few = omega (arith, d.many)

  pub quasis_are : ((m : Mark) → P m true → m ≡ Qu) → ((m : Mark) → P m false → m ≡ Qu → ⊥) → QuasisAre k front rest
  unfolding recs_of
  quasis_are on off =
      let n : rest.count ≡ k.count - front.count = omega (arith, d.many) in
      let q = before-quasis k.levels k.tree.now (OfMark P) front.count k.count k.at (all_here k) d.counted (λ j o. sym o.1 ∙ ap number_of (on o.0 o.2)) (λ j o e. off o.0 o.2 (same_number o.0 Qu (o.1 ∙ e))) in
      record {
        texts = λ under. rw (d.tree, d.place, d.levels) (q.texts under);
        behind = λ under. rw (d.rest_tree, d.rest_place, d.rest_levels, n) (q.behind under);
        tree = d.tree;
        place = d.place;
        levels = d.levels;
        rest_tree = d.rest_tree;
        rest_place = d.rest_place;
        rest_levels = d.rest_levels;
        many = d.many;
      }

  pub expressions_are : ((m : Mark) → P m true → m ≡ Op → ⊥) → ((m : Mark) → P m false → m ≡ Op) → ExpressionsAre k front
  unfolding recs_of
  expressions_are on off =
      let q = before-expressions k.levels k.tree.now (OfMark P) front.count k.count k.at (all_here k) d.counted (λ j o e. on o.0 o.2 (same_number o.0 Op (o.1 ∙ e))) (λ j o. sym o.1 ∙ ap number_of (off o.0 o.2)) in
      record {
        tokens = λ under. rw (d.tree, d.place, d.levels) (q.tokens under);
        tree = d.tree;
        place = d.place;
        levels = d.levels;
        few = few;
      }
