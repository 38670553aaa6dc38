-- The laws of the index: the order of texts, the search by halving, and a name that is entered.
use mathlib.Core.Path.{◌≡◌, refl, sym, ap, ◌∙◌}
use mathlib.Core.List.{List, [], ◌∷◌}
use mathlib.Core.Bool.{Bool, true, false, cond, ◌&&◌, ◌||◌}
use Prim.Native.Nat.{ℕ, ◌+◌, ◌-◌, ◌*◌, ◌/◌, ◌%◌, ◌<◌, ◌≤◌}
use native.Mathlib.Omega.{arith}
use lib.Dec.{eqb, ltb}
use lib.ListN.{length, get_or, take, drop, set, length-set}
use lib.Seq.{get_or-set_same, get_or-set_other, get_or-take, get_or-drop, length-take-le}
use borrow.Author.Tests.{eq-eqb, ne_eqb, eqb-true, lt-ltb, le-ltb, ltb-true, ltb-false}
use Rattle.definition.specs.Tree.{text_at, body_at}
use Rattle.definition.specs.Record.{same_text}
use Rattle.definition.specs.Prescan.{Question, Question.typeof_safe, Question.non_generic_class, Question.array_typed}
use Rattle.definition.proofs.Tests.{by_eq}
use mir.Val.{bool_byte}
use Rattle.index.specs.Index.{less_text, name_at, bit_of, pick, entry_of, joined_of, Sorted, Answers, Lower, name_is, Found, Inserted, Enters}
use Rattle.std.specs.Prelude.{Result, Ok, Err}
use Rattle.std.proofs.Common.{Ordering, Less, Equal, Greater}
use Rattle.std.specs.Ordering.{MatchOrdering, nat_cmp, is_lt, ordering_reverse}
use Rattle.std.specs.Cmp.Lexicographic.{slice_cmp}
use Rattle.std.specs.FinMap.{slice_cmp-IsAntisymmetric, nat_cmp-IsAntisymmetric}
use Rattle.std.proofs.Math.Bool.{or-false, and-false, or_assoc}
use Rattle.std.proofs.lemmas.Bool.{false_from_ne_true}
use Rattle.std.proofs.lemmas.List.{drop-set-add}
use Rattle.std.proofs.lemmas.Cmp.{same_from_slice_cmp, nat_list_cmp_total, tied_itself}
use Rattle.std.proofs.lemmas.Bool.Decides.{nat_tests}

-- ---- plain facts

pub never : {A : Type 0} {b : Bool} → b ≡ true → b ≡ false → A
never p q = absurd (let z : ◌≡◌ {A = ℕ} 0 1 = cc in omega arith)

-- a fact by whether a number is less than another
by_lt : {P : Type 0} (j k : ℕ) → (j < k → P) → (k ≤ j → P) → P
by_lt {P} j k y n = go (ltb j k) refl
  where
    go : (b : Bool) → ltb j k ≡ b → P
    go true e = y (ltb-true j k e)
    go false e = n (ltb-false j k e)

-- ---- equal texts

pub same_refl : (a : List ℕ) → same_text a a ≡ true
unfolding same_text
same_refl [] = refl
same_refl (x ∷ xs) = rw (eq-eqb x x refl) (same_refl xs)

pub same_eq : (a b : List ℕ) → same_text a b ≡ true → a ≡ b
unfolding same_text
same_eq [] [] e = refl
same_eq [] (y ∷ ys) e = never e refl
same_eq (x ∷ xs) [] e = never e refl
same_eq (x ∷ xs) (y ∷ ys) e = go (eqb x y) refl (λ f. same_eq xs ys f) e
  where
    go : (b : Bool) → eqb x y ≡ b → (same_text xs ys ≡ true → xs ≡ ys) → (b && same_text xs ys) ≡ true → (x ∷ xs) ≡ (y ∷ ys)
    go true q g f = let h : x ≡ y = eqb-true x y q in let t : xs ≡ ys = g f in cc
    go false q g f = never f refl

pub differs : {a b : List ℕ} → (a ≡ b → ⊥) → same_text a b ≡ false
differs {a} {b} n = false_from_ne_true (same_text a b) (λ e. n (same_eq a b e))

-- ---- the order of texts, which is that of slices

less_is : (a b : List ℕ) (o : Ordering) → o ≡ slice_cmp nat_cmp a b → is_lt o ≡ less_text a b
unfolding less_text
less_is = same_from_slice_cmp nat_cmp is_lt less_text refl (λ _ _. refl) (λ _ _. refl) (λ x y xs ys o h. grind (arith, nat_tests))

-- what an answer of `cmp` says of two texts
pub ordered : (a b : List ℕ) (o : Ordering) → o ≡ slice_cmp nat_cmp a b → MatchOrdering o (less_text a b ≡ true) (a ≡ b) (less_text b a ≡ true)
ordered a b Less e = sym (less_is a b Less e)
ordered a b Equal e = slice_cmp-IsAntisymmetric nat_cmp-IsAntisymmetric a b (sym e)
ordered a b Greater e = sym (less_is b a Less (sym (nat_list_cmp_total.antisymm b a ∙ ap ordering_reverse (sym e))))

is_less : (a b : List ℕ) → less_text a b ≡ true → slice_cmp nat_cmp a b ≡ Less
is_less a b p = go (slice_cmp nat_cmp a b) (less_is a b (slice_cmp nat_cmp a b) refl ∙ p)
  where
    go : (o : Ordering) → is_lt o ≡ true → o ≡ Less
    go Less e = refl
    go Equal e = never e refl
    go Greater e = never e refl

pub less_irrefl : (a : List ℕ) → less_text a a ≡ false
less_irrefl a = sym (less_is a a Equal (sym (tied_itself nat_list_cmp_total a)))

pub less_trans : (a b c : List ℕ) → less_text a b ≡ true → less_text b c ≡ true → less_text a c ≡ true
less_trans a b c p q = sym (less_is a c Less (sym (nat_list_cmp_total.trans a b c (is_less a b p) (is_less b c q))))

pub less-total : (a b : List ℕ) → less_text a b ≡ false → (a ≡ b → ⊥) → less_text b a ≡ true
less-total a b p n = go (slice_cmp nat_cmp a b) (ordered a b (slice_cmp nat_cmp a b) refl)
  where
    go : (o : Ordering) → MatchOrdering o (less_text a b ≡ true) (a ≡ b) (less_text b a ≡ true) → less_text b a ≡ true
    go Less e = never e p
    go Equal e = absurd (n e)
    go Greater e = e

-- a text before another is another, which is not before it
pub less-differs : {a b : List ℕ} → less_text a b ≡ true → a ≡ b → ⊥
less-differs {a} {b} p e = never p (sym (ap (less_text a) e) ∙ less_irrefl a)

less-one_way : (a b : List ℕ) → less_text a b ≡ true → less_text b a ≡ false
less-one_way a b p = false_from_ne_true (less_text b a) (λ q. never (less_trans a b a p q) (less_irrefl a))

-- ---- the search by halving

pub record Halving (s a : List ℕ) (n : ℕ) (t : List ℕ) (low high : ℕ) : Type 0 where
  pub range : low ≤ high
  pub within : high ≤ n
  pub before : (k : ℕ) → k < low → less_text (name_at s (get_or a k 0)) t ≡ true
  pub after : (k : ℕ) → high ≤ k → k < n → less_text t (name_at s (get_or a k 0)) ≡ true

module _ {s a : List ℕ} {n : ℕ} {t : List ℕ} {low high : ℕ} (i : Halving s a n t low high) where
  -- no entry has the name
  pub halving_done : high ≤ low → Lower s a n t low × (name_is s a n low t ≡ false)
  unfolding name_is
  halving_done h =
      let r = i.range in
      let w = i.within in (
        record { within = omega arith; before = i.before; after = λ k l m. less-one_way _ _ (i.after k (omega arith) m) },
        by_lt low n
            (λ (l : low < n). rw (differs (λ e. less-differs (i.after low (omega arith) l) (sym e))) (and-false (ltb low n)))
            (λ (l : n ≤ low). rw (le-ltb low n l)),
      )

  module _ (o : Sorted s a n) {m : ℕ} (l : low ≤ m) (g : m < high) where
    -- the entry at m has it
    pub halving_here : name_at s (get_or a m 0) ≡ t → Lower s a n t m × (name_is s a n m t ≡ true)
    unfolding name_is
    halving_here e =
        let w = i.within in (
          record {
            within = omega arith;
            before = λ k h. rw (sym e) (o.rises k m h (omega arith));
            after = λ k h j. rw (sym e) (by_eq m k
                (λ (q : m ≡ k). rw q (less_irrefl _))
                (λ (q : m ≡ k → ⊥). less-one_way _ _ (o.rises m k (by_lt m k (λ z. z) (λ z. absurd (q (omega arith)))) j)));
          },
          rw (lt-ltb m n (omega arith), e) (same_refl t),
        )

    pub halving_up : less_text (name_at s (get_or a m 0)) t ≡ true → Halving s a n t (m + 1) high
    halving_up e =
        let w = i.within in
        record {
          range = omega arith;
          within = w;
          before = λ k h. by_eq k m
              (λ (q : k ≡ m). rw q e)
              (λ (q : k ≡ m → ⊥). less_trans _ (name_at s (get_or a m 0)) t (o.rises k m (by_lt k m (λ z. z) (λ z. absurd (q (omega arith)))) (omega arith)) e);
          after = i.after;
        }

    pub halving_down : less_text t (name_at s (get_or a m 0)) ≡ true → Halving s a n t low m
    halving_down e =
        let w = i.within in
        record {
          range = l;
          within = omega arith;
          before = i.before;
          after = λ k h j. by_eq k m
              (λ (q : k ≡ m). rw q e)
              (λ (q : k ≡ m → ⊥). less_trans t (name_at s (get_or a m 0)) _ e (o.rises m k (by_lt m k (λ z. z) (λ z. absurd (q (omega arith)))) j));
        }

-- ---- an entry

-- the number of a Bool
abbrev one : Bool → ℕ
one b = cond b 1 0

one-small : (b : Bool) → one b ≤ 1
one-small true = omega arith
one-small false = omega arith

twice : (b : Bool) → cond b 2 0 ≡ 2 * one b
twice true = refl
twice false = refl

fourfold : (b : Bool) → cond b 4 0 ≡ 4 * one b
fourfold true = refl
fourfold false = refl

one-is : (b : Bool) (n : ℕ) → n ≡ one b → eqb n 1 ≡ b
one-is true n e = eq-eqb n 1 e
one-is false n e = ne_eqb n 1 (λ f. omega arith)

one-byte : (b : Bool) → bool_byte b ≡ one b
one-byte true = refl
one-byte false = refl

module _ (id : ℕ) (a b c : Bool) where
  digits : entry_of id a b c ≡ id * 8 + one a + 2 * one b + 4 * one c
  unfolding entry_of
  digits = rw (twice b, fourfold c)

  -- as the code adds it up
  pub entry_sum : {x y z : ℕ} → x ≡ bool_byte a → y ≡ bool_byte b → z ≡ bool_byte c → id * 8 + x + 2 * y + 4 * z ≡ entry_of id a b c
  entry_sum p q r = rw (p, q, r, one-byte a, one-byte b, one-byte c) (sym digits)

  pub entry-id : entry_of id a b c / 8 ≡ id
  entry-id = omega (arith, digits, one-small a, one-small b, one-small c)

  pub entry_bit : (q : Question) → bit_of q (entry_of id a b c) ≡ pick q a b c
  entry_bit typeof_safe = one-is a (entry_of id a b c / 1 % 2) (omega (arith, digits, one-small a, one-small b, one-small c))
  entry_bit non_generic_class = one-is b (entry_of id a b c / 2 % 2) (omega (arith, digits, one-small a, one-small b, one-small c))
  entry_bit array_typed = one-is c (entry_of id a b c / 4 % 2) (omega (arith, digits, one-small a, one-small b, one-small c))

-- ---- what stands at the place of a name

module _ {s a : List ℕ} {n : ℕ} {t : List ℕ} {p : ℕ} (w : Lower s a n t p) where
  pub hit-within : name_is s a n p t ≡ true → p < n
  unfolding name_is
  hit-within e = by_lt p n (λ h. h) (λ h. never e (rw (le-ltb p n h)))

  pub hit-name : name_is s a n p t ≡ true → name_at s (get_or a p 0) ≡ t
  unfolding name_is
  hit-name e = same_eq _ _ (rw (lt-ltb p n (hit-within e)) at e)

  pub hit : (F : Question → List ℕ → Bool) → Answers s a n F → name_is s a n p t ≡ true → (q : Question) → F q t ≡ bit_of q (get_or a p 0)
  hit F o e q = sym (ap (F q) (hit-name e)) ∙ o.found p (hit-within e) q

  module _ (o : Sorted s a n) where
    -- no entry has the name
    pub miss-all : name_is s a n p t ≡ false → (k : ℕ) → k < n → name_at s (get_or a k 0) ≡ t → ⊥
    unfolding name_is
    miss-all e k h f =
        by_lt k p
        (λ (l : k < p). less-differs (w.before k l) f)
        (λ (l : p ≤ k). by_eq p k
        (λ (q : p ≡ k). never (rw (q, f) (same_refl t)) (rw (lt-ltb p n (omega arith)) at e))
        (λ (q : p ≡ k → ⊥). let r : p < k = by_lt p k (λ z. z) (λ z. absurd (q (omega arith))) in
        never (ap (less_text (name_at s (get_or a p 0))) (sym f) ∙ o.rises p k r h) (w.after p (omega arith) (omega arith))))

    pub miss : (F : Question → List ℕ → Bool) → Answers s a n F → name_is s a n p t ≡ false → (q : Question) → F q t ≡ false
    miss F g e q = g.missing t (miss-all e) q

-- ---- a name is entered

-- what the name t adds
abbrev Under : List ℕ → Bool → Bool → Bool → Question → List ℕ → Bool
Under t x y z q u = same_text t u && pick q x y z

under_other : {t u : List ℕ} (x y z : Bool) → (t ≡ u → ⊥) → (q : Question) → Under t x y z q u ≡ false
under_other x y z n q = rw (differs n)

under_same : (t : List ℕ) (x y z : Bool) (q : Question) → Under t x y z q t ≡ pick q x y z
under_same t x y z q = rw (same_refl t)

-- t is the name of an entry
module _ {s a : List ℕ} {n : ℕ} {t : List ℕ} {p : ℕ} (o : Sorted s a n) (w : Lower s a n t p) (x y z : Bool) where
  -- which gets more bits
  module _ (e : name_is s a n p t ≡ true) where
    b : List ℕ
    b = set a p (joined_of (get_or a p 0) x y z)

    here : get_or b p 0 ≡ joined_of (get_or a p 0) x y z
    unfolding b
    here = get_or-set_same a p _ 0 (omega (arith, o.room, hit-within w e))

    there : (k : ℕ) → (k ≡ p → ⊥) → get_or b k 0 ≡ get_or a k 0
    unfolding b
    there k h = get_or-set_other a p k _ 0 h

    ids : (k : ℕ) → get_or b k 0 / 8 ≡ get_or a k 0 / 8
    ids k = by_eq k p
        (λ (h : k ≡ p). rw (h, here) (entry-id (get_or a p 0 / 8) (bit_of typeof_safe (get_or a p 0) || x) (bit_of non_generic_class (get_or a p 0) || y) (bit_of array_typed (get_or a p 0) || z)))
        (λ h. rw (there k h))

    names : (k : ℕ) → name_at s (get_or b k 0) ≡ name_at s (get_or a k 0)
    names k = ap (text_at s) (ids k)

    picked : (q : Question) → bit_of q (get_or b p 0) ≡ (bit_of q (get_or a p 0) || pick q x y z)
    picked q =
        ap (bit_of q) here ∙
        (entry_bit (get_or a p 0 / 8) (bit_of typeof_safe (get_or a p 0) || x) (bit_of non_generic_class (get_or a p 0) || y) (bit_of array_typed (get_or a p 0) || z) q ∙ go q)
      where
        go : (q : Question) → pick q (bit_of typeof_safe (get_or a p 0) || x) (bit_of non_generic_class (get_or a p 0) || y) (bit_of array_typed (get_or a p 0) || z) ≡ (bit_of q (get_or a p 0) || pick q x y z)
        go typeof_safe = refl
        go non_generic_class = refl
        go array_typed = refl

    other : (k : ℕ) → k < n → (k ≡ p → ⊥) → t ≡ name_at s (get_or b k 0) → ⊥
    other k h g f =
        let v : name_at s (get_or a k 0) ≡ name_at s (get_or a p 0) = sym (names k) ∙ (sym f ∙ sym (hit-name w e)) in
        by_lt k p
        (λ (l : k < p). less-differs (o.rises k p l (hit-within w e)) v)
        (λ (l : p ≤ k). less-differs (o.rises p k (by_lt p k (λ z. z) (λ z. absurd (g (omega arith)))) h) (sym v))

    pub join-enters : Enters s a n (set a p (joined_of (get_or a p 0) x y z)) n (Under t x y z)
    unfolding b
    join-enters = record {
      sorted = record {
        room = omega (arith, length-set a p (joined_of (get_or a p 0) x y z), o.room);
        inside = λ k h. rw (ids k) (o.inside k h);
        rises = λ j k h l. rw (names j, names k) (o.rises j k h l);
      };
      step = λ F g. record {
        found = λ k h q. by_eq k p
            (λ (m : k ≡ p). rw m (ap (λ (u : List ℕ). F q u || Under t x y z q u) (names p ∙ hit-name w e) ∙ (rw (hit w F g e q, under_same t x y z q) (sym (picked q)))))
            (λ (m : k ≡ p → ⊥). rw (under_other x y z (other k h m) q, or-false, names k, there k m) (g.found k h q));
        missing = λ u m q.
            rw (g.missing u (λ k h f. m k h (names k ∙ f)) q) (under_other x y z (λ f. m p (hit-within w e) (names p ∙ (hit-name w e ∙ f))) q);
      };
    }

    -- in a list behind others
    pub joins : (i : ℕ) (c d : List ℕ) → a ≡ drop i c → d ≡ set c (i + p) (joined_of (get_or c (i + p) 0) x y z) → Enters s a n (drop i d) n (Under t x y z)
    joins i c d aq dq =
        rw (dq, drop-set-add i c p (joined_of (get_or c (i + p) 0) x y z), sym (get_or-drop i c p 0), sym aq) join-enters

  -- no entry has it: a new one at its place
  module _ (e : name_is s a n p t ≡ false) (id : ℕ) (tq : t ≡ text_at s id) (lies : body_at s id ≤ length s) {f : List ℕ} (d : Inserted a f n p (entry_of id x y z)) where
    new-here : get_or f p 0 ≡ entry_of id x y z
    new-here = d.here

    new-below : (k : ℕ) → k < p → get_or f k 0 ≡ get_or a k 0
    new-below = d.below

    new-above : (k : ℕ) → p < k → k < n + 1 → get_or f k 0 ≡ get_or a (k - 1) 0
    new-above k l m = d.above k l (omega arith)

    -- an entry of the new table is the new one or an old one
    place_of : (P : ℕ → Type 0) (k : ℕ) → k < n + 1 → (k ≡ p → P (entry_of id x y z)) → ((j : ℕ) → j < n → P (get_or a j 0)) → P (get_or f k 0)
    place_of P k l u v =
        by_lt k p
        (λ (m : k < p). rw (new-below k m) (v k (omega (arith, w.within))))
        (λ (m : p ≤ k). by_eq k p
        (λ (g : k ≡ p). rw (g, new-here) (u g))
        (λ (g : k ≡ p → ⊥). rw (new-above k (by_lt p k (λ z. z) (λ z. absurd (g (omega arith)))) l) (v (k - 1) (omega (arith, (by_lt {P = p < k} p k (λ z. z) (λ z. absurd (g (omega arith)))))))))

    name_new : name_at s (entry_of id x y z) ≡ t
    name_new = ap (text_at s) (entry-id id x y z) ∙ sym tq

    not_old : (j : ℕ) → j < n → t ≡ name_at s (get_or a j 0) → ⊥
    not_old j l g = miss-all w o e j l (sym g)

    -- the new name is before those that have moved
    before_old : (j : ℕ) → p ≤ j → j < n → less_text t (name_at s (get_or a j 0)) ≡ true
    before_old j l m = less-total _ _ (w.after j l m) (miss-all w o e j m)

    new-rises : (j k : ℕ) → j < k → k < n + 1 → less_text (name_at s (get_or f j 0)) (name_at s (get_or f k 0)) ≡ true
    new-rises j k l m =
        by_lt k p
        (λ (u : k < p). rw (new-below j (omega arith), new-below k u) (o.rises j k l (omega (arith, w.within))))
        (λ (u : p ≤ k). by_eq k p
        (λ (g : k ≡ p). rw (new-below j (omega arith), g, new-here, name_new) (w.before j (omega arith)))
        (λ (g : k ≡ p → ⊥). let v : p < k = by_lt p k (λ z. z) (λ z. absurd (g (omega arith))) in
        by_lt j p
        (λ (i : j < p). rw (new-below j i, new-above k v m) (o.rises j (k - 1) (omega arith) (omega arith)))
        (λ (i : p ≤ j). by_eq j p
        (λ (r : j ≡ p). rw (r, new-here, name_new, new-above k v m) (before_old (k - 1) (omega arith) (omega arith)))
        (λ (r : j ≡ p → ⊥). let i : p < j = by_lt p j (λ z. z) (λ z. absurd (r (omega arith))) in
        rw (new-above j i (omega arith), new-above k v m) (o.rises (j - 1) (k - 1) (omega arith) (omega arith))))))

    -- where an old entry is now
    moved : (j : ℕ) → j < n → (k : ℕ) × (k < n + 1) × (get_or f k 0 ≡ get_or a j 0)
    moved j l =
        by_lt j p
        (λ (m : j < p). (j, omega arith, new-below j m))
        (λ (m : p ≤ j). (j + 1, omega arith, new-above (j + 1) (omega arith) (omega arith) ∙ (let z : j + 1 - 1 ≡ j = omega arith in ap (λ (i : ℕ). get_or a i 0) z)))

    pub new-enters : Enters s a n f (n + 1) (Under t x y z)
    new-enters = record {
      sorted = record {
        room = omega (arith, d.room);
        inside = λ k l. place_of (λ (i : ℕ). body_at s (i / 8) ≤ length s) k l (λ _. rw (entry-id id x y z) lies) o.inside;
        rises = new-rises;
      };
      step = λ F g. record {
        found = λ k l q. place_of (λ (i : ℕ). (F q (name_at s i) || Under t x y z q (name_at s i)) ≡ bit_of q i) k l
            (λ _. rw (name_new, miss w o F g e q, under_same t x y z q) (sym (entry_bit id x y z q)))
            (λ j m. rw (under_other x y z (not_old j m) q, or-false) (g.found j m q));
        missing = λ u m q.
            rw (g.missing u (λ j l r. m (moved j l).0 (moved j l).1 (ap (name_at s) (moved j l).2 ∙ r)) q)
            (under_other x y z (λ r. m p (omega (arith, w.within)) (ap (name_at s) new-here ∙ (name_new ∙ r))) q);
      };
    }

-- ---- what is entered one after the other

pub enters_none : {s a : List ℕ} {n : ℕ} {G : Question → List ℕ → Bool} → Sorted s a n → ((q : Question) (t : List ℕ) → G q t ≡ false) → Enters s a n a n G
enters_none {G = G} o none = record {
  sorted = o;
  step = λ F g. record {
    found = λ k h q. rw (none q _, or-false) (g.found k h q);
    missing = λ t m q. rw (g.missing t m q) (none q t);
  };
}

pub enters_eq : {s a b : List ℕ} {n m : ℕ} {G H : Question → List ℕ → Bool} → ((q : Question) (t : List ℕ) → H q t ≡ G q t) → Enters s a n b m G → Enters s a n b m H
enters_eq same i = record {
  sorted = i.sorted;
  step = λ F g. record {
    found = λ k h q. rw (same q _) ((i.step F g).found k h q);
    missing = λ t m q. rw (same q t) ((i.step F g).missing t m q);
  };
}

pub enters_then : {s a b c : List ℕ} {n m l : ℕ} {G H : Question → List ℕ → Bool} → Enters s a n b m G → Enters s b m c l H → Enters s a n c l (λ q t. G q t || H q t)
enters_then {G = G} {H = H} i j = record {
  sorted = j.sorted;
  step = λ F g.
      let r = j.step (λ q t. F q t || G q t) (i.step F g) in
      record {
        found = λ k h q. sym (or_assoc (F q _) (G q _) (H q _)) ∙ r.found k h q;
        missing = λ t m q. sym (or_assoc (F q t) (G q t) (H q t)) ∙ r.missing t m q;
      };
}

-- ---- the part of a table that is filled

-- no name is entered yet
pub answers-nothing : (s a : List ℕ) → Answers s a 0 (λ q t. false)
answers-nothing s a = record { found = λ k h q. absurd (omega arith); missing = λ t m q. refl }

pub sorted-nothing : (s a : List ℕ) → Sorted s a 0
sorted-nothing s a = record { room = omega arith; inside = λ k h. absurd (omega arith); rises = λ j k h l. absurd (omega arith) }

module _ {s a : List ℕ} {n : ℕ} (o : Sorted s a n) where
  front : (k : ℕ) → k < length (take n a) → k < n
  front k h = omega (arith, length-take-le n a o.room)

  pub sorted_front : Sorted s (take n a) (length (take n a))
  sorted_front = record {
    room = omega arith;
    inside = λ k h. rw (get_or-take n a k 0 (front k h)) (o.inside k (front k h));
    rises = λ j k h l. let m : j < n = omega (arith, front k l) in rw (get_or-take n a j 0 m, get_or-take n a k 0 (front k l)) (o.rises j k h (front k l));
  }

  pub answers-front : {F : Question → List ℕ → Bool} → Answers s a n F → Answers s (take n a) (length (take n a)) F
  answers-front g = record {
    found = λ k h q. rw (get_or-take n a k 0 (front k h)) (g.found k (front k h) q);
    missing = λ t m q. g.missing t (λ k h e. m k (omega (arith, length-take-le n a o.room)) (rw (get_or-take n a k 0 h) e)) q;
  }

-- what is found among them alone is found among all
module _ {s a : List ℕ} {n : ℕ} (o : Sorted s a n) where
  name-front : (t : List ℕ) (p : ℕ) → name_is s (take n a) (length (take n a)) p t ≡ name_is s a n p t
  unfolding name_is
  name-front t p =
      rw (length-take-le n a o.room)
      (by_lt p n
      (λ (l : p < n). rw (get_or-take n a p 0 l))
      (λ (l : n ≤ p). rw (le-ltb p n l)))

  lower_front : {t : List ℕ} {p : ℕ} → Lower s (take n a) (length (take n a)) t p → Lower s a n t p
  lower_front {t} {p} w =
      let e : length (take n a) ≡ n = length-take-le n a o.room in
      let h : p ≤ n = omega (arith, w.within) in
      record {
        within = h;
        before = λ k l. let m : k < n = omega arith in rw (sym (get_or-take n a k 0 m)) (w.before k l);
        after = λ k l m. rw (sym (get_or-take n a k 0 m)) (w.after k l (omega arith));
      }

  pub found_front : (t : List ℕ) (r : Result ℕ ℕ) → Found s (take n a) (length (take n a)) t r → Found s a n t r
  found_front t (Ok p) f = (lower_front f.0, sym (name-front t p) ∙ f.1)
  found_front t (Err p) f = (lower_front f.0, sym (name-front t p) ∙ f.1)
