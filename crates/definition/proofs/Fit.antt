-- What fits the widths of a record, and the laws of it for records made afresh and for the combinators. The length of a text counts up to a slack x:
-- with the slack 4 every text fits that can be made, with the slack 0 every text fits a head (reading 20). A name that is made is bounded by the
-- name counter, which rises once at most for each Xe and each Ag.
use mathlib.Core.Path.{◌≡◌, refl}
use mathlib.Core.List.{List, [], ◌++◌}
use mathlib.Core.Bool.{Bool, true, false, cond, ◌&&◌, ◌||◌}
use mathlib.Core.Option.{Option, none, some}
use Prim.Native.Nat.{ℕ, zero, suc, ◌+◌, ◌-◌, ◌≤◌, ◌<◌}
use Prim.Native.String.{String}
use native.Mathlib.Omega.{arith}
use lib.Dec.{eqb, ltb}
use lib.ListN.{length, length-drop}
use borrow.Author.Tests.{ltb-true}
use Rattle.definition.specs.Tree.{flags_end, Head, Rec, Recs, rec, nil, cons, count, le4, Bytes}
use Rattle.definition.specs.Grammar.{mark}
use Rattle.definition.specs.Record.{text, head_of, kids_of, is_no, symbol_of, dummy_sp, fresh, ranged, absent, ident, ident_at, with_flags, flag1, flagged, kid, set_kid, one, join, given, gone, Diag, Out, pure, if_m, on_value, wrap, each, flat, at_kid, second}
use Rattle.definition.specs.Helpers.{ts_keyword_type, any_type_ann}
use Rattle.definition.specs.Names.{gen_unique_name}
use Rattle.definition.specs.Typing.{or_any}
use Rattle.definition.specs.Widths.{KeysUpTo, AllKeysUpTo}
use Rattle.definition.proofs.Texts.{bytes-none, bytes_append, bytes_drop, all_bytes, written, name-length, name-bytes}

-- ---- the names that a tree can ask for

-- whether a record with the mark m can: an Xe for its const, an Ag for its parameter
abbrev pub weight : ℕ → ℕ
weight m = cond (eqb m (mark "Xe") || eqb m (mark "Ag")) 1 0

abbrev mutual
  pub names : Rec → ℕ
  names (rec h ks) = weight h.mark + all_names ks

  pub all_names : Recs → ℕ
  all_names nil = 0
  all_names (cons r rs) = names r + all_names rs

pub kid-names : (i : ℕ) (ks : Recs) → names (kid i ks) ≤ all_names ks
kid-names i nil = omega arith
kid-names zero (cons r rs) = omega arith
kid-names (suc i) (cons r rs) = omega (arith, kid-names i rs)

-- the keys that the slack x allows
abbrev pub Keys : ℕ → Rec → Type 0
Keys x r = KeysUpTo (65531 + x) r

abbrev pub AllKeys : ℕ → Recs → Type 0
AllKeys x rs = AllKeysUpTo (65531 + x) rs

-- with the counter at n, the text of a name fits after w more
abbrev pub Room : ℕ → ℕ → Type 0
Room n w = n + w + 10 < 65536

-- ---- what fits

-- the fields of a record over n children
pub record Sound (x : ℕ) (h : Head) (n : ℕ) : Type 0 where
  pub mark : h.mark < 65536
  pub flags : h.flags < flags_end
  pub start : h.start < 4294967296
  pub end : h.end < 4294967296
  pub text : length h.text < 65536 + x
  pub bytes : Bytes h.text
  pub count : n < 65536

-- and of all that it holds
abbrev mutual
  pub Fit : ℕ → Rec → Type 0
  Fit x (rec h ks) = Sound x h (count ks) × FitAll x ks

  pub FitAll : ℕ → Recs → Type 0
  FitAll x nil = Unit {0}
  FitAll x (cons r rs) = Fit x r × FitAll x rs

-- at most m records
abbrev pub Few : ℕ → ℕ → Recs → Type 0
Few x m rs = FitAll x rs × (count rs ≤ m)

-- a value, if there is one
abbrev pub Given : {A : Type 0} → (A → Type 0) → Option A → Type 0
Given P none = Unit {0}
Given P (some a) = P a

-- a step that began with the counter at n made what it should, and the counter rose by w at most
pub record Makes {A : Type 0} (P : A → Type 0) (n w : ℕ) (o : Out A) : Type 0 where
  pub value : P o.0
  pub counter : o.2 ≤ n + w

-- the laws of it for every kind of value

pub pure-makes : {A : Type 0} {P : A → Type 0} {a : A} {n w : ℕ} → P a → Makes P n w (pure a n)
pure-makes p = record { value = p; counter = omega arith }

pub more : {A : Type 0} {P : A → Type 0} {n w v : ℕ} {o : Out A} → Makes P n w o → w ≤ v → Makes P n v o
more m l = record { value = m.value; counter = omega (arith, m.counter) }

pub on_value-makes : {A B : Type 0} {P : A → Type 0} {Q : B → Type 0} {n w : ℕ} {o : Out A} (f : A → B) → ((a : A) → P a → Q (f a)) → Makes P n w o →
    Makes Q n w (on_value f o)
on_value-makes {o = o} f q m = record { value = q o.0 m.value; counter = m.counter }

pub if_m-makes : {A : Type 0} {P : A → Type 0} {n w : ℕ} (b : Bool) (f g : ℕ → Out A) → Makes P n w (f n) → Makes P n w (g n) → Makes P n w (if_m b f g n)
if_m-makes true f g p q = p
if_m-makes false f g p q = q

-- ---- heads

-- a mark has two bytes
abbrev pub plain : String → Bool
plain s = ltb (mark s) 65536

module _ (x : ℕ) where
  pub fresh-sound : (s : String) → plain s ≡ true → (f : ℕ) → f < flags_end → (t : List ℕ) → length t < 65536 + x → Bytes t → (n : ℕ) → n < 65536 →
      Sound x (fresh s f t) n
  fresh-sound s e f fl t tl tb n nl = record {
    mark = ltb-true (mark s) 65536 e;
    flags = fl;
    start = omega arith;
    end = omega arith;
    text = tl;
    bytes = tb;
    count = nl;
  }

  pub ranged-sound : (s : String) → plain s ≡ true → (h : Head) (m : ℕ) → Sound x h m → (t : List ℕ) → length t < 65536 + x → Bytes t → (n : ℕ) → n < 65536 →
      Sound x (ranged s h t) n
  ranged-sound s e h m g t tl tb n nl = record {
    mark = ltb-true (mark s) 65536 e;
    flags = omega arith;
    start = g.start;
    end = g.end;
    text = tl;
    bytes = tb;
    count = nl;
  }

  -- another count, other flags
  pub recount : (h : Head) (m n : ℕ) → Sound x h m → n < 65536 → Sound x h n
  recount h m n g l = record {
    mark = g.mark;
    flags = g.flags;
    start = g.start;
    end = g.end;
    text = g.text;
    bytes = g.bytes;
    count = l;
  }

  pub reflag : (h : Head) (f n : ℕ) → f < flags_end → Sound x h n → Sound x (with_flags h f) n
  reflag h f n l g = record {
    mark = g.mark;
    flags = l;
    start = g.start;
    end = g.end;
    text = g.text;
    bytes = g.bytes;
    count = g.count;
  }

  pub flag1-fits : (b : Bool) (f : ℕ) → f < flags_end → flag1 b f < flags_end
  flag1-fits true f l = omega arith
  flag1-fits false f l = omega arith

  pub flagged-fits : (r : Rec) → Fit x r → Fit x (flagged r)
  flagged-fits (rec h ks) g = (reflag h (flag1 true h.flags) (count ks) (flag1-fits true h.flags g.0.flags) g.0, g.1)

  -- ---- records made afresh

  pub absent-fits : Fit x absent
  absent-fits = (fresh-sound "No" refl 0 (omega arith) [] (omega arith) bytes-none 0 (omega arith), tt)

  -- a keyword: `keyword-fits "any" refl`
  pub keyword-fits : (s : String) → (ltb (length (text s)) 65536 && all_bytes (text s)) ≡ true → Fit x (ts_keyword_type dummy_sp s)
  keyword-fits s e = go (ltb (length (text s)) 65536) refl e
    where
      go : (b : Bool) → ltb (length (text s)) 65536 ≡ b → (b && all_bytes (text s)) ≡ true → Fit x (ts_keyword_type dummy_sp s)
      go true q h =
          let l = ltb-true (length (text s)) 65536 q in
          (fresh-sound "Kw" refl 0 (omega arith) (text s) (omega (arith, l)) (written (text s) h) 0 (omega arith), tt)
      go false q h = absurd (let z : ◌≡◌ {A = ℕ} 0 1 = cc in omega arith)

  pub any-fits : Fit x (any_type_ann dummy_sp)
  any-fits = keyword-fits "any" refl

  -- one child, two, in a record without text
  pub over-one : (s : String) → plain s ≡ true → (r : Rec) → Fit x r → Fit x (rec (fresh s 0 []) (one r))
  over-one s e r g = (fresh-sound s e 0 (omega arith) [] (omega arith) bytes-none 1 (omega arith), (g, tt))

  pub over-two : (s : String) → plain s ≡ true → (f : ℕ) → f < flags_end → (a b : Rec) → Fit x a → Fit x b → Fit x (rec (fresh s f []) (cons a (one b)))
  over-two s e f l a b g k = (fresh-sound s e f l [] (omega arith) bytes-none 2 (omega arith), (g, (k, tt)))

  -- an Id with the range of a record: its name is a text, the symbol of an Id, or made
  pub ident_at-fits : (h : Head) (m : ℕ) → Sound x h m → (name : List ℕ) → 4 + length name < 65536 + x → Bytes name → Fit x (ident_at h name)
  ident_at-fits h m g name l b =
      (ranged-sound "Id" refl h m g (le4 0 ++ name) (omega arith) (bytes_append (le4 0) name (written (le4 0) refl) b) 0 (omega arith), tt)

  pub symbol-short : (i : Rec) → Fit x i → 4 + length (symbol_of i) < 65536 + x
  symbol-short (rec h ks) g = simp length-drop (omega (arith, g.0.text))

  pub symbol-bytes : (i : Rec) → Fit x i → Bytes (symbol_of i)
  symbol-bytes (rec h ks) g = bytes_drop 4 h.text g.0.bytes

  pub named-fits : (h : Head) (m : ℕ) → Sound x h m → (n : ℕ) → n + 10 < 65536 → Fit x (ident_at h (gen_unique_name n))
  named-fits h m g n l =
      (ranged-sound "Id" refl h m g (le4 0 ++ gen_unique_name n) (omega (arith, name-length n)) (name-bytes n) 0 (omega arith), tt)

  pub ident-fits : (n : ℕ) → n + 10 < 65536 → Fit x (ident dummy_sp (gen_unique_name n))
  ident-fits n l = (fresh-sound "Id" refl 0 (omega arith) (le4 0 ++ gen_unique_name n) (omega (arith, name-length n)) (name-bytes n) 0 (omega arith), tt)

  -- ---- children

  pub kid-fits : (i : ℕ) (ks : Recs) → FitAll x ks → Fit x (kid i ks)
  kid-fits i nil g = absent-fits
  kid-fits zero (cons r rs) g = g.0
  kid-fits (suc i) (cons r rs) g = kid-fits i rs g.1

  pub kid_keys : (i : ℕ) (ks : Recs) → AllKeys x ks → Keys x (kid i ks)
  kid_keys i nil q = (λ e f. absurd (omega (arith, e)), tt)
  kid_keys zero (cons r rs) q = q.0
  kid_keys (suc i) (cons r rs) q = kid_keys i rs q.1

  pub set_kid-fits : (i : ℕ) (v : Rec) (ks : Recs) (m : ℕ) → Fit x v → Few x m ks → Few x m (set_kid i v ks)
  set_kid-fits i v nil m k g = g
  set_kid-fits zero v (cons r rs) m k g = ((k, g.0.1), g.1)
  set_kid-fits (suc i) v (cons r rs) m k g =
      let l : suc (count rs) ≤ m = g.1 in
      let b : Few x (m - 1) (set_kid i v rs) = set_kid-fits i v rs (m - 1) k (g.0.1, omega arith) in
      ((g.0.0, b.0), omega (arith, b.1))

  pub join-fits : (xs ys : Recs) (a b : ℕ) → Few x a xs → Few x b ys → Few x (a + b) (join xs ys)
  join-fits nil ys a b g k = (k.0, omega (arith, k.1))
  join-fits (cons r rs) ys a b g k =
      let l : suc (count rs) ≤ a = g.1 in
      let j : Few x (a - 1 + b) (join rs ys) = join-fits rs ys (a - 1) b (g.0.1, omega arith) k in
      ((g.0.0, j.0), omega (arith, j.1))

  pub gone-fits : (r : Rec) → Fit x r → Fit x (gone r)
  gone-fits r g = go (is_no r)
    where
      go : (b : Bool) → Fit x (cond b r absent)
      go true = g
      go false = absent-fits

  -- other children, not more, under a head
  pub rehead : (h : Head) (m : ℕ) (ks : Recs) → Sound x h m → Few x m ks → Fit x (rec h ks)
  rehead h m ks g k = (recount h m (count ks) g (omega (arith, k.1, g.count)), k.0)

  pub all-few : (ks : Recs) → FitAll x ks → Few x (count ks) ks
  all-few ks g = (g, omega arith)

  -- the parts of a record that has not been taken apart
  pub head_sound : (r : Rec) → Fit x r → Sound x (head_of r) (count (kids_of r))
  head_sound (rec h ks) g = g.0

  pub kids-fit : (r : Rec) → Fit x r → FitAll x (kids_of r)
  kids-fit (rec h ks) g = g.1

  pub given-cond : (b : Bool) (s t : Option Rec) → Given (Fit x) s → Given (Fit x) t → Given (Fit x) (cond b s t)
  given-cond true s t p q = p
  given-cond false s t p q = q

  -- ---- steps

  pub or_any-makes : {n w : ℕ} (o : Out (Option Rec)) (ds : List Diag) → Makes (Given (Fit x)) n w o → Makes (Fit x) n w (or_any o ds)
  or_any-makes {n} {w} o ds m = go o.0 m.value
    where
      go : (t : Option Rec) → Given (Fit x) t → Makes (Fit x) n w (given t (any_type_ann dummy_sp, o.1 ++ ds, o.2) (λ t. (t, o.1, o.2)))
      go none p = record { value = any-fits; counter = m.counter }
      go (some t) p = record { value = p; counter = m.counter }

  -- one record, none, and a list that is no longer
  pub one-made : (r : Rec) → Fit x r → Few x 1 (one r)
  one-made r g = ((g, tt), omega arith)

  pub none_made : (m n w : ℕ) → Makes (Few x m) n w (pure nil n)
  none_made m n w = record { value = (tt, omega arith); counter = omega arith }

  pub at_most : {a b n w v : ℕ} {o : Out Recs} → Makes (Few x a) n w o → a ≤ b → w ≤ v → Makes (Few x b) n v o
  at_most m l k = record { value = (m.value.0, omega (arith, m.value.1)); counter = omega (arith, m.counter) }

  -- a step on a record, by the names that it can ask for
  abbrev pub Step : (Rec → ℕ → Out Rec) → Type 0
  Step f = (r : Rec) (n : ℕ) → Fit x r → Keys x r → Room n (names r) → Makes (Fit x) n (names r) (f r n)

  pub each_makes : (f : ℕ → Rec → ℕ → Out Rec) → ((i : ℕ) → Step (f i)) → (i : ℕ) (ks : Recs) (n : ℕ) → FitAll x ks → AllKeys x ks → Room n (all_names ks) →
      Makes (Few x (count ks)) n (all_names ks) (each f i ks n)
  unfolding each
  each_makes f st i nil n g q l = none_made 0 n 0
  each_makes f st i (cons r rs) n g q l =
      let a = st i r n g.0 q.0 (omega arith) in
      let b = each_makes f st (suc i) rs (f i r n).2 g.1 q.1 (omega (arith, a.counter)) in
      record { value = ((a.value, b.value.0), omega (arith, b.value.1)); counter = omega (arith, a.counter, b.counter) }

  -- at most one record for each
  abbrev pub Step1 : (Rec → ℕ → Out Recs) → Type 0
  Step1 f = (r : Rec) (n : ℕ) → Fit x r → Keys x r → Room n (names r) → Makes (Few x 1) n (names r) (f r n)

  pub flat-makes : (f : Rec → ℕ → Out Recs) → Step1 f → (ks : Recs) (n : ℕ) → FitAll x ks → AllKeys x ks → Room n (all_names ks) →
      Makes (Few x (count ks)) n (all_names ks) (flat f ks n)
  unfolding flat
  flat-makes f st nil n g q l = none_made 0 n 0
  flat-makes f st (cons r rs) n g q l =
      let a = st r n g.0 q.0 (omega arith) in
      let b = flat-makes f st rs (f r n).2 g.1 q.1 (omega (arith, a.counter)) in
      let j : Few x (1 + count rs) (join (f r n).0 (flat f rs (f r n).2).0) = join-fits (f r n).0 _ 1 (count rs) a.value b.value in
      record { value = (j.0, omega (arith, j.1)); counter = omega (arith, a.counter, b.counter) }

  -- another child in its place
  pub at_kid-makes : (i : ℕ) (f : Rec → ℕ → Out Rec) (ks : Recs) (n w : ℕ) → FitAll x ks → Makes (Fit x) n w (f (kid i ks) n) →
      Makes (Few x (count ks)) n w (at_kid i f ks n)
  at_kid-makes i f ks n w g m = record { value = set_kid-fits i (f (kid i ks) n).0 ks (count ks) m.value (all-few ks g); counter = m.counter }

  pub wrap-makes : (h : Head) (m n w : ℕ) (o : Out Recs) → Sound x h m → Makes (Few x m) n w o → Makes (Fit x) n w (wrap h o)
  wrap-makes h m n w o g k = record { value = rehead h m o.0 g k.value; counter = k.counter }

  pub second-makes : (f : Rec → ℕ → Out Rec) → Step f → Step (second f)
  unfolding second
  second-makes f st (rec h ks) n g q l =
      wrap-makes h (count ks) n _ (at_kid 1 f ks n) g.0
      (at_kid-makes 1 f ks n _ g.1 (more (st (kid 1 ks) n (kid-fits 1 ks g.1) (kid_keys 1 ks q.1) (omega (arith, kid-names 1 ks))) (omega (arith, kid-names 1 ks))))
