-- The round trip: `tree_at` reads back the bytes that `encode` gives, for a tree whose fields fit their widths.
use mathlib.Core.Path.{◌≡◌, refl, ◌∙◌}
use mathlib.Core.List.{List, ◌++◌}
use Prim.Native.Nat.{ℕ, zero, suc, ◌+◌, ◌≤◌}
use native.Mathlib.Omega.{arith}
use lib.ListN.{length, length-append}
use Rattle.definition.specs.Tree.{
  flag_bytes,
  flags_place,
  start_place,
  end_place,
  length_place,
  count_place,
  Head,
  Rec,
  Recs,
  rec,
  nil,
  cons,
  count,
  depth,
  depths,
  head_size,
  le2,
  le4,
  head_bytes,
  encode,
  encodes,
  mark_at,
  flags_at,
  start_at,
  last_at,
  length_at,
  count_at,
  text_at,
  body_at,
  head_at,
  read_all,
  end_of_all,
  end_at,
  tree_at,
  FitsHead,
  Fits,
  FitsAll,
}
use Rattle.definition.proofs.Places.{At, at_all, at_left, at_right, at_part, le2-at, le4-at, flags-at}

pub length-head_bytes : (h : Head) (n : ℕ) → length (head_bytes h n) ≡ head_size
unfolding head_bytes
length-head_bytes h n = refl

-- ---- one head, with its text and what follows

module _ (s : List ℕ) (at : ℕ) (h : Head) (n : ℕ) (rest : List ℕ) (fits : FitsHead h n) (all : At s at (head_bytes h n ++ (h.text ++ rest))) where
  hd : At s at (head_bytes h n)
  hd = at_left s at (head_bytes h n) (h.text ++ rest) all

  mark-is : mark_at s at ≡ h.mark
  unfolding head_bytes
  mark-is = le2-at s at h.mark fits.mark (at_left s at (le2 h.mark) _ hd)

  -- the bytes of the head from its start, end, text length and child count on
  from-count : List ℕ
  from-count = le2 n

  from-length : List ℕ
  unfolding from-count
  from-length = le2 (length h.text) ++ from-count

  from_end : List ℕ
  unfolding from-length
  from_end = le4 h.end ++ from-length

  from_start : List ℕ
  unfolding from_end
  from_start = le4 h.start ++ from_end

  flags-is : flags_at s at ≡ h.flags
  unfolding head_bytes from_start
  flags-is = flags-at s at h.flags fits.flags (at_left s (at + flags_place) (flag_bytes h.flags) from_start (at_right s at (le2 h.mark) (flag_bytes h.flags ++ from_start) hd))

  start_is : start_at s at ≡ h.start
  unfolding head_bytes from_start
  start_is = le4-at s (at + start_place) h.start fits.start (at_left s (at + start_place) (le4 h.start) from_end (at_right s at (le2 h.mark ++ (flag_bytes h.flags)) from_start hd))

  end_is : last_at s at ≡ h.end
  unfolding head_bytes from_start
  end_is = le4-at s (at + end_place) h.end fits.end (at_left s (at + end_place) (le4 h.end) from-length (at_right s at (le2 h.mark ++ (flag_bytes h.flags ++ le4 h.start)) from_end hd))

  length-is : length_at s at ≡ length h.text
  unfolding head_bytes from_start
  length-is = le2-at s (at + length_place) (length h.text) fits.text (at_left s (at + length_place) (le2 (length h.text)) from-count (at_right s at (le2 h.mark ++ (flag_bytes h.flags ++ (le4 h.start ++ le4 h.end))) from-length hd))

  pub count-is : count_at s at ≡ n
  unfolding head_bytes
  count-is = le2-at s (at + count_place) n fits.count (at_right s at (le2 h.mark ++ (flag_bytes h.flags ++ (le4 h.start ++ (le4 h.end ++ le2 (length h.text))))) (le2 n) hd)

  after_head : At s (at + head_size) (h.text ++ rest)
  after_head = rw length-head_bytes at (at_right s at (head_bytes h n) (h.text ++ rest) all)

  text-is : text_at s at ≡ h.text
  text-is = rw length-is (at_part s (at + head_size) h.text (at_left s (at + head_size) h.text rest after_head))

  head_is : head_at s at ≡ h
  unfolding head_at
  head_is = λ i. record { mark = mark-is i; flags = flags-is i; start = start_is i; end = end_is i; text = text-is i }

  pub rest_at : At s (body_at s at) rest
  rest_at = rw length-is (at_right s (at + head_size) h.text rest after_head)

-- ---- a record with its children

abbrev pub Reads : ℕ → List ℕ → ℕ → Rec → Type 0
Reads d s at r = (tree_at d s at ≡ r) × (end_at d s at ≡ at + length (encode r))

abbrev pub ReadsAll : ℕ → List ℕ → ℕ → Recs → Type 0
ReadsAll d s at rs = (read_all (tree_at d s) (end_at d s) (count rs) at ≡ rs) × (end_of_all (end_at d s) (count rs) at ≡ at + length (encodes rs))

pub reads-nil : (d : ℕ) (s : List ℕ) (at : ℕ) → ReadsAll d s at nil
unfolding encodes read_all end_of_all
reads-nil d s at = (refl, omega arith)

pub reads-cons : (r : Rec) (rs : Recs) (d : ℕ) (s : List ℕ) (at : ℕ) → Reads d s at r → ReadsAll d s (end_at d s at) rs → ReadsAll d s at (cons r rs)
unfolding encodes read_all end_of_all
reads-cons r rs d s at one more =
    let t≡ : tree_at d s at ≡ r = one.0 in
    let k≡ : read_all (tree_at d s) (end_at d s) (count rs) (end_at d s at) ≡ rs = more.0 in
    (cc, more.1 ∙ simp length-append (omega arith))

pub reads-rec : (h : Head) (ks : Recs) (d : ℕ) (s : List ℕ) (at : ℕ) → FitsHead h (count ks) → At s at (head_bytes h (count ks) ++ (h.text ++ encodes ks)) →
    ReadsAll d s (body_at s at) ks → Reads (suc d) s at (rec h ks)
unfolding encode tree_at end_at
reads-rec h ks d s at f a ih =
    let hd≡ : head_at s at ≡ h = head_is s at h (count ks) (encodes ks) f a in
    let n≡ : count_at s at ≡ count ks = count-is s at h (count ks) (encodes ks) f a in
    let t≡ : length_at s at ≡ length h.text = length-is s at h (count ks) (encodes ks) f a in
    let k≡ : read_all (tree_at d s) (end_at d s) (count ks) (body_at s at) ≡ ks = ih.0 in
    let e≡ : end_of_all (end_at d s) (count ks) (body_at s at) ≡ body_at s at + length (encodes ks) = ih.1 in
    let l≡ : length (head_bytes h (count ks) ++ (h.text ++ encodes ks)) ≡ head_size + (length h.text + length (encodes ks)) =
    simp (length-append, length-head_bytes) in
    (cc, rw n≡ (omega arith))

mutual
  unfolding encode depth

  read : (r : Rec) (d : ℕ) (s : List ℕ) (at : ℕ) → depth r ≤ d → Fits r → At s at (encode r) → Reads d s at r
  read (rec h ks) zero s at le f a = absurd (omega arith)
  read (rec h ks) (suc d) s at le f a =
      reads-rec h ks d s at f.0 a (reads ks d s (body_at s at) (omega arith) f.1 (rest_at s at h (count ks) (encodes ks) f.0 a))

  reads : (rs : Recs) (d : ℕ) (s : List ℕ) (at : ℕ) → depths rs ≤ d → FitsAll rs → At s at (encodes rs) → ReadsAll d s at rs
  reads nil d s at le f a = reads-nil d s at
  reads (cons r rs) d s at le f a =
      let one : Reads d s at r = read r d s at (omega arith) f.0 (at_left s at (encode r) (encodes rs) a) in
      reads-cons r rs d s at one (reads rs d s (end_at d s at) (omega arith) f.1 (rw one.1 (at_right s at (encode r) (encodes rs) a)))

-- the round trip
pub tree_at-encode : (r : Rec) (d : ℕ) → depth r ≤ d → Fits r → tree_at d (encode r) 0 ≡ r
tree_at-encode r d le f = (read r d (encode r) 0 le f (at_all (encode r))).0

pub end_at_encode : (r : Rec) (d : ℕ) → depth r ≤ d → Fits r → end_at d (encode r) 0 ≡ length (encode r)
end_at_encode r d le f = (read r d (encode r) 0 le f (at_all (encode r))).1 ∙ omega arith
