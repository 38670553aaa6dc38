-- Trees of records and their bytes, from document 01, "The record".
use Rattle.std.specs.Prelude.{ℕ, zero, suc, ◌+◌, ◌*◌, ◌/◌, ◌%◌, ◌<◌, max, List, [], ◌∷◌, ◌++◌, length, get_or, take, drop}

-- ---- trees

-- what a record holds beside its children: mark, flags, start and end, and its text
pub record Head : Type 0 where
  pub mark : ℕ
  pub flags : ℕ
  pub start : ℕ
  pub end : ℕ
  pub text : List ℕ

-- "Text follows, then the children, each a record"
mutual
  pub data Rec : Type 0 where
    rec : Head → Recs → Rec

  pub data Recs : Type 0 where
    nil : Recs
    cons : Rec → Recs → Recs

-- "child count"
abbrev pub count : Recs → ℕ
count nil = 0
count (cons r rs) = suc (count rs)

-- levels: "root is 1"
unfoldable mutual
  pub depth : Rec → ℕ
  depth (rec h ks) = suc (depths ks)

  pub depths : Recs → ℕ
  depths nil = 0
  depths (cons r rs) = max (depth r) (depths rs)

-- ---- the bytes of a tree

-- the places of a head's fields in it, one after the other; the mark is at 0
abbrev pub flags_place : ℕ
flags_place = 2

-- "flags (1 byte)"
abbrev pub flags_size : ℕ
flags_size = 1

abbrev pub start_place : ℕ
start_place = flags_place + flags_size

abbrev pub end_place : ℕ
end_place = start_place + 4

abbrev pub length_place : ℕ
length_place = end_place + 4

abbrev pub count_place : ℕ
count_place = length_place + 2

-- "15-byte head"
abbrev pub head_size : ℕ
head_size = count_place + 2

-- "Little-endian, unsigned": a number in two bytes, and in four
abbrev pub le2 : ℕ → List ℕ
le2 n = n % 256 ∷ n / 256 % 256 ∷ []

abbrev pub le4 : ℕ → List ℕ
le4 n = n % 256 ∷ n / 256 % 256 ∷ n / 65536 % 256 ∷ n / 16777216 % 256 ∷ []

-- flags are below this number
abbrev pub flags_end : ℕ
flags_end = 256

abbrev pub flag_bytes : ℕ → List ℕ
flag_bytes n = n % 256 ∷ []

-- "mark (two ASCII letters), flags (1 byte), start and end (4 each; what `range()` gives; 0,0 is `DUMMY_SP`), text length (2), child
-- count (2)"
unfoldable pub head_bytes : Head → ℕ → List ℕ
head_bytes h n = le2 h.mark ++ (flag_bytes h.flags ++ (le4 h.start ++ (le4 h.end ++ (le2 (length h.text) ++ le2 n))))

unfoldable mutual
  pub encode : Rec → List ℕ
  encode (rec h ks) = head_bytes h (count ks) ++ (h.text ++ encodes ks)

  pub encodes : Recs → List ℕ
  encodes nil = []
  encodes (cons r rs) = encode r ++ encodes rs

-- ---- the tree that stands in a list of bytes at an offset

abbrev pub u16_at : List ℕ → ℕ → ℕ
u16_at s i = get_or s i 0 + 256 * get_or s (i + 1) 0

abbrev pub u32_at : List ℕ → ℕ → ℕ
u32_at s i = get_or s i 0 + 256 * get_or s (i + 1) 0 + 65536 * get_or s (i + 2) 0 + 16777216 * get_or s (i + 3) 0

-- the fields of the head at `at`, by their places in it
abbrev pub mark_at : List ℕ → ℕ → ℕ
mark_at s at = u16_at s at

abbrev pub flags_at : List ℕ → ℕ → ℕ
flags_at s at = get_or s (at + flags_place) 0

abbrev pub start_at : List ℕ → ℕ → ℕ
start_at s at = u32_at s (at + start_place)

abbrev pub last_at : List ℕ → ℕ → ℕ
last_at s at = u32_at s (at + end_place)

abbrev pub length_at : List ℕ → ℕ → ℕ
length_at s at = u16_at s (at + length_place)

abbrev pub count_at : List ℕ → ℕ → ℕ
count_at s at = u16_at s (at + count_place)

abbrev pub text_at : List ℕ → ℕ → List ℕ
text_at s at = take (length_at s at) (drop (at + head_size) s)

-- where the children of the record at `at` begin
abbrev pub body_at : List ℕ → ℕ → ℕ
body_at s at = at + head_size + length_at s at

unfoldable pub head_at : List ℕ → ℕ → Head
head_at s at = record { mark = mark_at s at; flags = flags_at s at; start = start_at s at; end = last_at s at; text = text_at s at }

-- n records that stand one after the other from `at` on, where `read` reads one and `end` says where it ends
unfoldable pub read_all : (ℕ → Rec) → (ℕ → ℕ) → ℕ → ℕ → Recs
read_all read end zero at = nil
read_all read end (suc n) at = cons (read at) (read_all read end n (end at))

unfoldable pub end_of_all : (ℕ → ℕ) → ℕ → ℕ → ℕ
end_of_all end zero at = at
end_of_all end (suc n) at = end_of_all end n (end at)

-- the offset past the record at `at`, with `levels` levels left
unfoldable pub end_at : ℕ → List ℕ → ℕ → ℕ
end_at zero s at = at
end_at (suc levels) s at = end_of_all (end_at levels s) (count_at s at) (body_at s at)

-- the record at `at`, with `levels` levels left
unfoldable pub tree_at : ℕ → List ℕ → ℕ → Rec
tree_at zero s at = rec (head_at s at) nil
tree_at (suc levels) s at = rec (head_at s at) (read_all (tree_at levels s) (end_at levels s) (count_at s at) (body_at s at))

-- ---- trees that bytes can hold

-- a byte string
unfoldable pub Bytes : List ℕ → Type 0
Bytes s = (i : ℕ) → get_or s i 0 < 256

-- the fields of a record fit their widths
pub record FitsHead (h : Head) (n : ℕ) : Type 0 where
  pub mark : h.mark < 65536
  pub flags : h.flags < flags_end
  pub start : h.start < 4294967296
  pub end : h.end < 4294967296
  pub text : length h.text < 65536
  pub bytes : Bytes h.text
  pub count : n < 65536

abbrev mutual
  pub Fits : Rec → Type 0
  Fits (rec h ks) = FitsHead h (count ks) × FitsAll ks

  pub FitsAll : Recs → Type 0
  FitsAll nil = Unit {0}
  FitsAll (cons r rs) = Fits r × FitsAll rs
