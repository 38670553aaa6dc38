-- What the check of a tree and of an overload list finds: refusals 1 to 8 of document 01's table, in their order and with their places.
use Rattle.std.specs.Prelude.{ℕ, zero, suc, ◌+◌, ◌-◌, ◌/◌, ◌%◌, List, [], ◌∷◌, Bool, true, false, cond, length, get_or, drop, eqb, leb, ltb}
use Rattle.definition.specs.Tree.{head_size, u16_at, u32_at, mark_at, flags_at, start_at, last_at, length_at, count_at, text_at, body_at}
use Rattle.definition.specs.Grammar.{
  mark,
  Part,
  Form,
  Form.empty,
  Form.anything,
  Form.eight,
  Form.integer,
  Form.identifier,
  Form.cooked,
  known,
  forms,
  slots,
  place,
  allowed,
  after,
  least,
  is_property,
  undestructured,
  root,
}

-- ---- the form of a text

-- "decimal digits"
unfoldable pub digits : List ℕ → Bool
digits [] = true
digits (d ∷ ds) = cond (ltb d 48) false (cond (ltb 57 d) false (digits ds))

-- "sign byte (1 negative, else 0) and decimal digits without leading zeros, zero unsigned"
unfoldable pub is_integer : List ℕ → Bool
is_integer t =
    cond (ltb (length t) 2) false
    (cond (ltb 1 (get_or t 0 0)) false
    (cond (eqb (get_or t 1 0) 48) (cond (eqb (length t) 2) (eqb (get_or t 0 0) 0) false) (digits (drop 1 t))))

-- whether a text t has a form, in a record with the flags f
unfoldable pub has_form : Form → ℕ → List ℕ → Bool
has_form empty f t = eqb (length t) 0
has_form anything f t = true
has_form eight f t = eqb (length t) 8
has_form integer f t = is_integer t
has_form identifier f t = leb 4 (length t)
has_form cooked f t = cond (eqb (f % 2) 1) true (eqb (length t) 0)

-- ---- one record, by itself

-- the row of a mark
abbrev pub form_of : ℕ → Form
form_of m = get_or forms (place known m) empty

abbrev pub slots_of : ℕ → List Part
slots_of m = get_or slots (place known m) []

-- the slots of the children of a record that has the mark m and stands at the slots ps
abbrev pub inside : List Part → ℕ → List Part
inside ps m = cond (is_property ps) (cond (eqb m (mark "Ag")) undestructured (slots_of m)) (slots_of m)

-- a record that is in order by itself: where its children begin, how many they are, and their slots; or the number of the refusal
pub data Opening : Type 0 where
  opened : ℕ → ℕ → List Part → Opening
  stopped : ℕ → Opening

-- "3 (text), 5 (text, count)"
unfoldable pub open_body : List ℕ → ℕ → List Part → ℕ → Opening
open_body s at ps m =
    cond (ltb (length s - (at + head_size)) (length_at s at)) (stopped 3)
    (cond (has_form (form_of m) (flags_at s at) (text_at s at))
    (cond (ltb (count_at s at) (least (slots_of m))) (stopped 5)
    (opened (body_at s at) (count_at s at) (inside ps m)))
    (stopped 5))

-- "3 (head), 4, 5 (slot; root must be Mo), 6", then the text and the count
unfoldable pub open_at : List ℕ → ℕ → List Part → Opening
open_at s at ps =
    cond (ltb (length s - at) head_size) (stopped 3)
    (cond (leb (length known) (place known (mark_at s at))) (stopped 4)
    (cond (allowed ps (mark_at s at))
    (cond (ltb (last_at s at) (start_at s at)) (stopped 6) (open_body s at ps (mark_at s at)))
    (stopped 5)))

-- ---- a record with what it holds

-- what a check finds: no refusal and the offset past what was checked, or the number of the first refusal and its place
pub data Checked : Type 0 where
  fine : ℕ → Checked
  refused : ℕ → ℕ → Checked

abbrev pub onward : Checked → (ℕ → Checked) → Checked
onward (fine e) f = f e
onward (refused n p) f = refused n p

-- n children from `at` on, the first at the slots ps, where `check` checks one
unfoldable pub check_all : (ℕ → List Part → Checked) → List ℕ → ℕ → ℕ → List Part → Checked
check_all check s zero at ps = fine at
check_all check s (suc n) at ps = onward (check at ps) (λ e. check_all check s n e (after ps (mark_at s at)))

abbrev pub within : Opening → ℕ → (ℕ → ℕ → List Part → Checked) → Checked
within (opened b n ps) at f = f b n ps
within (stopped k) at f = refused k at

-- "per record in preorder 7, ..": the record at `at`, at the slots ps, with `levels` levels left; "Place: the record's offset for 3 to 7"
unfoldable pub check_at : ℕ → List ℕ → ℕ → List Part → Checked
check_at zero s at ps = refused 7 at
check_at (suc levels) s at ps = within (open_at s at ps) at (λ b n qs. check_all (check_at levels s) s n b qs)

-- ---- the overload list: "10-byte entries `ov`, start, end, in any order, repeats allowed"

abbrev pub entry_size : ℕ
entry_size = 10

unfoldable pub entries_fine : ℕ → List ℕ → ℕ → Bool
entries_fine zero l at = true
entries_fine (suc n) l at =
    cond (eqb (u16_at l at) (mark "ov")) (cond (ltb (u32_at l (at + 6)) (u32_at l (at + 2))) false (entries_fine n l (at + entry_size))) false

-- "list over 40,960 bytes, not whole entries, wrong mark, or start > end"
abbrev pub longest_list : ℕ
longest_list = 40960

unfoldable pub list_fine : List ℕ → Bool
list_fine l =
    cond (ltb longest_list (length l)) false
    (cond (eqb (length l % entry_size) 0) (entries_fine (length l / entry_size) l 0) false)

-- ---- the whole tree

-- "tree over 524,288 bytes", "depth over 64"
abbrev pub longest_tree : ℕ
longest_tree = 524288

abbrev pub deepest : ℕ
deepest = 64

-- "bytes after the root", at "the first extra byte"
abbrev pub whole : Checked → ℕ → Checked
whole (fine e) n = cond (ltb e n) (refused 8 e) (fine e)
whole (refused k p) n = refused k p

-- refusals 1 to 8: "Order: 1, 2; per record ..; 8"; where none applies, the offset past the root
unfoldable pub check_tree : List ℕ → List ℕ → Checked
check_tree tree list =
    cond (ltb longest_tree (length tree)) (refused 1 0)
    (cond (list_fine list) (whole (check_at deepest tree 0 root) (length tree)) (refused 2 0))
