-- Laws of `sets`, a run of stores that is clipped at the end of a list, and the bytes of heads and diagnostics as such runs.
use mathlib.Core.Path.{◌≡◌, refl, sym, ◌∙◌, ap}
use mathlib.Core.List.{List, [], ◌∷◌, ◌++◌, append_assoc}
use Prim.Native.Nat.{ℕ, zero, suc, ◌+◌, ◌≤◌, ◌<◌}
use native.Mathlib.Nat.{add-zero, zero-add}
use native.Mathlib.Numerals.{add-one}
use native.Mathlib.Omega.{arith}
use lib.ListN.{length, get_or, set, take, drop, length-set, take-append-drop}
use lib.Seq.{sets, sets-eq, length-sets, set_out, get_or-set_same, get_or-set_other, take-suc, length-take-le, drop-drop, ext_get_or}
use Rattle.definition.specs.Tree
use Rattle.definition.specs.Tree.{flags_end, flags_place, start_place, end_place, length_place, count_place, head_size, flag_bytes, le2, le4, head_bytes, head_at, length_at, count_at, body_at}
use Rattle.definition.specs.Record.{diag_bytes}
use Rattle.definition.proofs.Places.{part_length}
use Rattle.records.specs.Fields.{fields_at, fields_of, field_bytes, diag_size, diag_of}
use Rattle.records.specs.declared.Head.{Head}

-- a run in two parts
pub sets_append : (o : List ℕ) (p : ℕ) (E F : List ℕ) → sets o p (E ++ F) ≡ sets (sets o p E) (p + length E) F
sets_append o p [] F = rw add-zero
sets_append o p (x ∷ E) F = sets_append (set o p x) (suc p) E F ∙ ap (λ (k : ℕ). sets (sets (set o p x) (suc p) E) k F) (omega arith)

-- below the run and above it nothing changes; in it, where there is room, its bytes stand
pub sets_below : (a : List ℕ) (p : ℕ) (E : List ℕ) (i : ℕ) → i < p → get_or (sets a p E) i 0 ≡ get_or a i 0
sets_below a p [] i h = refl
sets_below a p (x ∷ E) i h = sets_below (set a p x) (suc p) E i (omega arith) ∙ get_or-set_other a p i x 0 (λ e. omega arith)

pub sets-above : (a : List ℕ) (p : ℕ) (E : List ℕ) (i : ℕ) → p + length E ≤ i → get_or (sets a p E) i 0 ≡ get_or a i 0
sets-above a p [] i h = refl
sets-above a p (x ∷ E) i h = sets-above (set a p x) (suc p) E i (omega arith) ∙ get_or-set_other a p i x 0 (λ e. omega arith)

pub sets_in : (a : List ℕ) (p : ℕ) (E : List ℕ) (i : ℕ) → i < length E → p + i < length a → get_or (sets a p E) (p + i) 0 ≡ get_or E i 0
sets_in a p [] i h g = absurd (omega arith)
sets_in a p (x ∷ E) zero h g =
    let g' : p < length a = omega arith in
    ap (λ (k : ℕ). get_or (sets (set a p x) (suc p) E) k 0) (add-zero p) ∙ sets_below (set a p x) (suc p) E p (omega arith) ∙ get_or-set_same a p x 0 g'
sets_in a p (x ∷ E) (suc j) h g =
    ap (λ (k : ℕ). get_or (sets (set a p x) (suc p) E) k 0) (omega arith) ∙ sets_in (set a p x) (suc p) E j (omega arith) (simp length-set (omega arith))

-- past the end it changes nothing
pub sets-out : (a : List ℕ) (p : ℕ) (E : List ℕ) → length a ≤ p → sets a p E ≡ a
sets-out a p [] h = refl
sets-out a p (x ∷ E) h = sets-out (set a p x) (suc p) E (simp length-set (omega arith)) ∙ set_out a p x h

-- ---- the bytes of a head, part by part

-- a store of flags
pub flag_sets : (o : List ℕ) (p f : ℕ) → f < flags_end → set o p f ≡ sets o p (flag_bytes f)
flag_sets o p f h = ap (λ (b : ℕ). set o p b) (omega arith)

pub head_sets : (o : List ℕ) {o1 o2 o3 o4 o5 o6 : List ℕ} (p : ℕ) (h : Head)
    → o1 ≡ sets o p (le2 h.mark) → o2 ≡ sets o1 (p + flags_place) (flag_bytes h.flags) → o3 ≡ sets o2 (p + start_place) (le4 h.start) → o4 ≡ sets o3 (p + end_place) (le4 h.end)
    → o5 ≡ sets o4 (p + length_place) (le2 h.text) → o6 ≡ sets o5 (p + count_place) (le2 h.count) → o6 ≡ sets o p (field_bytes h)
unfolding field_bytes
head_sets o {o1} {o2} {o3} {o4} {o5} {o6} p h e1 e2 e3 e4 e5 e6 =
    let x1 : List ℕ = le2 h.mark in
    let x2 : List ℕ = x1 ++ flag_bytes h.flags in
    let x3 : List ℕ = x2 ++ le4 h.start in
    let x4 : List ℕ = x3 ++ le4 h.end in
    let x5 : List ℕ = x4 ++ le2 h.text in
    let s1 : o1 ≡ sets o p x1 = e1 in
    let s2 : o2 ≡ sets o p x2 =
    e2 ∙ ap (λ (l : List ℕ). sets l (p + flags_place) (flag_bytes h.flags)) s1 ∙ sym (sets_append o p x1 (flag_bytes h.flags)) in
    let s3 : o3 ≡ sets o p x3 = e3 ∙ ap (λ (l : List ℕ). sets l (p + start_place) (le4 h.start)) s2 ∙ sym (sets_append o p x2 (le4 h.start)) in
    let s4 : o4 ≡ sets o p x4 = e4 ∙ ap (λ (l : List ℕ). sets l (p + end_place) (le4 h.end)) s3 ∙ sym (sets_append o p x3 (le4 h.end)) in
    let s5 : o5 ≡ sets o p x5 = e5 ∙ ap (λ (l : List ℕ). sets l (p + length_place) (le2 h.text)) s4 ∙ sym (sets_append o p x4 (le2 h.text)) in
    e6 ∙ ap (λ (l : List ℕ). sets l (p + count_place) (le2 h.count)) s5 ∙ sym (sets_append o p x5 (le2 h.count))

-- they are the bytes of the definition's head
pub head_bytes_lem : (h : Tree.Head) (n : ℕ) → field_bytes (fields_of h n) ≡ head_bytes h n
unfolding field_bytes head_bytes
head_bytes_lem h n = refl

-- a head that was read is the definition's, with as many children
pub fields_head : (s : List ℕ) (at : ℕ) → body_at s at ≤ length s → fields_at s at ≡ fields_of (head_at s at) (count_at s at)
unfolding head_at
fields_head s at h = rw (part_length s (at + head_size) (length_at s at) h)

pub length-field_bytes : (h : Head) → length (field_bytes h) ≡ head_size
unfolding field_bytes
length-field_bytes h = refl

-- ---- the bytes of a diagnostic

pub diag-sets : (o : List ℕ) {o1 o2 o3 : List ℕ} (d m s e : ℕ)
    → o1 ≡ sets o d (le2 m) → o2 ≡ sets o1 (d + 2) (le4 s) → o3 ≡ sets o2 (d + 6) (le4 e) → o3 ≡ sets o d (diag_bytes (diag_of m s e))
diag-sets o d m s e e1 e2 e3 =
    e3 ∙ ap (λ (l : List ℕ). sets l (d + 6) (le4 e)) (e2 ∙ ap (λ (l : List ℕ). sets l (d + 2) (le4 s)) e1 ∙ sym (sets_append o d (le2 m) (le4 s)))
    ∙ sym (sets_append o d (le2 m ++ le4 s) (le4 e))

pub length-diag_bytes : (m s e : ℕ) → length (diag_bytes (diag_of m s e)) ≡ diag_size
length-diag_bytes m s e = refl

-- ---- a copy

-- one byte more of a copy
pub copy_more : (o : List ℕ) {o1 : List ℕ} (p i : ℕ) (t : List ℕ) → i < length t → o1 ≡ sets o p (take i t) → set o1 (p + i) (get_or t i 0) ≡ sets o p (take (i + 1) t)
copy_more o {o1} p i t h e =
    let l : length (take i t) ≡ i = length-take-le i t (omega arith) in
    ap (λ (s : List ℕ). set s (p + i) (get_or t i 0)) e ∙ ap (λ (k : ℕ). set (sets o p (take i t)) (p + k) (get_or t i 0)) (sym l)
    ∙ sym (sets_append o p (take i t) (get_or t i 0 ∷ [])) ∙ ap (λ (s : List ℕ). sets o p s) (sym (ap (λ (k : ℕ). take k t) (add-one i) ∙ take-suc t i 0 h))

-- a copy over a list of the same length is what was copied
pub copy-all : (o t : List ℕ) → length o ≡ length t → sets o 0 t ≡ t
copy-all o t h = ext_get_or 0 (sets o 0 t) t (length-sets o 0 t ∙ h) (λ i l. let n = length-sets o 0 t in ap (λ (k : ℕ). get_or (sets o 0 t) k 0) (sym (zero-add i)) ∙ sets_in o 0 t i (omega arith) (omega arith))

-- a text that fits, written as a part of the list
pub part_sets : (o : List ℕ) (p : ℕ) (t : List ℕ) → p + length t ≤ length o → take p o ++ (t ++ drop (length t) (drop p o)) ≡ sets o p t
part_sets o p t h = rw (sets-eq t o p h, drop-drop, append_assoc)

-- a text that is cut after n bytes, where the list ends
sets_cut : (o : List ℕ) (p n : ℕ) (t : List ℕ) → p + n ≡ length o → n ≤ length t → sets o p t ≡ sets o p (take n t)
sets_cut o p n t h k =
    let l : length (take n t) ≡ n = length-take-le n t k in
    let m : length (sets o p (take n t)) ≡ length o = length-sets o p (take n t) in
    ap (λ (s : List ℕ). sets o p s) (sym (take-append-drop n t)) ∙ sets_append o p (take n t) (drop n t)
    ∙ sets-out (sets o p (take n t)) (p + length (take n t)) (drop n t) (omega arith)

pub cut_sets : (o : List ℕ) (p n : ℕ) (t : List ℕ) → p + n ≡ length o → n ≤ length t → take p o ++ (take n t ++ drop n (drop p o)) ≡ sets o p t
cut_sets o p n t h k =
    let l : length (take n t) ≡ n = length-take-le n t k in
    ap (λ (m : ℕ). take p o ++ (take n t ++ drop m (drop p o))) (sym l) ∙ part_sets o p (take n t) (omega arith) ∙ sym (sets_cut o p n t h k)
