-- Lists of records: joined, counted, written, and whether their texts fit.
use mathlib.Core.Path.{◌≡◌, refl, sym, ap, ◌∙◌}
use mathlib.Core.List.{List, ◌++◌, append-nil, append_assoc}
use mathlib.Core.Bool.{Bool, true, ◌&&◌}
use Prim.Native.Nat.{ℕ, ◌+◌, ◌<◌}
use native.Mathlib.Omega.{arith}
use lib.ListN.{length}
use borrow.Author.Tests.{lt-ltb}
use Rattle.definition.specs.Tree.{Head, Rec, Recs, rec, nil, cons, count, head_size, head_bytes, encode, encodes}
use Rattle.definition.specs.Record.{one, join}
use Rattle.definition.specs.Transform.{texts_fit, all_texts_fit}
use Rattle.definition.proofs.Round.{length-head_bytes}
use lib.ListN.{length-append}
use Rattle.output.specs.Outputs.{front_bytes}
use Rattle.output.proofs.Steps.{and-true, and_assoc}

pub join-nil : (a : Recs) → join a nil ≡ a
join-nil nil = refl
join-nil (cons r a) = ap (cons r) (join-nil a)

pub join_assoc : (a b c : Recs) → join (join a b) c ≡ join a (join b c)
join_assoc nil b c = refl
join_assoc (cons r a) b c = ap (cons r) (join_assoc a b c)

pub count-join : (a b : Recs) → count (join a b) ≡ count a + count b
count-join nil b = omega arith
count-join (cons r a) b = omega (arith, count-join a b)

pub encodes-join : (a b : Recs) → encodes (join a b) ≡ encodes a ++ encodes b
unfolding encodes
encodes-join nil b = refl
encodes-join (cons r a) b = rw (encodes-join a b) (sym (append_assoc (encode r) (encodes a) (encodes b)))

pub encodes_one : (r : Rec) → encodes (one r) ≡ encode r
unfolding encodes
encodes_one r = append-nil (encode r)

pub fits-join : (a b : Recs) → all_texts_fit (join a b) ≡ (all_texts_fit a && all_texts_fit b)
unfolding all_texts_fit
fits-join nil b = refl
fits-join (cons r a) b = rw (fits-join a b) (sym (and_assoc (texts_fit r) (all_texts_fit a) (all_texts_fit b)))

pub fits_one : (r : Rec) → all_texts_fit (one r) ≡ texts_fit r
unfolding all_texts_fit
fits_one r = and-true (texts_fit r)

-- a front, and its children
pub front_fits : (h : Head) (ks : Recs) → length h.text < 65536 → (true && all_texts_fit ks) ≡ texts_fit (rec h ks)
unfolding texts_fit
front_fits h ks t = ap (λ (b : Bool). b && all_texts_fit ks) (sym (lt-ltb (length h.text) 65536 t))

pub front_encode : (h : Head) (ks : Recs) → front_bytes h (count ks) ++ encodes ks ≡ encode (rec h ks)
unfolding encode
front_encode h ks = append_assoc (head_bytes h (count ks)) h.text (encodes ks)

pub front_length : (h : Head) (k : ℕ) → length (front_bytes h k) ≡ head_size + length h.text
front_length h k = length-append (head_bytes h k) h.text ∙ ap (λ (n : ℕ). n + length h.text) (length-head_bytes h k)
