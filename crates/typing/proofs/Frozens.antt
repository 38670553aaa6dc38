-- What is written for `readonly_of` a type: its members, each readonly.
use mathlib.Core.Path.{◌≡◌, refl, sym, ap, ◌∙◌}
use mathlib.Core.List.{List, [], ◌++◌}
use mathlib.Core.Bool.{Bool, true, false, cond}
use mathlib.Core.Logic.{◌⊎◌, inl, inr}
use mathlib.Core.Option.{none, some}
use Prim.Native.Nat.{ℕ, ◌+◌, ◌-◌, ◌≤◌, ◌<◌}
use native.Mathlib.Omega.{arith}
use lib.Dec.{eqb}
use lib.ListN.{length, take, drop, length-append, length-drop}
use lib.Seq.{take_all}
use Rattle.definition.specs.Tree.{Rec, Recs, rec, nil, count, head_size, head_bytes, encode, encodes}
use Rattle.definition.specs.Grammar.{mark, grammar, known, forms, place}
use Rattle.definition.specs.Record.{head_of, kids_of, mark_of, text_of, with_flags, with_flag, flag1, flagged, dummy_sp, kid, one, join}
use Rattle.definition.specs.Helpers.{ts_readonly}
use Rattle.definition.specs.Typing.{frozen_kind, plain_members, readonly_members, readonly_of_by, readonly_of}
use Rattle.definition.proofs.Kids.{no_text}
use Rattle.definition.proofs.Round.{length-head_bytes}
use Rattle.records.specs.declared.Head.{Head as Fields}
use Rattle.records.specs.declared.marks.Mark.{Mark}
use Rattle.records.specs.declared.marks.Mark.TheVariants.{Li, Ay, Tu, Ft, Ct, Ro}
use Rattle.records.specs.declared.tree.Record.{Record}
use Rattle.records.specs.declared.tree.Records.{Records}
use Rattle.records.specs.declared.writer.Writer.{Writer}
use Rattle.records.specs.Fields.{fields_of, field_bytes}
use Rattle.records.specs.Marks.{number_of}
use Rattle.records.specs.Views.{rec_of, recs_of, ChildrenOf, FirstOf, RestOf, ChildIs}
use Rattle.records.specs.Writers.{Writes}
use Rattle.records.proofs.Records.{recs_none, recs_step}
use Rattle.records.proofs.SameMarks.{marked, not_marked}
use Rattle.records.proofs.Stores.{head_bytes_lem}
use Rattle.records.proofs.Views.{accepted, mark_here, text_here}
use Rattle.records.proofs.Writers.{writes_then, writes_as}
use Rattle.output.proofs.Recs.{join-nil, join_assoc, encodes-join, encodes_one}
use Rattle.typing.specs.Parts.{readonly_member, readonly_or_same, as_type}
use Rattle.typing.proofs.ReadonlyLaws.{count_readonly}

-- ---- a member with flag 1 set

-- a record is longer than its head
pub encode-long : (r : Rec) → head_size ≤ length (encode r)
unfolding encode
encode-long (rec h ks) = omega (arith, length-append (head_bytes h (count ks)) (h.text ++ encodes ks), length-head_bytes h (count ks))

-- its bytes behind its head
behind-head : (r : Rec) → drop head_size (encode r) ≡ (head_of r).text ++ encodes (kids_of r)
unfolding encode head_bytes
behind-head (rec h ks) = refl

flagged-encode : (r : Rec) → head_bytes (with_flags (head_of r) (flag1 true (head_of r).flags)) (count (kids_of r)) ++ ((head_of r).text ++ encodes (kids_of r)) ≡ encode (flagged r)
unfolding encode
flagged-encode (rec h ks) = refl

pub op-kept : (r : Rec) → eqb (mark_of r) (mark "Op") ≡ true → r ≡ readonly_member r
op-kept r e = rw e

-- with its head anew, and the rest of it as it stands
pub flag-set : (r : Rec) {a b c : Writer} {h : Fields} {f flags : ℕ} {part : List ℕ} → h ≡ fields_of (head_of r) (count (kids_of r)) → f ≡ (head_of r).flags → flags ≡ with_flag 1 f → eqb (mark_of r) (mark "Op") ≡ false
    → Writes a b (field_bytes (record { mark = h.mark; flags = flags; start = h.start; end = h.end; text = h.text; count = h.count }))
    → part ≡ encode r → Writes b c (take (length part - head_size) (drop head_size part)) → Writes a c (encode (readonly_member r))
flag-set r {a} {part = part} e g d n v f w =
    writes_as
    (writes_then a.size (writes_as (rw (d, g, e) at v) (head_bytes_lem (with_flags (head_of r) (with_flag 1 (head_of r).flags)) (count (kids_of r))))
    (writes_as w (take_all (length part - head_size) (drop head_size part) (simp length-drop (omega arith)) ∙ (ap (drop head_size) f ∙ behind-head r))))
    (flagged-encode r ∙ ap encode (other (eqb (mark_of r) (mark "Op")) n))
  where
    other : (b : Bool) → b ≡ false → flagged r ≡ cond b r (flagged r)
    other b z = rw z

-- ---- all of them

-- `made` is written, and of `whole` the members k are left
pub record Flagging (whole : Recs) (a b : Writer) (k : Records) : Type 0 where
  pub made : Recs
  pub left : join made (readonly_members (recs_of k)) ≡ whole
  pub put : Writes a b (encodes made)

pub flagging_start : (a : Writer) {r : Record} {j k : Records} → ChildrenOf r k → j ≡ k → Flagging (readonly_members (kids_of (rec_of r))) a a j
unfolding encodes
flagging_start a c e =
    record { made = nil; left = ap (λ (k : Records). readonly_members (recs_of k)) e ∙ ap readonly_members c.are; put = record { buffer = refl; put = record { bytes = refl; position = omega (arith, a.place) } } }

module _ {whole : Recs} {a b : Writer} {k : Records} (i : Flagging whole a b k) where
  pub flagging_turn : {x : Record} {l : Records} {c : Writer} → (0 < k.count) × FirstOf k x × RestOf k l → Writes b c (encode (readonly_member (rec_of x))) → Flagging whole a c l
  unfolding readonly_members
  flagging_turn {x} {l} n w =
      let r : Rec = readonly_member (rec_of x) in
      record {
        made = join i.made (one r);
        left = join_assoc i.made (one r) (readonly_members (recs_of l)) ∙ (ap (λ (ks : Recs). join i.made (readonly_members ks)) (sym (recs_step n.0 n.1 n.2)) ∙ i.left);
        put = writes_as (writes_then a.size i.put w) (ap (λ (E : List ℕ). encodes i.made ++ E) (sym (encodes_one r)) ∙ sym (encodes-join i.made (one r)));
      }

  pub flagging_done : k.count ≡ 0 → Writes a b (encodes whole)
  unfolding readonly_members
  flagging_done h = writes_as i.put (ap encodes (sym (join-nil i.made) ∙ (ap (λ (ks : Recs). join i.made (readonly_members ks)) (sym (recs_none k h)) ∙ i.left)))

-- a type literal has no text
lit-text : (r : Record) → mark_of (rec_of r) ≡ mark "Li" → text_of (rec_of r) ≡ []
unfolding grammar known forms place
lit-text r e = sym (text_here r) ∙ ap (λ (n : ℕ). take n (drop (r.at + head_size) r.tree.now)) (no_text r.levels r.tree.now r.at (accepted r) (mark "Li") (mark_here r ∙ e) refl)

pub members-flagged : (r : Record) {a b c : Writer} {h : Fields} → mark_of (rec_of r) ≡ mark "Li" → h ≡ fields_of (head_of (rec_of r)) (count (kids_of (rec_of r))) → Writes a b (field_bytes h)
    → Writes b c (encodes (readonly_members (kids_of (rec_of r)))) → Writes a c (encode (rec (head_of (rec_of r)) (readonly_members (kids_of (rec_of r)))))
unfolding encode
members-flagged r {a} m e v w =
    let ms : Recs = readonly_members (kids_of (rec_of r)) in
    writes_as (writes_then a.size (writes_as (rw e at v) (head_bytes_lem (head_of (rec_of r)) (count (kids_of (rec_of r))))) w)
    (ap (λ (n : ℕ). head_bytes (head_of (rec_of r)) n ++ encodes ms) (sym (count_readonly (kids_of (rec_of r)))) ∙ ap (λ (t : List ℕ). head_bytes (head_of (rec_of r)) (count ms) ++ (t ++ encodes ms)) (sym (lit-text r m)))

-- ---- by the kind of a type

module _ (t : Rec) where
  pub lit-frozen : mark_of t ≡ mark "Li" → plain_members (kids_of t) ≡ true → some (rec (head_of t) (readonly_members (kids_of t))) ≡ readonly_of t
  unfolding readonly_of_by frozen_kind
  lit-frozen e p = rw (e, p)

  pub lit-unfrozen : mark_of t ≡ mark "Li" → plain_members (kids_of t) ≡ false → none ≡ readonly_of t
  unfolding readonly_of_by frozen_kind
  lit-unfrozen e p = rw (e, p)

  module _ {m : Mark} (n : number_of m ≡ mark_of t) where
    pub array-frozen : (m ≡ Ay) ⊎ (m ≡ Tu) → some (ts_readonly dummy_sp t) ≡ readonly_of t
    unfolding readonly_of_by frozen_kind
    array-frozen (inl e) = rw (marked m n e)
    array-frozen (inr e) = rw (marked m n e)

    pub same-frozen : (m ≡ Ft) ⊎ ((m ≡ Ct) ⊎ (m ≡ Ro)) → some t ≡ readonly_of t
    unfolding readonly_of_by frozen_kind
    same-frozen (inl e) = rw (marked m n e)
    same-frozen (inr (inl e)) = rw (marked m n e)
    same-frozen (inr (inr e)) = rw (marked m n e)

    pub other-frozen : (m ≡ Li → ⊥) → (m ≡ Ay → ⊥) → (m ≡ Tu → ⊥) → (m ≡ Ft → ⊥) → (m ≡ Ct → ⊥) → (m ≡ Ro → ⊥) → none ≡ readonly_of t
    unfolding readonly_of_by frozen_kind
    other-frozen a b c d e f = rw (not_marked m n Li a, not_marked m n Ay b, not_marked m n Tu c, not_marked m n Ft d, not_marked m n Ct e, not_marked m n Ro f)

-- ---- `Expr::TsAs`

pub as-frozen : {r y : Record} {b : Bool} → ChildIs r 1 y → b ≡ true → encode (readonly_or_same (rec_of y)) ≡ encode (as_type b (kid 1 (kids_of (rec_of r))))
as-frozen g e = rw (e, g.is)

pub as-copied : {r y : Record} {b : Bool} → ChildIs r 1 y → b ≡ false → encode (rec_of y) ≡ encode (as_type b (kid 1 (kids_of (rec_of r))))
as-copied g e = rw (e, g.is)
