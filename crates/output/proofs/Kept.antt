-- Laws of records that are written as they stand, or with another front.
use mathlib.Core.Path.{◌≡◌, refl, sym, ap, ◌∙◌, subst}
use mathlib.Core.List.{List, [], ◌++◌}
use mathlib.Core.Bool.{Bool, true, false, ◌&&◌}
use Prim.Native.Nat.{ℕ, ◌+◌, ◌≤◌, ◌<◌, ◌^◌}
use native.Mathlib.Omega.{arith}
use lib.ListN.{length}
use Rattle.definition.specs.Tree.{Head, Rec, Recs, rec, nil, cons, count, head_bytes, encode, encodes}
use Rattle.definition.specs.Grammar.{mark}
use Rattle.definition.specs.Record.{Range, absent, is_no, with_flags, with_flag, flagged, head_of, kids_of, mark_of, one, join, gone}
use Rattle.definition.specs.Helpers.{any_type_ann}
use Rattle.definition.specs.Transform.{texts_fit, all_texts_fit}
use Rattle.definition.proofs.Widths.{fits-texts}
use Rattle.records.specs.declared.Head.{Head as Fields}
use Rattle.records.specs.declared.writer.Writer.{Writer}
use Rattle.records.specs.declared.tree.Record.{Record}
use Rattle.records.specs.declared.tree.Records.{Records}
use Rattle.records.specs.Fields.{fields_of, field_bytes}
use Rattle.records.specs.Views.{rec_of, recs_of, ChildrenOf, FirstOf, RestOf}
use Rattle.records.specs.Writers.{Writes, Fronts}
use Rattle.records.proofs.Stores.{head_bytes_lem}
use Rattle.records.proofs.Writers.{writes_then, writes_as}
use Rattle.records.proofs.Records.{recs_none, recs_step}
use Rattle.output.specs.declared.Output.{Output}
use Rattle.output.specs.Outputs.{front_bytes, Puts, Keeps, KeepsAll}
use Rattle.output.specs.Kids.{Begun, Kept}
use Rattle.output.proofs.Steps.{and-true, puts_then, puts-as}
use Rattle.output.proofs.Recs.{join-nil, join_assoc, encodes-join, encodes_one, fits-join, fits_one, front_fits, front_encode}

-- ---- records one after the other

-- nothing was written
pub puts_none : (o : Output) → Puts o o [] true
puts_none o = record {
  same = refl;
  written = record { buffer = refl; put = record { bytes = refl; position = omega (arith, o.out.now.place) } };
  diagnostics = refl;
  names = refl;
  fits = sym (and-true o.fits);
}

-- `made` is written, and of `whole` the records k are left
pub record Keeping (whole : Recs) (o o' : Output) (k : Records) : Type 0 where
  pub made : Recs
  pub left : join made (recs_of k) ≡ whole
  pub put : KeepsAll o o' made

pub keeping_start : (o : Output) (k : Records) → Keeping (recs_of k) o o k
unfolding encodes all_texts_fit
keeping_start o k = record { made = nil; left = refl; put = puts_none o }

module _ {whole : Recs} {o o' : Output} {k : Records} (i : Keeping whole o o' k) where
  pub keeping_turn : {x : Record} {l : Records} {o'' : Output} → (0 < k.count) × FirstOf k x × RestOf k l → Keeps o' o'' (rec_of x) → Keeping whole o o'' l
  keeping_turn {x} {l} n w = record {
    made = join i.made (one (rec_of x));
    left = join_assoc i.made (one (rec_of x)) (recs_of l) ∙ (ap (join i.made) (sym (recs_step n.0 n.1 n.2)) ∙ i.left);
    put = puts-as (puts_then i.put w)
        (ap (λ (E : List ℕ). encodes i.made ++ E) (sym (encodes_one (rec_of x))) ∙ sym (encodes-join i.made (one (rec_of x))))
        (ap (λ (f : Bool). all_texts_fit i.made && f) (sym (fits_one (rec_of x))) ∙ sym (fits-join i.made (one (rec_of x))));
  }

  pub keeping_done : k.count ≡ 0 → KeepsAll o o' whole
  keeping_done h = subst (λ (ts : Recs). KeepsAll o o' ts) (sym (join-nil i.made) ∙ (ap (join i.made) (sym (recs_none k h)) ∙ i.left)) i.put

-- the record t, then the records ts
pub keeps_more : {a b c : Output} (t : Rec) (ts : Recs) → Keeps a b t → KeepsAll b c ts → KeepsAll a c (cons t ts)
unfolding encodes all_texts_fit
keeps_more t ts v w = puts_then v w

-- as many as are left
pub kids_counted : {r : Record} {k : Records} → ChildrenOf r k → count (recs_of k) ≡ k.count
kids_counted c = ap count c.are ∙ sym c.many

-- ---- a front, and its children

pub keeps_front : {a b c : Output} {r : Record} {k : Records} {h : Head} → Begun a b r h k → (ks : Recs) → count ks ≡ k.count → KeepsAll b c ks → Keeps a c (rec h ks)
keeps_front {a} {b} {h = h} g ks e w =
    puts-as (puts_then (subst (λ (n : ℕ). Puts a b (front_bytes h n) true) (sym e) g.front) w) (front_encode h ks) (front_fits h ks g.short)

-- ---- a record as it stands

-- the writer of b is the one that a lends, whatever was written with it
abbrev pub Lends : Output → Output → Type 0
Lends b a = b.out ≡ record { ref_ptr = a.out.ref_ptr; ghost_name = a.out.ghost_name; now = b.out.now }

-- a write to the output alone
pub puts : {a b : Output} {E : List ℕ} → Writes a.out.now b.out.now E → b.out.ghost_name ≡ a.out.ghost_name → b.diagnostics ≡ a.diagnostics → b.names ≡ a.names → b.fits ≡ a.fits → Puts a b E true
puts {a} w s d n f = record { same = s; written = w; diagnostics = d; names = n; fits = f ∙ sym (and-true a.fits) }

pub keeps_made : {a b : Output} (t : Rec) → texts_fit t ≡ true → Writes a.out.now b.out.now (encode t) → b.out.ghost_name ≡ a.out.ghost_name → b.diagnostics ≡ a.diagnostics → b.names ≡ a.names → b.fits ≡ a.fits → Keeps a b t
keeps_made t g w s d n f = puts-as (puts w s d n f) refl (sym g)

-- ---- a record before its children

module _ (H : Head) {h : Fields} {n : ℕ} (e : h ≡ fields_of H n) where
  head_is : (flags m : ℕ) → field_bytes (record { mark = h.mark; flags = flags; start = h.start; end = h.end; text = h.text; count = m }) ≡ head_bytes (with_flags H flags) m
  head_is flags m = rw e (head_bytes_lem (with_flags H flags) m)

  -- with other flags and another count
  pub front_written : (flags m : ℕ) {a b c : Writer} {t : List ℕ} → t ≡ H.text
      → Writes a b (field_bytes (record { mark = h.mark; flags = flags; start = h.start; end = h.end; text = h.text; count = m })) → Writes b c t → Writes a c (front_bytes (with_flags H flags) m)
  front_written flags m {a} f v w = writes_then a.size (writes_as v (head_is flags m)) (writes_as w f)

  -- in the room that was left for it
  pub front_in_room : (m : ℕ) {a b : Writer} {at : ℕ} {t : List ℕ} → t ≡ H.text
      → Fronts a b at (field_bytes (record { mark = h.mark; flags = h.flags; start = h.start; end = h.end; text = h.text; count = m }) ++ t) → Fronts a b at (front_bytes H m)
  front_in_room m {a} {b} {at} f w = rw (f, e, head_bytes_lem H m) at w

-- a record that is given with other flags
pub flagged_is : (r : Record) (k : Records) {flags f : ℕ} → ChildrenOf r k → f ≡ (head_of (rec_of r)).flags → flags ≡ with_flag 1 f → rec (with_flags (head_of (rec_of r)) flags) (recs_of k) ≡ flagged (rec_of r)
flagged_is r k c e d = rw (d, e, c.are)

-- ---- a record that goes

pub gone-kept : (r : Rec) → is_no r ≡ true → r ≡ gone r
gone-kept r e = rw e

pub gone-absent : (r : Rec) → is_no r ≡ false → absent ≡ gone r
gone-absent r e = rw e

pub absent-fits : texts_fit absent ≡ true
unfolding texts_fit all_texts_fit
absent-fits = refl

pub any-fits : (at : Range) → texts_fit (any_type_ann at) ≡ true
unfolding texts_fit all_texts_fit
any-fits at = refl
