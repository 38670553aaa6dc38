-- Members before their types: the flags of their keys, and the keys as expressions.
use mathlib.Core.Path.{◌≡◌, refl, sym, ◌∙◌}
use mathlib.Core.List.{List, []}
use mathlib.Core.Bool.{Bool, true, false, cond, ◌&&◌}
use mathlib.Core.Logic.{◌⊎◌, inl, inr}
use Prim.Native.Nat.{ℕ, suc, ◌+◌, ◌≤◌, ◌<◌}
use native.Mathlib.Omega.{arith}
use lib.Dec.{eqb}
use lib.ListN.{length}
use mir.Val.{bool_byte}
use borrow.Author.Tests.{lt-ltb, le-ltb}
use Rattle.definition.specs.Tree.{Rec, count, head_bytes, encode}
use Rattle.definition.specs.Grammar.{mark, expression, grammar, known, slots, place}
use Rattle.definition.specs.Record.{head_of, kids_of, mark_of, text_of, fresh, ident, ident_at}
use Rattle.definition.specs.Typing.{k_str, k_num, k_computed, key_kind, key_expr, key_flag}
use Rattle.definition.specs.Transform.{texts_fit, all_texts_fit}
use Rattle.definition.proofs.Kids.{fixed, first_in}
use Rattle.records.specs.declared.Range.{Range}
use Rattle.records.specs.declared.marks.Mark.{Mark}
use Rattle.records.specs.declared.marks.Mark.TheVariants.{Ki, Ss, Kc}
use Rattle.records.specs.declared.tree.Record.{Record}
use Rattle.records.specs.declared.writer.Writer.{Writer}
use Rattle.records.specs.Fields.{span, range_of}
use Rattle.records.specs.Marks.{number_of}
use Rattle.records.specs.Views.{rec_of, ChildIs}
use Rattle.records.specs.Writers.{Writes}
use Rattle.records.proofs.SameMarks.{marked, not_marked}
use Rattle.records.proofs.Views.{accepted, mark_here, count_here}
use Rattle.records.proofs.Writers.{writes_as}
use Rattle.output.specs.declared.Output.{Output}
use Rattle.output.specs.Outputs.{Keeps}
use Rattle.output.proofs.Steps.{and-true}

-- ---- the flags by a key

pub plain-signature : (b : Bool) {m : Mark} → (m ≡ Ki) ⊎ (m ≡ Ss) → bool_byte b ≡ cond b 1 0 + key_flag (key_kind (number_of m))
unfolding key_kind
plain-signature true (inl e) = rw e
plain-signature false (inl e) = rw e
plain-signature true (inr e) = rw e
plain-signature false (inr e) = rw e

pub computed-signature : (b : Bool) (m : Mark) → (m ≡ Ki → ⊥) → (m ≡ Ss → ⊥) → 2 + bool_byte b ≡ cond b 1 0 + key_flag (key_kind (number_of m))
unfolding key_kind
computed-signature b m n k = rw (not_marked m refl Ki n, not_marked m refl Ss k) (go b (eqb (number_of m) (mark "Kc")))
  where
    go : (b c : Bool) → 2 + bool_byte b ≡ cond b 1 0 + key_flag (cond c k_computed k_num)
    go true true = refl
    go true false = refl
    go false true = refl
    go false false = refl

-- the front with those flags
pub signed : (b : Bool) {x y : Writer} {flags m k : ℕ} → flags ≡ cond b 1 0 + key_flag (key_kind m) → m ≡ k → Writes x y (head_bytes (fresh "Ps" flags []) 2) → Writes x y (head_bytes (fresh "Ps" (cond b 1 0 + key_flag (key_kind k)) []) 2)
signed b e f w = rw (e, f) at w

pub unkeyed : (b : Bool) → head_bytes (fresh "Ps" (bool_byte b) []) 2 ≡ head_bytes (fresh "Ps" (cond b 1 0 + 0) []) 2
unkeyed true = refl
unkeyed false = refl

-- ---- the Id of a name

and-false : (b : Bool) → (b && false) ≡ false
and-false true = refl
and-false false = refl

module _ (r : Rec) {range : Range} {name : List ℕ} (e : range ≡ range_of (head_of r)) where
  pub ident-here : {symbol : List ℕ} → name ≡ symbol → encode (ident (span range) name) ≡ encode (ident_at (head_of r) symbol)
  ident-here f = rw (e, f)

  module _ (f : name ≡ text_of r) {a b : Output} (w : Writes a.out.now b.out.now (encode (ident (span range) name))) (s : b.out.ghost_name ≡ a.out.ghost_name) (d : b.diagnostics ≡ a.diagnostics) (n : b.names ≡ a.names) where
    pub short-name-kept : length name ≤ 65531 → b.fits ≡ a.fits → Keeps a b (ident_at (head_of r) (text_of r))
    unfolding texts_fit all_texts_fit
    short-name-kept l g = record {
      same = s;
      written = writes_as w (ident-here f);
      diagnostics = d;
      names = n;
      fits = let z : length (text_of r) ≤ 65531 = rw f at l in rw (lt-ltb (suc (suc (suc (suc (length (text_of r)))))) 65536 (omega arith)) (g ∙ sym (and-true a.fits));
    }

    pub long-name-kept : 65531 < length name → b.fits ≡ false → Keeps a b (ident_at (head_of r) (text_of r))
    unfolding texts_fit all_texts_fit
    long-name-kept l g = record {
      same = s;
      written = writes_as w (ident-here f);
      diagnostics = d;
      names = n;
      fits = let z : 65531 < length (text_of r) = rw f at l in rw (le-ltb (suc (suc (suc (suc (length (text_of r)))))) 65536 (omega arith)) (g ∙ sym (and-false a.fits));
    }

-- ---- keys as expressions

module _ (r : Record) where
  module _ {m : Mark} (n : number_of m ≡ mark_of (rec_of r)) where
    pub key-named : m ≡ Ki → ident_at (head_of (rec_of r)) (text_of (rec_of r)) ≡ key_expr (key_kind (mark_of (rec_of r))) (rec_of r)
    unfolding key_kind key_expr
    key-named e = rw (marked m n e)

    pub key-below : m ≡ Kc → {x : Record} → ChildIs r 0 x → rec_of x ≡ key_expr (key_kind (mark_of (rec_of r))) (rec_of r)
    unfolding key_kind key_expr
    key-below e x = rw (marked m n e) x.is

    pub key-kept : (m ≡ Ki → ⊥) → (m ≡ Kc → ⊥) → rec_of r ≡ key_expr (key_kind (mark_of (rec_of r))) (rec_of r)
    unfolding key_kind key_expr
    key-kept k l = rw (not_marked m n Ki k, not_marked m n Kc l) (go (eqb (mark_of (rec_of r)) (mark "Ss")))
      where
        go : (b : Bool) → rec_of r ≡ key_expr (cond b k_str k_num) (rec_of r)
        go true = refl
        go false = refl

  -- the expression of a Kc
  pub computes : mark_of (rec_of r) ≡ mark "Kc" → 0 < count (kids_of (rec_of r))
  unfolding grammar known slots place fixed
  computes e = omega (arith, (first_in _ _ _ (accepted r) (mark "Kc") (mark_here r ∙ e) refl expression refl).there, count_here r)
