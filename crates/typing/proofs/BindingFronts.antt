-- Parameters before their types: the names in them, and a name that is longer than the room that was left for it.
use mathlib.Core.Path.{◌≡◌, refl, sym, ap, ◌∙◌}
use mathlib.Core.List.{List, [], ◌++◌, append_assoc}
use mathlib.Core.Bool.{true}
use mathlib.Core.Option.{Option}
use Prim.Native.Nat.{ℕ, ◌<◌}
use native.Mathlib.Omega.{arith}
use Rattle.definition.specs.Tree.{Head, Rec, count, head_bytes, encode}
use Rattle.definition.specs.Grammar.{mark, marks, grammar, known, slots, place}
use Rattle.definition.specs.Record.{kids_of, mark_of, symbol_of, ident_at, ranged, kid, Out}
use Rattle.definition.specs.Typing.{binding_ident}
use Rattle.definition.specs.Transform.{texts_fit, all_texts_fit}
use Rattle.definition.proofs.Kids.{fixed, left_of_lem, first_in, member-one}
use Rattle.records.specs.declared.Range.{Range}
use Rattle.records.specs.declared.tree.Record.{Record}
use Rattle.records.specs.Fields.{span, range_of}
use Rattle.records.specs.Views.{rec_of, ChildIs}
use Rattle.records.proofs.Puts.{encode-two}
use Rattle.records.proofs.Records.{kid_marks}
use Rattle.records.proofs.Views.{accepted, mark_here, count_here}
use Rattle.output.specs.declared.Output.{Output}
use Rattle.output.specs.Outputs.{Puts, Step}
use Rattle.output.proofs.Steps.{and-true, step_then, step-as, step-puts, IsSome}
use Rattle.typing.specs.Parts.{binding_front}

-- the left side of an Ag
pub assigns : (r : Record) → mark_of (rec_of r) ≡ mark "Ag" → 0 < count (kids_of (rec_of r))
assigns r e = omega (arith, (left_of_lem _ _ _ (accepted r) (mark_here r ∙ e)).there, count_here r)

-- the Id of a Bd
module _ (r : Record) (e : mark_of (rec_of r) ≡ mark "Bd") where
  pub binds : 0 < count (kids_of (rec_of r))
  unfolding grammar known slots place fixed
  binds = omega (arith, (first_in _ _ _ (accepted r) (mark "Bd") (mark_here r ∙ e) refl "Id" refl).there, count_here r)

  pub bound : {x : Record} → ChildIs r 0 x → mark_of (rec_of x) ≡ mark "Id"
  unfolding grammar known slots place fixed marks
  bound x = ap mark_of x.is ∙ member-one _ _ (kid_marks r e refl 0 "Id" refl)

-- the name of the pattern that is the left side
pub left-name : {r x y : Record} → ChildIs r 0 x → ChildIs x 0 y → rec_of y ≡ kid 0 (kids_of (kid 0 (kids_of (rec_of r))))
left-name f g = g.is ∙ ap (λ (t : Rec). kid 0 (kids_of t)) f.is

pub binding-as : {at a : Range} {name : List ℕ} {t : Rec} {u : Rec} → at ≡ a → name ≡ symbol_of t → t ≡ u → binding_front (span at) name ≡ binding_front (span a) (symbol_of u)
binding-as e f g = rw (e, f, g)

-- the front and the type
pub binding-encode : (h : Head) (name : List ℕ) (ty : Rec) → binding_front (span (range_of h)) name ++ encode ty ≡ encode (binding_ident h name ty)
binding-encode h name ty = append_assoc (head_bytes (ranged "Bd" h []) 2) (encode (ident_at h name)) (encode ty) ∙ encode-two (ranged "Bd" h []) (ident_at h name) ty refl

pub binding-fits : (h : Head) (name : List ℕ) (ty : Rec) → texts_fit (ident_at h name) ≡ true → texts_fit ty ≡ texts_fit (binding_ident h name ty)
unfolding texts_fit all_texts_fit
binding-fits h name ty e = rw e (sym (and-true (texts_fit ty)))

-- a parameter whose name stood in front of its type
pub named-made : (h : Head) (name : List ℕ) {a b c : Output} {y : Out (Option Rec)} → Puts a b (binding_front (span (range_of h)) name) true → texts_fit (ident_at h name) ≡ true → (w : IsSome b c y)
    → Step a c (encode (binding_ident h name w.type)) y.1 y.2 (texts_fit (binding_ident h name w.type))
named-made h name p e w = step-as (step_then (step-puts p) w.step) (binding-encode h name w.type) refl refl (binding-fits h name w.type e)
