-- Answers over records: a type that was written or not, the argument of `Object.freeze`, the quasi of a template.
use Rattle.std.specs.Prelude.{◌≡◌, ℕ, Bool, true, false, ◌&&◌, Option as Answer, Some, None, MatchOption}
use Rattle.std.proofs.Math.Option.{Option, none, some}
use Rattle.definition.specs.Tree.{Rec, encode}
use Rattle.definition.specs.Record.{kids_of}
use Rattle.definition.specs.Helpers.{object_freeze_call_arg, no_exprs, first_cooked}
use Rattle.records.specs.declared.tree.Record.{Record}
use Rattle.records.specs.declared.writer.Writer.{Writer}
use Rattle.records.specs.Views.{rec_of, ChildIs}
use Rattle.records.specs.Writers.{Writes}

-- ---- `Option<TsType>`

-- nothing was written, and the writer stands where it stood
pub record Unwritten (w w' : Writer) : Type 0 where
  pub buffer : w'.out.ghost_name ≡ w.out.ghost_name
  pub same : w'.out.now ≡ w.out.now
  pub position : w'.at ≡ w.at

-- what was done for a type that may be missing, and what tells whether there is one
abbrev pub Made : Writer → Writer → Option Rec → Type 0
Made w w' none = Unwritten w w'
Made w w' (some t) = Writes w w' (encode t)

abbrev pub told_of : Option Rec → Answer (Unit {0})
told_of none = None
told_of (some t) = Some tt

-- a type was written, or there is none and nothing was; the answer tells which
pub record MakesType (w w' : Writer) (t : Option Rec) (answer : Answer (Unit {0})) : Type 0 where
  pub told : answer ≡ told_of t
  pub made : Made w w' t

-- ---- children that are found

-- the child of r with the number i, where a test holds
abbrev pub ChildIf : Bool → Record → ℕ → Answer Record → Type 0
ChildIf b r i answer = MatchOption answer (b ≡ false) (λ x. (b ≡ true) × ChildIs r i x)

-- the argument of a call of `Object.freeze`
abbrev pub FreezeArg : Record → ℕ → Answer Record → Type 0
FreezeArg call unresolved answer = ChildIf (object_freeze_call_arg unresolved (kids_of (rec_of call))) call 1 answer

-- the first quasi of a template, where it is cooked
abbrev pub CookedQuasi : Record → Answer Record → Type 0
CookedQuasi te answer = ChildIf (first_cooked (kids_of (rec_of te))) te 0 answer

-- the same where the literal is kept and there are no expressions
abbrev pub KeptQuasi : Record → Bool → Answer Record → Type 0
KeptQuasi te as_const answer = ChildIf (as_const && (no_exprs (kids_of (rec_of te)) && first_cooked (kids_of (rec_of te)))) te 0 answer
