-- A type that may be missing, written where a Writer stands: what is known of it, and what a caller learns from the answer.
use Rattle.std.proofs.Common.{◌≡◌, refl, Some, None, Option as Answer}
use mathlib.Core.Option.{Option, none, some}
use Rattle.definition.specs.Tree.{Rec, encode}
use Rattle.records.specs.declared.writer.Writer.{Writer}
use Rattle.records.specs.Writers.{Writes}
use Rattle.swc_helpers.specs.Maybe.{Unwritten, MakesType}

pub makes-type : {a b : Writer} {t : Rec} → Writes a b (encode t) → MakesType a b (some t) (Some tt)
makes-type w = record { told = refl; made = w }

pub makes_none : (a : Writer) → MakesType a a none None
makes_none a = record { told = refl; made = record { buffer = refl; same = refl; position = refl } }

pub makes_as : {a b : Writer} {t u : Option Rec} {x : Answer (Unit {0})} → MakesType a b t x → t ≡ u → MakesType a b u x
makes_as m e = rw (← e) m

-- what a caller learns
pub is_made : {a b : Writer} (t : Option Rec) {x : Answer (Unit {0})} {v : Unit {0}} → x ≡ Some v → MakesType a b t x → (r : Rec) × (t ≡ some r) × Writes a b (encode r)
is_made none e m = absurd (cc m.told)
is_made (some r) e m = (r, refl, m.made)

pub is_missing : {a b : Writer} (t : Option Rec) {x : Answer (Unit {0})} → x ≡ None → MakesType a b t x → (t ≡ none) × Unwritten a b
is_missing none e m = (refl, m.made)
is_missing (some r) e m = absurd (cc m.told)
