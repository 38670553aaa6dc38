-- What a function did to an Output that it was lent. Each relation says too that the Output still lends the writers that it lent: `same`, and the ghost
-- names of their buffers.
use Rattle.std.specs.Prelude.{◌≡◌, ℕ, List, [], ◌∷◌, ◌++◌, Bool, true, ◌&&◌, length, Option as Answer, Some, None}
use Rattle.std.proofs.Math.Option.{Option, none, some}
use Rattle.definition.specs.Tree.{Head, Rec, Recs, count, head_bytes, encode, encodes}
use Rattle.definition.specs.Record.{dummy_sp, Diag, diag_bytes, diags_bytes, Out}
use Rattle.definition.specs.Helpers.{any_type_ann}
use Rattle.definition.specs.Transform.{texts_fit, all_texts_fit}
use Rattle.records.specs.declared.diagnostics.FastCheckDtsDiagnostic.{FastCheckDtsDiagnostic}
use Rattle.records.specs.declared.writer.Writer.{Writer}
use Rattle.records.specs.Diagnostics.{mark_of}
use Rattle.records.specs.Writers.{Writes, Skips, Fronts}
use Rattle.records.specs.Wrote.{Wrote, sat}
use Rattle.output.specs.declared.Output.{Output}
use Rattle.output.specs.declared.Start.{Start}

-- ---- parts of what is written

-- a record before its children: its head, which says how many they are, and its text
abbrev pub front_bytes : Head → ℕ → List ℕ
front_bytes h n = head_bytes h n ++ h.text

-- a diagnostic at the range of a record
abbrev pub diag_for : FastCheckDtsDiagnostic → Head → Diag
diag_for kind h = record { mark = mark_of kind; start = h.start; end = h.end }

-- where an output stands
abbrev pub start_of : Output → Start
start_of o = record { at = o.out.now.at; fits = o.fits }

-- ---- one write

-- only E was written; f says whether its texts fit
pub record Puts (o o' : Output) (E : List ℕ) (f : Bool) : Type 0 where
  pub same : o'.out.ghost_name ≡ o.out.ghost_name
  pub written : Writes o.out.now o'.out.now E
  pub diagnostics : o'.diagnostics ≡ o.diagnostics
  pub names : o'.names ≡ o.names
  pub fits : o'.fits ≡ (o.fits && f)

-- only the record t was written, or only the records ts
abbrev pub Keeps : Output → Output → Rec → Type 0
Keeps o o' t = Puts o o' (encode t) (texts_fit t)

abbrev pub KeepsAll : Output → Output → Recs → Type 0
KeepsAll o o' ts = Puts o o' (encodes ts) (all_texts_fit ts)

-- only the diagnostic d was marked
pub record Marks (o o' : Output) (d : Diag) : Type 0 where
  pub same : o'.diagnostics.ghost_name ≡ o.diagnostics.ghost_name
  pub marked : Writes o.diagnostics.now o'.diagnostics.now (diag_bytes d)
  pub out : o'.out ≡ o.out
  pub names : o'.names ≡ o.names
  pub fits : o'.fits ≡ o.fits

-- nothing was written, and what follows is written n further on
pub record Skipped (o o' : Output) (n : ℕ) : Type 0 where
  pub same : o'.out.ghost_name ≡ o.out.ghost_name
  pub skips : Skips o.out.now o'.out.now n
  pub diagnostics : o'.diagnostics ≡ o.diagnostics
  pub names : o'.names ≡ o.names
  pub fits : o'.fits ≡ o.fits

-- E was written where something began, and the output stands where it stood
pub record Fronted (o o' : Output) (start : Start) (E : List ℕ) : Type 0 where
  pub same : o'.out.ghost_name ≡ o.out.ghost_name
  pub fronts : Fronts o.out.now o'.out.now start.at E
  pub diagnostics : o'.diagnostics ≡ o.diagnostics
  pub names : o'.names ≡ o.names
  pub fits : o'.fits ≡ o.fits

-- what was written from there on is given up
pub record Returned (o o' : Output) (start : Start) : Type 0 where
  pub same : o'.out.ghost_name ≡ o.out.ghost_name
  pub buffer : o'.out.now.out ≡ o.out.now.out
  pub position : o'.out.now.at ≡ start.at
  pub diagnostics : o'.diagnostics ≡ o.diagnostics
  pub names : o'.names ≡ o.names
  pub fits : o'.fits ≡ start.fits

-- ---- a step of the definition

-- E was written where the writer stood, and it stands behind E; what its buffer holds behind that is open, so that a part that was given up can be
-- written over
pub record Adds (w w' : Writer) (E : List ℕ) : Type 0 where
  pub buffer : w'.out.ghost_name ≡ w.out.ghost_name
  pub wrote : Wrote w.out.now w'.out.now w.at E
  pub position : w'.at ≡ sat w.at (length E)

-- they are the same two writers
pub record SameWriters (o o' : Output) : Type 0 where
  pub out : o'.out.ghost_name ≡ o.out.ghost_name
  pub diagnostics : o'.diagnostics.ghost_name ≡ o.diagnostics.ghost_name

-- the bytes E and the diagnostics ds were written, the counter became n, and f says whether the texts of E fit
pub record Step (o o' : Output) (E : List ℕ) (ds : List Diag) (n : ℕ) (f : Bool) : Type 0 where
  pub out : Adds o.out.now o'.out.now E
  pub diagnostics : Adds o.diagnostics.now o'.diagnostics.now (diags_bytes ds)
  pub writers : SameWriters o o'
  pub counter : o'.names.id_counter ≡ n
  pub fits : o'.fits ≡ (o.fits && f)

-- the record that the step x gives was made, or the records
pub record Makes (o o' : Output) (x : Out Rec) : Type 0 where
  pub step : Step o o' (encode x.0) x.1 x.2 (texts_fit x.0)

pub record MakesAll (o o' : Output) (x : Out Recs) : Type 0 where
  pub step : Step o o' (encodes x.0) x.1 x.2 (all_texts_fit x.0)

-- the records were made, and n says how many they are
pub record MakesCounted (o o' : Output) (n : ℕ) (x : Out Recs) : Type 0 where
  pub many : n ≡ count x.0
  pub made : MakesAll o o' x

-- a record that may be missing
abbrev pub bytes_of : Option Rec → List ℕ
bytes_of none = []
bytes_of (some t) = encode t

abbrev pub fit_of : Option Rec → Bool
fit_of none = true
fit_of (some t) = texts_fit t

abbrev pub told_of : Option Rec → Answer (Unit {0})
told_of none = None
told_of (some t) = Some tt

-- whether the step x gives one is told, and it was made
pub record MakesMaybe (o o' : Output) (r : Answer (Unit {0})) (x : Out (Option Rec)) : Type 0 where
  pub told : r ≡ told_of x.0
  pub step : Step o o' (bytes_of x.0) x.1 x.2 (fit_of x.0)

-- a type t that was written, and nothing else, or any and the diagnostic d
pub record Filled (o o' : Output) (t : Answer (Unit {0})) (d : Diag) : Type 0 where
  pub typed : t ≡ Some tt → o' ≡ o
  pub any : t ≡ None → Step o o' (encode (any_type_ann dummy_sp)) (d ∷ []) o.names.id_counter true
