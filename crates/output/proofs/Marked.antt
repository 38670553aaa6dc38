-- A diagnostic that is marked.
use mathlib.Core.Path.{◌≡◌}
use Rattle.definition.specs.Tree.{Head}
use Rattle.definition.specs.Record.{diag_bytes}
use Rattle.records.specs.declared.Range.{Range}
use Rattle.records.specs.declared.diagnostics.FastCheckDtsDiagnostic.{FastCheckDtsDiagnostic}
use Rattle.records.specs.Diagnostics.{mark_of}
use Rattle.records.specs.Fields.{range_of, diag_of}
use Rattle.records.specs.Writers.{Writes}
use Rattle.output.specs.declared.Output.{Output}
use Rattle.output.specs.Outputs.{diag_for, Marks}

pub marks : {a b : Output} (kind : FastCheckDtsDiagnostic) (h : Head) {range : Range} → range ≡ range_of h → Writes a.diagnostics.now b.diagnostics.now (diag_bytes (diag_of (mark_of kind) range.start range.end))
    → b.diagnostics.ghost_name ≡ a.diagnostics.ghost_name → b.out ≡ a.out → b.names ≡ a.names → b.fits ≡ a.fits → Marks a b (diag_for kind h)
marks kind h e w s o n f = record { same = s; marked = rw e at w; out = o; names = n; fits = f }
