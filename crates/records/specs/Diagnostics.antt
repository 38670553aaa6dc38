-- The marks of the diagnostics of the code.
use Rattle.std.specs.Prelude.{ℕ}
use Rattle.definition.specs.Grammar.{mark}
use Rattle.records.specs.declared.diagnostics.FastCheckDtsDiagnostic.{FastCheckDtsDiagnostic}
use Rattle.records.specs.declared.diagnostics.FastCheckDtsDiagnostic.TheVariants.{
  UnableToInferType,
  UnableToInferTypeFallbackAny,
  UnableToInferTypeFromProp,
  UnableToInferTypeFromSpread,
  UnsupportedUsing,
}

-- "`d1` to `d5`", "the cases of `FastCheckDtsDiagnostic`, in order"
abbrev pub mark_of : FastCheckDtsDiagnostic → ℕ
mark_of UnableToInferType = mark "d1"
mark_of UnableToInferTypeFallbackAny = mark "d2"
mark_of UnableToInferTypeFromProp = mark "d3"
mark_of UnableToInferTypeFromSpread = mark "d4"
mark_of UnsupportedUsing = mark "d5"
