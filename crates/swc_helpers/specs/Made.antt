-- Records that are made: keywords, and the fronts of records that wrap a type which is typed later.
use Rattle.std.specs.Prelude.{ℕ, List, [], ◌++◌}
use Prim.Native.String.{String}
use Rattle.definition.specs.Tree.{head_bytes, encode}
use Rattle.definition.specs.Record.{Range, made, absent}
use Rattle.swc_helpers.specs.declared.TsKeywordTypeKind.{TsKeywordTypeKind}
use Rattle.swc_helpers.specs.declared.TsKeywordTypeKind.TheVariants.{
  TsAnyKeyword,
  TsNumberKeyword,
  TsBooleanKeyword,
  TsBigIntKeyword,
  TsStringKeyword,
  TsUndefinedKeyword,
  TsNullKeyword,
}

-- "`Kw` the keyword"
abbrev pub keyword : TsKeywordTypeKind → String
keyword TsAnyKeyword = "any"
keyword TsNumberKeyword = "number"
keyword TsBooleanKeyword = "boolean"
keyword TsBigIntKeyword = "bigint"
keyword TsStringKeyword = "string"
keyword TsUndefinedKeyword = "undefined"
keyword TsNullKeyword = "null"

-- ---- fronts: what stands before the type in a record that wraps it

abbrev pub ts_readonly_front : Range → List ℕ
ts_readonly_front at = head_bytes (made "Ro" 0 at []) 1

abbrev pub ts_tuple_element_front : Range → List ℕ
ts_tuple_element_front at = head_bytes (made "Tm" 0 at []) 2 ++ encode absent

abbrev pub ts_rest_type_front : Range → List ℕ
ts_rest_type_front at = head_bytes (made "Rt" 0 at []) 1
