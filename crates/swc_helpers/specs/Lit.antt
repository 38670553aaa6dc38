-- A literal as a value of the code, over the record that it is.
use Rattle.std.specs.Prelude.{ℕ, List, [], ◌++◌}
use Rattle.definition.specs.Tree.{Rec, head_bytes}
use Rattle.definition.specs.Record.{head_of, mark_of, text_of, Range, made, has1}
use Rattle.definition.specs.Helpers.{Lit, l_str, l_bool, l_null, l_num, l_big_int, l_regex, l_jsx_text, lit_kind}
use Rattle.records.specs.declared.tree.Record.{Record}
use Rattle.records.specs.Views.{rec_of}
use Rattle.swc_helpers.specs.declared.lit.Literal.{Literal}
use Rattle.swc_helpers.specs.declared.lit.Literal.TheVariants.{Str, Num, BigInt, Bool, Null, Regex, JsxText}
use Rattle.swc_helpers.specs.Literal.{number_of}

-- what each case says of the record r: a string and a big integer are it, a number is its f64, a boolean is flag 1
unfoldable pub lit_by : Lit → Record → Literal
lit_by l_str r = Str r
lit_by l_bool r = Bool (has1 (head_of (rec_of r)))
lit_by l_null r = Null
lit_by l_num r = Num (number_of (text_of (rec_of r)))
lit_by l_big_int r = BigInt r
lit_by l_regex r = Regex
lit_by l_jsx_text r = JsxText

abbrev pub lit_of : Record → Literal
lit_of r = lit_by (lit_kind (mark_of (rec_of r))) r

-- the type of a literal with another text of the same length, before that text
abbrev pub lit_front : Range → Rec → List ℕ
lit_front range r = head_bytes (made "Tl" 0 range []) 1 ++ head_bytes (head_of r) 0
