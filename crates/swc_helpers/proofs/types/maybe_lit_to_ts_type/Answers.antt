-- `types::maybe_lit_to_ts_type` meets its contract.
use Rattle.std.proofs.Common.{refl}
use Rattle.definition.specs.Helpers.{maybe_lit_to_ts_type}
use Rattle.swc_helpers.proofs.Maybe.{makes-type, makes_none}
use Rattle.swc_helpers.proofs.LitKinds.{lit_makes}
use Rattle.swc_helpers.proofs.types.maybe_lit_to_ts_type.Goals as goal

pub returns-in-Str : goal.returns-in-Str
unfolding maybe_lit_to_ts_type
returns-in-Str c = lit_makes maybe_lit_to_ts_type c.args.lit c.of.ensures c.in-Str.is c.in-Const.is refl (makes-type c.ts_lit_type.ensures)

pub returns-in-Bool : goal.returns-in-Bool
unfolding maybe_lit_to_ts_type
returns-in-Bool c = lit_makes maybe_lit_to_ts_type c.args.lit c.of.ensures c.in-Bool.is c.in-Const.is refl (makes-type c.ts_lit_type-in-Bool.ensures)

pub returns-in-Null : goal.returns-in-Null
unfolding maybe_lit_to_ts_type
returns-in-Null c = lit_makes maybe_lit_to_ts_type c.args.lit c.of.ensures c.in-Null.is c.in-Const.is refl c.some_keyword.ensures

pub returns-in-Num : goal.returns-in-Num
unfolding maybe_lit_to_ts_type
returns-in-Num c = lit_makes maybe_lit_to_ts_type c.args.lit c.of.ensures c.in-Num.is c.in-Const.is refl (makes-type c.ts_lit_type-in-Num.ensures)

pub returns-in-BigInt : goal.returns-in-BigInt
unfolding maybe_lit_to_ts_type
returns-in-BigInt c = lit_makes maybe_lit_to_ts_type c.args.lit c.of.ensures c.in-BigInt.is c.in-Const.is refl (makes-type c.ts_lit_type-in-BigInt.ensures)

pub returns-in-Regex : goal.returns-in-Regex
unfolding maybe_lit_to_ts_type
returns-in-Regex c = lit_makes maybe_lit_to_ts_type c.args.lit c.of.ensures c.in-Regex.is c.in-Const.is refl (makes-type c.regex_type.ensures)

pub returns-in-JsxText : goal.returns-in-JsxText
unfolding maybe_lit_to_ts_type
returns-in-JsxText c = lit_makes maybe_lit_to_ts_type c.args.lit c.of.ensures c.in-JsxText.is c.in-Const.is refl (makes_none _)

pub returns-in-Str-of : goal.returns-in-Str-of
unfolding maybe_lit_to_ts_type
returns-in-Str-of c = lit_makes maybe_lit_to_ts_type c.args.lit c.of-in-Mutable.ensures c.in-Str-of.is c.in-Mutable.is refl c.some_keyword-in-Str-of.ensures

pub returns-in-Bool-of : goal.returns-in-Bool-of
unfolding maybe_lit_to_ts_type
returns-in-Bool-of c = lit_makes maybe_lit_to_ts_type c.args.lit c.of-in-Mutable.ensures c.in-Bool-of.is c.in-Mutable.is refl c.some_keyword-in-Bool-of.ensures

pub returns-in-Null-of : goal.returns-in-Null-of
unfolding maybe_lit_to_ts_type
returns-in-Null-of c = lit_makes maybe_lit_to_ts_type c.args.lit c.of-in-Mutable.ensures c.in-Null-of.is c.in-Mutable.is refl c.some_keyword-in-Null-of.ensures

pub returns-in-Num-of : goal.returns-in-Num-of
unfolding maybe_lit_to_ts_type
returns-in-Num-of c = lit_makes maybe_lit_to_ts_type c.args.lit c.of-in-Mutable.ensures c.in-Num-of.is c.in-Mutable.is refl c.some_keyword-in-Num-of.ensures

pub returns-in-BigInt-of : goal.returns-in-BigInt-of
unfolding maybe_lit_to_ts_type
returns-in-BigInt-of c = lit_makes maybe_lit_to_ts_type c.args.lit c.of-in-Mutable.ensures c.in-BigInt-of.is c.in-Mutable.is refl c.some_keyword-in-BigInt-of.ensures

pub returns-in-Regex-of : goal.returns-in-Regex-of
unfolding maybe_lit_to_ts_type
returns-in-Regex-of c = lit_makes maybe_lit_to_ts_type c.args.lit c.of-in-Mutable.ensures c.in-Regex-of.is c.in-Mutable.is refl (makes-type c.regex_type-in-Regex-of.ensures)

pub returns-in-JsxText-of : goal.returns-in-JsxText-of
unfolding maybe_lit_to_ts_type
returns-in-JsxText-of c = lit_makes maybe_lit_to_ts_type c.args.lit c.of-in-Mutable.ensures c.in-JsxText-of.is c.in-Mutable.is refl (makes_none _)
