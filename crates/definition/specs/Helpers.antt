-- swc_helpers.rs: small types, types of literals and of templates, the argument of `Object.freeze`.
use Rattle.std.specs.Prelude.{ℕ, List, [], Bool, true, false, cond, not, ◌&&◌, ◌||◌, eqb}
use Prim.Native.String.{String}
use Rattle.std.proofs.Math.Option.{Option, none, some}
use Rattle.definition.specs.Tree.{Rec, Recs, rec, nil, cons}
use Rattle.definition.specs.Grammar.{mark}
use Rattle.definition.specs.Record.{text, same_text, head_of, kids_of, text_of, is, context_of, symbol_of, Range, dummy_sp, made, fresh, absent, ident, has1, kid, one, ends}
use Rattle.definition.specs.ChildNames.{mb_object, mb_property}

-- ---- small types; each is made with a range, which is its first argument

-- `ts_keyword_type`: "`Kw` the keyword"
abbrev pub ts_keyword_type : Range → String → Rec
ts_keyword_type at s = rec (made "Kw" 0 at (text s)) nil

-- `any_type_ann`
abbrev pub any_type_ann : Range → Rec
any_type_ann at = ts_keyword_type at "any"

-- `ts_readonly`: "`Ro` (readonly) type"
abbrev pub ts_readonly : Range → Rec → Rec
ts_readonly at t = rec (made "Ro" 0 at []) (one t)

-- a reference to what an Id names: "`Rf` (reference) Id|Op Op?"
abbrev pub reference_to : Range → Rec → Rec
reference_to at i = rec (made "Rf" 0 at []) (cons i (one absent))

-- `type_ref`; the Id in it is at `DUMMY_SP`
abbrev pub type_ref : Range → List ℕ → Rec
type_ref at name = reference_to at (ident dummy_sp name)

-- `ts_lit_type`: "`Tl` (literal)"
abbrev pub ts_lit_type : Range → Rec → Rec
ts_lit_type at l = rec (made "Tl" 0 at []) (one l)

-- `regex_type`
abbrev pub regex_type : Range → Rec
regex_type at = type_ref at (text "RegExp")

-- `ts_tuple_element`: "`Tm` Op? type"
abbrev pub ts_tuple_element : Range → Rec → Rec
ts_tuple_element at t = rec (made "Tm" 0 at []) (cons absent (one t))

-- `TsTypeQuery` of an Id: "`Tf` (typeof)"
abbrev pub ts_type_query : Range → Rec → Rec
ts_type_query at i = rec (made "Tf" 0 at []) (one i)

-- ---- `object_freeze_call_arg`

-- an Id of the unresolved context with this symbol
abbrev pub is_global : ℕ → String → Rec → Bool
is_global ctx s r = is "Id" r && (same_text (symbol_of r) (text s) && eqb (context_of r) ctx)

-- "unresolved `Object.freeze` of one non-spread argument": whether a Ca with these children is that; its argument is the child at place 1
unfoldable pub object_freeze_call_arg : ℕ → Recs → Bool
object_freeze_call_arg ctx nil = false
object_freeze_call_arg ctx (cons callee nil) = false
object_freeze_call_arg ctx (cons callee (cons arg rest)) =
    is "Mb" callee && (
    is_global ctx "Object" (kid mb_object (kids_of callee)) && (
    (is "Ki" (kid mb_property (kids_of callee)) && same_text (text_of (kid mb_property (kids_of callee))) (text "freeze")) && (
    not (is "Op" arg) && (ends rest && not (is "Sp" arg)))))

-- ---- `tpl_to_ts_type`

-- `exprs.is_empty()`: only Qu and Ops
unfoldable pub no_exprs : Recs → Bool
no_exprs nil = true
no_exprs (cons r rs) = (is "Qu" r || is "Op" r) && no_exprs rs

-- `quasis.first()` is there and cooked: "`Qu` (1 cooked; its text is the cooked value, else empty)"
abbrev pub first_cooked : Recs → Bool
first_cooked ks = is "Qu" (kid 0 ks) && has1 (head_of (kid 0 ks))

unfoldable pub tpl_to_ts_type : Recs → Bool → Rec
tpl_to_ts_type ks true =
    cond (no_exprs ks && first_cooked ks) (ts_lit_type dummy_sp (rec (fresh "Ss" 0 (text_of (kid 0 ks))) nil)) (ts_keyword_type dummy_sp "string")
tpl_to_ts_type ks false = ts_keyword_type dummy_sp "string"

-- ---- `maybe_lit_to_ts_type`

-- "A literal is a string, a number, a big integer, a boolean, null or a regex"; "also `Jt` (JSX text)"
pub data Lit : Type 0 where
  l_str l_bool l_null l_num l_big_int l_regex l_jsx_text : Lit

unfoldable pub lit_kind : ℕ → Lit
lit_kind m =
    cond (eqb m (mark "Ss")) l_str
    (cond (eqb m (mark "Bl")) l_bool
    (cond (eqb m (mark "Nl")) l_null
    (cond (eqb m (mark "Nu")) l_num
    (cond (eqb m (mark "Bi")) l_big_int
    (cond (eqb m (mark "Re")) l_regex l_jsx_text)))))

-- the type of a literal: `DeclMutabilityKind::Const` where the last argument is true, `Mutable` where it is false
unfoldable pub maybe_lit_to_ts_type : Lit → Rec → Bool → Option Rec
maybe_lit_to_ts_type l_str r true = some (ts_lit_type dummy_sp r)
maybe_lit_to_ts_type l_bool r true = some (ts_lit_type dummy_sp r)
maybe_lit_to_ts_type l_null r true = some (ts_keyword_type dummy_sp "null")
maybe_lit_to_ts_type l_num r true = some (ts_lit_type dummy_sp r)
maybe_lit_to_ts_type l_big_int r true = some (ts_lit_type dummy_sp r)
maybe_lit_to_ts_type l_regex r true = some (regex_type dummy_sp)
maybe_lit_to_ts_type l_jsx_text r true = none
maybe_lit_to_ts_type l_str r false = some (ts_keyword_type dummy_sp "string")
maybe_lit_to_ts_type l_bool r false = some (ts_keyword_type dummy_sp "boolean")
maybe_lit_to_ts_type l_null r false = some (ts_keyword_type dummy_sp "null")
maybe_lit_to_ts_type l_num r false = some (ts_keyword_type dummy_sp "number")
maybe_lit_to_ts_type l_big_int r false = some (ts_keyword_type dummy_sp "bigint")
maybe_lit_to_ts_type l_regex r false = some (regex_type dummy_sp)
maybe_lit_to_ts_type l_jsx_text r false = none
