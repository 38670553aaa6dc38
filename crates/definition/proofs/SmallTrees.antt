-- Small trees, written short, and what a module becomes: for the theorems that evaluate the examples of docs/DIFFERENCES.md.
use Prim.Native.Nat.{ℕ}
use Prim.Native.String.{String}
use mathlib.Core.List.{List, [], ◌∷◌, ◌++◌}
use Rattle.definition.specs.Tree.{Rec, Recs, rec, nil, cons, le4}
use Rattle.definition.specs.Grammar.{mark, marks, member}
use Rattle.definition.specs.Record.{text, same_text, head_of, kids_of, fresh, absent, with_flags, one, Diag, entries_have, listed, each, flat, second}
use Rattle.definition.specs.Helpers.{object_freeze_call_arg, no_exprs, tpl_to_ts_type, lit_kind, maybe_lit_to_ts_type}
use Rattle.definition.specs.Prescan.{array_type_kind, is_array_type_by, is_array_type, array_init_kind, is_array_lit_init_by, is_array_lit_init, add_declarator, add_declarators, declared_kind, add_decl_by, asked}
use Rattle.definition.specs.Names.{decimal_up_to, gen_unique_name, well_known_symbol_names, any_text, is_well_known_symbol_expr, key_expr_kind, prop_name_by, prop_name_from_expr, valid_prop_name}
use Rattle.definition.specs.Typing.{frozen_kind, plain_members, readonly_members, readonly_of_by, turned, turned_integer, minus_by, element_kind, element_by, spread_kind, key_kind, key_expr, prop_kind, param_kind, default_param, param_by, expr_kind, global_type, ident_to_ts_type, new_type, spread_by, prop_by, expr_by, expr_to_ts_type}
use Rattle.definition.specs.Classes.{handle_func_param_ident, pattern_kind, handle_func_param_assign, handle_pattern_by, handle_func_param, function_part, handle_function, constructor_part, constructor, method, class_prop, member_kind, member_by, class_body_to_type, class}
use Rattle.definition.specs.Enums.{init_kind, valid_by, valid_enum_init_expr, enum_init, enum_member}
use Rattle.definition.specs.Items.{item_kind, decl_kind, default_kind, body_kind, declarator_pattern, declarator, without_body, default_typed, decl_to_type_decl, transform_module_stmt, export_decl, export_default_decl, export_default_expr, item_by, body_by, transform_module_items}
use Rattle.definition.specs.Transform.{transform_by, transform}

-- a record with a text, or with children; the range is 0 to 0 and no flag is set
abbrev pub leaf : String → List ℕ → Rec
leaf s t = rec (fresh s 0 t) nil

abbrev pub node : String → Recs → Rec
node s ks = rec (fresh s 0 []) ks

abbrev pub flags : ℕ → Rec → Rec
flags f r = rec (with_flags (head_of r) f) (kids_of r)

abbrev pub two : Rec → Rec → Recs
two a b = cons a (one b)

abbrev pub three : Rec → Rec → Rec → Recs
three a b c = cons a (two b c)

-- names, keys, opaque parts, the numbers 0, 1 and 2, keywords
abbrev pub id : String → Rec
id s = leaf "Id" (le4 2 ++ text s)

abbrev pub made : String → Rec
made s = leaf "Id" (le4 0 ++ text s)

abbrev pub key : String → Rec
key s = leaf "Ki" (text s)

abbrev pub op : String → Rec
op s = leaf "Op" (text s)

abbrev pub number_0 : Rec
number_0 = leaf "Nu" (0 ∷ 0 ∷ 0 ∷ 0 ∷ 0 ∷ 0 ∷ 0 ∷ 0 ∷ [])

abbrev pub number : Rec
number = leaf "Nu" (0 ∷ 0 ∷ 0 ∷ 0 ∷ 0 ∷ 0 ∷ 240 ∷ 63 ∷ [])

abbrev pub number_2 : Rec
number_2 = leaf "Nu" (0 ∷ 0 ∷ 0 ∷ 0 ∷ 0 ∷ 0 ∷ 0 ∷ 64 ∷ [])

abbrev pub keyword : String → Rec
keyword s = leaf "Kw" (text s)

-- the call of a function without arguments
abbrev pub call_of : String → Rec
call_of s = node "Ca" (one (id s))

-- a module of one item, and of one that is exported
abbrev pub module_of : Rec → Rec
module_of r = node "Mo" (one r)

abbrev pub exported : Rec → Rec
exported r = module_of (node "Ed" (one r))

-- a name with a type; a variable with a name, a type and an initial value, where flag 2 is `const` and flag 1 says that it is declared
abbrev pub name : String → Rec → Rec
name s t = node "Bd" (two (id s) t)

abbrev pub variable : ℕ → String → Rec → Rec → Rec
variable f s t e = flags f (node "Vd" (one (node "Vr" (two (name s t) e))))

abbrev pub const : ℕ → String → Rec → Rec → Rec
const f s t e = module_of (variable f s t e)

-- an enum E of one member A with an initial value
abbrev pub enum_of : ℕ → Rec → Rec
enum_of f e = flags f (node "En" (two (id "E") (node "Em" (two (op "A") e))))

-- a function with a return type, a body and parameters; a function f of these
abbrev pub function_of_lem : Rec → Rec → Recs → Rec
function_of_lem t body ps = node "Fu" (cons absent (cons t (cons body ps)))

abbrev pub declared-fn : ℕ → Rec → Rec → Recs → Rec
declared-fn f t body ps = flags f (node "Fd" (two (id "f") (function_of_lem t body ps)))

-- a parameter: a name with a type, and with the default 1
abbrev pub param : String → Rec → Rec
param s t = node "Pa" (one (name s t))

abbrev pub param-default : Rec
param-default = node "Pa" (one (node "Ag" (two (name "a" absent) number)))

-- an arrow with a return type and parameters, and its type
abbrev pub arrow_of : Rec → Recs → Rec
arrow_of t ps = node "Aw" (cons absent (cons t ps))

abbrev pub arrow-type : Rec → Recs → Rec
arrow-type t ps = node "Ft" (cons absent (cons t ps))

-- a class A with members; a property a with a type and an initial value
abbrev pub class_of : ℕ → Recs → Rec
class_of f ms = flags f (node "Cd" (two (id "A") (node "Cl" (cons absent ms))))

abbrev pub property : Rec → Rec → Rec
property t e = node "Cp" (three (key "a") t e)

-- a diagnostic; all ranges are 0 to 0
abbrev pub told : String → Diag
told s = record { mark = mark s; start = 0; end = 0 }

-- what a module becomes, with no overloads and the unresolved context 1, and the diagnostics
unfoldable pub becomes : Rec → Rec × List Diag
unfolding
    marks member same_text entries_have listed each flat second
    object_freeze_call_arg no_exprs tpl_to_ts_type lit_kind maybe_lit_to_ts_type
    array_type_kind is_array_type_by is_array_type array_init_kind is_array_lit_init_by is_array_lit_init add_declarator add_declarators declared_kind add_decl_by asked
    decimal_up_to gen_unique_name well_known_symbol_names any_text is_well_known_symbol_expr key_expr_kind prop_name_by prop_name_from_expr valid_prop_name
    frozen_kind plain_members readonly_members readonly_of_by turned turned_integer minus_by element_kind element_by spread_kind key_kind key_expr prop_kind
    param_kind default_param param_by expr_kind global_type ident_to_ts_type new_type spread_by prop_by expr_by expr_to_ts_type
    handle_func_param_ident pattern_kind handle_func_param_assign handle_pattern_by handle_func_param function_part handle_function constructor_part
    constructor method class_prop member_kind member_by class_body_to_type class
    init_kind valid_by valid_enum_init_expr enum_init enum_member
    item_kind decl_kind default_kind body_kind declarator_pattern declarator without_body default_typed decl_to_type_decl transform_module_stmt export_decl
    export_default_decl export_default_expr item_by body_by transform_module_items
    transform_by transform
becomes r = ((transform [] 1 r).0, (transform [] 1 r).1)
