-- Small modules, on which `call` is evaluated: those of document 01, and one for each slip that must not pass.
use Prim.Native.Nat.{ℕ, zero, suc, ◌-◌, ◌*◌}
use Prim.Native.String.{String}
use mathlib.Core.Path.{◌≡◌, refl}
use mathlib.Core.List.{List, [], ◌∷◌, ◌++◌, map}
use lib.ListN.{length}
use Rattle.definition.specs.Tree.{Rec, Recs, rec, nil, cons, head_size, le4, head_bytes, encode, head_at, read_all, end_of_all, end_at, tree_at}
use Rattle.definition.specs.Grammar.{mark, marks, member, grammar, known, forms, slots, place, allowed, after, least, is_property}
use Rattle.definition.specs.Check.{digits, is_integer, has_form, open_body, open_at, check_all, check_at, entries_fine, list_fine, check_tree}
use Rattle.definition.specs.Record.{text, same_text, head_of, kids_of, fresh, absent, with_flags, one, Diag, diags_bytes, entries_have, listed, each, flat, second}
use Rattle.definition.specs.Helpers.{object_freeze_call_arg, no_exprs, tpl_to_ts_type, lit_kind, maybe_lit_to_ts_type}
use Rattle.definition.specs.Prescan.{array_type_kind, is_array_type_by, is_array_type, array_init_kind, is_array_lit_init_by, is_array_lit_init, add_declarator, add_declarators, declared_kind, add_decl_by, asked}
use Rattle.definition.specs.Names.{decimal_up_to, gen_unique_name, well_known_symbol_names, any_text, is_well_known_symbol_expr, key_expr_kind, prop_name_by, prop_name_from_expr, valid_prop_name}
use Rattle.definition.specs.Typing.{frozen_kind, plain_members, readonly_members, readonly_of_by, turned, turned_integer, minus_by, element_kind, element_by, spread_kind, key_kind, key_expr, prop_kind, param_kind, default_param, param_by, expr_kind, global_type, ident_to_ts_type, new_type, spread_by, prop_by, expr_by, expr_to_ts_type}
use Rattle.definition.specs.Classes.{handle_func_param_ident, pattern_kind, handle_func_param_assign, handle_pattern_by, handle_func_param, function_part, handle_function, constructor_part, constructor, method, class_prop, member_kind, member_by, class_body_to_type, class}
use Rattle.definition.specs.Enums.{init_kind, valid_by, valid_enum_init_expr, enum_init, enum_member}
use Rattle.definition.specs.Items.{item_kind, decl_kind, default_kind, body_kind, declarator_pattern, declarator, without_body, default_typed, decl_to_type_decl, transform_module_stmt, export_decl, export_default_decl, export_default_expr, item_by, body_by, transform_module_items}
use Rattle.definition.specs.Transform.{transform_by, transform, done, refused, Result, texts_fit, written, call_by, call}

-- ---- writing trees

-- a record with a text, or with children; in both the range is 0 to 0 and no flag is set
abbrev leaf : String → List ℕ → Rec
leaf s t = rec (fresh s 0 t) nil

abbrev node : String → Recs → Rec
node s ks = rec (fresh s 0 []) ks

-- a record with its range, or its flags, changed
abbrev at : ℕ → ℕ → Rec → Rec
at a e r =
    rec (record { mark = (head_of r).mark; flags = (head_of r).flags; start = a; end = e; text = (head_of r).text }) (kids_of r)

abbrev flags : ℕ → Rec → Rec
flags f r = rec (with_flags (head_of r) f) (kids_of r)

-- one child, two, three
abbrev two : Rec → Rec → Recs
two a b = cons a (one b)

abbrev three : Rec → Rec → Rec → Recs
three a b c = cons a (two b c)

-- an Id with its context; the type any; a declaration of one variable with its type and init
abbrev id : ℕ → String → Rec
id ctx s = leaf "Id" (le4 ctx ++ text s)

abbrev keyword : String → Rec
keyword s = leaf "Kw" (text s)

abbrev var : ℕ → Rec → Rec → Rec
var f p init = flags f (node "Vd" (one (node "Vr" (two p init))))

abbrev name : String → Rec → Rec
name s t = node "Bd" (two (id 2 s) t)

-- ---- writing samples

-- a call and what it gives
pub record Sample : Type 0 where
  pub tree : List ℕ
  pub list : List ℕ
  pub out : List ℕ
  pub diagnostics : List ℕ
  pub result : Result

-- n bytes that were in a buffer before
abbrev rest : ℕ → List ℕ
rest zero = []
rest (suc n) = 170 ∷ rest n

-- a module that is accepted: its items, those that come out, the two counts, and the diagnostics; 7 bytes of each buffer are left over
abbrev accepted : Rec → Rec → ℕ → ℕ → List Diag → Sample
accepted i o bytes count ds =
    record {
      tree = encode i;
      list = [];
      out = rest (length (encode o)) ++ rest 7;
      diagnostics = rest (length (diags_bytes ds)) ++ rest 7;
      result = record { answer = done bytes count; out = encode o ++ rest 7; diagnostics = diags_bytes ds ++ rest 7 };
    }

-- the same without the counts
abbrev makes : Rec → Rec → List Diag → Sample
makes i o ds = accepted i o (length (encode o)) (length ds) ds

-- a diagnostic at its place
abbrev diag : String → ℕ → ℕ → Diag
diag s a e = record { mark = mark s; start = a; end = e }

-- a call that is refused with a number and a place: both buffers, of the lengths given, stay as they were
abbrev refuses : List ℕ → List ℕ → ℕ → ℕ → ℕ → ℕ → Sample
refuses tree list out diags number place =
    record {
      tree = tree;
      list = list;
      out = rest out;
      diagnostics = rest diags;
      result = record { answer = refused number place; out = rest out; diagnostics = rest diags };
    }

abbrev module_of : Recs → Rec
module_of ks = node "Mo" ks

-- `export default [];`
abbrev default-array : Rec
default-array = at 0 18 (module_of (one (at 0 18 (node "Xe" (one (at 15 17 (node "Ar" nil)))))))

abbrev default_array_out : Rec
default_array_out =
    at 0 18 (module_of (two
    (var 3 (node "Bd" (two (id 0 "_dts_1") (node "Ro" (one (at 15 17 (node "Tu" nil)))))) absent)
    (at 0 18 (node "Xe" (one (id 0 "_dts_1"))))))

-- `const a = b;`
abbrev const_a_b : Rec
const_a_b = module_of (one (var 2 (at 6 7 (name "a" absent)) (id 1 "b")))

-- n levels of parentheses around an expression
abbrev parens : ℕ → Rec
parens zero = node "Oe" nil
parens (suc n) = node "Pr" (one (parens n))

-- `const a = -2 as const;` with the bytes of what comes out, a record to a line
abbrev minus-two : Rec
minus-two =
    module_of (one (var 2 (name "a" absent) (node "Tc" (one (node "Mi" (one (leaf "Nu" (0 ∷ 0 ∷ 0 ∷ 0 ∷ 0 ∷ 0 ∷ 0 ∷ 64 ∷ []))))))))

abbrev minus_two_bytes : List ℕ
minus_two_bytes =
    text "Mo" ++ (0 ∷ 0 ∷ 0 ∷ 0 ∷ 0 ∷ 0 ∷ 0 ∷ 0 ∷ 0 ∷ 0 ∷ 0 ∷ 1 ∷ 0 ∷ (
    text "Vd" ++ (3 ∷ 0 ∷ 0 ∷ 0 ∷ 0 ∷ 0 ∷ 0 ∷ 0 ∷ 0 ∷ 0 ∷ 0 ∷ 1 ∷ 0 ∷ (
    text "Vr" ++ (0 ∷ 0 ∷ 0 ∷ 0 ∷ 0 ∷ 0 ∷ 0 ∷ 0 ∷ 0 ∷ 0 ∷ 0 ∷ 2 ∷ 0 ∷ (
    text "Bd" ++ (0 ∷ 0 ∷ 0 ∷ 0 ∷ 0 ∷ 0 ∷ 0 ∷ 0 ∷ 0 ∷ 0 ∷ 0 ∷ 2 ∷ 0 ∷ (
    text "Id" ++ (0 ∷ 0 ∷ 0 ∷ 0 ∷ 0 ∷ 0 ∷ 0 ∷ 0 ∷ 0 ∷ 5 ∷ 0 ∷ 0 ∷ 0 ∷ 2 ∷ 0 ∷ 0 ∷ 0 ∷ (text "a" ++ (
    text "Tl" ++ (0 ∷ 0 ∷ 0 ∷ 0 ∷ 0 ∷ 0 ∷ 0 ∷ 0 ∷ 0 ∷ 0 ∷ 0 ∷ 1 ∷ 0 ∷ (
    text "Nu" ++ (0 ∷ 0 ∷ 0 ∷ 0 ∷ 0 ∷ 0 ∷ 0 ∷ 0 ∷ 0 ∷ 8 ∷ 0 ∷ 0 ∷ 0 ∷ 0 ∷ 0 ∷ 0 ∷ 0 ∷ 0 ∷ 0 ∷ 0 ∷ 192 ∷ (
    text "No" ++ (0 ∷ 0 ∷ 0 ∷ 0 ∷ 0 ∷ 0 ∷ 0 ∷ 0 ∷ 0 ∷ 0 ∷ 0 ∷ 0 ∷ 0 ∷ []))))))))))))))))

-- `const a = -0n as const;`
abbrev minus-zero : Rec
minus-zero = module_of (one (var 2 (name "a" absent) (node "Tc" (one (node "Mi" (one (leaf "Bi" (0 ∷ text "0"))))))))

-- `const a = { ...[] };`, the spread at 12 to 17
abbrev object_spread : Rec
object_spread = module_of (one (var 2 (name "a" absent) (node "Ob" (one (at 12 17 (node "Sp" (one (node "Ar" nil))))))))

-- `const a: Array = [], b = [...a];`, where `Array` has the context 5
abbrev local_array : Rec
local_array = node "Rf" (two (id 5 "Array") absent)

abbrev array_spread : Rec
array_spread =
    module_of (two
    (var 2 (name "a" local_array) (node "Ar" nil))
    (var 2 (name "b" absent) (node "Ar" (one (node "Sp" (one (id 2 "a")))))))

abbrev array_spread_out : Rec
array_spread_out =
    module_of (two
    (var 3 (name "a" local_array) absent)
    (var 3 (name "b" (node "Ro" (one (node "Tu" (one (node "Tm" (two absent (node "Rt" (one (node "Tf" (one (id 2 "a")))))))))))) absent))

-- `namespace N { const a: Array; } const b = [...a];`, the spread at 43 to 47: nothing is known of an a at module level
abbrev inner_array : ℕ → Rec
inner_array f = flags f (node "Ns" (two (leaf "Op" (text "N")) (node "Nb" (one (var 2 (name "a" local_array) absent)))))

abbrev inner_spread : Rec
inner_spread = module_of (two (inner_array 0) (var 2 (name "b" absent) (node "Ar" (one (at 43 47 (node "Sp" (one (id 2 "a"))))))))

-- `export default 1; namespace N { declare const a: any; export default 1; } export default 1;`
abbrev default-one : Rec
default-one = node "Xe" (one (leaf "Nu" (rest 8)))

abbrev namespaces : Rec
namespaces =
    module_of (three
    default-one
    (node "Ns" (two (leaf "Op" (text "N")) (node "Nb" (two (var 3 (name "a" (keyword "any")) absent) default-one))))
    default-one)

-- an Xe of the name that was made, and the const before it
abbrev made-default : String → Recs → Recs
made-default s ks = cons (var 3 (node "Bd" (two (id 0 s) (keyword "number"))) absent) (cons (node "Xe" (one (id 0 s))) ks)

abbrev namespaces-out : Rec
namespaces-out =
    module_of (made-default "_dts_1" (cons
    (flags 1 (node "Ns" (two (leaf "Op" (text "N")) (node "Nb" (cons (var 2 (name "a" (keyword "any")) absent) (made-default "_dts_2" nil))))))
    (made-default "_dts_3" nil)))

-- `namespace A.B.C { declare const a: any; }`: "Nd keeps its name and its body is transformed within it" (document 02, §2)
abbrev dotted : ℕ → ℕ → Rec
dotted f g =
    module_of (one (flags f (node "Ns" (two (leaf "Op" (text "A")) (node "Nd" (two (leaf "Op" (text "B")) (node "Nd" (two
    (leaf "Op" (text "C")) (node "Nb" (one (var g (name "a" (keyword "any")) absent)))))))))))

-- the same with an export in the namespace, and a head and an Op of its own for the first Nd; the name that is made inside counts outside
abbrev dotted-default : ℕ → Recs → Recs → Rec
dotted-default f inner behind =
    module_of (cons
    (flags f (node "Ns" (two (leaf "Op" (text "A")) (at 10 60 (flags 255 (node "Nd" (three (leaf "Op" (text "B")) (node "Nb" inner) (leaf "Op" (text "x")))))))))
    behind)

-- `class A { a = [1] as const; }`: "Cp without type but with value: typed (off, off)", and `as const` turns both on
abbrev number-one : Rec
number-one = leaf "Nu" (0 ∷ 0 ∷ 0 ∷ 0 ∷ 0 ∷ 0 ∷ 240 ∷ 63 ∷ [])

abbrev class_of : ℕ → Rec → Rec → Rec
class_of f t v = module_of (one (flags f (node "Cd" (two (id 2 "A") (node "Cl" (two absent (node "Cp" (three (leaf "Ki" (text "a")) t v))))))))

abbrev const-property : Rec
const-property = class_of 0 absent (node "Tc" (one (node "Ar" (one number-one))))

abbrev const_property_out : Rec
const_property_out = class_of 1 (node "Ro" (one (node "Tu" (one (node "Tm" (two absent (node "Tl" (one number-one)))))))) absent

unfoldable pub samples : List Sample
samples =
    accepted default-array default_array_out 170 0 [] ∷
    accepted const_a_b (module_of (one (var 3 (at 6 7 (name "a" (keyword "any"))) absent))) 113 1 (diag "d2" 6 7 ∷ []) ∷
    refuses (encode (module_of nil)) (rest 9) 99 99 2 0 ∷
    refuses [] [] 99 99 3 0 ∷
    refuses (encode (node "zz" nil)) [] 99 99 4 0 ∷
    refuses (encode (module_of (one (node "Ed" nil)))) [] 99 99 5 head_size ∷
    refuses (encode (at 2 1 (module_of nil))) [] 99 99 6 0 ∷
    refuses (encode (module_of (one (node "Xe" (one (parens 62)))))) [] 99 99 7 (64 * head_size) ∷
    refuses (encode (module_of nil) ++ (0 ∷ [])) [] 99 99 8 head_size ∷
    refuses (encode (module_of nil)) [] (head_size - 1) 99 9 0 ∷
    refuses (encode const_a_b) [] 113 9 10 0 ∷
    record {
      tree = encode minus-two;
      list = [];
      out = rest 140;
      diagnostics = [];
      result = record { answer = done 133 0; out = minus_two_bytes ++ rest 7; diagnostics = [] };
    } ∷
    makes minus-zero (module_of (one (var 3 (name "a" (node "Tl" (one (leaf "Bi" (0 ∷ text "0"))))) absent))) [] ∷
    makes object_spread (module_of (one (var 3 (name "a" (node "Li" nil)) absent))) (diag "d4" 12 17 ∷ []) ∷
    makes array_spread array_spread_out [] ∷
    makes inner_spread (module_of (two (inner_array 1) (var 3 (name "b" (keyword "any")) absent))) (diag "d4" 43 47 ∷ diag "d2" 0 0 ∷ []) ∷
    makes namespaces namespaces-out [] ∷
    makes (dotted 0 3) (dotted 1 2) [] ∷
    makes (dotted-default 0 (one default-one) (one default-one)) (dotted-default 1 (made-default "_dts_1" nil) (made-default "_dts_2" nil)) [] ∷
    accepted const-property const_property_out 224 0 [] ∷
    []

-- what `call` gives on the trees, lists and buffers of the samples
unfoldable pub answers : List Sample → List Result
answers [] = []
answers (s ∷ ss) = call s.tree s.list 1 s.out s.diagnostics ∷ answers ss

-- every sample is as document 01 says
pub samples_hold : answers samples ≡ map (λ (s : Sample). s.result) samples
unfolding
    samples answers
    head_bytes encode head_at read_all end_of_all end_at tree_at
    marks member grammar known forms slots place allowed after least is_property
    digits is_integer has_form open_body open_at check_all check_at entries_fine list_fine check_tree
    same_text diags_bytes entries_have listed each flat second
    object_freeze_call_arg no_exprs tpl_to_ts_type lit_kind maybe_lit_to_ts_type
    array_type_kind is_array_type_by is_array_type array_init_kind is_array_lit_init_by is_array_lit_init add_declarator add_declarators declared_kind add_decl_by asked
    decimal_up_to gen_unique_name well_known_symbol_names any_text is_well_known_symbol_expr key_expr_kind prop_name_by prop_name_from_expr valid_prop_name
    frozen_kind plain_members readonly_members readonly_of_by turned turned_integer minus_by element_kind element_by spread_kind key_kind key_expr prop_kind
    param_kind default_param param_by expr_kind global_type ident_to_ts_type new_type spread_by prop_by expr_by expr_to_ts_type
    handle_func_param_ident pattern_kind handle_func_param_assign handle_pattern_by handle_func_param function_part handle_function constructor_part
    constructor method class_prop member_kind member_by class_body_to_type class
    init_kind valid_by valid_enum_init_expr enum_init enum_member
    item_kind decl_kind default_kind body_kind declarator_pattern declarator without_body default_typed decl_to_type_decl transform_module_stmt export_decl
    export_default_decl export_default_expr item_by body_by transform_module_items
    transform_by transform texts_fit written call_by call
samples_hold = refl
