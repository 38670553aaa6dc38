-- `prescan_module_ids`: the three sets of module-level names, as questions put to the items of the module.
use Rattle.std.specs.Prelude.{ℕ, List, Bool, true, false, cond, not, ◌&&◌, ◌||◌, eqb}
use Rattle.definition.specs.Tree.{Rec, Recs, rec, nil, cons}
use Rattle.definition.specs.Grammar.{mark}
use Rattle.definition.specs.Record.{text, same_text, head_of, kids_of, mark_of, text_of, is, is_no, symbol_of, has2, kid}
use Rattle.definition.specs.ChildNames.{ed_declaration, fd_name, cd_name, cd_class, vr_pattern, vr_init, cl_type_params, bd_name, bd_type, as_type, rf_name}

-- ---- `is_array_type`

pub data ArrayType : Type 0 where
  a_array a_readonly a_ref a_other : ArrayType

unfoldable pub array_type_kind : ℕ → ArrayType
array_type_kind m =
    cond (eqb m (mark "Ay") || eqb m (mark "Tu")) a_array
    (cond (eqb m (mark "Ro")) a_readonly (cond (eqb m (mark "Rf")) a_ref a_other))

-- a reference by the name of `Array` or `ReadonlyArray`, in any context: "only its symbol counts"
abbrev pub refers_to_array : Rec → Bool
refers_to_array i = is "Id" i && (same_text (symbol_of i) (text "Array") || same_text (symbol_of i) (text "ReadonlyArray"))

-- `below` is the answer for the type that a `readonly` stands before
unfoldable pub is_array_type_by : ArrayType → Recs → Bool → Bool
is_array_type_by a_array ks below = true
is_array_type_by a_readonly ks below = below
is_array_type_by a_ref ks below = refers_to_array (kid rf_name ks)
is_array_type_by a_other ks below = false

unfoldable mutual
  pub is_array_type : Rec → Bool
  is_array_type (rec h ks) = is_array_type_by (array_type_kind h.mark) ks (first_is_array_type ks)

  pub first_is_array_type : Recs → Bool
  first_is_array_type nil = false
  first_is_array_type (cons r rs) = is_array_type r

-- ---- `is_array_lit_init`: "Pr is untyped, though the prescan looks through it"

pub data ArrayInit : Type 0 where
  i_array i_through i_as i_other : ArrayInit

unfoldable pub array_init_kind : ℕ → ArrayInit
array_init_kind m =
    cond (eqb m (mark "Ar")) i_array
    (cond (eqb m (mark "Pr") || (eqb m (mark "Tc") || eqb m (mark "Ts"))) i_through (cond (eqb m (mark "As")) i_as i_other))

-- `below` is the answer for the expression that this one is made of
unfoldable pub is_array_lit_init_by : ArrayInit → Recs → Bool → Bool
is_array_lit_init_by i_array ks below = true
is_array_lit_init_by i_through ks below = below
is_array_lit_init_by i_as ks below = is_array_type (kid as_type ks)
is_array_lit_init_by i_other ks below = false

unfoldable mutual
  pub is_array_lit_init : Rec → Bool
  is_array_lit_init (rec h ks) = is_array_lit_init_by (array_init_kind h.mark) ks (first_is_array_lit_init ks)

  pub first_is_array_lit_init : Recs → Bool
  first_is_array_lit_init nil = false
  first_is_array_lit_init (cons r rs) = is_array_lit_init r

-- ---- what a declaration adds to each of the three sets

pub data Question : Type 0 where
  typeof_safe non_generic_class array_typed : Question

-- `Decl::Fn`
abbrev pub add_fn : Question → Bool
add_fn typeof_safe = true
add_fn non_generic_class = false
add_fn array_typed = false

-- `add_class`: a Cl, without type parameters for the second set
abbrev pub add_class : Question → Rec → Bool
add_class typeof_safe cl = true
add_class non_generic_class cl = is_no (kid cl_type_params (kids_of cl))
add_class array_typed cl = false

-- `Decl::Var`, a const with the type t and the init v: typed, or a function; an array by its type, or by its init where it has none
abbrev pub add_const : Question → Rec → Rec → Bool
add_const typeof_safe t v = not (is_no t) || (is "Fx" v || is "Aw" v)
add_const non_generic_class t v = false
add_const array_typed t v = cond (is_no t) (is_array_lit_init v) (is_array_type t)

-- whether an Id has this text, that is this context and this symbol, as `to_id` gives them
abbrev pub named : List ℕ → Rec → Bool
named name i = is "Id" i && same_text (text_of i) name

-- a Vr whose pattern is a Bd
unfoldable pub add_declarator : Question → List ℕ → Rec → Bool
add_declarator q name r =
    let p : Rec = kid vr_pattern (kids_of r) in
    (is "Vr" r && is "Bd" p) && (named name (kid bd_name (kids_of p)) && add_const q (kid bd_type (kids_of p)) (kid vr_init (kids_of r)))

unfoldable pub add_declarators : Question → List ℕ → Recs → Bool
add_declarators q name nil = false
add_declarators q name (cons r rs) = add_declarator q name r || add_declarators q name rs

-- `add_decl`, by the kind of what is declared: a function and a class stand beside their name
pub data Declared : Type 0 where
  d_fn d_class d_var d_other : Declared

unfoldable pub declared_kind : ℕ → Declared
declared_kind m =
    cond (eqb m (mark "Fd") || eqb m (mark "Fx")) d_fn
    (cond (eqb m (mark "Cd") || eqb m (mark "Cx")) d_class (cond (eqb m (mark "Vd")) d_var d_other))

unfoldable pub add_decl_by : Declared → Question → List ℕ → Rec → Bool
add_decl_by d_fn q name r = named name (kid fd_name (kids_of r)) && add_fn q
add_decl_by d_class q name r = named name (kid cd_name (kids_of r)) && add_class q (kid cd_class (kids_of r))
add_decl_by d_var q name r = has2 (head_of r) && add_declarators q name (kids_of r)
add_decl_by d_other q name r = false

abbrev pub add_decl : Question → List ℕ → Rec → Bool
add_decl q name r = add_decl_by (declared_kind (mark_of r)) q name r

-- an item: a declaration, or what an Ed or an Xd holds
abbrev pub add_item : Question → List ℕ → Rec → Bool
add_item q name r = add_decl q name (cond (is "Ed" r || is "Xd" r) (kid ed_declaration (kids_of r)) r)

-- ---- "The prescan sees module-level names only"

-- whether some item of the module adds the name
unfoldable pub asked : Question → Recs → List ℕ → Bool
asked q nil name = false
asked q (cons r rs) name = add_item q name r || asked q rs name

-- `PrescannedModuleIds`: each set as the question whether it has an Id's text
pub record PrescannedModuleIds : Type 0 where
  pub typeof_safe : List ℕ → Bool
  pub non_generic_classes : List ℕ → Bool
  pub array_typed : List ℕ → Bool

-- `prescan_module_ids` of the items of a module
abbrev pub prescan_module_ids : Recs → PrescannedModuleIds
prescan_module_ids items =
    record { typeof_safe = asked typeof_safe items; non_generic_classes = asked non_generic_class items; array_typed = asked array_typed items }
