-- The steps of the definition as the functions over records have them: of a record, in a scope.
use Rattle.std.specs.Prelude.{List, [], ◌++◌, Bool, true, false, ℕ}
use Rattle.std.proofs.Math.Option.{Option}
use Rattle.definition.specs.Tree.{Rec, Recs, head_bytes, encode}
use Rattle.definition.specs.Record.{head_of, kids_of, mark_of, dummy_sp, fresh, ident, with_flags, kid, Out, wrap, each, at_kid, second}
use Rattle.definition.specs.Classes.{handle_function, class}
use Rattle.definition.specs.Names.{gen_unique_name}
use Rattle.definition.specs.Enums.{enum_member}
use Rattle.definition.specs.Items.{decl_kind, default_kind, declarator_pattern, declarator, without_body, decl_to_type_decl, transform_module_stmt, export_default_decl, export_default_expr, transform_module_items, transform_module_item, exported, ns_parts, transform_ts_ns_body}
use Rattle.prescan.specs.declared.module_names.Scope.{Scope}
use Rattle.typing.specs.declared.exprs.Mode.{Mode}
use Rattle.typing.specs.Values.{typing_in}

-- as_const off, as_readonly on
abbrev pub readonly_in : Scope → Mode
readonly_in scope = record { scope = scope; as_const = false; as_readonly = true; frozen = false }

-- the pattern of a Vr
abbrev pub pattern_in : Scope → Rec → ℕ → Out Rec
pattern_in scope r n = declarator_pattern (typing_in scope) (head_of r) (kid 1 (kids_of r)) (kid 0 (kids_of r)) n

-- ---- declarations that hold no others, with other flags

abbrev pub class_in : List ℕ → Scope → ℕ → Rec → ℕ → Out Rec
class_in list scope flags r n = wrap (with_flags (head_of r) flags) (at_kid 1 (class list scope.unresolved (typing_in scope)) (kids_of r) n)

abbrev pub function_in : Scope → ℕ → Rec → ℕ → Out Rec
function_in scope flags r n = wrap (with_flags (head_of r) flags) (at_kid 1 (handle_function (typing_in scope) false) (kids_of r) n)

abbrev pub declarators_in : Scope → ℕ → Rec → ℕ → Out Rec
declarators_in scope flags r n = wrap (with_flags (head_of r) flags) (each (λ i. declarator (typing_in scope)) 0 (kids_of r) n)

abbrev pub members_of : ℕ → Rec → ℕ → Out Rec
members_of flags r n = wrap (with_flags (head_of r) flags) (each (λ i. enum_member) 0 (kids_of r) n)

-- ---- exported as default

-- an Xd with a class, and with a function
abbrev pub default_class_in : List ℕ → Scope → Rec → ℕ → Out Rec
default_class_in list scope r n = wrap (head_of r) (at_kid 0 (second (class list scope.unresolved (typing_in scope))) (kids_of r) n)

abbrev pub default_fn_of : Rec → ℕ → Out Rec
default_fn_of r n = wrap (head_of r) (at_kid 0 (second without_body) (kids_of r) n)

-- an Xe; the list plays no part
abbrev pub default_expr_in : Scope → Rec → ℕ → Out Recs
default_expr_in scope r n = export_default_expr [] scope.unresolved (typing_in scope) (head_of r) (kids_of r) n

-- a declared const before its type
abbrev pub const_before : ℕ → List ℕ
const_before i =
    head_bytes (fresh "Vd" 3 []) 1 ++ (head_bytes (fresh "Vr" 0 []) 2 ++ (head_bytes (fresh "Bd" 0 []) 2 ++ encode (ident dummy_sp (gen_unique_name i))))

-- ---- items

module _ (list : List ℕ) (scope : Scope) where
  -- an Ns or an Nd
  abbrev pub parts_in : ℕ → Rec → ℕ → Out Rec
  parts_in flags r n = wrap (with_flags (head_of r) flags) (ns_parts list scope.unresolved (typing_in scope) (kids_of r) n)

  abbrev pub decl_in : Bool → Rec → ℕ → Out (Option Rec)
  decl_in top r n =
      decl_to_type_decl list scope.unresolved (typing_in scope) (decl_kind (mark_of r)) (head_of r) (kids_of r) top
      (λ n. ns_parts list scope.unresolved (typing_in scope) (kids_of r) n) n

  abbrev pub stmt_in : Bool → Rec → ℕ → Out Recs
  stmt_in top r n =
      transform_module_stmt list scope.unresolved (typing_in scope) (decl_kind (mark_of r)) (head_of r) (kids_of r) top
      (λ n. ns_parts list scope.unresolved (typing_in scope) (kids_of r) n) n

  abbrev pub export_in : Bool → Rec → ℕ → Out Recs
  export_in top r n = exported list scope.unresolved (typing_in scope) (kids_of r) (head_of r) top n

  abbrev pub default_decl_in : Rec → ℕ → Out Recs
  default_decl_in r n = export_default_decl list scope.unresolved (typing_in scope) (default_kind (mark_of (kid 0 (kids_of r)))) (head_of r) (kids_of r) n

  abbrev pub item_in : Bool → Rec → ℕ → Out Recs
  item_in top r n = transform_module_item list scope.unresolved (typing_in scope) r top n

  abbrev pub items_in : Bool → Recs → ℕ → Out Recs
  items_in top rs n = transform_module_items list scope.unresolved (typing_in scope) rs top n

  abbrev pub body_in : Rec → ℕ → Out Rec
  body_in r n = transform_ts_ns_body list scope.unresolved (typing_in scope) r n
