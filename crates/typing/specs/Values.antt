-- What a typing is asked, and what it gives, of a record and in a scope.
use Rattle.std.specs.Prelude.{◌≡◌, Bool, true, false, ℕ, ◌≤◌}
use Rattle.std.proofs.Math.Option.{Option, none, some}
use Rattle.definition.specs.Tree.{Rec, tree_at}
use Rattle.definition.specs.Check.{deepest}
use Rattle.definition.specs.Record.{kids_of, given, Out, on_value, Typing}
use Rattle.definition.specs.Prescan.{PrescannedModuleIds, prescan_module_ids}
use Rattle.definition.specs.Typing.{expr_to_ts_type}
use Rattle.prescan.specs.declared.module_names.Scope.{Scope}
use Rattle.records.specs.declared.tree.Record.{Record}
use Rattle.records.specs.declared.tree.Records.{Records}
use Rattle.output.specs.declared.Output.{Output}
use Rattle.typing.specs.declared.exprs.Mode.{Mode}
use Rattle.typing.specs.Parts.{readonly_or_same}

-- no more names were made than bytes stand before r, and the names of the scope are those of its tree
pub record Ready (o : Output) (r : Record) (scope : Scope) : Type 0 where
  pub low : o.names.id_counter ≤ r.at
  pub same : scope.names.tree ≡ r.tree

-- the same of several records
pub record ReadyAll (o : Output) (rs : Records) (scope : Scope) : Type 0 where
  pub low : o.names.id_counter ≤ rs.at
  pub same : scope.names.tree ≡ rs.tree

-- the module-level names of the tree that a scope stands in
unfoldable pub ids_in : Scope → PrescannedModuleIds
ids_in scope = prescan_module_ids (kids_of (tree_at deepest scope.names.tree.now 0))

-- the typing of its expressions
abbrev pub typing_in : Scope → Typing
typing_in scope = expr_to_ts_type (ids_in scope) scope.unresolved

-- as_const and as_readonly off
abbrev pub mutable_mode : Scope → Mode
mutable_mode scope = record { scope = scope; as_const = false; as_readonly = false; frozen = false }

-- how a type is written: as `readonly_of` it, where that is wanted and has an answer
abbrev pub readonly_if : Bool → Out (Option Rec) → Out (Option Rec)
readonly_if false o = o
readonly_if true o = on_value (λ (t : Option Rec). given t none (λ t. some (readonly_or_same t))) o

-- the type of an expression
unfoldable pub type_of : Mode → Rec → ℕ → Out (Option Rec)
type_of m r n = readonly_if m.frozen (typing_in m.scope r m.as_const m.as_readonly n)
