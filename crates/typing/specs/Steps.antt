-- The steps of the definition that type something below, as the functions of the code have them: of a record, in a mode or in a scope.
use Rattle.std.specs.Prelude.{◌≡◌, List, [], Bool, true, false, ℕ, Option as Answer, Some, None}
use Rattle.std.proofs.Math.Option.{Option, none, some}
use Rattle.definition.specs.Tree.{Rec, Recs, rec, nil, count, encodes}
use Rattle.definition.specs.Grammar.{mark}
use Rattle.definition.specs.Record.{head_of, kids_of, mark_of, ranged, one, given, Out, on_value, flat}
use Rattle.definition.specs.Typing.{spread_kind, spread_by, fn_type, elements, props, prop, fn_param, pat_to_ts_fn_param}
use Rattle.definition.specs.Transform.{all_texts_fit}
use Rattle.prescan.specs.declared.module_names.Scope.{Scope}
use Rattle.records.specs.Views.{behind}
use Rattle.output.specs.declared.Output.{Output}
use Rattle.output.specs.Outputs.{Step, MakesMaybe}
use Rattle.typing.specs.declared.exprs.Mode.{Mode}
use Rattle.typing.specs.Values.{ids_in, typing_in}
use Rattle.typing.specs.Parts.{members_if}

-- ---- arrays

-- the tuple of an Ar: `tuple_of` without a `readonly`
unfoldable pub tuple_type : Mode → Rec → ℕ → Out (Option Rec)
tuple_type m r n =
    on_value (λ (ts : Option Recs). given ts none (λ ts. some (rec (ranged "Tu" (head_of r) []) ts)))
    (elements (ids_in m.scope) m.scope.unresolved (kids_of r) m.as_const m.as_readonly n)

-- one child of an Ar
unfoldable pub element_type : Mode → Rec → ℕ → Out (Option Recs)
element_type m r n = elements (ids_in m.scope) m.scope.unresolved (one r) m.as_const m.as_readonly n

-- what a Sp spreads
unfoldable pub rest_type : Mode → Rec → ℕ → Out (Option Rec)
rest_type m r n = spread_by (ids_in m.scope) m.scope.unresolved (spread_kind (mark_of r)) r (λ n. typing_in m.scope r m.as_const false n) n

-- ---- objects

-- the type literal of an Ob, its members readonly where `readonly_of` it is wanted
unfoldable pub object_type : Mode → Rec → ℕ → Out Rec
object_type m r n =
    on_value (λ (ms : Recs). rec (ranged "Li" (head_of r) []) (members_if m.frozen ms))
    (props (ids_in m.scope) m.scope.unresolved (kids_of r) m.as_const m.as_readonly n)

-- the member of a property, readonly where `readonly_of` the object's type is wanted
unfoldable pub member_type : Mode → Rec → ℕ → Out Recs
member_type m r n = on_value (members_if m.frozen) (prop (ids_in m.scope) m.scope.unresolved r m.as_const m.as_readonly n)

-- ---- functions

-- a pattern
unfoldable pub pat_type : Scope → Rec → ℕ → Out Recs
pat_type scope r n = pat_to_ts_fn_param (ids_in scope) scope.unresolved r n

-- a parameter of a function (a Pa), or of an arrow (a pattern)
unfoldable pub param_type : Scope → Bool → Rec → ℕ → Out Recs
param_type scope true r n = fn_param (ids_in scope) scope.unresolved r n
param_type scope false r n = pat_to_ts_fn_param (ids_in scope) scope.unresolved r n

-- the children of a Fu, or of an Aw, that stand before its parameters
abbrev pub params_from : Bool → ℕ
params_from true = 3
params_from false = 2

abbrev pub function_mark : Bool → ℕ
function_mark true = mark "Fu"
function_mark false = mark "Aw"

-- the type of a Fu or of an Aw
unfoldable pub function_type : Scope → Bool → Rec → ℕ → Out Rec
function_type scope fn r n = on_value (λ (ps : Recs). fn_type (head_of r) (kids_of r) ps) (flat (param_type scope fn) (behind (params_from fn) (kids_of r)) n)

-- ---- what was done

-- how many records an answer is
abbrev pub counted_of : Answer (Unit {0}) → ℕ
counted_of (Some t) = 1
counted_of None = 0

-- records that may be missing
abbrev pub bytes_of_all : Option Recs → List ℕ
bytes_of_all none = []
bytes_of_all (some ts) = encodes ts

abbrev pub fit_of_all : Option Recs → Bool
fit_of_all none = true
fit_of_all (some ts) = all_texts_fit ts

abbrev pub number_of : Option Recs → Answer ℕ
number_of none = None
number_of (some ts) = Some (count ts)

-- the records that the step x gives were made, and their number is told; or that it has none is told, and nothing was written
pub record MakesSome (o o' : Output) (r : Answer ℕ) (x : Out (Option Recs)) : Type 0 where
  pub told : r ≡ number_of x.0
  pub step : Step o o' (bytes_of_all x.0) x.1 x.2 (fit_of_all x.0)

-- the same where the step gives no record or one
pub record MakesAtMostOne (o o' : Output) (r : Answer (Unit {0})) (x : Out Recs) : Type 0 where
  pub value : Option Rec
  pub same : x.0 ≡ given value nil one
  pub made : MakesMaybe o o' r (value, x.1, x.2)
