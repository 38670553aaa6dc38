-- The cycle of `expr_to_ts_type` and `pat_to_ts_fn_param`: the remaining depth falls.
use Rattle.std.proofs.Common.{◌≡◌, ◌+◌, ◌*◌, ◌<◌}
use Rattle.records.specs.Views.{rec_of}
use Rattle.typing.proofs.Tuples.{TupleLoop}
use Rattle.typing.proofs.Members.{MemberLoop}
use Rattle.typing.proofs.Parameters.{ParamLoop}
use Rattle.typing.proofs.+types.Given as goal

abbrev pub decreases-array::array_type : goal.decreases-array::array_type
decreases-array::array_type l = 4 * l.array.levels + 1

abbrev pub decreases-array::tuple_type : goal.decreases-array::tuple_type
decreases-array::tuple_type l = 4 * l.array.levels + 0

abbrev pub decreases-array::element_type : goal.decreases-array::element_type
decreases-array::element_type l = 4 * l.element.levels + 3

abbrev pub decreases-array::spread_type : goal.decreases-array::spread_type
decreases-array::spread_type l = 4 * l.spread.levels + 0

abbrev pub decreases-array::rest_type : goal.decreases-array::rest_type
decreases-array::rest_type l = 4 * l.expr.levels + 3

abbrev pub decreases-exprs::expr_to_ts_type : goal.decreases-exprs::expr_to_ts_type
decreases-exprs::expr_to_ts_type l = 4 * l.expr.levels + 2

abbrev pub decreases-exprs::call_type : goal.decreases-exprs::call_type
decreases-exprs::call_type l = 4 * l.call.levels + 0

abbrev pub decreases-function::function_type : goal.decreases-function::function_type
decreases-function::function_type l = 4 * l.function.levels + 0

abbrev pub decreases-function::param_type : goal.decreases-function::param_type
decreases-function::param_type l = 4 * l.param.levels + 2

abbrev pub decreases-function::pat_to_ts_fn_param : goal.decreases-function::pat_to_ts_fn_param
decreases-function::pat_to_ts_fn_param l = 4 * l.pat.levels + 1

abbrev pub decreases-function::named_param : goal.decreases-function::named_param
decreases-function::named_param l = 4 * l.assign.levels + 0

abbrev pub decreases-function::unnamed_param : goal.decreases-function::unnamed_param
decreases-function::unnamed_param l = 4 * l.assign.levels + 0

abbrev pub decreases-object::object_type : goal.decreases-object::object_type
decreases-object::object_type l = 4 * l.object.levels + 0

abbrev pub decreases-object::property_type : goal.decreases-object::property_type
decreases-object::property_type l = 4 * l.prop.levels + 1

abbrev pub decreases-object::key_value : goal.decreases-object::key_value
decreases-object::key_value l = 4 * l.prop.levels + 0

-- the records that are left stand one level further down, in the same tree
abbrev pub invariant-array::tuple_type-loop-elements : goal.invariant-array::tuple_type-loop-elements
invariant-array::tuple_type-loop-elements l = TupleLoop l.mode l.array l.initial.o l.o l.elements l.count × (l.elements.levels < l.array.levels) × (l.elements.tree ≡ l.array.tree)

abbrev pub decreases-array::tuple_type-loop-elements : goal.decreases-array::tuple_type-loop-elements
decreases-array::tuple_type-loop-elements l = l.elements.count

-- the records that are left stand one level further down, in the same tree
abbrev pub invariant-object::object_type-loop-prop : goal.invariant-object::object_type-loop-prop
invariant-object::object_type-loop-prop l = MemberLoop l.mode (rec_of l.object) l.initial.o l.o l.prop-iterator l.count × (l.prop-iterator.levels < l.object.levels) × (l.prop-iterator.tree ≡ l.object.tree)

-- the records that are left stand one level further down, in the same tree
abbrev pub invariant-function::function_type-loop-param : goal.invariant-function::function_type-loop-param
invariant-function::function_type-loop-param l = ParamLoop l.scope l.is_function (rec_of l.function) l.initial.o l.o l.param-iterator l.count × (l.param-iterator.levels < l.function.levels) × (l.param-iterator.tree ≡ l.function.tree)
