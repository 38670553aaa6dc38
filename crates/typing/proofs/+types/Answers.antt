-- The cycle of `expr_to_ts_type` and `pat_to_ts_fn_param`: each member meets its contract.
use Rattle.std.proofs.Common.{refl, sym, ap, ◌∙◌, arith, eqb-true}
use borrow.Author.Tests.{eqb-false}
use Rattle.definition.specs.Helpers.{ts_readonly}
use Rattle.definition.specs.Record.{mark_of, dummy_sp}
use Rattle.records.specs.declared.marks.Mark.TheVariants.{Op, Sp, No, Id, Ar, Kv, Sh, Bd, Pa}
use Rattle.records.specs.Views.{rec_of}
use Rattle.records.proofs.SameMarks.{tested, marked, not_marked, same, other}
use Rattle.output.proofs.Steps.{is_some, is_none, maybe-as}
use Rattle.output.proofs.Kept.{keeps_made}
use Rattle.typing.proofs.Options.{maybe_made, maybe_kept, maybe_always, maybe_never, maybe_told, puts_out, wrap_some, wrap_none, kept_none, kept_some, kept_back}
use Rattle.typing.proofs.KidSlots.{asserts_const, satisfies, asserted, named_function, its_function, spreads, keyed, decorated, evaluated, assigned, parameters, two_at_least, first_kid, second_kid}
use Rattle.typing.proofs.LeafTexts.{kids-fit, kid-fits, as_fits, leaf-fits, query_fits_if}
use Rattle.typing.proofs.LeafSteps.{leaf_is}
use Rattle.typing.proofs.ExprSteps.{array_plain, array_readonly, type_object, type_const, type_satisfies, type_as, type_fn, type_arrow, type_call, type_other_call, no_freeze, is_freeze}
use Rattle.typing.proofs.Tuples.{rest_ident, rest_array, rest_other, readonly_front, op_made, hole_made, expr_made, spread_made, spread_failed, tuple_start, collecting_turn, tuple_failed, tuple_made}
use Rattle.typing.proofs.Members.{counted_as, spread_skipped, op_skipped, other_skipped, value_made, members_start, members_turn, object_made}
use Rattle.typing.proofs.Parameters.{pattern_kept, pattern_marked, pattern_gone, named_made, named_failed, unnamed_made, unnamed_failed, raised, most_counted, param_arrow, param_pa, param_gone, params_start, params_turn, function_made}
use Rattle.typing.proofs.+types.Goals as goal

pub array::array_type-returns-then-not-is_readonly : goal.array::array_type-returns-then-not-is_readonly
array::array_type-returns-then-not-is_readonly t c = maybe-as c.tuple_type.ensures (array_plain c.args.mode (rec_of c.args.array) c.args.o.now.names.id_counter c.requires.1 (sym c.is_readonly.ensures ∙ c.if-not-is_readonly.true))

pub array::array_type-returns-in_default : goal.array::array_type-returns-in_default
array::array_type-returns-in_default t c = maybe-as (wrap_none (puts_out c.ts_readonly.ensures refl refl refl refl) (ts_readonly dummy_sp) (is_none c.tuple_type-2.ensures c.in_default.is) c.start-start.ensures c.back.ensures) (array_readonly c.args.mode (rec_of c.args.array) c.args.o.now.names.id_counter c.requires.1 (sym c.is_readonly.ensures ∙ c.if-not-is_readonly.false))

pub array::array_type-returns : goal.array::array_type-returns
array::array_type-returns t c = maybe-as (wrap_some (puts_out c.ts_readonly.ensures refl refl refl refl) readonly_front (is_some c.tuple_type-2.ensures c.in-Some.is)) (array_readonly c.args.mode (rec_of c.args.array) c.args.o.now.names.id_counter c.requires.1 (sym c.is_readonly.ensures ∙ c.if-not-is_readonly.false))

pub array::element_type-returns-in-Op : goal.array::element_type-returns-in-Op
array::element_type-returns-in-Op t c = op_made c.args.mode (rec_of c.args.element) c.args.o.now (marked _ c.mark.ensures c.in-Op.is)

pub array::element_type-returns-in-No : goal.array::element_type-returns-in-No
array::element_type-returns-in-No t c = hole_made c.args.mode (rec_of c.args.element) (puts_out c.ts_tuple_element.ensures refl refl refl refl) c.put_any.ensures (marked _ c.mark.ensures c.in-No.is)

pub array::element_type-returns-in_default : goal.array::element_type-returns-in_default
array::element_type-returns-in_default t c = let m = c.mark.ensures in expr_made c.args.mode (rec_of c.args.element) (puts_out c.ts_tuple_element-in_default.ensures refl refl refl refl) (not_marked _ m Op c.in_default.not-Op) (not_marked _ m Sp c.in_default.not-Sp) (not_marked _ m No c.in_default.not-No) c.expr_to_ts_type-t.ensures c.or_any.ensures

pub array::rest_type-returns-in-Id : goal.array::rest_type-returns-in-Id
array::rest_type-returns-in-Id t c = maybe-as (maybe_made _ c.array_ident.ensures (query_fits_if _ _ c.fits.ensures) refl refl refl refl) (rest_ident c.args.mode (rec_of c.args.expr) c.args.o.now.names.id_counter (marked _ c.mark.ensures c.in-Id.is))

pub array::rest_type-returns-in-Ar : goal.array::rest_type-returns-in-Ar
array::rest_type-returns-in-Ar t c = maybe-as c.expr_to_ts_type.ensures (rest_array c.args.mode (rec_of c.args.expr) c.args.o.now.names.id_counter (marked _ c.mark.ensures c.in-Ar.is))

pub array::rest_type-returns-in_default : goal.array::rest_type-returns-in_default
array::rest_type-returns-in_default t c = maybe-as (maybe_never c.args.o.now) (rest_other c.args.mode (rec_of c.args.expr) c.args.o.now.names.id_counter (not_marked _ c.mark.ensures Id c.in_default.not-Id) (not_marked _ c.mark.ensures Ar c.in_default.not-Ar))

pub array::spread_type-first-requires : goal.array::spread_type-first-requires
array::spread_type-first-requires t c = omega (arith, c.children.ensures.many, spreads c.args.spread c.requires.1)

pub array::spread_type-returns-in_default : goal.array::spread_type-returns-in_default
array::spread_type-returns-in_default t c = let n = spreads c.args.spread c.requires.1 in let x = first_kid c.children.ensures n c.first.ensures in spread_failed c.args.mode (rec_of c.args.spread) (puts_out c.ts_tuple_element.ensures refl refl refl refl) (puts_out c.ts_rest_type.ensures refl refl refl refl) c.requires.1 n x.is (is_none c.rest_type.ensures c.in_default.is) c.start-start.ensures c.back.ensures c.mark_diagnostic.ensures

pub array::spread_type-returns : goal.array::spread_type-returns
array::spread_type-returns t c = let n = spreads c.args.spread c.requires.1 in let x = first_kid c.children.ensures n c.first.ensures in spread_made c.args.mode (rec_of c.args.spread) (puts_out c.ts_tuple_element.ensures refl refl refl refl) (puts_out c.ts_rest_type.ensures refl refl refl refl) c.requires.1 n x.is (is_some c.rest_type.ensures c.in-Some.is)

pub array::tuple_type-loop-elements-init : goal.array::tuple_type-loop-elements-init
array::tuple_type-loop-elements-init t c = tuple_start c.args.mode c.args.array _ c.children-elements.ensures c.requires.low

pub array::tuple_type-loop-elements-preserved : goal.array::tuple_type-loop-elements-preserved
array::tuple_type-loop-elements-preserved t c = let r = c.rest-elements.ensures in ((collecting_turn c.args.mode c.loop-elements.invariant.0 (c.loop-elements-test.true, c.first.ensures, r) c.element_type.ensures c.in-Some.is).1, omega (arith, r.levels, c.loop-elements.invariant.1), r.tree ∙ c.loop-elements.invariant.2)

pub array::tuple_type-element_type-requires : goal.array::tuple_type-element_type-requires
array::tuple_type-element_type-requires t c = let f = c.first.ensures in (omega (arith, c.decreases, f.levels, c.loop-elements.invariant.1), record { low = omega (arith, c.loop-elements.invariant.0.low, f.place); same = c.requires.same ∙ sym (f.tree ∙ c.loop-elements.invariant.2) })

pub array::tuple_type-returns-in_default : goal.array::tuple_type-returns-in_default
array::tuple_type-returns-in_default t c = tuple_failed c.args.mode c.args.array c.skip.ensures refl refl refl refl c.loop-elements.invariant.0 c.loop-elements-test.true c.first.ensures c.element_type.ensures c.in_default.is c.start-start.ensures c.back.ensures

pub array::tuple_type-overflow_add-count : goal.array::tuple_type-overflow_add-count
array::tuple_type-overflow_add-count t c = omega (arith, (collecting_turn c.args.mode c.loop-elements.invariant.0 (c.loop-elements-test.true, c.first.ensures, c.rest-elements.ensures) c.element_type.ensures c.in-Some.is).0, c.children-elements.ensures.many)

pub array::tuple_type-returns : goal.array::tuple_type-returns
array::tuple_type-returns t c = tuple_made c.args.mode c.args.array c.skip.ensures refl refl refl refl c.loop-elements.invariant.0 (omega (arith, c.loop-elements-test.false)) c.start-start.ensures c.range.ensures c.made-head.ensures c.put_front_at.ensures refl refl refl refl

pub exprs::call_type-returns-in_err-arg : goal.exprs::call_type-returns-in_err-arg
exprs::call_type-returns-in_err-arg t c = maybe_told (sym c.from_residual.ensures) (maybe-as (maybe_never c.args.o.now) (type_other_call c.args.mode (rec_of c.args.call) c.args.o.now.names.id_counter c.requires.1 (no_freeze c.args.call c.args.mode.scope.unresolved c.object_freeze_call_arg.ensures c.in_err-arg.was)))

pub exprs::call_type-returns-in_err-expr_to_ts_type : goal.exprs::call_type-returns-in_err-expr_to_ts_type
exprs::call_type-returns-in_err-expr_to_ts_type t c = let f = is_freeze c.args.call c.args.mode.scope.unresolved c.object_freeze_call_arg.ensures c.in_ok-arg.was in maybe_told (sym c.from_residual-in_err-expr_to_ts_type.ensures) (maybe-as (kept_none _ (is_none c.expr_to_ts_type.ensures c.in_err-expr_to_ts_type.was)) (type_call c.args.mode (rec_of c.args.call) c.args.o.now.names.id_counter c.requires.1 f.0 f.1.there f.1.is))

pub exprs::call_type-returns-then-not-has_readonly : goal.exprs::call_type-returns-then-not-has_readonly
exprs::call_type-returns-then-not-has_readonly t c = let f = is_freeze c.args.call c.args.mode.scope.unresolved c.object_freeze_call_arg.ensures c.in_ok-arg.was in maybe-as (kept_back (sym c.has_readonly.ensures ∙ c.if-not-has_readonly.true) (is_some c.expr_to_ts_type.ensures c.in_ok-expr_to_ts_type.was) c.start-start.ensures c.back.ensures) (type_call c.args.mode (rec_of c.args.call) c.args.o.now.names.id_counter c.requires.1 f.0 f.1.there f.1.is)

pub exprs::call_type-returns : goal.exprs::call_type-returns
exprs::call_type-returns t c = let f = is_freeze c.args.call c.args.mode.scope.unresolved c.object_freeze_call_arg.ensures c.in_ok-arg.was in maybe-as (kept_some (sym c.has_readonly.ensures ∙ c.if-not-has_readonly.false) (is_some c.expr_to_ts_type.ensures c.in_ok-expr_to_ts_type.was)) (type_call c.args.mode (rec_of c.args.call) c.args.o.now.names.id_counter c.requires.1 f.0 f.1.there f.1.is)

pub exprs::expr_to_ts_type-first-requires : goal.exprs::expr_to_ts_type-first-requires
exprs::expr_to_ts_type-first-requires t c = omega (arith, c.children.ensures.many, asserts_const c.args.expr (marked _ c.mark.ensures c.in-Tc.is))

pub exprs::expr_to_ts_type-first-requires-in-Ts : goal.exprs::expr_to_ts_type-first-requires-in-Ts
exprs::expr_to_ts_type-first-requires-in-Ts t c = omega (arith, c.children-in-Ts.ensures.many, satisfies c.args.expr (marked _ c.mark.ensures c.in-Ts.is))

pub exprs::expr_to_ts_type-rest-requires : goal.exprs::expr_to_ts_type-rest-requires
exprs::expr_to_ts_type-rest-requires t c = omega (arith, c.children-in-Fx.ensures.many, named_function c.args.expr (marked _ c.mark.ensures c.in-Fx.is))

pub exprs::expr_to_ts_type-first-function-requires : goal.exprs::expr_to_ts_type-first-function-requires
exprs::expr_to_ts_type-first-function-requires t c = omega (arith, c.children-in-Fx.ensures.many, c.rest.ensures.many, named_function c.args.expr (marked _ c.mark.ensures c.in-Fx.is))

pub exprs::expr_to_ts_type-function_type-requires : goal.exprs::expr_to_ts_type-function_type-requires
exprs::expr_to_ts_type-function_type-requires t c = let e = (marked _ c.mark.ensures c.in-Fx.is) in let x = second_kid c.children-in-Fx.ensures (named_function c.args.expr e) c.rest.ensures c.first-function.ensures in (omega (arith, c.decreases, x.levels, x.left), (record { low = omega (arith, c.requires.low, x.behind_it); same = c.requires.same ∙ sym x.tree }, ap mark_of x.is ∙ its_function c.args.expr e))

pub exprs::expr_to_ts_type-returns-in-Ob : goal.exprs::expr_to_ts_type-returns-in-Ob
exprs::expr_to_ts_type-returns-in-Ob t c = maybe-as (maybe_always c.object_type.ensures) (type_object c.args.mode (rec_of c.args.expr) c.args.o.now.names.id_counter (marked _ c.mark.ensures c.in-Ob.is))

pub exprs::expr_to_ts_type-returns-in-Tc : goal.exprs::expr_to_ts_type-returns-in-Tc
exprs::expr_to_ts_type-returns-in-Tc t c = let n = asserts_const c.args.expr (marked _ c.mark.ensures c.in-Tc.is) in maybe-as c.expr_to_ts_type.ensures (type_const c.args.mode (rec_of c.args.expr) c.args.o.now.names.id_counter (marked _ c.mark.ensures c.in-Tc.is) n (first_kid c.children.ensures n c.first.ensures).is)

pub exprs::expr_to_ts_type-returns-in-Ts : goal.exprs::expr_to_ts_type-returns-in-Ts
exprs::expr_to_ts_type-returns-in-Ts t c = let n = satisfies c.args.expr (marked _ c.mark.ensures c.in-Ts.is) in maybe-as c.expr_to_ts_type-in-Ts.ensures (type_satisfies c.args.mode (rec_of c.args.expr) c.args.o.now.names.id_counter (marked _ c.mark.ensures c.in-Ts.is) n (first_kid c.children-in-Ts.ensures n c.first-in-Ts.ensures).is)

pub exprs::expr_to_ts_type-returns-in-As : goal.exprs::expr_to_ts_type-returns-in-As
exprs::expr_to_ts_type-returns-in-As t c = let e = (marked _ c.mark.ensures c.in-As.is) in maybe-as (maybe_kept (keeps_made _ (as_fits c.args.mode.frozen _ (kid-fits 1 _ (kids-fit _ c.fits.ensures))) c.as_type.ensures refl refl refl refl)) (type_as c.args.mode (rec_of c.args.expr) c.args.o.now.names.id_counter e (asserted c.args.expr e))

pub exprs::expr_to_ts_type-returns-in-Fx : goal.exprs::expr_to_ts_type-returns-in-Fx
exprs::expr_to_ts_type-returns-in-Fx t c = let n = named_function c.args.expr (marked _ c.mark.ensures c.in-Fx.is) in maybe-as (maybe_always c.function_type.ensures) (type_fn c.args.mode (rec_of c.args.expr) c.args.o.now.names.id_counter (marked _ c.mark.ensures c.in-Fx.is) n (second_kid c.children-in-Fx.ensures n c.rest.ensures c.first-function.ensures).is)

pub exprs::expr_to_ts_type-returns-in-Aw : goal.exprs::expr_to_ts_type-returns-in-Aw
exprs::expr_to_ts_type-returns-in-Aw t c = maybe-as (maybe_always c.function_type-in-Aw.ensures) (type_arrow c.args.mode (rec_of c.args.expr) c.args.o.now.names.id_counter (marked _ c.mark.ensures c.in-Aw.is))

pub exprs::expr_to_ts_type-returns-in_default : goal.exprs::expr_to_ts_type-returns-in_default
exprs::expr_to_ts_type-returns-in_default t c = maybe-as (maybe_made _ c.leaf_type.ensures (leaf-fits c.args.mode (rec_of c.args.expr) c.fits-in_default.ensures) refl refl refl refl) (leaf_is c.args.mode (rec_of c.args.expr) c.args.o.now.names.id_counter c.mark.ensures c.in_default.not-Ar c.in_default.not-Ob c.in_default.not-Tc c.in_default.not-Ts c.in_default.not-As c.in_default.not-Fx c.in_default.not-Aw c.in_default.not-Ca)

pub function::function_type-put_fn_front-requires : goal.function::function_type-put_fn_front-requires
function::function_type-put_fn_front-requires t c = omega (arith, parameters c.args.function c.args.is_function c.requires.1, two_at_least c.args.is_function)

pub function::function_type-loop-param-init : goal.function::function_type-loop-param-init
function::function_type-loop-param-init t c = params_start c.args.scope c.args.is_function _ c.params-param-items.ensures.params c.into_iter-param-iterator.ensures.into_iter_gives c.requires.0.low

pub function::function_type-loop-param-preserved : goal.function::function_type-loop-param-preserved
function::function_type-loop-param-preserved t c = let s = c.in-Some.ensures.steps in (params_turn c.args.scope c.args.is_function (rec_of c.args.function) c.loop-param.invariant.0 s c.param_type-count.ensures, omega (arith, s.2.levels, c.loop-param.invariant.1), s.2.tree ∙ c.loop-param.invariant.2)

pub function::function_type-param_type-count-requires : goal.function::function_type-param_type-count-requires
function::function_type-param_type-count-requires t c = let s = c.in-Some.ensures.steps in (omega (arith, c.decreases, s.1.levels, c.loop-param.invariant.1), record { low = omega (arith, c.loop-param.invariant.0.making.low, s.1.place); same = c.requires.0.same ∙ sym (s.1.tree ∙ c.loop-param.invariant.2) })

pub function::function_type-overflow_add-count : goal.function::function_type-overflow_add-count
function::function_type-overflow_add-count t c = omega (arith, (params_turn c.args.scope c.args.is_function (rec_of c.args.function) c.loop-param.invariant.0 c.in-Some.ensures.steps c.param_type-count.ensures).few, c.params-param-items.ensures.few)

pub function::function_type-returns : goal.function::function_type-returns
function::function_type-returns t c = function_made c.args.scope c.args.is_function c.args.function c.fits.ensures c.skip.ensures refl refl refl refl (puts_out c.put_fn_front.ensures refl refl refl refl) c.loop-param.invariant.0 c.in-None.ensures.steps.0 c.start-start.ensures c.range.ensures c.made-head.ensures c.put_front_at.ensures refl refl refl refl

pub function::named_param-rest-requires : goal.function::named_param-rest-requires
function::named_param-rest-requires t c = omega (arith, c.children.ensures.many, assigned c.args.assign c.requires.ready.1)

pub function::named_param-first-right-requires : goal.function::named_param-first-right-requires
function::named_param-first-right-requires t c = omega (arith, c.children.ensures.many, c.rest.ensures.many, assigned c.args.assign c.requires.ready.1)

pub function::named_param-returns-in_default : goal.function::named_param-returns-in_default
function::named_param-returns-in_default t c = let e = c.requires.ready.1 in let n = assigned c.args.assign e in let x = second_kid c.children.ensures n c.rest.ensures c.first-right.ensures in named_failed c.args.scope (rec_of c.args.assign) e n x.is (puts_out c.put_named.ensures refl refl refl refl) (is_none (rw c.mutable.ensures at c.expr_to_ts_type.ensures) c.in_default.is) c.start-start.ensures c.back.ensures

pub function::named_param-returns : goal.function::named_param-returns
function::named_param-returns t c = let e = c.requires.ready.1 in let n = assigned c.args.assign e in let x = second_kid c.children.ensures n c.rest.ensures c.first-right.ensures in named_made c.args.scope (rec_of c.args.assign) e n x.is (puts_out c.put_named.ensures refl refl refl refl) c.requires.named c.fits.ensures (is_some (rw c.mutable.ensures at c.expr_to_ts_type.ensures) c.in-Some.is)

pub function::param_type-returns-then-not-is_function : goal.function::param_type-returns-then-not-is_function
function::param_type-returns-then-not-is_function t c = counted_as (most_counted c.pat_to_ts_fn_param.ensures c.one_or_none.ensures) (rw c.if-not-is_function.true (param_arrow c.args.scope (rec_of c.args.param) c.args.o.now.names.id_counter))

pub function::param_type-returns-then-ne : goal.function::param_type-returns-then-ne
function::param_type-returns-then-ne t c = rw c.if-not-is_function.false (param_gone c.args.scope (rec_of c.args.param) c.args.o.now (other _ c.mark.ensures Pa c.ne.ensures c.if-ne.true))

pub function::param_type-first-requires : goal.function::param_type-first-requires
function::param_type-first-requires t c = omega (arith, c.children.ensures.many, decorated c.args.param (eqb-true _ _ (same _ c.mark.ensures Pa c.ne.ensures c.if-ne.false)))

pub function::param_type-returns : goal.function::param_type-returns
function::param_type-returns t c = let e = same _ c.mark.ensures Pa c.ne.ensures c.if-ne.false in let n = decorated c.args.param (eqb-true _ _ e) in counted_as (most_counted c.pat_to_ts_fn_param-2.ensures c.one_or_none-2.ensures) (rw c.if-not-is_function.false (param_pa c.args.scope (rec_of c.args.param) c.args.o.now.names.id_counter e n (first_kid c.children.ensures n c.first.ensures).is))

pub function::pat_to_ts_fn_param-first-requires : goal.function::pat_to_ts_fn_param-first-requires
function::pat_to_ts_fn_param-first-requires t c = omega (arith, c.children.ensures.many, assigned c.args.pat (marked _ c.mark.ensures c.in-Ag.is))

pub function::pat_to_ts_fn_param-named_param-requires : goal.function::pat_to_ts_fn_param-named_param-requires
function::pat_to_ts_fn_param-named_param-requires t c = let e = (marked _ c.mark.ensures c.in-Ag.is) in let x = first_kid c.children.ensures (omega (arith, assigned c.args.pat e)) c.first.ensures in (omega (arith, c.decreases), ((c.requires, e), ap mark_of (sym x.is) ∙ eqb-true _ _ (sym (tested _ c.mark-in-Ag.ensures Bd) ∙ (sym c.eq.ensures ∙ c.if-eq.true))))

pub function::pat_to_ts_fn_param-unnamed_param-requires : goal.function::pat_to_ts_fn_param-unnamed_param-requires
function::pat_to_ts_fn_param-unnamed_param-requires t c = let e = (marked _ c.mark.ensures c.in-Ag.is) in let x = first_kid c.children.ensures (omega (arith, assigned c.args.pat e)) c.first.ensures in (omega (arith, c.decreases), ((c.requires, e), λ q. eqb-false _ _ (sym (tested _ c.mark-in-Ag.ensures Bd) ∙ (sym c.eq.ensures ∙ c.if-eq.false)) (ap mark_of x.is ∙ q)))

pub function::pat_to_ts_fn_param-first-expr-requires : goal.function::pat_to_ts_fn_param-first-expr-requires
function::pat_to_ts_fn_param-first-expr-requires t c = omega (arith, c.children-in-Pe.ensures.many, evaluated c.args.pat (marked _ c.mark.ensures c.in-Pe.is))

pub function::pat_to_ts_fn_param-returns-in-Bd : goal.function::pat_to_ts_fn_param-returns-in-Bd
function::pat_to_ts_fn_param-returns-in-Bd t c = pattern_kept c.args.scope (rec_of c.args.pat) c.keep.ensures c.mark.ensures c.in-Bd.is

pub function::pat_to_ts_fn_param-returns-in-Pe : goal.function::pat_to_ts_fn_param-returns-in-Pe
function::pat_to_ts_fn_param-returns-in-Pe t c = let n = evaluated c.args.pat (marked _ c.mark.ensures c.in-Pe.is) in pattern_marked c.args.scope (rec_of c.args.pat) c.mark_diagnostic.ensures (marked _ c.mark.ensures c.in-Pe.is) (first_kid c.children-in-Pe.ensures n c.first-expr.ensures).is

pub function::pat_to_ts_fn_param-returns-in_default : goal.function::pat_to_ts_fn_param-returns-in_default
function::pat_to_ts_fn_param-returns-in_default t c = pattern_gone c.args.scope (rec_of c.args.pat) c.args.o.now c.mark.ensures c.in_default.not-Bd c.in_default.not-Pb c.in_default.not-Rs c.in_default.not-Po c.in_default.not-Ag c.in_default.not-Pe

pub function::unnamed_param-rest-requires : goal.function::unnamed_param-rest-requires
function::unnamed_param-rest-requires t c = omega (arith, c.children.ensures.many, assigned c.args.assign c.requires.ready.1)

pub function::unnamed_param-first-right-requires : goal.function::unnamed_param-first-right-requires
function::unnamed_param-first-right-requires t c = omega (arith, c.children.ensures.many, c.rest.ensures.many, assigned c.args.assign c.requires.ready.1)

pub function::unnamed_param-returns-in_default : goal.function::unnamed_param-returns-in_default
function::unnamed_param-returns-in_default t c = let e = c.requires.ready.1 in let n = assigned c.args.assign e in let x = second_kid c.children.ensures n c.rest.ensures c.first-right.ensures in unnamed_failed c.args.scope (rec_of c.args.assign) e n x.is (rw c.unique_binding_size.ensures.0 at c.skip.ensures) refl refl refl refl (is_none (rw c.mutable.ensures at c.expr_to_ts_type.ensures) c.in_default.is) c.start-start.ensures c.back.ensures

pub function::unnamed_param-put_unnamed-requires-clause-raised : goal.function::unnamed_param-put_unnamed-requires-clause-raised
function::unnamed_param-put_unnamed-requires-clause-raised t c = let e = c.requires.ready.1 in let n = assigned c.args.assign e in let x = second_kid c.children.ensures n c.rest.ensures c.first-right.ensures in raised c.args.scope x c.requires.ready.0.low (is_some (rw c.mutable.ensures at c.expr_to_ts_type.ensures) c.in-Some.is)

pub function::unnamed_param-returns : goal.function::unnamed_param-returns
function::unnamed_param-returns t c = let e = c.requires.ready.1 in let n = assigned c.args.assign e in let x = second_kid c.children.ensures n c.rest.ensures c.first-right.ensures in unnamed_made c.args.scope (rec_of c.args.assign) e n x.is (rw c.unique_binding_size.ensures.0 at c.skip.ensures) refl refl refl refl c.requires.unnamed (is_some (rw c.mutable.ensures at c.expr_to_ts_type.ensures) c.in-Some.is) c.start-start.ensures c.put_unnamed.ensures

pub object::key_value-rest-requires : goal.object::key_value-rest-requires
object::key_value-rest-requires t c = omega (arith, c.children-parts.ensures.many, keyed c.args.prop c.requires.1)

pub object::key_value-first-value-requires : goal.object::key_value-first-value-requires
object::key_value-first-value-requires t c = omega (arith, c.children-parts.ensures.many, c.rest.ensures.many, keyed c.args.prop c.requires.1)

pub object::key_value-first-requires : goal.object::key_value-first-requires
object::key_value-first-requires t c = omega (arith, c.children-parts.ensures.many, keyed c.args.prop c.requires.1)

pub object::key_value-returns : goal.object::key_value-returns
object::key_value-returns t c = let n = keyed c.args.prop c.requires.1 in let k = first_kid c.children-parts.ensures (omega (arith, n)) c.first.ensures in let v = second_kid c.children-parts.ensures n c.rest.ensures c.first-value.ensures in value_made c.args.mode (rec_of c.args.prop) c.requires.1 n k.is v.is (rw c.is_readonly.ensures at c.put_keyed.ensures) c.expr_to_ts_type-t.ensures c.or_any.ensures

pub object::object_type-loop-prop-init : goal.object::object_type-loop-prop-init
object::object_type-loop-prop-init t c = members_start c.args.mode _ c.children-prop-items.ensures c.into_iter-prop-iterator.ensures.into_iter_gives c.requires.low

pub object::object_type-loop-prop-preserved : goal.object::object_type-loop-prop-preserved
object::object_type-loop-prop-preserved t c = let s = c.in-Some.ensures.steps in (members_turn c.args.mode (rec_of c.args.object) c.loop-prop.invariant.0 s c.property_type-count.ensures, omega (arith, s.2.levels, c.loop-prop.invariant.1), s.2.tree ∙ c.loop-prop.invariant.2)

pub object::object_type-property_type-count-requires : goal.object::object_type-property_type-count-requires
object::object_type-property_type-count-requires t c = let s = c.in-Some.ensures.steps in (omega (arith, c.decreases, s.1.levels, c.loop-prop.invariant.1), record { low = omega (arith, c.loop-prop.invariant.0.making.low, s.1.place); same = c.requires.same ∙ sym (s.1.tree ∙ c.loop-prop.invariant.2) })

pub object::object_type-overflow_add-count : goal.object::object_type-overflow_add-count
object::object_type-overflow_add-count t c = omega (arith, (members_turn c.args.mode (rec_of c.args.object) c.loop-prop.invariant.0 c.in-Some.ensures.steps c.property_type-count.ensures).few, c.children-prop-items.ensures.many)

pub object::object_type-returns : goal.object::object_type-returns
object::object_type-returns t c = object_made c.args.mode c.args.object c.skip.ensures refl refl refl refl c.loop-prop.invariant.0 c.in-None.ensures.steps.0 c.start-start.ensures c.range.ensures c.made-head.ensures c.put_front_at.ensures refl refl refl refl

pub object::property_type-returns-in-Sp : goal.object::property_type-returns-in-Sp
object::property_type-returns-in-Sp t c = spread_skipped c.args.mode (rec_of c.args.prop) c.mark_diagnostic.ensures (marked _ c.mark.ensures c.in-Sp.is)

pub object::property_type-returns-in-Op : goal.object::property_type-returns-in-Op
object::property_type-returns-in-Op t c = op_skipped c.args.mode (rec_of c.args.prop) c.args.o.now (marked _ c.mark.ensures c.in-Op.is)

pub object::property_type-returns-in_default : goal.object::property_type-returns-in_default
object::property_type-returns-in_default t c = let m = c.mark.ensures in other_skipped c.args.mode (rec_of c.args.prop) c.mark_diagnostic-in_default.ensures (not_marked _ m Kv c.in_default.not-Kv) (not_marked _ m Sh c.in_default.not-Sh) (not_marked _ m Sp c.in_default.not-Sp) (not_marked _ m Op c.in_default.not-Op)
