-- The cycle of `transform_module_items`: each member meets its contract, and the remaining depth falls.
use Rattle.std.proofs.Common.{arith, ap}
use Rattle.definition.specs.Record.{head_of}
use Rattle.definition.specs.Items.{item_kind, decl_kind}
use Rattle.records.specs.declared.marks.Mark.TheVariants.{Im, Op, St, Ed, Xd, Xe, Cd, Fd, Vd, En, Ns, Us, Nb, Nd}
use Rattle.records.specs.Views.{rec_of}
use Rattle.records.proofs.Records.{from_children, child_is}
use Rattle.records.proofs.SameMarks.{marked, not_marked}
use Rattle.output.proofs.Framing.{makes-as, makes-keeps}
use Rattle.typing.proofs.ReadyFor.{ready_kids}
use Rattle.items.proofs.Framed.{some_left, second_left, counted-as, counted_kept, counted_none}
use Rattle.items.proofs.ItemArms.{ed_one, ns_two, nd_two, item_kept, item_dropped, item_export, item_default, item_expr, item_stmt, made_is, made_not, stmt_gone, stmt_kept, stmt_made, stmt_some, stmt_none, maybe_made, maybe_kept, maybe_marked, decl_using, decl_type, decl_class, decl_fn, decl_var, decl_enum, decl_module, export_gone, export_some, export_none}
use Rattle.items.proofs.Bodies.{body_other, nested_is, parts_made, block_made}
use Rattle.items.proofs.ItemCounts.{itemizing_start, itemizing_few, itemizing_turn, itemizing_done}
use Rattle.items.proofs.module.+module_items.Goals as goal

pub decl_to_type_decl-with_body-requires : goal.decl_to_type_decl-with_body-requires
decl_to_type_decl-with_body-requires t c = (omega (arith, c.decreases), (c.requires, ns_two c.args.decl (marked _ c.mark.ensures c.in-Ns.is)))

pub decl_to_type_decl-returns-in-Cd : goal.decl_to_type_decl-returns-in-Cd
decl_to_type_decl-returns-in-Cd t c =
    maybe_made c.with_class.ensures (decl_class c.args.list.now c.args.scope c.args.top (rec_of c.args.decl) c.args.o.now.names.id_counter c.flags.ensures c.declared-flags.ensures (marked _ c.mark.ensures c.in-Cd.is))

pub decl_to_type_decl-returns-in-Fd : goal.decl_to_type_decl-returns-in-Fd
decl_to_type_decl-returns-in-Fd t c =
    maybe_made c.with_function.ensures (decl_fn c.args.list.now c.args.scope c.args.top (rec_of c.args.decl) c.args.o.now.names.id_counter c.flags.ensures c.declared-flags.ensures (marked _ c.mark.ensures c.in-Fd.is))

pub decl_to_type_decl-returns-in-Vd : goal.decl_to_type_decl-returns-in-Vd
decl_to_type_decl-returns-in-Vd t c =
    maybe_made c.with_declarators.ensures (decl_var c.args.list.now c.args.scope c.args.top (rec_of c.args.decl) c.args.o.now.names.id_counter c.flags.ensures c.declared-flags.ensures (marked _ c.mark.ensures c.in-Vd.is))

pub decl_to_type_decl-returns-in-En : goal.decl_to_type_decl-returns-in-En
decl_to_type_decl-returns-in-En t c =
    maybe_kept _ c.with_members.ensures (decl_enum c.args.list.now c.args.scope c.args.top (rec_of c.args.decl) c.args.o.now.names.id_counter c.flags.ensures c.declared-flags.ensures (marked _ c.mark.ensures c.in-En.is))

pub decl_to_type_decl-returns-in-Ns : goal.decl_to_type_decl-returns-in-Ns
decl_to_type_decl-returns-in-Ns t c =
    maybe_made c.with_body.ensures (decl_module c.args.list.now c.args.scope c.args.top (rec_of c.args.decl) c.args.o.now.names.id_counter c.flags.ensures c.declared-flags.ensures (marked _ c.mark.ensures c.in-Ns.is))

pub decl_to_type_decl-returns-in-Us : goal.decl_to_type_decl-returns-in-Us
decl_to_type_decl-returns-in-Us t c =
    maybe_marked (head_of (rec_of c.args.decl)) c.mark_diagnostic.ensures (decl_using c.args.list.now c.args.scope c.args.top (rec_of c.args.decl) c.args.o.now.names.id_counter (marked _ c.mark.ensures c.in-Us.is))

pub decl_to_type_decl-returns-in_default : goal.decl_to_type_decl-returns-in_default
unfolding decl_kind
decl_to_type_decl-returns-in_default t c =
    let m = c.mark.ensures in
    maybe_kept _ c.keep.ensures (decl_type c.args.list.now c.args.scope c.args.top (rec_of c.args.decl) c.args.o.now.names.id_counter
    (rw (not_marked _ m Cd c.in_default.not-Cd, not_marked _ m Fd c.in_default.not-Fd, not_marked _ m Vd c.in_default.not-Vd, not_marked _ m En c.in_default.not-En, not_marked _ m Ns c.in_default.not-Ns, not_marked _ m Us c.in_default.not-Us)))

pub export_decl-first-decl-requires : goal.export_decl-first-decl-requires
export_decl-first-decl-requires t c = omega (arith, c.children.ensures.many, ed_one c.args.export c.requires.1)

pub export_decl-returns-then-is_overloaded : goal.export_decl-returns-then-is_overloaded
export_decl-returns-then-is_overloaded t c =
    let x = child_is (from_children c.children.ensures) (omega (arith, c.children.ensures.many, ed_one c.args.export c.requires.1)) c.first-decl.ensures in
    export_gone c.args.list.now c.args.scope c.args.top c.args.export x c.is_overloaded.ensures c.if-is_overloaded.true c.args.o.now

pub export_decl-returns-in_default : goal.export_decl-returns-in_default
export_decl-returns-in_default t c =
    let x = child_is (from_children c.children.ensures) (omega (arith, c.children.ensures.many, ed_one c.args.export c.requires.1)) c.first-decl.ensures in
    export_none c.args.list.now c.args.scope c.args.top c.args.export x c.is_overloaded.ensures c.if-is_overloaded.false c.begin-kids.ensures c.decl_to_type_decl.ensures c.in_default.is c.start-start.ensures c.back.ensures
    c.mark_diagnostic.ensures

pub export_decl-rest-requires : goal.export_decl-rest-requires
export_decl-rest-requires t c = omega (arith, some_left c.begin-kids.ensures (ed_one c.args.export c.requires.1))

pub export_decl-returns : goal.export_decl-returns
export_decl-returns t c =
    let x = child_is (from_children c.children.ensures) (omega (arith, c.children.ensures.many, ed_one c.args.export c.requires.1)) c.first-decl.ensures in
    export_some c.args.list.now c.args.scope c.args.top c.args.export x c.is_overloaded.ensures c.if-is_overloaded.false c.begin-kids.ensures c.decl_to_type_decl.ensures c.in-Some.is
    (omega (arith, some_left c.begin-kids.ensures (ed_one c.args.export c.requires.1))) c.rest.ensures c.keep_all.ensures

pub ns_block-transform_module_items-count-requires : goal.ns_block-transform_module_items-count-requires
ns_block-transform_module_items-count-requires t c =
    (omega (arith, c.decreases, c.items_of.ensures.items.levels, c.items_of.ensures.items.left), (ready_kids c.requires.0 c.items_of.ensures.items (ap (λ x. x.id_counter) c.skip_front.ensures.names), c.items_of.ensures.few))

pub ns_block-returns : goal.ns_block-returns
ns_block-returns t c =
    block_made c.args.list.now c.args.scope c.requires.1 c.start-start.ensures c.skip_front.ensures c.items_of.ensures.items c.transform_module_items-count.ensures c.put_front_at.ensures.front c.put_front_at.ensures.short

pub transform_module_item-returns-in-Im : goal.transform_module_item-returns-in-Im
transform_module_item-returns-in-Im t c =
    rw c.kept.ensures.0 (counted_kept _ c.kept.ensures.1 (item_kept c.args.list.now c.args.scope c.args.top (rec_of c.args.item) c.args.o.now.names.id_counter c.mark.ensures c.in-Im.is))

pub transform_module_item-returns-in-St : goal.transform_module_item-returns-in-St
transform_module_item-returns-in-St t c =
    counted_none c.args.o.now (item_dropped c.args.list.now c.args.scope c.args.top (rec_of c.args.item) c.args.o.now.names.id_counter (marked _ c.mark.ensures c.in-St.is))

pub transform_module_item-returns-in-Ed : goal.transform_module_item-returns-in-Ed
transform_module_item-returns-in-Ed t c =
    counted-as c.export_decl.ensures (item_export c.args.list.now c.args.scope c.args.top (rec_of c.args.item) c.args.o.now.names.id_counter (marked _ c.mark.ensures c.in-Ed.is))

pub transform_module_item-returns-in-Xd : goal.transform_module_item-returns-in-Xd
transform_module_item-returns-in-Xd t c =
    counted-as c.export_default_decl.ensures (item_default c.args.list.now c.args.scope c.args.top (rec_of c.args.item) c.args.o.now.names.id_counter (marked _ c.mark.ensures c.in-Xd.is))

pub transform_module_item-returns-in-Xe : goal.transform_module_item-returns-in-Xe
transform_module_item-returns-in-Xe t c =
    counted-as c.export_default_expr.ensures (item_expr c.args.list.now c.args.scope c.args.top (rec_of c.args.item) c.args.o.now.names.id_counter (marked _ c.mark.ensures c.in-Xe.is))

pub transform_module_item-returns-in_default : goal.transform_module_item-returns-in_default
unfolding item_kind
transform_module_item-returns-in_default t c =
    let m = c.mark.ensures in
    counted-as c.transform_module_stmt.ensures (item_stmt c.args.list.now c.args.scope c.args.top (rec_of c.args.item) c.args.o.now.names.id_counter
    (rw (not_marked _ m Im c.in_default.not-Im, not_marked _ m Op c.in_default.not-Op, not_marked _ m St c.in_default.not-St, not_marked _ m Ed c.in_default.not-Ed, not_marked _ m Xd c.in_default.not-Xd, not_marked _ m Xe c.in_default.not-Xe)))

pub transform_module_items-loop-item-init : goal.transform_module_items-loop-item-init
transform_module_items-loop-item-init t c =
    rw c.into_iter-item-iterator.ensures.into_iter_gives (itemizing_start c.args.list.now c.args.scope c.args.top c.args.o.now c.args.items c.requires.0.low c.requires.1)

pub transform_module_items-overflow_add-count : goal.transform_module_items-overflow_add-count
transform_module_items-overflow_add-count t c =
    omega (arith, c.loop-item.invariant.numbering.few, itemizing_few c.loop-item.invariant c.in-Some.item, c.transform_module_item-count.ensures.many)

pub transform_module_items-loop-item-preserved : goal.transform_module_items-loop-item-preserved
transform_module_items-loop-item-preserved t c = itemizing_turn c.loop-item.invariant c.in-Some.ensures.steps c.transform_module_item-count.ensures

pub transform_module_items-returns : goal.transform_module_items-returns
transform_module_items-returns t c = itemizing_done c.loop-item.invariant c.in-None.ensures.steps.0

pub transform_module_stmt-returns-then-is_overloaded : goal.transform_module_stmt-returns-then-is_overloaded
transform_module_stmt-returns-then-is_overloaded t c =
    counted_none c.args.o.now (stmt_gone c.args.list.now c.args.scope c.args.top (rec_of c.args.stmt) c.args.o.now.names.id_counter c.is_overloaded.ensures c.if-is_overloaded.true)

pub transform_module_stmt-returns-in_default-decl_to_type_decl : goal.transform_module_stmt-returns-in_default-decl_to_type_decl
transform_module_stmt-returns-in_default-decl_to_type_decl t c =
    stmt_none c.args.list.now c.args.scope c.args.top (rec_of c.args.stmt) c.decl_to_type_decl.ensures
    (stmt_made c.args.list.now c.args.scope c.args.top (rec_of c.args.stmt) c.args.o.now.names.id_counter c.is_overloaded.ensures c.if-is_overloaded.false (made_is (rec_of c.args.stmt) c.mark.ensures c.in-Cd.is))
    c.in_default-decl_to_type_decl.is c.mark_diagnostic.ensures

pub transform_module_stmt-returns-in-Some : goal.transform_module_stmt-returns-in-Some
transform_module_stmt-returns-in-Some t c =
    stmt_some c.args.list.now c.args.scope c.args.top (rec_of c.args.stmt) c.decl_to_type_decl.ensures
    (stmt_made c.args.list.now c.args.scope c.args.top (rec_of c.args.stmt) c.args.o.now.names.id_counter c.is_overloaded.ensures c.if-is_overloaded.false (made_is (rec_of c.args.stmt) c.mark.ensures c.in-Cd.is))
    c.in-Some.is

pub transform_module_stmt-returns-in_default : goal.transform_module_stmt-returns-in_default
transform_module_stmt-returns-in_default t c =
    let m = c.mark.ensures in
    rw c.kept.ensures.0 (counted_kept _ c.kept.ensures.1 (stmt_kept c.args.list.now c.args.scope c.args.top (rec_of c.args.stmt) c.args.o.now.names.id_counter
    (made_not _ (not_marked _ m Cd c.in_default.not-Cd) (not_marked _ m Fd c.in_default.not-Fd) (not_marked _ m Vd c.in_default.not-Vd) (not_marked _ m En c.in_default.not-En) (not_marked _ m Ns c.in_default.not-Ns))))

pub transform_ts_ns_body-with_body-requires : goal.transform_ts_ns_body-with_body-requires
transform_ts_ns_body-with_body-requires t c = (omega (arith, c.decreases), (c.requires, nd_two c.args.body (marked _ c.mark.ensures c.in-Nd.is)))

pub transform_ts_ns_body-returns-in-Nd : goal.transform_ts_ns_body-returns-in-Nd
transform_ts_ns_body-returns-in-Nd t c = makes-as c.with_body.ensures (nested_is c.args.list.now c.args.scope (rec_of c.args.body) c.args.o.now.names.id_counter c.flags.ensures (marked _ c.mark.ensures c.in-Nd.is))

pub transform_ts_ns_body-returns-in_default : goal.transform_ts_ns_body-returns-in_default
transform_ts_ns_body-returns-in_default t c =
    makes-as (makes-keeps _ c.keep.ensures)
    (body_other c.args.list.now c.args.scope (rec_of c.args.body) c.args.o.now.names.id_counter (not_marked _ c.mark.ensures Nb c.in_default.not-Nb) (not_marked _ c.mark.ensures Nd c.in_default.not-Nd))

pub with_body-returns : goal.with_body-returns
with_body-returns t c =
    parts_made c.args.list.now c.args.scope c.requires.1 c.begin_with-name.ensures c.keep_next-body.ensures (second_left c.begin_with-name.ensures c.keep_next-body.ensures c.requires.1) c.first.ensures c.rest.ensures
    c.transform_ts_ns_body.ensures c.keep_all.ensures
