-- `grammar::record::open_record` meets its contract.
use mathlib.Core.Path.{sym, ap, ◌∙◌}
use Rattle.std.proofs.lemmas.Result.{err_from_is_err_and, IfOk-weaker}
use Rattle.grammar.specs.Slots.{parts_from}
use Rattle.grammar.specs.declared.Refusal.TheVariants.{Misplaced}
use Rattle.grammar.proofs.Places.{is-misplaced, is_placed}
use Rattle.grammar.proofs.Openings.{cut_head, unknown_mark, slots-after, wrong_slot, backward, head_fine}
use Rattle.grammar.proofs.record.open_record.Goals as goal

pub returns-then-tree-at-lt-HEAD_SIZE-clause-opens : goal.returns-then-tree-at-lt-HEAD_SIZE-clause-opens
returns-then-tree-at-lt-HEAD_SIZE-clause-opens c = cut_head _ _ (parts_from c.args.k) c.if-tree-at-lt-HEAD_SIZE.true

pub returns-then-code-ge-KNOWN-clause-opens : goal.returns-then-code-ge-KNOWN-clause-opens
returns-then-code-ge-KNOWN-clause-opens c =
    let h = c.read_head-h in
    unknown_mark _ _ (parts_from c.args.k) h.result _ h.ensures c.mark_number-code.ensures c.if-tree-at-lt-HEAD_SIZE.false c.if-code-ge-KNOWN.true

pub returns-in_err-next-clause-opens : goal.returns-in_err-next-clause-opens
returns-in_err-next-clause-opens c =
    let h = c.read_head-h in
    let p = err_from_is_err_and c.from_residual.result c.from_residual.ensures.1 in
    let taken = is-misplaced _ _ Misplaced c.take_slot.result c.take_slot.ensures (sym c.ok_or.ensures.value ∙ c.in_err-next.was) in
    rw (p.1, p.2, taken.0) (wrong_slot _ _ (parts_from c.args.k) h.result _ h.ensures c.mark_number-code.ensures c.if-tree-at-lt-HEAD_SIZE.false c.if-code-ge-KNOWN.false taken.1)

pub returns-then-h-clause-opens : goal.returns-then-h-clause-opens
returns-then-h-clause-opens c =
    let h = c.read_head-h in
    let taken = is_placed _ _ Misplaced c.take_slot.result c.take_slot.ensures (sym c.ok_or.ensures.value ∙ c.in_ok-next.was) in
    backward _ _ (parts_from c.args.k) h.result _ h.ensures c.mark_number-code.ensures c.if-tree-at-lt-HEAD_SIZE.false c.if-code-ge-KNOWN.false taken.0 c.if-h.true

pub returns-clause-opens : goal.returns-clause-opens
returns-clause-opens c =
    let h = c.read_head-h in
    let taken = is_placed _ _ Misplaced c.take_slot.result c.take_slot.ensures (sym c.ok_or.ensures.value ∙ c.in_ok-next.was) in
    head_fine _ _ (parts_from c.args.k) h.result _ h.ensures c.mark_number-code.ensures c.if-tree-at-lt-HEAD_SIZE.false c.if-code-ge-KNOWN.false taken.0 c.if-h.false _ c.open_body.ensures.opens

pub returns-clause-before : goal.returns-clause-before
returns-clause-before c =
    let h = c.read_head-h in
    let taken = is_placed _ _ Misplaced c.take_slot.result c.take_slot.ensures (sym c.ok_or.ensures.value ∙ c.in_ok-next.was) in
    let next = slots-after c.args.tree.now c.args.at (parts_from c.args.k) h.result _ h.ensures c.mark_number-code.ensures c.if-tree-at-lt-HEAD_SIZE.false c.if-code-ge-KNOWN.false _ taken.1 in
    IfOk-weaker c.open_body.result _ _ (λ o e. ap parts_from e ∙ next) c.open_body.ensures.before
