-- The proof of the cycle of calls {check_all}: the measure is what is left of the levels, and the loop's invariant that the records before the next
-- one are accepted.
use mathlib.Core.Path.{◌≡◌, sym, ap, ◌∙◌}
use Prim.Native.Nat.{◌+◌, ◌-◌}
use native.Mathlib.Nat.{sub-zero}
use native.Mathlib.Omega.{arith}
use Rattle.std.proofs.Common.{rules}
use Rattle.std.proofs.lemmas.Result.{err_from_is_err_and, IfOk-at_ok}
use Rattle.definition.specs.Tree.{mark_at}
use Rattle.definition.specs.Grammar.{after}
use Rattle.grammar.specs.Slots.{parts_from}
use Rattle.grammar.specs.Answers.{opening, checked}
use Rattle.grammar.specs.declared.record.Opened.{Opened}
use Rattle.grammar.proofs.Children.{same_ok, same_err, body-inside, passed-all, no_level, stopped-here, passed-turn, passed-leaf, passed-refused}
use Rattle.grammar.proofs.record.+check_all.Goals as goal
use Rattle.grammar.proofs.record.+check_all.Goals.{then-opened-gt0+in_ok-p, else-opened-gt0}

pub loop-init : goal.loop-init
loop-init t c = record { inside = c.requires; same = rw (sub-zero c.args.count) }

pub returns-then-levels-eq0 : goal.returns-then-levels-eq0
returns-then-levels-eq0 t c =
    let a = c.args in
    let l = c.loop in
    no_level a.levels a.tree.now _ (a.count - l.counter) l.p (parts_from l.slot) l.invariant (omega arith) c.if-levels-eq0.true

pub returns-in_err-opened : goal.returns-in_err-opened
returns-in_err-opened t c =
    let a = c.args in
    let l = c.loop in
    let p = err_from_is_err_and c.from_residual.result c.from_residual.ensures.1 in
    let e = same_err _ c.open_record.result c.map_err.ensures.cases c.in_err-opened.was in
    let k = e.2 in
    let q : c.in_err-opened.field-0.0 ≡ record { refusal = e.0; place = l.p } = search rules in
    rw (p.1, p.2, q) (stopped-here a.levels a.tree.now _ (a.count - l.counter) l.p (parts_from l.slot) l.invariant (omega arith) c.if-levels-eq0.false _ (sym (ap opening e.1) ∙ c.open_record.ensures.opens))

pub check_all-requires : goal.check_all-requires
check_all-requires t c =
    let a = c.args in
    let l = c.loop in
    let e = sym (ap opening (same_ok _ c.open_record.result c.map_err.ensures.cases c.in_ok-opened.was)) ∙ c.open_record.ensures.opens in
    (omega (arith, c.decreases, c.if-levels-eq0.false), body-inside a.tree.now l.p (parts_from l.slot) _ _ _ e)

pub returns-in_err-p : goal.returns-in_err-p
returns-in_err-p t c =
    let a = c.args in
    let l = c.loop in
    let p = err_from_is_err_and c.from_residual-in_err-p.result c.from_residual-in_err-p.ensures.1 in
    let e = sym (ap opening (same_ok _ c.open_record.result c.map_err.ensures.cases c.in_ok-opened.was)) ∙ c.open_record.ensures.opens in
    let r = ap checked c.in_err-p.was in
    rw (p.1, p.2) (passed-refused a.levels a.tree.now _ (a.count - l.counter) l.p (parts_from l.slot) l.invariant (omega arith) c.if-levels-eq0.false _ _ _ e _ _ (sym r ∙ c.check_all.ensures))

pub loop-preserved : goal.loop-preserved
loop-preserved t c =
    let a = c.args in
    let l = c.loop in
    let is = same_ok _ c.open_record.result c.map_err.ensures.cases c.in_ok-opened.was in
    let e = sym (ap opening is) ∙ c.open_record.ensures.opens in
    let q : parts_from c.in_ok-opened.opened.next ≡ after (parts_from l.slot) (mark_at a.tree.now l.p) = IfOk-at_ok (λ (o : Opened). parts_from o.next ≡ after (parts_from l.slot) (mark_at a.tree.now l.p)) is c.open_record.ensures.before in
    let n : a.count - (l.counter + 1) ≡ a.count - l.counter - 1 = omega arith in
    elim c.if-opened-gt0.branch [
      | then-opened-gt0+in_ok-p w ↦ rw (w.p-is, q, n) (passed-turn a.levels a.tree.now _ (a.count - l.counter) l.p (parts_from l.slot) l.invariant (omega arith) c.if-levels-eq0.false _ _ _ e _ (sym (ap checked w.in_ok-p.was) ∙ w.check_all.ensures))
      | else-opened-gt0 w ↦ rw (w.p-is, q, n) (passed-leaf a.levels a.tree.now _ (a.count - l.counter) l.p (parts_from l.slot) l.invariant (omega arith) c.if-levels-eq0.false _ _ _ e (omega (arith, w.if-opened-gt0.false)))
    ]

pub returns : goal.returns
returns t c =
    let a = c.args in
    let l = c.loop in
    passed-all a.levels a.tree.now _ (a.count - l.counter) l.p (parts_from l.slot) l.invariant (omega arith)
