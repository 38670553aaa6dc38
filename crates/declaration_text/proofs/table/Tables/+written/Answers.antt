-- The cycle of `write`: each member meets its contract, and the levels that are left fall.
use mathlib.Core.Path.{refl, ap, ◌∙◌, sym}
use mathlib.Core.List.{List, [], ◌∷◌}
use Prim.Native.Nat.{ℕ}
use native.Mathlib.Omega.{arith}
use Rattle.definition.specs.Text.{token, string_token, integer_token, what_tokens}
use Rattle.text_tokens.proofs.Writes.{writes_as, writes-same, writes_then}
use Rattle.declaration_text.specs.Table.{each_by}
use Rattle.declaration_text.proofs.Written.{writes_nothing, none-behind, some-behind, braced-some, braced-none, no_child_lem, child-tokens, number-alone, number-spelt, piece-not, piece-says, behind-is, template_of_lem, op-written, no_op, no_element, element-comma, element-last, op_no_member, no_member, member-closed, member-ends, member_follows, telling_start, telling_turn, telling_done, template-is, turning_start, turning_turn, turning_done, reading-start, reading-turn, reading-end, reading-done, plain-token, name-token}
use Rattle.declaration_text.proofs.table.Tables.+written.Goals as goal
use Rattle.declaration_text.proofs.table.Tables.+written.Goals.{sibling-then-is_op-3-via-then-is_op-3, sibling-then-is_op-3-via-else-is_op-3+then-has_mark}

-- ---- the children behind the slots, and one of them

pub behind-returns-then-count-slots : goal.behind-returns-then-count-slots
behind-returns-then-count-slots t c = writes_nothing _ _ (omega (arith, c.well_formed)) (none-behind c.args.r (each_by c.args.each) c.args.slots (omega (arith, c.count.ensures, c.if-count-slots.true)))

pub behind-returns : goal.behind-returns
behind-returns t c = writes_as c.siblings.ensures (some-behind c.args.r (each_by c.args.each) c.children_from.ensures (c.has_mark-under.ensures))

pub child-returns-in_default : goal.child-returns-in_default
child-returns-in_default t c = writes_nothing _ _ (omega (arith, c.well_formed)) (no_child_lem c.args.r c.in_default.ensures)

pub child-returns : goal.child-returns
child-returns t c = writes_as c.write.ensures (child-tokens c.args.r c.in-Some.ensures (c.has_mark.ensures))

pub number-returns-then-count-eq0 : goal.number-returns-then-count-eq0
number-returns-then-count-eq0 t c = writes_as c.put_number.ensures (number-alone c.args.r (omega (arith, c.count.ensures, c.if-count-eq0.true)) c.text.ensures.text)

pub number-returns : goal.number-returns
number-returns t c = writes_as c.child.ensures (number-spelt c.args.r (omega (arith, c.count.ensures, c.if-count-eq0.false)))

-- ---- a template

pub braces-returns-in_default : goal.braces-returns-in_default
braces-returns-in_default t c = rw c.in_default.is (writes_nothing _ _ (omega (arith, c.well_formed)) refl)

pub braces-returns-then-next : goal.braces-returns-then-next
braces-returns-then-next t c = rw c.in-Some.is (braced-some (omega (arith, c.well_formed)) c.put_own.ensures c.cleared-opened.ensures c.write-next.ensures c.if-next.true c.put_token.ensures)

pub braces-returns : goal.braces-returns
braces-returns t c = rw c.in-Some.is (braced-none (omega (arith, c.well_formed)) c.put_own.ensures c.cleared-opened.ensures c.write-next.ensures c.if-next.false c.put_own-2.ensures)

pub template-loop-init : goal.template-loop-init
template-loop-init t c = turning_start _ c.split_quasis.ensures c.expressions-expressions.ensures (omega (arith, c.max-turns.ensures), omega (arith, c.max-turns.ensures)) _ _ (omega (arith, c.put_token-next.type_inv))

pub template-loop-preserved : goal.template-loop-preserved
template-loop-preserved t c = turning_turn c.loop.invariant (omega (arith, writes-same c.put_token-next.ensures, c.well_formed)) (omega arith) _ _ c.next.ensures.steps c.next-in-loop.ensures.steps c.put_quasi-next.ensures c.braces-next.ensures

pub template-returns : goal.template-returns
template-returns t c = writes_as (writes_then (omega (arith, c.well_formed)) c.put_token-next.ensures (turning_done c.loop.invariant (omega (arith, writes-same c.put_token-next.ensures, c.well_formed)) (omega arith) c.put_own.ensures)) (template-is _)

-- ---- one of the children behind the slots

pub sibling-returns-then-is_op : goal.sibling-returns-then-is_op
sibling-returns-then-is_op t c = rw c.in-Ops.is (writes_as c.write.ensures (op-written _ _ _ (sym c.has_mark-is_op.ensures ∙ c.if-is_op.true)))

pub sibling-returns-else-is_op : goal.sibling-returns-else-is_op
sibling-returns-else-is_op t c = rw c.in-Ops.is (writes_nothing _ _ (omega (arith, c.well_formed)) (no_op _ _ _ (sym c.has_mark-is_op.ensures ∙ c.if-is_op.false)))

pub sibling-returns-then-is_op-2 : goal.sibling-returns-then-is_op-2
sibling-returns-then-is_op-2 t c = rw c.in-Elements.is (writes_nothing _ _ (omega (arith, c.well_formed)) (no_element _ _ _ (sym c.has_mark-is_op.ensures ∙ c.if-is_op-2.true)))

pub sibling-returns-then-comma_follows : goal.sibling-returns-then-comma_follows
sibling-returns-then-comma_follows t c = rw c.in-Elements.is (writes_as (writes_then (omega (arith, c.well_formed)) c.write-next.ensures c.put_token.ensures) (element-comma _ _ _ (sym c.has_mark-is_op.ensures ∙ c.if-is_op-2.false) (c.comma_follows.ensures _) c.if-comma_follows.true))

pub sibling-returns-else-comma_follows : goal.sibling-returns-else-comma_follows
sibling-returns-else-comma_follows t c = rw c.in-Elements.is (writes_as c.write-next.ensures (element-last _ _ _ (sym c.has_mark-is_op.ensures ∙ c.if-is_op-2.false) (c.comma_follows.ensures _) c.if-comma_follows.false))

pub sibling-returns-then-is_op-3 : goal.sibling-returns-then-is_op-3
sibling-returns-then-is_op-3 t c =
    rw c.in-Members.is (writes_nothing _ _ (omega (arith, c.well_formed)) (elim c.then-is_op-3.branch [
      | sibling-then-is_op-3-via-then-is_op-3 w ↦ op_no_member _ _ _ (sym c.has_mark-is_op.ensures ∙ w.if-is_op-3.true)
      | sibling-then-is_op-3-via-else-is_op-3+then-has_mark w ↦ no_member _ _ _ (sym c.has_mark-is_op.ensures ∙ w.if-is_op-3.false) (sym w.has_mark.ensures ∙ w.if-has_mark.true)
    ]))

pub sibling-returns-then-ends_in_semicolon : goal.sibling-returns-then-ends_in_semicolon
sibling-returns-then-ends_in_semicolon t c = rw c.in-Members.is (writes_as (member-ends _ c.cleared.ensures c.write-next-in-Members.ensures c.ends_in_semicolon.ensures c.if-ends_in_semicolon.true) (member-closed _ _ _ (sym c.has_mark-is_op.ensures ∙ c.if-is_op-3.false) (sym c.has_mark.ensures ∙ c.if-has_mark.false)))

pub sibling-returns-else-ends_in_semicolon : goal.sibling-returns-else-ends_in_semicolon
sibling-returns-else-ends_in_semicolon t c = rw c.in-Members.is (writes_as (member_follows _ c.cleared.ensures c.write-next-in-Members.ensures c.ends_in_semicolon.ensures (omega (arith, c.well_formed)) c.if-ends_in_semicolon.false c.put_token-in-Members.ensures) (member-closed _ _ _ (sym c.has_mark-is_op.ensures ∙ c.if-is_op-3.false) (sym c.has_mark.ensures ∙ c.if-has_mark.false)))

pub siblings-loop-next-init : goal.siblings-loop-next-init
siblings-loop-next-init t c = telling_start _ _ _ _ _ (omega (arith, c.well_formed))

pub siblings-loop-next-preserved : goal.siblings-loop-next-preserved
siblings-loop-next-preserved t c = telling_turn c.loop-next.invariant (omega (arith, c.well_formed)) c.in-Some.ensures.steps c.sibling-next.ensures

pub siblings-returns : goal.siblings-returns
siblings-returns t c = telling_done c.loop-next.invariant c.in_default.ensures.steps

-- ---- a piece

pub put_piece-returns-then-not-holds : goal.put_piece-returns-then-not-holds
put_piece-returns-then-not-holds t c = writes_nothing _ _ (omega (arith, c.well_formed)) (piece-not _ _ _ _ _ _ c.holds.ensures c.if-not-holds.true)

pub put_piece-returns-in-Word : goal.put_piece-returns-in-Word
unfolding what_tokens
put_piece-returns-in-Word t c = writes_as c.put_token.ensures (ap (λ (x : List ℕ). token x ∷ []) c.word.ensures ∙ (piece-says _ _ _ _ _ _ c.holds.ensures c.if-not-holds.false c.in-Word.is))

pub put_piece-returns-in-Child : goal.put_piece-returns-in-Child
unfolding what_tokens
put_piece-returns-in-Child t c = writes_as c.child.ensures (piece-says _ _ _ _ _ _ c.holds.ensures c.if-not-holds.false c.in-Child.is)

pub put_piece-returns-in-Behind : goal.put_piece-returns-in-Behind
put_piece-returns-in-Behind t c = writes_as c.behind.ensures (behind-is _ _ _ _ _ ∙ (piece-says _ _ _ _ _ _ c.holds.ensures c.if-not-holds.false c.in-Behind.is))

pub put_piece-returns-in-Template : goal.put_piece-returns-in-Template
unfolding what_tokens
put_piece-returns-in-Template t c = writes_as c.template.ensures (template_of_lem c.children.ensures (c.has_mark.ensures) ∙ (piece-says _ _ _ _ _ _ c.holds.ensures c.if-not-holds.false c.in-Template.is))

pub put_piece-returns-in-Text : goal.put_piece-returns-in-Text
unfolding what_tokens
put_piece-returns-in-Text t c = writes_as c.put_token-in-Text.ensures (ap (λ (x : List ℕ). token x ∷ []) c.text.ensures.text ∙ (piece-says _ _ _ _ _ _ c.holds.ensures c.if-not-holds.false c.in-Text.is))

pub put_piece-returns-in-Symbol : goal.put_piece-returns-in-Symbol
unfolding what_tokens
put_piece-returns-in-Symbol t c = writes_as c.put_symbol.ensures (piece-says _ _ _ _ _ _ c.holds.ensures c.if-not-holds.false c.in-Symbol.is)

pub put_piece-returns-in-String : goal.put_piece-returns-in-String
unfolding what_tokens
put_piece-returns-in-String t c = writes_as c.put_string.ensures (ap (λ (x : List ℕ). token (string_token x) ∷ []) c.text-in-String.ensures.text ∙ (piece-says _ _ _ _ _ _ c.holds.ensures c.if-not-holds.false c.in-String.is))

pub put_piece-returns-in-Number : goal.put_piece-returns-in-Number
unfolding what_tokens
put_piece-returns-in-Number t c = writes_as c.number.ensures (piece-says _ _ _ _ _ _ c.holds.ensures c.if-not-holds.false c.in-Number.is)

pub put_piece-returns-in-Integer : goal.put_piece-returns-in-Integer
unfolding what_tokens
put_piece-returns-in-Integer t c = writes_as c.put_integer.ensures (ap (λ (x : List ℕ). token (integer_token x) ∷ []) c.text-in-Integer.ensures.text ∙ (piece-says _ _ _ _ _ _ c.holds.ensures c.if-not-holds.false c.in-Integer.is))

-- ---- a record

pub write-returns-then-is_plain : goal.write-returns-then-is_plain
write-returns-then-is_plain t c = writes_as c.put_token.ensures (plain-token _ _ (c.is_plain.ensures c.if-is_plain.true) c.text.ensures.text)

pub write-returns-then-is_name : goal.write-returns-then-is_name
write-returns-then-is_name t c = writes_as c.put_symbol.ensures (name-token _ _ (c.is_name.ensures c.if-is_name.true))

pub write-loop-i-init : goal.write-loop-i-init
write-loop-i-init t c = reading-start _ _ _ c.mark-row.ensures refl _ _ (omega (arith, c.well_formed))

pub write-returns-in_default : goal.write-returns-in_default
write-returns-in_default t c = reading-end c.loop-i.invariant c.in_default.ensures

pub write-loop-i-preserved : goal.write-loop-i-preserved
write-loop-i-preserved t c = reading-turn c.loop-i.invariant (omega (arith, c.well_formed)) (omega arith) _ c.in-Some.ensures (rw (← c.slots-slots.ensures) c.put_piece-next.ensures)

pub write-returns : goal.write-returns
write-returns t c = reading-done c.loop-i.invariant c.loop-i-test.false
