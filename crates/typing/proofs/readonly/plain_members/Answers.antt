-- `readonly::plain_members` meets its contract.
use Rattle.std.proofs.Common.{◌≡◌, ◌<◌, true, false, ◌&&◌, sym, ap, ◌∙◌, arith}
use Rattle.definition.specs.Record.{mark_of}
use Rattle.definition.specs.Typing.{plain_members}
use Rattle.records.specs.declared.tree.Record.{Record}
use Rattle.records.specs.declared.tree.Records.{Records}
use Rattle.records.specs.Views.{rec_of, recs_of, FirstOf, RestOf}
use Rattle.records.proofs.Records.{recs_none, recs_step}
use Rattle.records.proofs.Fronts.{recs_front}
use Rattle.typing.specs.Parts.{is_plain}
use Rattle.typing.proofs.readonly.plain_members.Goals as goal

plain-none : (k : Records) → k.count ≡ 0 → plain_members (recs_of k) ≡ true
unfolding plain_members
plain-none k e = ap plain_members (recs_none k e)

plain-step : {k l : Records} {x : Record} → 0 < k.count → FirstOf k x → RestOf k l → plain_members (recs_of k) ≡ (is_plain (mark_of (rec_of x)) && plain_members (recs_of l))
unfolding plain_members
plain-step h x l = ap plain_members (recs_step h x l)

other-first : {k : Records} {x : Record} → 0 < k.count → FirstOf k x → is_plain (mark_of (rec_of x)) ≡ false → plain_members (recs_of k) ≡ false
unfolding plain_members
other-first h x e = ap plain_members (recs_front h x).1 ∙ rw e

pub loop-members-init : goal.loop-members-init
loop-members-init c = ap plain_members c.children-members.ensures.are

pub returns-then-not-is_plain : goal.returns-then-not-is_plain
returns-then-not-is_plain c = sym (other-first c.loop-members-test.true c.first.ensures (sym c.is_plain.ensures ∙ c.if-not-is_plain.true)) ∙ c.loop-members.invariant

pub loop-members-preserved : goal.loop-members-preserved
loop-members-preserved c = sym (plain-step c.loop-members-test.true c.first.ensures c.rest-members.ensures ∙ rw (sym c.is_plain.ensures ∙ c.if-not-is_plain.false)) ∙ c.loop-members.invariant

pub returns : goal.returns
returns c = sym (plain-none _ (omega (arith, c.loop-members-test.false))) ∙ c.loop-members.invariant
