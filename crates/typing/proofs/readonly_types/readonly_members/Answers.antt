-- `readonly_types::readonly_members` meets its contract: each turn of the loop writes one member.
use Rattle.typing.proofs.Frozens.{flagging_start, flagging_turn, flagging_done, members-flagged}
use Rattle.typing.proofs.readonly_types.readonly_members.Goals as goal

pub loop-member-init : goal.loop-member-init
loop-member-init c = flagging_start _ c.children-member-items.ensures c.into_iter-member-iterator.ensures.into_iter_gives

pub loop-member-preserved : goal.loop-member-preserved
loop-member-preserved c = flagging_turn c.loop-member.invariant c.in-Some.ensures.steps c.readonly_member.ensures

pub returns : goal.returns
returns c = members-flagged c.args.type_lit c.requires c.head.ensures c.put_head.ensures (flagging_done c.loop-member.invariant c.in-None.ensures.steps.0)
