-- `accepted` meets its contract: what a run alone wrote, the dry run's answer, or what the run behind it wrote.
use mathlib.Core.Path.{sym, ◌∙◌}
use native.Mathlib.Omega.{arith}
use Rattle.definition.proofs.Anywhere.{is_accepted}
use Rattle.records.specs.Views.{rec_of}
use Rattle.declaration_text.proofs.Calls.{number-outside, text_too_long, text-done, place_seen, accepted-root, accepted-short, certain_done}
use Rattle.declaration_text.proofs.accepted.Goals as goal

pub invariant_of-root : goal.invariant_of-root
invariant_of-root c = record { accepted = is_accepted (accepted-root c.requires) }

pub is_certain-requires : goal.is_certain-requires
is_certain-requires c = accepted-short c.requires

pub returns-then-is_certain : goal.returns-then-is_certain
unfolding rec_of
returns-then-is_certain c = certain_done c.requires c.type_inv.tree _ (omega (arith, c.well_formed)) (c.is_certain.ensures c.if-is_certain.true) c.put_module-all.ensures

pub returns-in-Some : goal.returns-in-Some
unfolding rec_of
returns-in-Some c = number-outside c.put_module-dry.ensures _ (place_seen c.requires c.type_inv.tree (sym c.in-Some.is ∙ c.put_module-dry.ensures.place))

pub returns-then-out-dry : goal.returns-then-out-dry
unfolding rec_of
returns-then-out-dry c = text_too_long c.put_module-dry.ensures _ c.in_default.is (omega arith)

pub returns : goal.returns
unfolding rec_of
returns c = text-done c.put_module-dry.ensures _ c.in_default.is (omega arith) (omega (arith, c.well_formed)) c.put_module.ensures
