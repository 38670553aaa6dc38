-- `types::minus_lit_to_ts_type` meets its contract.
use Rattle.std.proofs.Common.{refl, ap, ◌∙◌}
use Rattle.definition.specs.Record.{mark_of}
use Rattle.definition.specs.Typing.{minus_by}
use Rattle.records.specs.declared.tree.Record.{Record}
use Rattle.records.specs.Views.{rec_of}
use Rattle.swc_helpers.specs.Found.{is_const}
use Rattle.swc_helpers.proofs.Maybe.{makes-type, makes_none, makes_as}
use Rattle.swc_helpers.proofs.LitKinds.{lit_makes, number_marked, number_value, big_marked, big_is, no_minus}
use Rattle.swc_helpers.proofs.types.minus_lit_to_ts_type.Goals as goal

pub negated_number-requires : goal.negated_number-requires
negated_number-requires c = (number_marked c.args.arg c.of.ensures c.in-Num.is, number_value c.args.arg c.of.ensures c.in-Num.is)

pub negated_bigint-requires : goal.negated_bigint-requires
negated_bigint-requires c = ap (λ (r : Record). mark_of (rec_of r)) (big_is c.args.arg c.of.ensures c.in-BigInt.is) ∙ big_marked c.args.arg c.of.ensures c.in-BigInt.is

pub returns-in-Const : goal.returns-in-Const
unfolding minus_by
returns-in-Const c = lit_makes minus_by c.args.arg c.of.ensures c.in-Num.is c.in-Const.is refl (makes-type c.negated_number.ensures)

pub returns-in-Mutable : goal.returns-in-Mutable
unfolding minus_by
returns-in-Mutable c = lit_makes minus_by c.args.arg c.of.ensures c.in-Num.is c.in-Mutable.is refl c.some_keyword.ensures

pub returns-in-Const-kind : goal.returns-in-Const-kind
unfolding minus_by
returns-in-Const-kind c = lit_makes minus_by c.args.arg c.of.ensures c.in-BigInt.is c.in-Const-kind.is refl (makes-type (rw (← (big_is c.args.arg c.of.ensures c.in-BigInt.is)) c.negated_bigint.ensures))

pub returns-in-Mutable-kind : goal.returns-in-Mutable-kind
unfolding minus_by
returns-in-Mutable-kind c = lit_makes minus_by c.args.arg c.of.ensures c.in-BigInt.is c.in-Mutable-kind.is refl c.some_keyword-in-Mutable-kind.ensures

pub returns-in_default : goal.returns-in_default
returns-in_default c = makes_as (makes_none _) (no_minus c.args.arg c.of.ensures c.in_default.not-Num c.in_default.not-BigInt (is_const c.args.kind))
