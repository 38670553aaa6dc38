-- `leaf::leaf_type` meets its contract.
use Rattle.std.proofs.Common.{arith}
use Rattle.records.proofs.Records.{from_children, child_is}
use Rattle.records.proofs.SameMarks.{marked}
use Rattle.swc_helpers.proofs.Maybe.{makes-type, makes_none, makes_as}
use Rattle.typing.proofs.LeafCases.{negates, leaf-literal, leaf-template, leaf-name, leaf-negated, leaf-constructed, leaf-other}
use Rattle.typing.proofs.leaf.leaf_type.Goals as goal

pub first-requires : goal.first-requires
first-requires c = omega (arith, c.children.ensures.many, negates c.args.expr (marked _ c.mark.ensures c.in-Mi.is))

pub returns-in-Ss : goal.returns-in-Ss
returns-in-Ss c = makes_as c.maybe_lit_to_ts_type.ensures (leaf-literal c.args.mode c.args.expr c.mark.ensures c.in-Ss.is c.from-kind.ensures)

pub returns-in-Te : goal.returns-in-Te
returns-in-Te c = makes_as (makes-type c.tpl_to_ts_type.ensures) (leaf-template c.args.mode c.args.expr c.mark.ensures c.in-Te.is c.from-kind.ensures)

pub returns-in-Id : goal.returns-in-Id
returns-in-Id c = makes_as c.ident_to_ts_type.ensures (leaf-name c.args.mode c.args.expr c.mark.ensures c.in-Id.is)

pub returns-in-Mi : goal.returns-in-Mi
returns-in-Mi c =
    let x = child_is (from_children c.children.ensures) (omega (arith, c.children.ensures.many, negates c.args.expr (marked _ c.mark.ensures c.in-Mi.is))) c.first.ensures in
    makes_as c.minus_lit_to_ts_type.ensures (leaf-negated c.args.mode c.args.expr c.mark.ensures c.in-Mi.is x c.from-kind.ensures)

pub returns-in-Ne : goal.returns-in-Ne
returns-in-Ne c = makes_as c.new_type.ensures (leaf-constructed c.args.mode c.args.expr c.mark.ensures c.in-Ne.is)

pub returns-in_default : goal.returns-in_default
returns-in_default c =
    let d = c.in_default in
    makes_as (makes_none _)
    (leaf-other c.args.mode c.args.expr c.mark.ensures d.not-Ss d.not-Bl d.not-Nl d.not-Nu d.not-Bi d.not-Re d.not-Jt d.not-Te d.not-Id d.not-Mi d.not-Ne)
