-- `lit::bits_of` meets its contract.
use Rattle.std.proofs.Common.{rules, ◌≡◌, ◌∙◌, ap, arith, length, take_all}
use Rattle.std.specs.Int.{w64, from_le_bytes}
use Rattle.std.proofs.lemmas.Nat.{le_bytes_8}
use Rattle.swc_helpers.proofs.Turned.{number-long}
use Rattle.swc_helpers.proofs.lit.bits_of.Goals as goal

pub unreachable-requires : goal.unreachable-requires
unreachable-requires c = omega (arith, c.in_default.ensures.cases, ap length c.text-text.ensures.text, number-long c.args.num c.requires)

pub returns : goal.returns
returns c =
    let l : length c.text-text.result.now ≡ 8 = ap length c.text-text.ensures.text ∙ number-long c.args.num c.requires in
    let e = c.in-Some.ensures.cases.same ∙ take_all 8 c.text-text.result.now (omega arith) in
    le_bytes_8 c.text-text.result.now _ l (search rules) (c.from_le_bytes.ensures ∙ ap (from_le_bytes w64) e) ∙ c.text-text.ensures.text
