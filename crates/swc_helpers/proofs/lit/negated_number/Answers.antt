-- `lit::negated_number` meets its contract.
use Rattle.std.proofs.Common.{List, ℕ, length, sym, ap, ◌∙◌, arith}
use lib.Ieee.{binary64, of_bits}
use Rattle.definition.specs.Record.{text_of}
use Rattle.definition.specs.Typing.{turned}
use Rattle.records.specs.Fields.{span}
use Rattle.records.specs.Views.{rec_of}
use Rattle.records.proofs.Writers.{writes_then, writes_as}
use Rattle.swc_helpers.specs.Literal.{u64_at, le8}
use Rattle.swc_helpers.proofs.Turned.{number-long, number-read, turned-bits, respelled_is}
use Rattle.swc_helpers.proofs.lit.negated_number.Goals as goal

pub negated-requires : goal.negated-requires
negated-requires c = c.requires.1 ∙ ap (of_bits binary64) (sym (ap (λ (t : List ℕ). u64_at t 0) c.bits_of.ensures) ∙ number-read c.bits_of.result c.bits_of.type_inv)

pub returns : goal.returns
returns c =
    let t = c.to_le_bytes.ensures ∙ (ap le8 c.negated.ensures ∙ (turned-bits c.bits_of.result ∙ ap turned c.bits_of.ensures)) in
    writes_as
    (writes_then (omega arith) c.put_respelled.ensures (writes_as c.put.ensures t))
    (respelled_is (span c.args.range) (rec_of c.args.num) (turned (text_of (rec_of c.args.num))) (ap length (sym t ∙ c.to_le_bytes.ensures) ∙ sym (number-long c.args.num c.requires.0)))
