-- `lit::number` meets its contract.
use Rattle.std.proofs.Common.{sym, ap, ◌∙◌, List, ℕ}
use lib.Ieee.{binary64, of_bits}
use Rattle.swc_helpers.specs.Literal.{u64_at}
use Rattle.swc_helpers.proofs.Turned.{number-read}
use Rattle.swc_helpers.proofs.lit.number.Goals as goal

pub returns : goal.returns
returns c = c.number_of.ensures ∙ ap (of_bits binary64) (sym (number-read c.bits_of.result c.bits_of.type_inv) ∙ ap (λ (t : List ℕ). u64_at t 0) c.bits_of.ensures)
