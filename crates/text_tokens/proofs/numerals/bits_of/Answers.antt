-- `text_tokens::numerals::bits_of` meets its contract.
use Rattle.std.proofs.Common.{lit<}
use native.Mathlib.Omega.{arith}
use Rattle.definition.specs.Numerals.{bits_of}
use Rattle.text_tokens.proofs.Wholes.{padded}
use Rattle.text_tokens.proofs.numerals.bits_of.Goals as goal

pub returns : goal.returns
unfolding bits_of
returns c =
    let at = padded c.args.text.now c.min-n.ensures c.copy_from_slice.ensures.after in
    let e = c.from_le_bytes.ensures in
    omega (arith, e, at 0 (lit< tt), at 1 (lit< tt), at 2 (lit< tt), at 3 (lit< tt), at 4 (lit< tt), at 5 (lit< tt), at 6 (lit< tt), at 7 (lit< tt))
