-- `{}` of `Byte` writes two digits.
use mathlib.Core.Bool.{false}
use Rattle.std.proofs.Common.{rules}
use Rattle.std.proofs.Output.{has_written_of_eq}
use Rattle.std.proofs.lemmas.Fmt.{hex_byte}
use Rattle.console.proofs.shown.ByteDisplay.fmt.Goals as goal

pub returns-clause-writes : goal.returns-clause-writes
returns-clause-writes g c p o = has_written_of_eq _ _ _ _ _ (hex_byte false c.args.self.now.0 (search rules)) (search rules)
