-- `keys::put_keyed` meets its contract.
use Rattle.std.proofs.Common.{refl}
use Rattle.output.proofs.Steps.{puts_then}
use Rattle.output.proofs.Kept.{puts}
use Rattle.typing.proofs.KeyFronts.{signed}
use Rattle.typing.proofs.keys.put_keyed.Goals as goal

pub returns : goal.returns
returns c = puts_then (puts (signed c.args.readonly c.signature_flags-flags.ensures c.mark.ensures c.put_made_front.ensures) refl refl refl refl) c.put_key.ensures
