-- `keys::signature_flags` meets its contract.
use Rattle.typing.proofs.KeyFronts.{plain-signature, computed-signature}
use Rattle.typing.proofs.keys.signature_flags.Goals as goal

pub returns-in-Ki : goal.returns-in-Ki
returns-in-Ki c = plain-signature c.args.readonly c.in-Ki.is

pub returns-in_default : goal.returns-in_default
returns-in_default c = computed-signature c.args.readonly c.args.key c.in_default.not-Ki c.in_default.not-Ss
