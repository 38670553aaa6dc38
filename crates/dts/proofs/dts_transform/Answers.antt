-- `dts_transform` meets its contract: both numbers and both buffers are those of the call.
use Rattle.dts.proofs.Codes.{coded}
use Rattle.dts.proofs.dts_transform.Goals as goal

pub returns : goal.returns
returns c =
    let z = coded _ c.transform-made.ensures c.tell.ensures in
    record { number = z.0; pair = z.1.0; output = z.1.1.0; diagnostics = z.1.1.1 }
