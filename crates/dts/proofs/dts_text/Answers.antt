-- `dts_text` meets its contract: both numbers and the buffer are those of the call.
use Rattle.std.proofs.Common.{rules}
use Rattle.dts.proofs.Codes.{text-answered, coded-text}
use Rattle.dts.proofs.dts_text.Goals as goal

pub returns : goal.returns
returns c =
    let e = text-answered (λ n d k. search rules) c.text.result c.map-made.result c.map-made.ensures.cases in
    let z = coded-text _ c.text.ensures _ e c.tell.ensures in
    record { number = z.0; pair = z.1.0; output = z.1.1 }
