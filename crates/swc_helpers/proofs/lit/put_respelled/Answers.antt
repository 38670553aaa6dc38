-- `lit::put_respelled` meets its contract.
use Rattle.std.proofs.Common.{arith, ap, ◌∙◌}
use Rattle.records.specs.declared.Head.{Head}
use Rattle.records.specs.Fields.{field_bytes}
use Rattle.records.proofs.Stores.{head_bytes_lem}
use Rattle.records.proofs.Writers.{writes_then, writes_as}
use Rattle.swc_helpers.proofs.lit.put_respelled.Goals as goal

pub returns : goal.returns
returns c = writes_then (omega arith) c.put_made_front.ensures
    (writes_as c.put_head.ensures (ap (λ (h : Head). field_bytes (record h { count = 0 })) c.head.ensures ∙ head_bytes_lem _ 0))
