use mathlib.Core.Path.{refl, ◌∙◌}
use native.Mathlib.Omega.{arith}
use Rattle.records.proofs.Puts.{ident-put}
use Rattle.records.proofs.writer.Writer.put_ident.Goals as goal

pub returns : goal.returns
returns c = record {
  buffer = c.put.ensures.buffer ∙ c.put_ident_front.ensures.buffer;
  put = ident-put c.args.range _ refl (omega arith) c.put_ident_front.ensures.put c.put.ensures.put;
}
