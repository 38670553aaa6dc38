-- An Id whose name is written behind its front.
use Rattle.std.proofs.Common.{◌≡◌, ◌+◌, ◌<◌, ◌^◌, ℕ, List, ◌++◌, length, ◌∙◌}
use Rattle.definition.specs.Tree.{le4, encode}
use Rattle.definition.specs.Grammar.{mark}
use Rattle.definition.specs.Record.{ident}
use Rattle.records.specs.declared.Range.{Range}
use Rattle.records.specs.declared.writer.Writer.{Writer}
use Rattle.records.specs.Fields.{field_bytes, span, made_fields}
use Rattle.records.specs.Writers.{Writes}
use Rattle.records.proofs.Puts.{ident-put}

pub writes_ident : (at : Range) (name : List ℕ) {a b c : Writer} {n : ℕ} → n ≡ length name → length a.out.now < 2 ^ 64
    → Writes a b (field_bytes (made_fields (mark "Id") 0 at (4 + n) 0) ++ le4 0) → Writes b c name → Writes a c (encode (ident (span at) name))
writes_ident at name e h v w = record { buffer = w.buffer ∙ v.buffer; put = ident-put at name e h v.put w.put }
