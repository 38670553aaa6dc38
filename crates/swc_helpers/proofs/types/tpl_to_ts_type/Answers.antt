-- `types::tpl_to_ts_type` meets its contract.
use Rattle.std.proofs.Common.{List, ℕ, refl, ap, ◌∙◌, arith}
use Rattle.definition.specs.Tree.{rec, nil, encode}
use Rattle.definition.specs.Record.{text_of, dummy_sp, fresh}
use Rattle.definition.specs.Helpers.{ts_lit_type}
use Rattle.records.proofs.Puts.{encode_one}
use Rattle.records.proofs.Writers.{writes_then, writes_as}
use Rattle.swc_helpers.specs.Found.{is_const}
use Rattle.swc_helpers.proofs.Freeze.{a_string, a_literal}
use Rattle.swc_helpers.proofs.types.tpl_to_ts_type.Goals as goal

pub returns-in_default : goal.returns-in_default
returns-in_default c = writes_as c.ts_keyword_type.ensures (ap encode (a_string _ (is_const c.args.kind) c.in_default.ensures))

pub returns : goal.returns
returns c =
    let k = c.in-Some.ensures in
    writes_as
    (writes_then (omega arith) c.put_made_front.ensures c.put_made_leaf.ensures)
    (encode_one _ _ refl
    ∙ ap (λ (t : List ℕ). encode (ts_lit_type dummy_sp (rec (fresh "Ss" 0 t) nil))) (c.text.ensures.text ∙ ap text_of k.1.is)
    ∙ ap encode (a_literal _ (is_const c.args.kind) k.0))
