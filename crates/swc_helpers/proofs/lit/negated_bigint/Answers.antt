-- `lit::negated_bigint` meets its contract.
use Rattle.std.proofs.Common.{◌≡◌, ◌≤◌, ◌-◌, List, ℕ, ◌∷◌, ◌++◌, length, get_or, drop, sym, ap, ◌∙◌, arith, length-drop, take_all}
use Rattle.definition.specs.Record.{text_of}
use Rattle.definition.specs.Typing.{turned_integer}
use Rattle.records.specs.Fields.{span}
use Rattle.records.specs.Views.{rec_of}
use Rattle.records.proofs.Writers.{writes_three, writes_as}
use Rattle.swc_helpers.specs.Literal.{turned_sign}
use Rattle.swc_helpers.specs.Lit.{lit_front}
use Rattle.swc_helpers.proofs.Turned.{integer_text, integer-length, turned-integer, respelled_is}
use Rattle.swc_helpers.proofs.lit.negated_bigint.Goals as goal

pub bounds-text-0 : goal.bounds-text-0
bounds-text-0 c = omega (arith, ap length c.text-text.ensures.text, integer-length _ (integer_text c.args.bigint c.requires))

pub bounds-text-1 : goal.bounds-text-1
bounds-text-1 c = omega (arith, ap length c.text-text.ensures.text, integer-length _ (integer_text c.args.bigint c.requires))

pub slice_bounds-put-count : goal.slice_bounds-put-count
slice_bounds-put-count c = omega (arith, ap length c.text-text.ensures.text, integer-length _ (integer_text c.args.bigint c.requires))

pub slice_bounds-put-start : goal.slice_bounds-put-start
slice_bounds-put-start c = omega (arith, ap length c.text-text.ensures.text, integer-length _ (integer_text c.args.bigint c.requires))

pub returns : goal.returns
returns c =
    let l : 2 ≤ length c.text-text.result.now = omega (arith, ap length c.text-text.ensures.text, integer-length _ (integer_text c.args.bigint c.requires)) in
    let r = take_all (length c.text-text.result.now - 1) (drop 1 c.text-text.result.now) (simp length-drop (omega arith)) in
    let t : c.turned_sign.result ∷ drop 1 c.text-text.result.now ≡ turned_integer (text_of (rec_of c.args.bigint)) =
    ap (λ (x : ℕ). x ∷ drop 1 c.text-text.result.now) c.turned_sign.ensures
    ∙ (ap (λ (x : List ℕ). turned_sign (get_or x 0 0) (get_or x 1 0) ∷ drop 1 x) c.text-text.ensures.text ∙ turned-integer (text_of (rec_of c.args.bigint)) (integer_text c.args.bigint c.requires)) in
    writes_as
    (writes_three (omega arith) c.put_respelled.ensures c.put_byte.ensures (writes_as c.put.ensures r))
    (ap (λ (x : List ℕ). lit_front (span c.args.range) (rec_of c.args.bigint) ++ x) t
    ∙ respelled_is (span c.args.range) (rec_of c.args.bigint) (turned_integer (text_of (rec_of c.args.bigint)))
    (ap length (sym t) ∙ omega (arith, length-drop 1 c.text-text.result.now, ap length c.text-text.ensures.text)))
