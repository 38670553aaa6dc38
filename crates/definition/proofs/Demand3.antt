-- Demand 3, about the exported call: a second call, on exactly the bytes that the first wrote, writes the same bytes.
use mathlib.Core.Path.{◌≡◌, ap, ◌∙◌}
use mathlib.Core.List.{List}
use Prim.Native.Nat.{ℕ}
use lib.ListN.{length}
use Rattle.definition.specs.Tree.{Rec, encode, tree_at, Bytes, Fits}
use Rattle.definition.specs.Check.{fine, deepest, check_tree}
use Rattle.definition.specs.Record.{kids_of}
use Rattle.definition.specs.Prescan.{prescan_module_ids}
use Rattle.definition.specs.Typing.{expr_to_ts_type}
use Rattle.definition.specs.Transform.{transform, done, call}
use Rattle.definition.specs.Demand3.{ExportsIds, SpacesExportIds, output, Supposed, written_by, Unchanged}
use Rattle.definition.proofs.Calls.{wrote, succeeds}
use Rattle.definition.proofs.Reread.{reread}
use Rattle.definition.proofs.There.{typed}
use Rattle.definition.proofs.Twice.{twice}
use Rattle.definition.proofs.Widths.{output-fits}

-- the transform of what the transform made, as trees: the prescan of the second pass may differ
transform-twice : (list : List ℕ) (ctx : ℕ) (r : Rec) → SpacesExportIds r → ExportsIds (transform list ctx r).0 →
    (transform list ctx (transform list ctx r).0).0 ≡ (transform list ctx r).0
unfolding transform
transform-twice list ctx r sp xs =
    twice (expr_to_ts_type (prescan_module_ids (kids_of r)) ctx) (expr_to_ts_type (prescan_module_ids (kids_of (transform list ctx r).0)) ctx)
    (typed (prescan_module_ids (kids_of r)) ctx) list ctx r sp xs

-- the same on bytes: those of what is made of the tree t are accepted
module _ (t : Rec) (list : List ℕ) (ctx e : ℕ) (fits : Fits (transform list ctx t).0) (accepted : check_tree (encode (transform list ctx t).0) list ≡ fine e) where
  abbrev reading : Rec
  reading = tree_at deepest (encode (transform list ctx t).0) 0

  -- they are read back as what they were made from
  read_back : reading ≡ (transform list ctx t).0
  read_back = reread (transform list ctx t).0 list e fits accepted

  again : SpacesExportIds t → ExportsIds reading → (transform list ctx reading).0 ≡ (transform list ctx t).0
  again sp xs = ap (λ (r : Rec). (transform list ctx r).0) read_back ∙ transform-twice list ctx t sp (rw read_back at xs)

-- ---- demand 3

-- "The claim is about the exported call on whole modules": on a tree that is a byte string, as it always is in the code, whatever the four buffers
-- held before
pub demand3 : (tree list : List ℕ) (ctx : ℕ) (out diags out' diags' : List ℕ) → Bytes tree → Supposed tree list ctx out diags out' diags' →
    Unchanged tree list ctx out diags out' diags'
demand3 tree list ctx out diags out' diags' bytes h =
    let t : Rec = tree_at deepest tree 0 in
    let s : List ℕ = output tree list ctx in
    let n : ℕ = length s in
    let k : ℕ = length (transform list ctx t).1 in
    let k' : ℕ = length (transform list ctx (tree_at deepest s 0)).1 in
    let first : (call tree list ctx out diags).answer ≡ done n k = succeeds tree list ctx out diags h.accepted.0 h.accepted.1 h.room in
    let wrote-s : written_by tree list ctx out diags n ≡ s = wrote tree list ctx out diags n k first in
    let fits : Fits (transform list ctx t).0 = output-fits tree list ctx h.accepted.0 bytes h.accepted.1 h.room.texts in
    let same : output s list ctx ≡ s = ap encode (again t list ctx h.accepted'.0 fits h.accepted'.1 h.namespaces h.exports) in
    let second : (call s list ctx out' diags').answer ≡ done n k' = rw (ap length same) at (succeeds s list ctx out' diags' h.accepted'.0 h.accepted'.1 h.room') in
    record {
      n = n;
      k = k;
      k' = k';
      first = first;
      wrote = wrote-s;
      second = rw wrote-s second;
      same = rw wrote-s (wrote s list ctx out' diags' n k' second ∙ same);
    }
