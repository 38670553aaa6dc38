-- The transform of a module, and the exported call.
use Rattle.std.specs.Prelude.{ℕ, List, ◌++◌, Bool, true, cond, ◌&&◌, length, drop, leb, ltb}
use Rattle.definition.specs.Tree.{Rec, Recs, rec, nil, cons, encode, tree_at}
use Rattle.definition.specs.Check.{Checked, fine, refused as rejected, deepest, check_tree}
use Rattle.definition.specs.Record.{head_of, kids_of, Diag, diags_bytes, Out, Typing, wrap}
use Rattle.definition.specs.Prescan.{prescan_module_ids}
use Rattle.definition.specs.Typing.{expr_to_ts_type}
use Rattle.definition.specs.Items.{transform_module_items}

-- ---- `transform`

-- the transform of a Mo, for any typing of expressions
unfoldable pub transform_by : List ℕ → ℕ → Typing → Rec → Out Rec
transform_by list ctx ty r = wrap (head_of r) (transform_module_items list ctx ty (kids_of r) true 0)

-- `Program::Module`: the typing asks the prescan of the same module
unfoldable pub transform : List ℕ → ℕ → Rec → Out Rec
transform list ctx r = transform_by list ctx (expr_to_ts_type (prescan_module_ids (kids_of r)) ctx) r

-- ---- the exported call

-- "Success returns bytes written and the diagnostic count"; a refusal has its number and place
pub data Answer : Type 0 where
  done : ℕ → ℕ → Answer
  refused : ℕ → ℕ → Answer

-- the answer, and the contents of both buffers afterwards
pub record Result : Type 0 where
  pub answer : Answer
  pub out : List ℕ
  pub diagnostics : List ℕ

-- "text length (2)": whether every text of a tree fits a head (reading 20)
unfoldable mutual
  pub texts_fit : Rec → Bool
  texts_fit (rec h ks) = ltb (length h.text) 65536 && all_texts_fit ks

  pub all_texts_fit : Recs → Bool
  all_texts_fit nil = true
  all_texts_fit (cons r rs) = texts_fit r && all_texts_fit rs

-- "bytes beyond them are untouched"
abbrev pub over : List ℕ → List ℕ → List ℕ
over bytes buffer = bytes ++ drop (length bytes) buffer

-- 9, "output longer than its buffer", and 10, "diagnostics longer than theirs": what is made of a tree r with the diagnostics ds
unfoldable pub written : Rec → List Diag → List ℕ → List ℕ → Result
written r ds out diags =
    cond (texts_fit r && leb (length (encode r)) (length out))
    (cond (leb (length (diags_bytes ds)) (length diags))
    (record { answer = done (length (encode r)) (length ds); out = over (encode r) out; diagnostics = over (diags_bytes ds) diags })
    (record { answer = refused 10 0; out = out; diagnostics = diags }))
    (record { answer = refused 9 0; out = out; diagnostics = diags })

-- what a call does once the tree and the list have been checked
unfoldable pub call_by : Checked → List ℕ → List ℕ → ℕ → List ℕ → List ℕ → Result
call_by (rejected number place) tree list ctx out diags = record { answer = refused number place; out = out; diagnostics = diags }
call_by (fine end) tree list ctx out diags =
    let o : Out Rec = transform list ctx (tree_at deepest tree 0) in
    written o.0 o.1 out diags

-- the call on a tree and an overload list, with the unresolved context and the contents of both buffers: refusals 1 to 10 in their order
unfoldable pub call : List ℕ → List ℕ → ℕ → List ℕ → List ℕ → Result
call tree list ctx out diags = call_by (check_tree tree list) tree list ctx out diags
