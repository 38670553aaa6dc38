-- What demand 3 says of trees and of buffers.
use Rattle.std.specs.Prelude.{ℕ, ◌≤◌, ◌≡◌, List, true, length, take}
use Rattle.definition.specs.Tree.{Rec, Recs, rec, nil, cons, encode, tree_at}
use Rattle.definition.specs.Grammar.{mark}
use Rattle.definition.specs.Check.{fine, deepest, check_tree}
use Rattle.definition.specs.Record.{mark_of, kid, diags_bytes}
use Rattle.definition.specs.Transform.{transform, done, texts_fit, call}
use Rattle.definition.specs.ChildNames.{xe_expression}

-- "An expression exported as default is what an Xe holds, at any depth": every one in a tree is an Id
abbrev mutual
  pub ExportsIds : Rec → Type 0
  ExportsIds (rec h ks) = (h.mark ≡ mark "Xe" → mark_of (kid xe_expression ks) ≡ mark "Id") × AllExportIds ks

  pub AllExportIds : Recs → Type 0
  AllExportIds nil = Unit {0}
  AllExportIds (cons r rs) = ExportsIds r × AllExportIds rs

-- "a namespace's is that of an Xe anywhere within an Nb": every one in a tree is an Id
abbrev mutual
  pub SpacesExportIds : Rec → Type 0
  SpacesExportIds (rec h ks) = (h.mark ≡ mark "Nb" → AllExportIds ks) × AllSpacesExportIds ks

  pub AllSpacesExportIds : Recs → Type 0
  AllSpacesExportIds nil = Unit {0}
  AllSpacesExportIds (cons r rs) = SpacesExportIds r × AllSpacesExportIds rs

-- "A tree is accepted when, beside a list that passes 2, no test before 9 refuses it."
abbrev pub IsAccepted : List ℕ → List ℕ → Type 0
IsAccepted tree list = (e : ℕ) × (check_tree tree list ≡ fine e)

-- "the output .. that demand 2 fixes" for a call on a tree: the bytes that it writes where nothing is refused
abbrev pub output : List ℕ → List ℕ → ℕ → List ℕ
output tree list ctx = encode (transform list ctx (tree_at deepest tree 0)).0

-- "buffers are long enough when the output and the diagnostics that demand 2 fixes for each call fit in them": those of a call on this tree
pub record LongEnough (tree list : List ℕ) (ctx : ℕ) (out diags : List ℕ) : Type 0 where
  -- of a text that no head can hold: "No buffer is long enough for that" (reading 20)
  pub texts : texts_fit (transform list ctx (tree_at deepest tree 0)).0 ≡ true
  pub bytes : length (output tree list ctx) ≤ length out
  pub diagnostics : length (diags_bytes (transform list ctx (tree_at deepest tree 0)).1) ≤ length diags

-- what demand 3 supposes of two calls: the first on a tree, with the buffers out and diags; the second "reads exactly the bytes that the first wrote",
-- with the buffers out' and diags'
pub record Supposed (tree list : List ℕ) (ctx : ℕ) (out diags out' diags' : List ℕ) : Type 0 where
  -- the tree is accepted: "beside a list that passes 2, no test before 9 refuses it"
  pub accepted : IsAccepted tree list
  -- and so is the first result
  pub accepted' : IsAccepted (output tree list ctx) list
  -- "the output and the diagnostics that demand 2 fixes for each call fit in them": those of the first call
  pub room : LongEnough tree list ctx out diags
  -- and those of the second
  pub room' : LongEnough (output tree list ctx) list ctx out' diags'
  -- the first result's default exports are identifiers: "An expression exported as default is what an Xe holds, at any depth"
  pub exports : ExportsIds (tree_at deepest (output tree list ctx) 0)
  -- no namespace of the tree exports another expression as default: "a namespace's is that of an Xe anywhere within an Nb"
  pub namespaces : SpacesExportIds (tree_at deepest tree 0)

-- "the bytes that the first wrote": the first n bytes of the output buffer, after a call that wrote n
abbrev pub written_by : List ℕ → List ℕ → ℕ → List ℕ → List ℕ → ℕ → List ℕ
written_by tree list ctx out diags n = take n (call tree list ctx out diags).out

-- what demand 3 says of them: both succeed, the first with n bytes, and what the second writes "has the same length and the same bytes. Its
-- diagnostics may differ.": they are k and k'
pub record Unchanged (tree list : List ℕ) (ctx : ℕ) (out diags out' diags' : List ℕ) : Type 0 where
  pub n : ℕ
  pub k : ℕ
  pub k' : ℕ
  pub first : (call tree list ctx out diags).answer ≡ done n k
  pub wrote : written_by tree list ctx out diags n ≡ output tree list ctx
  pub second : (call (written_by tree list ctx out diags n) list ctx out' diags').answer ≡ done n k'
  pub same : written_by (written_by tree list ctx out diags n) list ctx out' diags' n ≡ written_by tree list ctx out diags n
