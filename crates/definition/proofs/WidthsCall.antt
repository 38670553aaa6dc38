-- Where the outputs of an accepted tree fit a record (`output_fits_but`), the call succeeds in buffers that are long enough.
use mathlib.Core.Path.{◌≡◌}
use mathlib.Core.List.{List}
use Prim.Native.Nat.{ℕ, ◌≤◌}
use lib.ListN.{length}
use Rattle.definition.specs.Tree.{Rec, encode, tree_at, Bytes}
use Rattle.definition.specs.Check.{fine, deepest, check_tree}
use Rattle.definition.specs.Record.{diags_bytes}
use Rattle.definition.specs.Transform.{transform, done, call}
use Rattle.definition.specs.Widths.{KeysUpTo}
use Rattle.definition.proofs.Calls.{succeeds}
use Rattle.definition.proofs.Widths.{fits-texts, output_fits_but}

module _ (tree list : List ℕ) (ctx e : ℕ) (bytes : Bytes tree) (accepted : check_tree tree list ≡ fine e) where
  abbrev made : Rec
  made = (transform list ctx (tree_at deepest tree 0)).0

  -- for a tree whose keys are short enough buffers are long enough once both lengths fit in them, and the call succeeds
  pub call-succeeds : KeysUpTo 65531 (tree_at deepest tree 0) → (out diags : List ℕ) → length (encode made) ≤ length out →
      length (diags_bytes (transform list ctx (tree_at deepest tree 0)).1) ≤ length diags →
      (call tree list ctx out diags).answer ≡ done (length (encode made)) (length (transform list ctx (tree_at deepest tree 0)).1)
  call-succeeds q out diags l m =
      succeeds tree list ctx out diags e accepted (record { texts = fits-texts made (output_fits_but tree list ctx e bytes accepted q); bytes = l; diagnostics = m })
