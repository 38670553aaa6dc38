-- No silence on the exported call: after a success the ten bytes of each diagnostic that the transform gives stand in the diagnostics buffer, so of
-- every member of an object literal that is left out.
use mathlib.Core.Path.{◌≡◌, refl, ap, ◌∙◌}
use mathlib.Core.List.{List, [], ◌∷◌, ◌++◌, append_assoc}
use mathlib.Core.Bool.{Bool, false}
use Prim.Native.Nat.{ℕ, suc, ◌+◌, ◌*◌}
use native.Mathlib.Omega.{arith}
use lib.ListN.{length, take, drop, length-append}
use lib.Seq.{drop-append-add}
use Rattle.definition.specs.Tree.{Head, Rec, Recs, rec, tree_at}
use Rattle.definition.specs.Grammar.{mark}
use Rattle.definition.specs.Check.{deepest}
use Rattle.definition.specs.Record.{head_of, kids_of, Diag, diag_bytes, diags_bytes}
use Rattle.definition.specs.Prescan.{prescan_module_ids}
use Rattle.definition.specs.Transform.{transform, done, call}
use Rattle.definition.specs.Silence.{OneOf, Given, Stands, Told, Meets}
use Rattle.definition.specs.Typed.{InItem}
use Rattle.definition.proofs.Calls.{call-done}
use Rattle.definition.proofs.Silence.{told_more}
use Rattle.definition.proofs.SilenceModule.{no_silence_in_module}

-- the bytes of a diagnostic that stands behind others
bytes-at : (before : List Diag) (d : Diag) (after : List Diag) (rest : List ℕ) →
    take 10 (drop (10 * length before) (diags_bytes (before ++ (d ∷ after)) ++ rest)) ≡ diag_bytes d
unfolding diags_bytes
bytes-at [] d after rest = refl
bytes-at (x ∷ before) d after rest =
    let e : 10 * suc (length before) ≡ length (diag_bytes x) + 10 * length before = omega arith in
    rw (e, append_assoc)
    (ap (take 10) (drop-append-add (diag_bytes x) (diags_bytes (before ++ (d ∷ after)) ++ rest) (10 * length before)) ∙ bytes-at before d after rest)

module _ (tree list : List ℕ) (ctx : ℕ) (out diags : List ℕ) (n k : ℕ) (success : (call tree list ctx out diags).answer ≡ done n k) where
  -- every diagnostic that the transform gives stands in the buffer
  pub stands : (d : Diag) → Given (transform list ctx (tree_at deepest tree 0)).1 d → Stands (call tree list ctx out diags).diagnostics k d
  stands d g =
      let w = (call-done tree list ctx out diags n k success).2 in
      let ds : List Diag = (transform list ctx (tree_at deepest tree 0)).1 in
      let e : ds ≡ g.before ++ (d ∷ g.after) = g.whole in
      record {
        place = length g.before;
        inside = omega (arith, w.count, ap length e, length-append g.before (d ∷ g.after));
        bytes = rw (w.diags_are, e) (bytes-at g.before d g.after _);
      }

  -- whatever expression e an item of the module has typed: every Sp, Pq and untyped Sh of every object literal that this typing meets is told of in
  -- the buffer
  pub no_silence_in_call : {i e : Rec} {r c' r' : Bool} → OneOf i (kids_of (tree_at deepest tree 0)) → InItem list ctx e r i → (oh : Head) (ks : Recs) →
      oh.mark ≡ mark "Ob" → Meets (prescan_module_ids (kids_of (tree_at deepest tree 0))) ctx (rec oh ks) c' r' e false r →
      Told (prescan_module_ids (kids_of (tree_at deepest tree 0))) ctx c' ks (Stands (call tree list ctx out diags).diagnostics k)
  unfolding tree_at
  no_silence_in_call m i oh ks o w =
      told_more (prescan_module_ids (kids_of (tree_at deepest tree 0))) ctx
      (no_silence_in_module list ctx (head_of (tree_at deepest tree 0)) (kids_of (tree_at deepest tree 0)) m i oh ks o w) stands
