-- What is told of an element without its children: the `,` behind it.
use mathlib.Core.Path.{◌≡◌, sym}
use mathlib.Core.Bool.{Bool, true, false, not, ◌||◌}
use Prim.Native.Nat.{◌<◌}
use lib.Dec.{eqb}
use Rattle.definition.specs.Grammar.{mark}
use Rattle.definition.specs.Record.{mark_of, is_no}
use Rattle.definition.specs.Text.{more, children}
use Rattle.records.specs.declared.tree.Record.{Record}
use Rattle.records.specs.declared.tree.Records.{Records}
use Rattle.records.specs.Views.{rec_of, recs_of, FirstOf}
use Rattle.definition.proofs.Children.{read_all_more}
use Rattle.definition.specs.Tree.{end_at, tree_at}
use Rattle.text_tokens.proofs.Writes.{or_false, or_true}
use Rattle.declaration_text.specs.Steps.{parts_of}
use Rattle.declaration_text.proofs.Parts.{parts_none}

module _ (x : Record) (k : Records) (under : Bool) where
  -- a hole
  pub comma_hole : eqb (mark_of (rec_of x)) (mark "No") ≡ true → true ≡ (more (parts_of under k) || is_no (rec_of x))
  comma_hole e = rw e (sym (or_true (more (parts_of under k))))

  -- the last
  pub comma-last : eqb (mark_of (rec_of x)) (mark "No") ≡ false → k.count ≡ 0 → false ≡ (more (parts_of under k) || is_no (rec_of x))
  comma-last e h = rw (parts_none k under h, e)

  -- another follows it
  pub comma-more : eqb (mark_of (rec_of x)) (mark "No") ≡ false → 0 < k.count → {y : Record} → FirstOf k y
      → not (eqb (mark_of (rec_of y)) (mark "Op")) ≡ (more (parts_of under k) || is_no (rec_of x))
  unfolding recs_of rec_of children
  comma-more e h {y} f =
      rw (read_all_more (tree_at k.levels k.tree.now) (end_at k.levels k.tree.now) k.count k.at h, e, f.tree, f.place, f.levels)
      (sym (or_false (not (eqb (mark_of (tree_at k.levels k.tree.now k.at)) (mark "Op")))))
