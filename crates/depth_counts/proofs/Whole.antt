-- The whole table, by its cells, and the walk over the whole module.
use mathlib.Core.Path.{◌≡◌, refl, sym, ap, ◌∙◌, subst}
use mathlib.Core.List.{List, [], ◌∷◌}
use mathlib.Core.Bool.{true}
use Prim.Native.Nat.{ℕ, zero, suc, ◌+◌, ◌<◌, ◌≤◌}
use native.Mathlib.Omega.{arith}
use mir.Syntax.{w8}
use mir.Val
use lib.ListN.{length, get_or, replicate, length-replicate, get_or-replicate, drop, length-append, length-drop, get_or-append}
use lib.Seq.{ext_get_or}
use Rattle.std.specs.declared.result.Result.{Result}
use Rattle.std.specs.declared.result.Result.TheVariants.{Ok, Err}
use Rattle.definition.specs.Tree.{tree_at}
use Rattle.definition.specs.Check.{longest_tree, deepest}
use Rattle.definition.specs.Children.{AcceptedAt}
use Rattle.definition.specs.Record.{Diag, diagnostic_marks, diags_bytes}
use Rattle.definition.specs.Transform.{transform, done, over, call}
use Rattle.definition.specs.Transform as Transform
use Rattle.definition.specs.Depths.{Placed, what_of, columns, count_of, row_of, rows_of, table_of, total, items_placed, placed, counts_by, call_depths}
use Rattle.definition.proofs.Accepted.{accepted-tree}
use Rattle.definition.proofs.Calls.{call-done}
use Rattle.definition.proofs.Children.{root-accepted}
use Rattle.definition.proofs.CountingItems.{diagnostics_of_bytes}
use Rattle.definition.proofs.Depths.{without-depths, total-is}
use Rattle.records.proofs.Whole.{slice_bytes}
use Rattle.records.specs.declared.tree.Record.{Record}
use Rattle.records.specs.declared.tree.Records.{Records}
use Rattle.records.specs.Views.{rec_of, recs_of, ChildrenOf}
use Rattle.prescan.specs.declared.module_names.Scope.{Scope}
use Rattle.typing.specs.Values.{ids_in, typing_in}
use Rattle.grammar.specs.declared.Refused.{Refused}
use Rattle.transform_dts.specs.declared.Done.{Done}
use Rattle.transform_dts.specs.Answers.{transformed, answered, Gives}
use Rattle.depth_counts.specs.declared.walk.Walk.{Walk}
use Rattle.depth_counts.specs.Tables.{rows, Shape, cell, Small, Adds, Holds}
use Rattle.depth_counts.specs.Answers.{GivesCounted}
use Rattle.depth_counts.specs.Walks.{ReadyAll}

-- ---- the table

row-length : (n m d : ℕ) (xs : List Placed) → length (row_of n m d xs) ≡ n
unfolding row_of
row-length zero m d xs = refl
row-length (suc n) m d xs = ap suc (row-length n m (suc d) xs)

row_at : (n m d : ℕ) (xs : List Placed) (i : ℕ) → i < n → get_or (row_of n m d xs) i 0 ≡ count_of m (d + i) xs
unfolding row_of
row_at zero m d xs i h = absurd (omega arith)
row_at (suc n) m d xs zero h = ap (λ (k : ℕ). count_of m k xs) (omega arith)
row_at (suc n) m d xs (suc i) h = row_at n m (suc d) xs i (omega arith) ∙ ap (λ (k : ℕ). count_of m k xs) (omega arith)

rows-length : (ms : List ℕ) (xs : List Placed) → length (rows_of ms xs) ≡ length ms
unfolding rows_of
rows-length [] xs = refl
rows-length (m ∷ ms) xs = ap suc (rows-length ms xs)

rows_at : (ms : List ℕ) (xs : List Placed) (r : ℕ) → r < length ms → get_or (rows_of ms xs) r [] ≡ row_of columns (get_or ms r 0) 0 xs
unfolding rows_of
rows_at [] xs r h = absurd (omega arith)
rows_at (m ∷ ms) xs zero h = refl
rows_at (m ∷ ms) xs (suc r) h = rows_at ms xs r (omega arith)

-- a table of which all that is known are its counts
pub table_is : {t u : List (List ℕ)} (xs : List Placed) → ((r d : ℕ) → r < rows → d < columns → cell t r d ≡ 0) → Adds t u xs → u ≡ table_of xs
unfolding table_of
table_is {t} {u} xs none a =
    ext_get_or [] u (rows_of diagnostic_marks xs) (a.shape.tall ∙ sym (rows-length diagnostic_marks xs))
    (λ r lt.
    let hr : r < rows = omega (arith, a.shape.tall) in
    let at : get_or (rows_of diagnostic_marks xs) r [] ≡ row_of columns (get_or diagnostic_marks r 0) 0 xs = rows_at diagnostic_marks xs r hr in
    ext_get_or 0 (get_or u r []) (row_of columns (get_or diagnostic_marks r 0) 0 xs) (a.shape.wide r hr ∙ sym (row-length columns (get_or diagnostic_marks r 0) 0 xs))
    (λ d ld.
    let hd : d < columns = omega (arith, a.shape.wide r hr) in
    let z : 0 + d ≡ d = omega arith in
    omega (arith, a.cells r d hr hd, none r d hr hd, row_at columns (get_or diagnostic_marks r 0) 0 xs d hd, ap (λ (k : ℕ). count_of (get_or diagnostic_marks r 0) k xs) z))
    ∙ sym at)

pub table-cell : (xs : List Placed) (r d : ℕ) → r < rows → d < columns → cell (table_of xs) r d ≡ count_of (get_or diagnostic_marks r 0) d xs
unfolding table_of
table-cell xs r d hr hd =
    ap (λ (l : List ℕ). get_or l d 0) (rows_at diagnostic_marks xs r hr)
    ∙ (row_at columns (get_or diagnostic_marks r 0) 0 xs d hd ∙ ap (λ (k : ℕ). count_of (get_or diagnostic_marks r 0) k xs) (omega arith))

pub table-shape : (xs : List Placed) → Shape (table_of xs)
unfolding table_of
table-shape xs = record {
  tall = rows-length diagnostic_marks xs;
  wide = λ r h. ap length (rows_at diagnostic_marks xs r h) ∙ row-length columns (get_or diagnostic_marks r 0) 0 xs;
}

-- ---- the module

-- k are the items of the Mo r, which is the whole of the tree whose names the scope has
module _ {r : Record} (scope : Scope) (same : scope.names.tree ≡ r.tree) (p : r.at ≡ 0) (l : r.levels ≡ deepest) {k : Records} (c : ChildrenOf r k) where
  pub module_ready : {w : Walk} → w.id_counter ≡ 0 → w.scope ≡ scope → ReadyAll w k 0
  module_ready e s = record { low = omega (arith, e); same = rw s (same ∙ sym c.tree); levels = omega (arith, l, c.levels) }

  module _ (list : List ℕ) where
    pub module_placed : placed list scope.unresolved (tree_at deepest r.tree.now 0) ≡ items_placed list scope.unresolved (typing_in scope) (recs_of k) true 0 0
    unfolding placed ids_in rec_of
    module_placed = rw (c.are, ap (λ x. x.now) same, l, p) refl

    pub module_holds : {g : List ℕ} → Holds g 0 (transform list scope.unresolved (tree_at deepest r.tree.now 0)).1 → Holds g 0 (what_of (items_placed list scope.unresolved (typing_in scope) (recs_of k) true 0 0))
    module_holds {g} h = subst (Holds g 0) (sym (without-depths list scope.unresolved (tree_at deepest r.tree.now 0)) ∙ ap what_of module_placed) h

-- ---- a table without counts

pub blank-cells : (r d : ℕ) → r < rows → d < columns → cell (replicate {A = List ℕ} rows (replicate {A = ℕ} columns 0)) r d ≡ 0
blank-cells r d hr hd = ap (λ (l : List ℕ). get_or l d 0) (get_or-replicate {A = List ℕ} rows r (replicate {A = ℕ} columns 0) [] hr) ∙ get_or-replicate {A = ℕ} columns d 0 0 hd

pub blank-small : Small (replicate {A = List ℕ} rows (replicate {A = ℕ} columns 0)) 0
blank-small = record {
  shape = record {
    tall = length-replicate {A = List ℕ} rows (replicate {A = ℕ} columns 0);
    wide = λ r hr. ap length (get_or-replicate {A = List ℕ} rows r (replicate {A = ℕ} columns 0) [] hr) ∙ length-replicate {A = ℕ} columns 0;
  };
  cells = λ r d hr hd. omega (arith, blank-cells r d hr hd);
}

-- ---- the call

module _ (tree list : List ℕ) (ctx : ℕ) (out diags : List ℕ) {r : Result Done Refused} {o g : List ℕ} (w : Gives (call tree list ctx out diags) r o g) where
  -- a success
  module _ {d : Done} (e : r ≡ Ok d) where
    succeeded : (call tree list ctx out diags).answer ≡ done d.length d.count
    succeeded = sym w.answer ∙ ap answered e

    pub done-accepted : AcceptedAt deepest tree 0
    done-accepted = let z = call-done tree list ctx out diags d.length d.count succeeded in root-accepted tree list z.0 z.1

    pub done-short : length tree ≤ longest_tree
    done-short = let z = call-done tree list ctx out diags d.length d.count succeeded in (accepted-tree tree list z.0 z.1).0.short

    pub done-holds : Holds g 0 (transformed list ctx tree).1
    done-holds =
        let z = call-done tree list ctx out diags d.length d.count succeeded in
        let ds : List Diag = (transformed list ctx tree).1 in
        let is : g ≡ over (diags_bytes ds) diags = w.diagnostics ∙ z.2.diags_are in
        record {
          fits = omega (arith, ap length is, z.2.diag_room, length-append (diags_bytes ds) (drop (length (diags_bytes ds)) diags), length-drop (length (diags_bytes ds)) diags);
          same = λ i lt. let y : 0 + i ≡ i = omega arith in ap (λ (j : ℕ). get_or g j 0) y ∙ (ap (λ (l : List ℕ). get_or l i 0) is ∙ get_or-append (diags_bytes ds) _ 0 i lt);
        }

    pub done_counted : (t : List (List ℕ)) {u : List (List ℕ)} → u ≡ table_of (placed list ctx (tree_at deepest tree 0)) → GivesCounted (call_depths tree list ctx out diags t) (Ok d) o g u
    unfolding call_depths
    done_counted t {u} f = record {
      gives = subst (λ (a : Result Done Refused). Gives (call tree list ctx out diags) a o g) e w;
      table = f ∙ ap (λ (a : Transform.Answer). counts_by a (table_of (placed list ctx (tree_at deepest tree 0))) t) (sym succeeded);
    }

  -- a refusal
  pub refused_counted : (t : List (List ℕ)) {x : Refused} → r ≡ Err x → GivesCounted (call_depths tree list ctx out diags t) (Err x) o g t
  unfolding call_depths
  refused_counted t e = record {
    gives = subst (λ (a : Result Done Refused). Gives (call tree list ctx out diags) a o g) e w;
    table = ap (λ (a : Transform.Answer). counts_by a (table_of (placed list ctx (tree_at deepest tree 0))) t) (sym (ap answered e) ∙ w.answer);
  }

-- the total of a success
module _ (tree list : List ℕ) (ctx : ℕ) (out diags : List ℕ) (t : List (List ℕ)) {d : Done} {r : Result Done Refused} {o g : List ℕ} {u : List (List ℕ)} (known : (i : ℕ) → mir.Val.Fits w8 (get_or tree i 0))
    (w : GivesCounted (call_depths tree list ctx out diags t) r o g u) (e : r ≡ Ok d) where
  answer-done : (call tree list ctx out diags).answer ≡ done d.length d.count
  unfolding call_depths
  answer-done = sym w.gives.answer ∙ ap answered e

  pub counted_table : u ≡ table_of (placed list ctx (tree_at deepest tree 0))
  unfolding call_depths
  counted_table = w.table ∙ ap (λ (x : Transform.Answer). counts_by x (table_of (placed list ctx (tree_at deepest tree 0))) t) answer-done

  pub counted_shape : Shape u
  counted_shape = subst Shape (sym counted_table) (table-shape (placed list ctx (tree_at deepest tree 0)))

  -- "the total equals the number of records written"
  pub counted_total : total u ≡ d.count
  counted_total =
      let z = call-done tree list ctx out diags d.length d.count answer-done in
      ap total counted_table ∙ (total-is tree list ctx z.0 (slice_bytes tree known) z.1 ∙ sym z.2.count)

  -- which is small
  pub counted_small : total u ≤ longest_tree
  counted_small =
      let z = call-done tree list ctx out diags d.length d.count answer-done in
      omega (arith, counted_total, z.2.count, diagnostics_of_bytes tree list ctx z.0 (slice_bytes tree known) z.1, (accepted-tree tree list z.0 z.1).0.short)
