-- The conditions of demand 3 can be met: they are by `namespace N.M { export default a; } export default [];`.
use mathlib.Core.Path.{◌≡◌, refl}
use mathlib.Core.List.{[], ◌++◌}
use mathlib.Core.Bool.{Bool, true, false, cond, ◌&&◌}
use Prim.Native.Nat.{ℕ}
use native.Mathlib.Omega.{arith}
use lib.Dec.{eqb}
use lib.ListN.{length, replicate}
use borrow.Author.Tests.{eqb-true, eq-eqb, leb-true}
use Rattle.definition.specs.Tree.{Rec, Recs, rec, nil, cons, Bytes, le4, head_bytes, encode, head_at, read_all, end_of_all, end_at, tree_at}
use Rattle.definition.specs.Grammar.{mark, marks, member, grammar, known, forms, slots, place, allowed, after, least, is_property}
use Rattle.definition.specs.Check.{deepest, has_form, open_body, open_at, check_all, check_at, entries_fine, list_fine, check_tree}
use Rattle.definition.specs.Record.{text, is, fresh, kid, one, diags_bytes, each}
use Rattle.definition.specs.Names.{decimal_up_to, gen_unique_name}
use Rattle.definition.specs.Typing.{expr_kind, expr_by, expr_to_ts_type}
use Rattle.definition.specs.Items.{item_kind, decl_kind, body_kind, declarator_pattern, declarator, default_typed, decl_to_type_decl, transform_module_stmt, export_default_expr, item_by, body_by, transform_module_items}
use Rattle.definition.specs.Transform.{transform_by, transform, texts_fit}
use Rattle.definition.specs.Demand3.{ExportsIds, AllExportIds, SpacesExportIds, AllSpacesExportIds, output, Supposed}
use Rattle.definition.proofs.Texts.{written as written_out}
use Rattle.definition.proofs.Tests.{and-true}

-- ---- the conditions on trees, decided

cond-true : (a b : Bool) → cond a b true ≡ true → a ≡ true → b ≡ true
cond-true true b e p = e
cond-true false b e p = absurd (let z : ◌≡◌ {A = ℕ} 0 1 = cc in omega arith)

abbrev mutual
  exports_ids : Rec → Bool
  exports_ids (rec h ks) = cond (eqb h.mark (mark "Xe")) (is "Id" (kid 0 ks)) true && all_export_ids ks

  all_export_ids : Recs → Bool
  all_export_ids nil = true
  all_export_ids (cons r rs) = exports_ids r && all_export_ids rs

mutual
  exports-ids : (r : Rec) → exports_ids r ≡ true → ExportsIds r
  exports-ids (rec h ks) e =
      let u = and-true (cond (eqb h.mark (mark "Xe")) (is "Id" (kid 0 ks)) true) (all_export_ids ks) e in
      (λ m. eqb-true _ (mark "Id") (cond-true (eqb h.mark (mark "Xe")) (is "Id" (kid 0 ks)) u.0 (eq-eqb h.mark (mark "Xe") m)), all_export_ids_lem ks u.1)

  all_export_ids_lem : (rs : Recs) → all_export_ids rs ≡ true → AllExportIds rs
  all_export_ids_lem nil e = tt
  all_export_ids_lem (cons r rs) e = let u = and-true (exports_ids r) (all_export_ids rs) e in (exports-ids r u.0, all_export_ids_lem rs u.1)

abbrev mutual
  spaces_export_ids : Rec → Bool
  spaces_export_ids (rec h ks) = cond (eqb h.mark (mark "Nb")) (all_export_ids ks) true && all_spaces_export_ids ks

  all_spaces_export_ids : Recs → Bool
  all_spaces_export_ids nil = true
  all_spaces_export_ids (cons r rs) = spaces_export_ids r && all_spaces_export_ids rs

mutual
  spaces_export_ids_lem : (r : Rec) → spaces_export_ids r ≡ true → SpacesExportIds r
  spaces_export_ids_lem (rec h ks) e =
      let u = and-true (cond (eqb h.mark (mark "Nb")) (all_export_ids ks) true) (all_spaces_export_ids ks) e in
      (λ m. all_export_ids_lem ks (cond-true (eqb h.mark (mark "Nb")) (all_export_ids ks) u.0 (eq-eqb h.mark (mark "Nb") m)), all_spaces_export_ids_lem ks u.1)

  all_spaces_export_ids_lem : (rs : Recs) → all_spaces_export_ids rs ≡ true → AllSpacesExportIds rs
  all_spaces_export_ids_lem nil e = tt
  all_spaces_export_ids_lem (cons r rs) e =
      let u = and-true (spaces_export_ids r) (all_spaces_export_ids rs) e in (spaces_export_ids_lem r u.0, all_spaces_export_ids_lem rs u.1)

-- ---- the sample

abbrev pub sample : Rec
sample =
    rec (fresh "Mo" 0 [])
    (cons
    (rec (fresh "Ns" 0 [])
    (cons (rec (fresh "Op" 0 (text "N")) nil) (one (rec (fresh "Nd" 0 [])
    (cons (rec (fresh "Op" 0 (text "M")) nil)
    (one (rec (fresh "Nb" 0 []) (one (rec (fresh "Xe" 0 []) (one (rec (fresh "Id" 0 (le4 1 ++ text "a")) nil)))))))))))
    (one (rec (fresh "Xe" 0 []) (one (rec (fresh "Ar" 0 []) nil)))))

-- two calls with 300 bytes for the output and none for diagnostics
pub conditions_met : Bytes (encode sample) × Supposed (encode sample) [] 1 (replicate 300 7) [] (replicate 300 9) []
unfolding
    head_bytes encode head_at read_all end_of_all end_at tree_at
    marks member grammar known forms slots place allowed after least is_property
    has_form open_body open_at check_all check_at entries_fine list_fine check_tree
    diags_bytes each decimal_up_to gen_unique_name expr_kind expr_by expr_to_ts_type
    item_kind decl_kind body_kind declarator_pattern declarator default_typed decl_to_type_decl transform_module_stmt export_default_expr item_by body_by
    transform_module_items transform_by transform texts_fit
conditions_met = (
  written_out (encode sample) refl,
  record {
    accepted = (length (encode sample), refl);
    accepted' = (length (output (encode sample) [] 1), refl);
    room = record { texts = refl; bytes = leb-true _ 300 refl; diagnostics = leb-true _ 0 refl };
    room' = record { texts = refl; bytes = leb-true _ 300 refl; diagnostics = leb-true _ 0 refl };
    exports = exports-ids (tree_at deepest (output (encode sample) [] 1) 0) refl;
    namespaces = spaces_export_ids_lem (tree_at deepest (encode sample) 0) refl;
  },
)
