-- The laws of request §1: without their depths the diagnostics are the transform's, in order; no depth of an accepted tree is over 31; the counts of
-- the table are as many as the diagnostics. (`Spaces.antt`: items other than namespaces hold no Ns.)
use mathlib.Core.Path.{◌≡◌, refl, sym, ap, ◌∙◌, subst}
use mathlib.Core.List.{List, [], ◌∷◌, ◌++◌}
use mathlib.Core.Bool.{Bool, true, false, cond, ◌&&◌}
use Prim.Native.Nat.{ℕ, zero, suc, ◌+◌, ◌*◌, ◌-◌, ◌<◌, ◌≤◌}
use native.Mathlib.Omega.{arith}
use lib.Dec.{eqb}
use lib.ListN.{length}
use borrow.Author.Tests.{eqb-true, eqb-false, eq-eqb, ne_eqb}
use Rattle.definition.specs.Tree.{Head, Rec, Recs, rec, nil, cons, depth, depths, Bytes, tree_at}
use Rattle.definition.specs.Grammar.{mark, member}
use Rattle.definition.specs.Check.{fine, check_tree, deepest}
use Rattle.definition.specs.Record.{kids_of, mark_of, is, kid, Diag, diagnostic_marks, Out, Typing}
use Rattle.definition.specs.Marked.{Kinds}
use Rattle.definition.specs.Prescan.{prescan_module_ids}
use Rattle.definition.specs.Typing.{expr_to_ts_type}
use Rattle.definition.specs.Items.{body_kind, body_by, transform_module_items, transform_module_item, exported, exported_decl, ns_parts, ns_body_first, transform_ts_ns_body}
use Rattle.definition.specs.Transform.{transform, transform_by}
use Rattle.definition.specs.Depths.{Placed, all_at, what_of, items_placed, item_placed, export_placed, exported_placed, space_placed, body_first_placed, body_placed, placed, columns, count_of, row_of, rows_of, table_of, sum, total}
use Rattle.definition.proofs.Tests.{never, and-true, by_eq}
use Rattle.definition.proofs.Converse.{read-accepted}
use Rattle.definition.proofs.ItemKinds.{space-becomes, export_becomes, exported-becomes, block-becomes, nested-becomes, other-becomes}
use Rattle.definition.proofs.MarkedItems.{transform-kinds}

-- ---- without the depths

pub what-all : (d : ℕ) (xs : List Diag) → what_of (all_at d xs) ≡ xs
unfolding what_of all_at
what-all d [] = refl
what-all d (x ∷ xs) = ap (λ (ys : List Diag). x ∷ ys) (what-all d xs)

pub what_append : (xs ys : List Placed) → what_of (xs ++ ys) ≡ what_of xs ++ what_of ys
unfolding what_of
what_append [] ys = refl
what_append (x ∷ xs) ys = ap (λ (zs : List Diag). x.what ∷ zs) (what_append xs ys)

module _ (list : List ℕ) (ctx : ℕ) (ty : Typing) where
  -- the diagnostics of a step
  abbrev said : {A : Type 0} {x y : Out A} → x ≡ y → y.1 ≡ x.1
  said e = sym (ap (λ (o : Out _). o.1) e)

  mutual
    unfolding items_placed transform_module_items what_of

    pub items-what : (rs : Recs) (top : Bool) (d n : ℕ) → what_of (items_placed list ctx ty rs top d n) ≡ (transform_module_items list ctx ty rs top n).1
    items-what nil top d n = refl
    items-what (cons r rs) top d n =
        what_append (item_placed list ctx ty r top d n) (items_placed list ctx ty rs top d (transform_module_item list ctx ty r top n).2)
        ∙ (ap (λ (xs : List Diag). xs ++ what_of (items_placed list ctx ty rs top d (transform_module_item list ctx ty r top n).2)) (item-what r top d n)
        ∙ ap (λ (xs : List Diag). (transform_module_item list ctx ty r top n).1 ++ xs) (items-what rs top d (transform_module_item list ctx ty r top n).2))

    pub item-what : (r : Rec) (top : Bool) (d n : ℕ) → what_of (item_placed list ctx ty r top d n) ≡ (transform_module_item list ctx ty r top n).1
    item-what (rec h ks) top d n =
        go (eqb h.mark (mark "Ns")) (eqb h.mark (mark "Ed") && is "Ns" (kid 0 ks)) refl refl (space-what ks (suc d) n) (λ e. export_what ks h top (suc d) n e)
      where
        go : (a b : Bool) → eqb h.mark (mark "Ns") ≡ a → (eqb h.mark (mark "Ed") && is "Ns" (kid 0 ks)) ≡ b
            → what_of (space_placed list ctx ty ks (suc d) n) ≡ (ns_parts list ctx ty ks n).1
            → (is "Ns" (kid 0 ks) ≡ true → what_of (export_placed list ctx ty ks (suc d) n) ≡ (exported list ctx ty ks h top n).1)
            → what_of (cond a (space_placed list ctx ty ks (suc d) n) (cond b (export_placed list ctx ty ks (suc d) n) (all_at d (transform_module_item list ctx ty (rec h ks) top n).1)))
            ≡ (transform_module_item list ctx ty (rec h ks) top n).1
        go true b p q s x = s ∙ said (space-becomes list ctx ty (rec h ks) top n (eqb-true _ _ p))
        go false true p q s x = let z = and-true _ _ q in x z.1 ∙ said (export_becomes list ctx ty (rec h ks) top n (eqb-true _ _ z.0))
        go false false p q s x = what-all d (transform_module_item list ctx ty (rec h ks) top n).1

    export_what : (ks : Recs) (h : Head) (top : Bool) (d n : ℕ) → is "Ns" (kid 0 ks) ≡ true → what_of (export_placed list ctx ty ks d n) ≡ (exported list ctx ty ks h top n).1
    export_what nil h top d n e = refl
    export_what (cons r ops) h top d n e = exported-what r h ops top d n e

    exported-what : (r : Rec) (h : Head) (ops : Recs) (top : Bool) (d n : ℕ) → is "Ns" r ≡ true → what_of (exported_placed list ctx ty r d n) ≡ (exported_decl list ctx ty r h ops top n).1
    exported-what (rec dh ks) h ops top d n e = space-what ks d n ∙ said (exported-becomes list ctx ty (rec dh ks) h ops top n (eqb-true _ _ e))

    space-what : (ks : Recs) (d n : ℕ) → what_of (space_placed list ctx ty ks d n) ≡ (ns_parts list ctx ty ks n).1
    space-what nil d n = refl
    space-what (cons name rs) d n = body_first_what rs d n

    body_first_what : (ks : Recs) (d n : ℕ) → what_of (body_first_placed list ctx ty ks d n) ≡ (ns_body_first list ctx ty ks n).1
    body_first_what nil d n = refl
    body_first_what (cons b ops) d n = body-what b d n

    body-what : (b : Rec) (d n : ℕ) → what_of (body_placed list ctx ty b d n) ≡ (transform_ts_ns_body list ctx ty b n).1
    body-what (rec h ks) d n = go (eqb h.mark (mark "Nb")) (eqb h.mark (mark "Nd")) refl refl (items-what ks false d n) (space-what ks d n)
      where
        go : (a b : Bool) → eqb h.mark (mark "Nb") ≡ a → eqb h.mark (mark "Nd") ≡ b
            → what_of (items_placed list ctx ty ks false d n) ≡ (transform_module_items list ctx ty ks false n).1
            → what_of (space_placed list ctx ty ks d n) ≡ (ns_parts list ctx ty ks n).1
            → what_of (cond a (items_placed list ctx ty ks false d n) (cond b (space_placed list ctx ty ks d n) [])) ≡ (transform_ts_ns_body list ctx ty (rec h ks) n).1
        go true b p q x y = x ∙ said (block-becomes list ctx ty (rec h ks) n (eqb-true _ _ p))
        go false true p q x y = y ∙ said (nested-becomes list ctx ty (rec h ks) n (eqb-true _ _ q))
        go false false p q x y = said (other-becomes list ctx ty (rec h ks) n p q)

-- "leaving the depths away gives exactly the transform's diagnostics, in order"
pub without-depths : (list : List ℕ) (ctx : ℕ) (r : Rec) → what_of (placed list ctx r) ≡ (transform list ctx r).1
unfolding placed transform transform_by
without-depths list ctx r = items-what list ctx (expr_to_ts_type (prescan_module_ids (kids_of r)) ctx) (kids_of r) true 0 0

-- ---- where they are found

module _ (list : List ℕ) (ctx : ℕ) (ty : Typing) where
  space-kid : (ks : Recs) (d n : ℕ) → space_placed list ctx ty ks d n ≡ body_placed list ctx ty (kid 1 ks) d n
  unfolding items_placed
  space-kid nil d n = refl
  space-kid (cons name nil) d n = refl
  space-kid (cons name (cons b ops)) d n = refl

  space_kid_counter : (ks : Recs) (n : ℕ) → (ns_parts list ctx ty ks n).2 ≡ (transform_ts_ns_body list ctx ty (kid 1 ks) n).2
  unfolding transform_module_items body_by body_kind
  space_kid_counter nil n = refl
  space_kid_counter (cons name nil) n = refl
  space_kid_counter (cons name (cons b ops)) n = refl

  -- those of an Ns are those of its body, one deeper
  pub item-space : (r : Rec) → mark_of r ≡ mark "Ns" → (top : Bool) (d n : ℕ) → item_placed list ctx ty r top d n ≡ body_placed list ctx ty (kid 1 (kids_of r)) (suc d) n
  unfolding items_placed
  item-space (rec h ks) e top d n = rw (eq-eqb _ _ e) (space-kid ks (suc d) n)

  pub item_space_counter : (r : Rec) → mark_of r ≡ mark "Ns" → (top : Bool) (n : ℕ) → (transform_module_item list ctx ty r top n).2 ≡ (transform_ts_ns_body list ctx ty (kid 1 (kids_of r)) n).2
  item_space_counter r e top n = ap (λ (o : Out Recs). o.2) (space-becomes list ctx ty r top n e) ∙ space_kid_counter (kids_of r) n

  -- those of an Ed that holds an Ns are that one's
  pub item_export : (r : Rec) → mark_of r ≡ mark "Ed" → mark_of (kid 0 (kids_of r)) ≡ mark "Ns" → (top : Bool) (d n : ℕ)
      → item_placed list ctx ty r top d n ≡ body_placed list ctx ty (kid 1 (kids_of (kid 0 (kids_of r)))) (suc d) n
  unfolding items_placed
  item_export (rec h nil) e f top d n = absurd (let z : mark "No" ≡ mark "Ns" = f in omega arith)
  item_export (rec h (cons (rec dh ks) ops)) e f top d n =
      rw (ne_eqb h.mark (mark "Ns") (λ q. absurd (let z : mark "Ed" ≡ mark "Ns" = sym e ∙ q in omega arith)), eq-eqb _ _ e, eq-eqb _ _ f) (space-kid ks (suc d) n)

  pub item_export_counter : (r : Rec) → mark_of r ≡ mark "Ed" → mark_of (kid 0 (kids_of r)) ≡ mark "Ns" → (top : Bool) (n : ℕ)
      → (transform_module_item list ctx ty r top n).2 ≡ (transform_ts_ns_body list ctx ty (kid 1 (kids_of (kid 0 (kids_of r)))) n).2
  unfolding transform_module_items
  item_export_counter (rec h nil) e f top n = absurd (let z : mark "No" ≡ mark "Ns" = f in omega arith)
  item_export_counter (rec h (cons d ops)) e f top n =
      ap (λ (o : Out Recs). o.2) (export_becomes list ctx ty (rec h (cons d ops)) top n e ∙ exported-becomes list ctx ty d h ops top n f) ∙ space_kid_counter (kids_of d) n

  -- those of another item stand at its depth
  pub item-other : (r : Rec) → (mark_of r ≡ mark "Ns" → ⊥) → (mark_of r ≡ mark "Ed" → mark_of (kid 0 (kids_of r)) ≡ mark "Ns" → ⊥) → (top : Bool) (d n : ℕ)
      → item_placed list ctx ty r top d n ≡ all_at d (transform_module_item list ctx ty r top n).1
  unfolding items_placed
  item-other (rec h ks) a b top d n = rw (ne_eqb _ _ a) (go (eqb h.mark (mark "Ed")) (eqb (mark_of (kid 0 ks)) (mark "Ns")) refl refl)
    where
      go : (x y : Bool) → eqb h.mark (mark "Ed") ≡ x → eqb (mark_of (kid 0 ks)) (mark "Ns") ≡ y
          → cond (x && y) (export_placed list ctx ty ks (suc d) n) (all_at d (transform_module_item list ctx ty (rec h ks) top n).1) ≡ all_at d (transform_module_item list ctx ty (rec h ks) top n).1
      go true true p q = absurd (b (eqb-true _ _ p) (eqb-true _ _ q))
      go true false p q = refl
      go false y p q = refl

  -- ---- in a body

  pub in_block : (b : Rec) → mark_of b ≡ mark "Nb" → (d n : ℕ) → body_placed list ctx ty b d n ≡ items_placed list ctx ty (kids_of b) false d n
  unfolding items_placed
  in_block (rec h ks) e d n = rw (eq-eqb _ _ e) refl

  pub in_block_counter : (b : Rec) → mark_of b ≡ mark "Nb" → (n : ℕ) → (transform_ts_ns_body list ctx ty b n).2 ≡ (transform_module_items list ctx ty (kids_of b) false n).2
  in_block_counter b e n = ap (λ (o : Out Rec). o.2) (block-becomes list ctx ty b n e)

  pub in_nested : (b : Rec) → mark_of b ≡ mark "Nd" → (d n : ℕ) → body_placed list ctx ty b d n ≡ body_placed list ctx ty (kid 1 (kids_of b)) d n
  unfolding items_placed
  in_nested (rec h ks) e d n = rw (ne_eqb h.mark (mark "Nb") (λ q. absurd (let z : mark "Nd" ≡ mark "Nb" = sym e ∙ q in omega arith)), eq-eqb _ _ e) (space-kid ks d n)

  pub in_nested_counter : (b : Rec) → mark_of b ≡ mark "Nd" → (n : ℕ) → (transform_ts_ns_body list ctx ty b n).2 ≡ (transform_ts_ns_body list ctx ty (kid 1 (kids_of b)) n).2
  in_nested_counter b e n = ap (λ (o : Out Rec). o.2) (nested-becomes list ctx ty b n e) ∙ space_kid_counter (kids_of b) n

  pub in_none : (b : Rec) → (mark_of b ≡ mark "Nb" → ⊥) → (mark_of b ≡ mark "Nd" → ⊥) → (d n : ℕ) → body_placed list ctx ty b d n ≡ []
  unfolding items_placed
  in_none (rec h ks) e f d n = rw (ne_eqb _ _ e, ne_eqb _ _ f) refl

  pub in_none_counter : (b : Rec) → (mark_of b ≡ mark "Nb" → ⊥) → (mark_of b ≡ mark "Nd" → ⊥) → (n : ℕ) → (transform_ts_ns_body list ctx ty b n).2 ≡ n
  in_none_counter b e f n = ap (λ (o : Out Rec). o.2) (other-becomes list ctx ty b n (ne_eqb _ _ e) (ne_eqb _ _ f))

-- ---- how deep

-- twice their depths are at most m
data Upto (m : ℕ) : List Placed → Type 0 where
  none : Upto m []
  more : {x : Placed} {xs : List Placed} → 2 * x.depth ≤ m → Upto m xs → Upto m (x ∷ xs)

upto_wider : {m k : ℕ} {xs : List Placed} → Upto m xs → m ≤ k → Upto k xs
upto_wider none h = none
upto_wider (more {x} u us) h = more {x = x} (omega arith) (upto_wider us h)

upto_append : {m : ℕ} {xs ys : List Placed} → Upto m xs → Upto m ys → Upto m (xs ++ ys)
upto_append none v = v
upto_append (more {x} u us) v = more {x = x} u (upto_append us v)

upto_all : {m : ℕ} (d : ℕ) (xs : List Diag) → 2 * d ≤ m → Upto m (all_at d xs)
unfolding all_at
upto_all d [] h = none
upto_all d (x ∷ xs) h = more {x = record { what = x; depth = d }} h (upto_all d xs h)

module _ (list : List ℕ) (ctx : ℕ) (ty : Typing) where
  mutual
    unfolding items_placed depth

    items_upto : (rs : Recs) (top : Bool) (d n : ℕ) → Upto (2 * d + depths rs) (items_placed list ctx ty rs top d n)
    items_upto nil top d n = none
    items_upto (cons r rs) top d n =
        upto_append (upto_wider (item_upto r top d n) (omega arith)) (upto_wider (items_upto rs top d (transform_module_item list ctx ty r top n).2) (omega arith))

    item_upto : (r : Rec) (top : Bool) (d n : ℕ) → Upto (2 * d + depth r) (item_placed list ctx ty r top d n)
    item_upto (rec h ks) top d n = go (eqb h.mark (mark "Ns")) (eqb h.mark (mark "Ed") && is "Ns" (kid 0 ks)) (space_upto ks (suc d) n) (export_upto ks d n)
      where
        go : (a b : Bool) → Upto (2 * suc d + depths ks - 1) (space_placed list ctx ty ks (suc d) n) → Upto (2 * d + depths ks) (export_placed list ctx ty ks (suc d) n)
            → Upto (2 * d + suc (depths ks))
            (cond a (space_placed list ctx ty ks (suc d) n) (cond b (export_placed list ctx ty ks (suc d) n) (all_at d (transform_module_item list ctx ty (rec h ks) top n).1)))
        go true b u v = upto_wider u (omega arith)
        go false true u v = upto_wider v (omega arith)
        go false false u v = upto_all d _ (omega arith)

    export_upto : (ks : Recs) (d n : ℕ) → Upto (2 * d + depths ks) (export_placed list ctx ty ks (suc d) n)
    export_upto nil d n = none
    export_upto (cons r ops) d n = upto_wider (exported_upto r d n) (omega arith)

    exported_upto : (r : Rec) (d n : ℕ) → Upto (2 * d + depth r) (exported_placed list ctx ty r (suc d) n)
    exported_upto (rec h ks) d n = upto_wider (space_upto ks (suc d) n) (omega arith)

    space_upto : (ks : Recs) (d n : ℕ) → Upto (2 * d + depths ks - 1) (space_placed list ctx ty ks d n)
    space_upto nil d n = none
    space_upto (cons name rs) d n = upto_wider (body_first_upto rs d n) (omega arith)

    body_first_upto : (ks : Recs) (d n : ℕ) → Upto (2 * d + depths ks - 1) (body_first_placed list ctx ty ks d n)
    body_first_upto nil d n = none
    body_first_upto (cons b ops) d n = upto_wider (body_upto b d n) (omega arith)

    body_upto : (b : Rec) (d n : ℕ) → Upto (2 * d + depth b - 1) (body_placed list ctx ty b d n)
    body_upto (rec h ks) d n = go (eqb h.mark (mark "Nb")) (eqb h.mark (mark "Nd")) (items_upto ks false d n) (space_upto ks d n)
      where
        go : (a b : Bool) → Upto (2 * d + depths ks) (items_placed list ctx ty ks false d n) → Upto (2 * d + depths ks - 1) (space_placed list ctx ty ks d n)
            → Upto (2 * d + suc (depths ks) - 1) (cond a (items_placed list ctx ty ks false d n) (cond b (space_placed list ctx ty ks d n) []))
        go true b u v = upto_wider u (omega arith)
        go false true u v = upto_wider v (omega arith)
        go false false u v = none

-- their depths have columns
abbrev pub Low : List Placed → Type 0
Low [] = Unit {0}
Low (x ∷ xs) = (x.depth < columns) × Low xs

upto_low : {xs : List Placed} → Upto 63 xs → Low xs
upto_low none = tt
upto_low (more u us) = (omega arith, upto_low us)

-- "no depth is over 31 in an accepted tree"
pub never_deeper : (tree list : List ℕ) (ctx e : ℕ) → Bytes tree → check_tree tree list ≡ fine e → Low (placed list ctx (tree_at deepest tree 0))
unfolding placed depth
never_deeper tree list ctx e b f =
    let r : Rec = tree_at deepest tree 0 in
    upto_low (upto_wider (items_upto list ctx (expr_to_ts_type (prescan_module_ids (kids_of r)) ctx) (kids_of r) true 0 0) (omega (arith, (read-accepted tree list e b f).depth, below r)))
  where
    below : (r : Rec) → depth r ≡ suc (depths (kids_of r))
    below (rec h ks) = refl

-- ---- the table

-- a count is that of the first and that of the others; so is the sum of a row, and the total
row_cons : (n m d : ℕ) (x : Placed) (xs : List Placed) → sum (row_of n m d (x ∷ xs)) ≡ sum (row_of n m d (x ∷ [])) + sum (row_of n m d xs)
unfolding sum row_of count_of
row_cons zero m d x xs = refl
row_cons (suc n) m d x xs = omega (arith, row_cons n m (suc d) x xs)

rows-cons : (ms : List ℕ) (x : Placed) (xs : List Placed) → total (rows_of ms (x ∷ xs)) ≡ total (rows_of ms (x ∷ [])) + total (rows_of ms xs)
unfolding total rows_of
rows-cons [] x xs = refl
rows-cons (m ∷ ms) x xs = omega (arith, row_cons columns m 0 x xs, rows-cons ms x xs)

rows_none : (ms : List ℕ) → total (rows_of ms []) ≡ 0
unfolding total rows_of sum row_of count_of
rows_none [] = refl
rows_none (m ∷ ms) = omega (arith, row-none columns m 0, rows_none ms)
  where
    row-none : (n m d : ℕ) → sum (row_of n m d []) ≡ 0
    row-none zero m d = refl
    row-none (suc n) m d = omega (arith, row-none n m (suc d))

-- one diagnostic is counted once
module _ (x : Placed) where
  -- in no row of another mark, and in no column behind its own
  row_other : (n m d : ℕ) → eqb x.what.mark m ≡ false → sum (row_of n m d (x ∷ [])) ≡ 0
  unfolding sum row_of count_of
  row_other zero m d e = refl
  row_other (suc n) m d e = rw e (omega (arith, row_other n m (suc d) e))

  row-behind : (n m d : ℕ) → x.depth < d → sum (row_of n m d (x ∷ [])) ≡ 0
  unfolding sum row_of count_of
  row-behind zero m d h = refl
  row-behind (suc n) m d h = rw (ne_eqb x.depth d (λ e. absurd (let f = e in omega arith))) (go (eqb x.what.mark m) (row-behind n m (suc d) (omega arith)))
    where
      go : (b : Bool) → sum (row_of n m (suc d) (x ∷ [])) ≡ 0 → cond (b && false) 1 0 + 0 + sum (row_of n m (suc d) (x ∷ [])) ≡ 0
      go true e = omega arith
      go false e = omega arith

  row-own : (n m d : ℕ) → eqb x.what.mark m ≡ true → d ≤ x.depth → x.depth < d + n → sum (row_of n m d (x ∷ [])) ≡ 1
  unfolding sum row_of count_of
  row-own zero m d e h k = absurd (omega arith)
  row-own (suc n) m d e h k = go (eqb x.depth d) refl (row-own n m (suc d) e)
    where
      go : (b : Bool) → eqb x.depth d ≡ b → (suc d ≤ x.depth → x.depth < suc d + n → sum (row_of n m (suc d) (x ∷ [])) ≡ 1)
          → cond (eqb x.what.mark m && eqb x.depth d) 1 0 + 0 + sum (row_of n m (suc d) (x ∷ [])) ≡ 1
      go true q f = rw (e, q) (omega (arith, row-behind n m (suc d) (omega (arith, eqb-true x.depth d q))))
      go false q f = rw (e, q) (omega (arith, f (let z = eqb-false x.depth d q in omega arith) (omega arith)))

  -- so often as its mark is one of those of the rows
  hits : List ℕ → ℕ
  hits [] = 0
  hits (m ∷ ms) = cond (eqb x.what.mark m) 1 0 + hits ms

  rows-hit : x.depth < columns → (ms : List ℕ) → total (rows_of ms (x ∷ [])) ≡ hits ms
  unfolding total rows_of hits
  rows-hit h [] = refl
  rows-hit h (m ∷ ms) = go (eqb x.what.mark m) refl (rows-hit h ms)
    where
      go : (b : Bool) → eqb x.what.mark m ≡ b → total (rows_of ms (x ∷ [])) ≡ hits ms → sum (row_of columns m 0 (x ∷ [])) + total (rows_of ms (x ∷ [])) ≡ cond b 1 0 + hits ms
      go true q f = omega (arith, f, row-own columns m 0 q (omega arith) (omega arith))
      go false q f = omega (arith, f, row_other columns m 0 q)

  -- the five marks are five
  one_hit : member x.what.mark diagnostic_marks ≡ true → hits diagnostic_marks ≡ 1
  unfolding hits member
  one_hit e =
      by_eq m (mark "d1") (λ q. rw q)
      (λ a. by_eq m (mark "d2") (λ q. rw q)
      (λ b. by_eq m (mark "d3") (λ q. rw q)
      (λ c. by_eq m (mark "d4") (λ q. rw q)
      (λ d. by_eq m (mark "d5") (λ q. rw q)
      (λ f. absurd (never (rw (ne_eqb _ _ a, ne_eqb _ _ b, ne_eqb _ _ c, ne_eqb _ _ d, ne_eqb _ _ f) at e)))))))
    where
      m : ℕ
      m = x.what.mark

table-total : (xs : List Placed) → Low xs → Kinds (what_of xs) → total (table_of xs) ≡ length xs
unfolding table_of what_of
table-total [] l k = rows_none diagnostic_marks
table-total (x ∷ xs) l k =
    omega (arith, rows-cons diagnostic_marks x xs, rows-hit x l.0 diagnostic_marks, one_hit x k.0, table-total xs l.1 k.1)

pub length-what : (xs : List Placed) → length (what_of xs) ≡ length xs
unfolding what_of
length-what [] = refl
length-what (x ∷ xs) = ap suc (length-what xs)

-- "the sum of the table is the number of diagnostics"
pub total-is : (tree list : List ℕ) (ctx e : ℕ) → Bytes tree → check_tree tree list ≡ fine e →
    total (table_of (placed list ctx (tree_at deepest tree 0))) ≡ length (transform list ctx (tree_at deepest tree 0)).1
total-is tree list ctx e b f =
    let r : Rec = tree_at deepest tree 0 in
    let w = without-depths list ctx r in
    table-total (placed list ctx r) (never_deeper tree list ctx e b f) (subst Kinds (sym w) (transform-kinds list ctx r)) ∙ (sym (length-what (placed list ctx r)) ∙ ap length w)
