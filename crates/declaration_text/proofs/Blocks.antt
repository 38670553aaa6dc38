-- The lines of an item, by its mark and its children: the block that it opens, and items one after the other, as a loop writes them.
use mathlib.Core.Path.{◌≡◌, refl, sym, ap, ◌∙◌}
use mathlib.Core.List.{List, [], ◌∷◌, ◌++◌, append-nil, append_assoc}
use mathlib.Core.Bool.{true, false, cond, ◌||◌}
use mathlib.Core.Logic.{◌⊎◌, ⊎_elim}
use Prim.Native.Nat.{ℕ, suc, ◌+◌, ◌-◌, ◌≤◌, ◌<◌, ◌^◌}
use native.Mathlib.Omega.{arith}
use lib.ListN.{length}
use Rattle.std.specs.Prelude.{Option, Some, None}
use Rattle.definition.specs.Tree.{Rec, Recs, rec, nil, cons, count, count_at, body_at, read_all, end_at, end_of_all, tree_at}
use Rattle.definition.specs.Grammar.{mark}
use Rattle.definition.specs.Children.{AcceptedAt}
use Rattle.definition.specs.Record.{is, head_of, kids_of, mark_of}
use Rattle.definition.specs.Text.{Line, tokens, item_line, items_lines, block_lines, first_block, second_block, body_of}
use Rattle.definition.proofs.Children.{children, first_one, read_all_more}
use Rattle.records.specs.declared.tree.Record.{Record}
use Rattle.records.specs.declared.tree.Records.{Records}
use Rattle.records.specs.Views.{rec_of, recs_of, ChildrenOf, Step, ChildIs}
use Rattle.records.proofs.Accepted.{lies}
use Rattle.records.proofs.Records.{recs_none, recs_step}
use Rattle.records.proofs.Views.{accepted, count_here, kids_here}
use Rattle.text_tokens.specs.declared.State.{State}
use Rattle.declaration_text.specs.Lines.{WritesLines, closing, Opens, Found}
use Rattle.declaration_text.proofs.Children.{reach}
use Rattle.declaration_text.proofs.Parts.{body_here, first_ends}
use Rattle.declaration_text.proofs.LinesWritten.{lines_none, lines_then, lines-as, lines_same}

-- ---- the block in a record

-- by its mark, its children, and the place where they begin
block-is : (y : Rec) (d at : ℕ) → block_lines y d at
    ≡ cond (is "Nb" y) (items_lines (kids_of y) (suc d) (body_of at (head_of y)) ++ (closing d ∷ []))
    (cond (is "Ed" y) (first_block (kids_of y) d (body_of at (head_of y)))
    (cond (is "Ns" y || is "Nd" y) (second_block (kids_of y) d (body_of at (head_of y))) []))
unfolding block_lines
block-is (rec h ks) d at = refl

module _ (r : Record) where
  -- an Nb is the block itself
  pub block_here : mark_of (rec_of r) ≡ mark "Nb" → Found r (Some r)
  block_here m = record { tree = refl; lower = omega arith; lines = λ d. block-is (rec_of r) d r.at ∙ rw m }

  -- another record than an Ed, an Ns or an Nd opens none
  pub block_none : is "Nb" (rec_of r) ≡ false → is "Ed" (rec_of r) ≡ false → is "Ns" (rec_of r) ≡ false → is "Nd" (rec_of r) ≡ false → Found r None
  block_none e f g h = λ d. block-is (rec_of r) d r.at ∙ rw (e, f, g, h)

  -- what is found in a child is found in the record
  from-child : (x : Record) → x.tree ≡ r.tree → x.levels ≤ r.levels → ((d : ℕ) → block_lines (rec_of r) d r.at ≡ block_lines (rec_of x) d x.at) → (f : Option Record) → Found x f → Found r f
  from-child x t h e (Some b) f = record { tree = f.tree ∙ t; lower = omega (arith, f.lower, h); lines = λ d. e d ∙ f.lines d }
  from-child x t h e None f = λ d. e d ∙ f d

  -- an Ed leads to its first child
  module _ (m : mark_of (rec_of r) ≡ mark "Ed") where
    pub first-none : count (kids_of (rec_of r)) ≤ 0 → Found r None
    unfolding first_block
    first-none h = λ d. block-is (rec_of r) d r.at ∙ rw m (go (kids_of (rec_of r)) d h)
      where
        go : (ks : Recs) (d : ℕ) → count ks ≤ 0 → first_block ks d (body_of r.at (head_of (rec_of r))) ≡ []
        go nil d h = refl
        go (cons k ks) d h = absurd (omega arith)

    pub first_found : {x : Record} → ChildIs r 0 x → (f : Option Record) → Found x f → Found r f
    unfolding first_block rec_of end_of_all
    first_found {x} c f v =
        from-child x c.tree (omega (arith, c.levels))
        (λ d. block-is (rec_of r) d r.at ∙ rw (m, body_here r, kids_here r, read_all_more (tree_at (r.levels - 1) r.tree.now) (end_at (r.levels - 1) r.tree.now) (count_at r.tree.now r.at) (body_at r.tree.now r.at) (omega (arith, c.there, count_here r)), c.tree, c.place, c.levels))
        f v

  -- an Ns or an Nd leads to its second
  module _ (m : (mark_of (rec_of r) ≡ mark "Ns") ⊎ (mark_of (rec_of r) ≡ mark "Nd")) where
    second_is : (d : ℕ) → block_lines (rec_of r) d r.at ≡ second_block (kids_of (rec_of r)) d (body_of r.at (head_of (rec_of r)))
    second_is d = block-is (rec_of r) d r.at ∙ ⊎_elim (λ e. rw e) (λ e. rw e) m

    pub second_none : count (kids_of (rec_of r)) ≤ 1 → Found r None
    unfolding second_block first_block
    second_none h = λ d. second_is d ∙ go (kids_of (rec_of r)) d h
      where
        go : (ks : Recs) (d : ℕ) → count ks ≤ 1 → second_block ks d (body_of r.at (head_of (rec_of r))) ≡ []
        go nil d h = refl
        go (cons k nil) d h = refl
        go (cons k (cons l ks)) d h = absurd (omega arith)

    pub second-found : {x : Record} → ChildIs r 1 x → (f : Option Record) → Found x f → Found r f
    unfolding second_block first_block rec_of end_of_all
    second-found {x} c f v =
        let l : ℕ = r.levels - 1 in
        let s : List ℕ = r.tree.now in
        let n : ℕ = count_at s r.at in
        let b : ℕ = body_at s r.at in
        let e : ℕ = end_at l s b in
        let h : 1 < n = omega (arith, c.there, count_here r) in
        let k : AcceptedAt l s b = first_one l s n b (children r.levels s r.at (accepted r)) (omega arith) in
        let rest : Recs = read_all (tree_at l s) (end_at l s) (n - 1) e in
        from-child x c.tree (omega (arith, c.levels))
        (λ d. second_is d
        ∙ ap (λ (q : ℕ). second_block (kids_of (rec_of r)) d q) (body_here r)
        ∙ ap (λ (ks : Recs). second_block ks d b) (kids_here r ∙ read_all_more (tree_at l s) (end_at l s) n b (omega arith))
        ∙ ap (λ (q : ℕ). first_block rest d q) (reach l s b (lies k))
        ∙ ap (λ (ks : Recs). first_block ks d e) (read_all_more (tree_at l s) (end_at l s) (n - 1) e (omega arith))
        ∙ rw (c.tree, c.place, c.levels) refl)
        f v

-- ---- an item

module _ (r : Record) (d : ℕ) where
  abbrev line_of : Line
  line_of = record { spaces = d; tokens = tokens (rec_of r) false r.at }

  abbrev lines_of : List Line
  lines_of = item_line (rec_of r) d r.at (block_lines (rec_of r) d r.at)

  -- no item
  pub item_star : is "St" (rec_of r) ≡ true → [] ≡ lines_of
  item_star q = rw q

  pub item-op : is "St" (rec_of r) ≡ false → is "Op" (rec_of r) ≡ true → [] ≡ lines_of
  item-op n q = rw (n, q)

  module _ (n : is "St" (rec_of r) ≡ false) (m : is "Op" (rec_of r) ≡ false) {o o1 : List ℕ} {s s1 : State} (w : WritesLines o o1 s s1 (line_of ∷ [])) where
    item-is : line_of ∷ block_lines (rec_of r) d r.at ≡ lines_of
    item-is = rw (n, m)

    -- the line alone
    pub item_line_lem : Found r None → WritesLines o o1 s s1 lines_of
    item_line_lem f = lines-as w (ap (λ (ls : List Line). line_of ∷ ls) (sym (f d)) ∙ item-is)

    -- the line, the items of the block, and the line that closes it
    pub item-block : {b : Record} → Opens r b → {k : Records} → ChildrenOf b k → {d' : ℕ} → d' ≡ d + 1
        → length o < 2 ^ 64 → {o2 o3 : List ℕ} {s2 s3 : State} → WritesLines o1 o2 s1 s2 (items_lines (recs_of k) d' k.at)
        → WritesLines o2 o3 s2 s3 (closing d ∷ []) → WritesLines o o3 s s3 lines_of
    item-block {b} f {k} c {d'} i l {o2} {o3} {s2} {s3} v u =
        let z : d' ≡ suc d = omega arith in
        let x : List Line = items_lines (kids_of (rec_of b)) (suc d) (body_of b.at (head_of (rec_of b))) in
        let y : WritesLines o1 o2 s1 s2 x = rw (c.are, c.place, ← body_here b, z) at v in
        lines-as (lines_then l w (lines_then (omega (arith, lines_same w)) y u)) (ap (λ (ls : List Line). line_of ∷ ls) (sym (f.lines d)) ∙ item-is)

-- ---- items one after the other

-- those of k are left, and the lines of those before them are written
pub record Listing (d : ℕ) (whole : List Line) (o o' : List ℕ) (s s' : State) (top : ℕ) (k : Records) : Type 0 where
  pub done : List Line
  pub wrote : WritesLines o o' s s' done
  pub left : whole ≡ done ++ items_lines (recs_of k) d k.at
  pub levels : k.levels ≡ top

pub listing_start : (d : ℕ) (k : Records) (o : List ℕ) (s : State) → s.written < 2 ^ 64 → Listing d (items_lines (recs_of k) d k.at) o o s s k.levels k
listing_start d k o s h = record { done = []; wrote = lines_none o s h; left = refl; levels = refl }

module _ {d : ℕ} {whole : List Line} {o o' : List ℕ} {s s' : State} {top : ℕ} {k : Records} (l : Listing d whole o o' s s' top k) where
  pub listing-turn : length o < 2 ^ 64 → {x : Record} {rest : Records} → Step k (Some x) rest → {o'' : List ℕ} {s'' : State}
      → WritesLines o' o'' s' s'' (item_line (rec_of x) d x.at (block_lines (rec_of x) d x.at)) → Listing d whole o o'' s s'' top rest
  unfolding items_lines
  listing-turn b {x} {rest} t w =
      let y : List Line = item_line (rec_of x) d x.at (block_lines (rec_of x) d x.at) in
      let e : items_lines (recs_of k) d k.at ≡ y ++ items_lines (recs_of rest) d rest.at =
      rw (recs_step t.0 t.1 t.2, first_ends t.0 t.1 t.2, ← t.1.place) in
      record {
        done = l.done ++ y;
        wrote = lines_then b l.wrote w;
        left = l.left ∙ (ap (λ (ls : List Line). l.done ++ ls) e ∙ sym (append_assoc l.done y (items_lines (recs_of rest) d rest.at)));
        levels = t.2.levels ∙ l.levels;
      }

  pub listing-done : {rest : Records} → Step k None rest → WritesLines o o' s s' whole
  unfolding items_lines
  listing-done t =
      lines-as l.wrote (sym (l.left ∙ (ap (λ (ks : Recs). l.done ++ items_lines ks d k.at) (recs_none k t.0) ∙ append-nil l.done)))
