-- A walk over records that stand one after the other: what is asked of all of them, by those that are left.
use mathlib.Core.Path.{◌≡◌, refl, sym, ap, ◌∙◌}
use mathlib.Core.List.{List}
use mathlib.Core.Bool.{Bool, true, false, not, ◌&&◌}
use Prim.Native.Nat.{ℕ, ◌-◌, ◌≤◌, ◌<◌}
use borrow.Author.Tests.{not-true, not-false}
use Rattle.definition.specs.Tree.{Rec, Recs, nil, cons, count_at, body_at, read_all, end_at, tree_at}
use Rattle.definition.specs.Children.{AcceptedAt, AllAccepted}
use Rattle.definition.specs.Record.{kids_of}
use Rattle.definition.proofs.Children.{children, first_one, others, read_all_more, read_all_none}
use Rattle.definition.proofs.Kids.{kids_are}

-- n are left from c on, and `whole` is F of them
pub record Left {A : Type 0} (F : Recs → A) (whole : A) (levels : ℕ) (s : List ℕ) (n c : ℕ) : Type 0 where
  pub kids : AllAccepted levels s n c
  pub same : whole ≡ F (read_all (tree_at levels s) (end_at levels s) n c)

-- over the children of a record
pub left-kids : {A : Type 0} (F : Recs → A) {levels : ℕ} {s : List ℕ} {at : ℕ} → AcceptedAt levels s at → {n c : ℕ} → n ≡ count_at s at → c ≡ body_at s at
    → Left F (F (kids_of (tree_at levels s at))) (levels - 1) s n c
left-kids F {levels} {s} {at} a e f = rw (e, f) (record { kids = children levels s at a; same = ap F (kids_are levels s at a) })

module _ {A : Type 0} {F : Recs → A} {whole : A} {levels : ℕ} {s : List ℕ} {n c : ℕ} (l : Left F whole levels s n c) where
  pub left-first : 0 < n → AcceptedAt levels s c
  left-first h = first_one levels s n c l.kids h

  -- one step, which makes G of F
  pub left-turn : 0 < n → (G : Recs → A) → ((rs : Recs) → F (cons (tree_at levels s c) rs) ≡ G rs) → {d : ℕ} → d ≡ end_at levels s c → Left G whole levels s (n - 1) d
  left-turn h G step e = rw e (record {
    kids = others levels s n c l.kids h;
    same = l.same ∙ (ap F (read_all_more (tree_at levels s) (end_at levels s) n c h) ∙ step (read_all (tree_at levels s) (end_at levels s) (n - 1) (end_at levels s c)));
  })

  pub left-done : n ≤ 0 → whole ≡ F nil
  left-done h = l.same ∙ ap F (read_all_none (tree_at levels s) (end_at levels s) n c h)

-- whether P holds of all of them: b is what it says of the first
module _ (P : Rec → Bool) {F : Recs → Bool} (step : (r : Rec) (rs : Recs) → F (cons r rs) ≡ (P r && F rs))
    {whole : Bool} {levels : ℕ} {s : List ℕ} {n c : ℕ} (l : Left F whole levels s n c) (h : 0 < n) {b : Bool} (e : b ≡ P (tree_at levels s c)) where
  pub all-turn : not b ≡ false → {d : ℕ} → d ≡ end_at levels s c → Left F whole levels s (n - 1) d
  all-turn q f = left-turn l h F (λ rs. step (tree_at levels s c) rs ∙ ap (λ (b : Bool). b && F rs) (sym e ∙ not-false b q)) f

  pub all-stop : not b ≡ true → false ≡ whole
  all-stop q = sym (left-turn l h (λ _. false) (λ rs. step (tree_at levels s c) rs ∙ ap (λ (b : Bool). b && F rs) (sym e ∙ not-true b q)) refl).same
