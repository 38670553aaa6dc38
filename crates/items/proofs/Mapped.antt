-- Records that are written one after the other, each changed by a step that leaves no diagnostic and makes no name.
use mathlib.Core.Path.{◌≡◌, refl, sym, ap, ◌∙◌, subst}
use mathlib.Core.List.{List, [], ◌++◌}
use mathlib.Core.Bool.{Bool, ◌&&◌}
use Prim.Native.Nat.{ℕ, suc, ◌<◌}
use Rattle.definition.specs.Tree.{Rec, Recs, nil, cons, encodes}
use Rattle.definition.specs.Record.{one, join, Diag, Out, pure, each}
use Rattle.definition.specs.Transform.{all_texts_fit}
use Rattle.records.specs.declared.tree.Record.{Record}
use Rattle.records.specs.declared.tree.Records.{Records}
use Rattle.records.specs.Views.{rec_of, recs_of, FirstOf, RestOf}
use Rattle.records.proofs.Records.{recs_none, recs_step}
use Rattle.output.specs.declared.Output.{Output}
use Rattle.output.specs.Outputs.{Keeps, KeepsAll}
use Rattle.output.proofs.Steps.{puts_then, puts-as}
use Rattle.output.proofs.Recs.{join-nil, join_assoc, encodes-join, encodes_one, fits-join, fits_one}
use Rattle.output.proofs.Kept.{puts_none}

-- the records k are left; F says what all of them become, and of all before them `made` was written
pub record Mapping (F : Recs → Recs) (whole : Recs) (o o' : Output) (k : Records) : Type 0 where
  pub made : Recs
  pub left : join made (F (recs_of k)) ≡ whole
  pub put : KeepsAll o o' made

module _ (F : Recs → Recs) where
  pub mapping_start : (o : Output) (k : Records) → Mapping F (F (recs_of k)) o o k
  unfolding encodes all_texts_fit
  mapping_start o k = record { made = nil; left = refl; put = puts_none o }

  module _ {whole : Recs} {o o' : Output} {k : Records} (i : Mapping F whole o o' k) where
    pub mapping_turn : {x : Record} {l : Records} {o'' : Output} {y : Rec} → (0 < k.count) × FirstOf k x × RestOf k l → F (cons (rec_of x) (recs_of l)) ≡ cons y (F (recs_of l)) → Keeps o' o'' y → Mapping F whole o o'' l
    mapping_turn {x} {l} {y = y} n e w = record {
      made = join i.made (one y);
      left = join_assoc i.made (one y) (F (recs_of l)) ∙ (ap (join i.made) (sym e) ∙ (ap (λ (ks : Recs). join i.made (F ks)) (sym (recs_step n.0 n.1 n.2)) ∙ i.left));
      put = puts-as (puts_then i.put w)
          (ap (λ (E : List ℕ). encodes i.made ++ E) (sym (encodes_one y)) ∙ sym (encodes-join i.made (one y)))
          (ap (λ (f : Bool). all_texts_fit i.made && f) (sym (fits_one y)) ∙ sym (fits-join i.made (one y)));
    }

    pub mapping_done : k.count ≡ 0 → F nil ≡ nil → KeepsAll o o' whole
    mapping_done h e =
        subst (λ (ts : Recs). KeepsAll o o' ts) (sym (join-nil i.made) ∙ (ap (join i.made) (sym e) ∙ (ap (λ (ks : Recs). join i.made (F ks)) (sym (recs_none k h)) ∙ i.left))) i.put

-- ---- steps that leave no diagnostic, and the counter as it is

pub each_silent : (f : ℕ → Rec → ℕ → Out Rec) → ((i : ℕ) (r : Rec) (n : ℕ) → f i r n ≡ pure (f i r n).0 n) → (i : ℕ) (ks : Recs) (n : ℕ) → each f i ks n ≡ pure (each f i ks n).0 n
unfolding each
each_silent f p i nil n = refl
each_silent f p i (cons r rs) n =
    let q : (f i r n).2 ≡ n = ap (λ (o : Out Rec). o.2) (p i r n) in
    let d : (f i r n).1 ≡ [] = ap (λ (o : Out Rec). o.1) (p i r n) in
    let z : each f (suc i) rs n ≡ pure (each f (suc i) rs n).0 n = each_silent f p (suc i) rs n in
    λ j. (
      cons (f i r n).0 (each f (suc i) rs (f i r n).2).0,
      (ap (λ (ds : List Diag). ds ++ (each f (suc i) rs (f i r n).2).1) d ∙ (ap (λ (m : ℕ). (each f (suc i) rs m).1) q ∙ ap (λ (o : Out Recs). o.1) z)) j,
      (ap (λ (m : ℕ). (each f (suc i) rs m).2) q ∙ ap (λ (o : Out Recs). o.2) z) j,
    )
