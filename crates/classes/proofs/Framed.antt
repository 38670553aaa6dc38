-- Laws of a record whose front was written and of which the first child, or the second, is made by a step, with others kept or changed around it.
use mathlib.Core.Path.{◌≡◌, refl, sym, ap, ◌∙◌}
use Prim.Native.Nat.{ℕ, zero, suc, ◌<◌}
use Rattle.definition.specs.Tree.{Head, Rec, Recs, rec, nil, cons, count}
use Rattle.definition.specs.Record.{head_of, kids_of, kid, set_kid, Out, pure, on_value, wrap, at_kid}
use Rattle.records.specs.declared.tree.Record.{Record}
use Rattle.records.specs.declared.tree.Records.{Records}
use Rattle.records.specs.Views.{rec_of, recs_of, FirstOf, RestOf, From}
use Rattle.records.proofs.Records.{recs_step}
use Rattle.output.specs.declared.Output.{Output}
use Rattle.output.specs.Outputs.{Keeps, KeepsAll, Makes}
use Rattle.output.specs.Kids.{Begun}
use Rattle.output.proofs.Kept.{keeps_more}
use Rattle.output.proofs.Framing.{makes-as, keeps-counter, all_rest, all_before, makes_front, kids-one}

-- x is the first of k, and l are those behind it
abbrev pub Split : Records → Record → Records → Type 0
Split k x l = (0 < k.count) × FirstOf k x × RestOf k l

-- a step that gives the child that stands there changes nothing
same_set : (i : ℕ) (ks : Recs) → set_kid i (kid i ks) ks ≡ ks
same_set i nil = refl
same_set zero (cons k ks) = refl
same_set (suc i) (cons k ks) = ap (cons k) (same_set i ks)

same_rec : (r : Rec) → rec (head_of r) (kids_of r) ≡ r
same_rec (rec h ks) = refl

pub kid_kept : (x : Rec → ℕ → Out Rec) (r : Rec) (i n : ℕ) → x (kid i (kids_of r)) n ≡ pure (kid i (kids_of r)) n → pure r n ≡ wrap (head_of r) (at_kid i x (kids_of r) n)
kid_kept x r i n e =
    sym (ap (λ (o : Out Rec). wrap (head_of r) (on_value (λ v. set_kid i v (kids_of r)) o)) e
    ∙ (ap (λ (ks : Recs). pure (rec (head_of r) ks) n) (same_set i (kids_of r)) ∙ ap (λ (t : Rec). pure t n) (same_rec r)))

module _ {a b : Output} {r : Record} {h : Head} {k : Records} (g : Begun a b r h k) {f : Record} {l : Records} (p : Split k f l) where
  pub first_kid : kids_of (rec_of r) ≡ cons (rec_of f) (recs_of l)
  first_kid = kids-one g p.0 p.1 p.2

  -- the first by a step
  pub framed_one : (x : ℕ → Out Rec) {c d : Output} → Makes b c (x b.names.id_counter) → KeepsAll c d (recs_of l) → Makes a d (wrap h (on_value (λ v. cons v (recs_of l)) (x a.names.id_counter)))
  framed_one x v w =
      makes-as (makes_front h g.front (g.kids.many ∙ ap count first_kid) g.short (all_rest (recs_of l) v w))
      (ap (λ (n : ℕ). wrap h (on_value (λ v. cons v (recs_of l)) (x n))) (keeps-counter g.front))

  module _ {f1 : Record} {l1 : Records} (p1 : Split l f1 l1) where
    pub two_kids : kids_of (rec_of r) ≡ cons (rec_of f) (cons (rec_of f1) (recs_of l1))
    two_kids = first_kid ∙ ap (cons (rec_of f)) (recs_step p1.0 p1.1 p1.2)

    -- t stands for the first, the second by a step
    pub framed_two : (t : Rec) (x : ℕ → Out Rec) {c d e : Output} → Keeps b c t → Makes c d (x c.names.id_counter) → KeepsAll d e (recs_of l1)
        → Makes a e (wrap h (on_value (λ v. cons t (cons v (recs_of l1))) (x a.names.id_counter)))
    framed_two t x u v w =
        makes-as (makes_front h g.front (g.kids.many ∙ ap count two_kids) g.short (all_before t u (all_rest (recs_of l1) v w)))
        (ap (λ (n : ℕ). wrap h (on_value (λ v. cons t (cons v (recs_of l1))) (x n))) (keeps-counter u ∙ keeps-counter g.front))

    module _ {f2 : Record} {l2 : Records} (p2 : Split l1 f2 l2) where
      pub three_kids : kids_of (rec_of r) ≡ cons (rec_of f) (cons (rec_of f1) (cons (rec_of f2) (recs_of l2)))
      three_kids = two_kids ∙ ap (λ (ks : Recs). cons (rec_of f) (cons (rec_of f1) ks)) (recs_step p2.0 p2.1 p2.2)

      -- and s for the third
      pub framed_three : (t : Rec) (x : ℕ → Out Rec) (s : Rec) {c d e z : Output} → Keeps b c t → Makes c d (x c.names.id_counter) → Keeps d e s → KeepsAll e z (recs_of l2)
          → Makes a z (wrap h (on_value (λ v. cons t (cons v (cons s (recs_of l2)))) (x a.names.id_counter)))
      framed_three t x s u v w y =
          makes-as (makes_front h g.front (g.kids.many ∙ ap count three_kids) g.short (all_before t u (all_rest (cons s (recs_of l2)) v (keeps_more s (recs_of l2) w y))))
          (ap (λ (n : ℕ). wrap h (on_value (λ v. cons t (cons v (cons s (recs_of l2)))) (x n))) (keeps-counter u ∙ keeps-counter g.front))

-- the first of those that stand at the same place
pub first_too : {r : Record} {i : ℕ} {k m : Records} {x : Record} → From r i k → From r i m → FirstOf k x → FirstOf m x
first_too a b f = record { tree = f.tree ∙ (a.tree ∙ sym b.tree); place = f.place ∙ (a.place ∙ sym b.place); levels = f.levels ∙ (a.levels ∙ sym b.levels) }

-- what stands there is the same
pub same_first : {k : Records} {x y : Record} → FirstOf k x → FirstOf k y → rec_of x ≡ rec_of y
unfolding rec_of
same_first f g = rw (f.tree, f.place, f.levels, g.tree, g.place, g.levels) refl
