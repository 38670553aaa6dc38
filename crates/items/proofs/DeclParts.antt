-- Declarations with other flags, and functions without their body, as records: what is written, as the definition has it.
use mathlib.Core.Path.{◌≡◌, refl, sym, ap, ◌∙◌}
use mathlib.Core.Bool.{Bool, true, false}
use mathlib.Core.Logic.{◌⊎◌, ⊎_elim}
use Prim.Native.Nat.{ℕ, suc, ◌≤◌}
use native.Mathlib.Omega.{arith}
use Rattle.definition.specs.Tree.{Rec, Recs, rec, cons, count}
use Rattle.definition.specs.Grammar.{mark, marks, grammar, known, slots, place}
use Rattle.definition.specs.Record.{head_of, kids_of, mark_of, kid, with_flags, with_flag, without_flag, flag1, gone, Out, pure, wrap, each}
use Rattle.definition.specs.Enums.{enum_member}
use Rattle.definition.specs.Items.{declarator, body_part, without_body}
use Rattle.definition.proofs.Kids.{fixed, member-one}
use Rattle.records.specs.declared.tree.Record.{Record}
use Rattle.records.specs.declared.tree.Records.{Records}
use Rattle.records.specs.Views.{rec_of, recs_of}
use Rattle.records.proofs.Records.{enough, kid_marks}
use Rattle.prescan.specs.declared.module_names.Scope.{Scope}
use Rattle.output.specs.declared.Output.{Output}
use Rattle.output.specs.Outputs.{Keeps, KeepsAll, Makes, MakesAll}
use Rattle.output.specs.Kids.{Begun, Kept}
use Rattle.output.proofs.Steps.{keeps-as}
use Rattle.output.proofs.Kept.{keeps_more, keeps_front, kids_counted}
use Rattle.output.proofs.Framing.{makes-as, keeps-counter, done_framed, kids-one}
use Rattle.output.proofs.Each.{each-behind, each_pure, each-count}
use Rattle.records.proofs.Records.{recs_step}
use Rattle.typing.specs.Values.{typing_in}
use Rattle.items.specs.InScope.{declarators_in, members_of}

-- ---- "get declare at module level and lose it inside Nb"

pub flag_set : (b : Bool) (f : ℕ) → b ≡ true → with_flag 1 f ≡ flag1 b f
flag_set b f e = rw e

pub flag_cleared : (b : Bool) (f : ℕ) → b ≡ false → without_flag 1 f ≡ flag1 b f
flag_cleared b f e = rw e

-- ---- the children that the grammar asks for

module _ (r : Record) where
  pub class_two : (mark_of (rec_of r) ≡ mark "Cd") ⊎ (mark_of (rec_of r) ≡ mark "Cx") → 2 ≤ count (kids_of (rec_of r))
  class_two = ⊎_elim (λ e. enough r e) (λ e. enough r e)

  pub class_is : (mark_of (rec_of r) ≡ mark "Cd") ⊎ (mark_of (rec_of r) ≡ mark "Cx") → mark_of (kid 1 (kids_of (rec_of r))) ≡ mark "Cl"
  unfolding grammar known slots place fixed marks
  class_is = ⊎_elim (λ e. member-one _ _ (kid_marks r e refl 1 "Cl" refl)) (λ e. member-one _ _ (kid_marks r e refl 1 "Cl" refl))

  pub fd_two : mark_of (rec_of r) ≡ mark "Fd" → 2 ≤ count (kids_of (rec_of r))
  fd_two e = enough r e

  pub fd_is : mark_of (rec_of r) ≡ mark "Fd" → mark_of (kid 1 (kids_of (rec_of r))) ≡ mark "Fu"
  unfolding grammar known slots place fixed marks
  fd_is e = member-one _ _ (kid_marks r e refl 1 "Fu" refl)

  pub fx_two : mark_of (rec_of r) ≡ mark "Fx" → 2 ≤ count (kids_of (rec_of r))
  fx_two e = enough r e

  pub fx_is : mark_of (rec_of r) ≡ mark "Fx" → mark_of (kid 1 (kids_of (rec_of r))) ≡ mark "Fu"
  unfolding grammar known slots place fixed marks
  fx_is e = member-one _ _ (kid_marks r e refl 1 "Fu" refl)

  pub fu_three : mark_of (rec_of r) ≡ mark "Fu" → 3 ≤ count (kids_of (rec_of r))
  fu_three e = enough r e

-- ---- a step on every child of a declaration

module _ {a b : Output} {r : Record} {flags : ℕ} {k : Records} (g : Begun a b r (with_flags (head_of (rec_of r)) flags) k) where
  module _ (F : Rec → ℕ → Out Rec) where
    each_many : count (each (λ i. F) 0 (recs_of k) b.names.id_counter).0 ≡ k.count
    each_many = each-count (λ i. F) 0 (recs_of k) b.names.id_counter ∙ kids_counted g.kids

    each_is : wrap (with_flags (head_of (rec_of r)) flags) (each (λ i. F) 0 (recs_of k) b.names.id_counter) ≡ wrap (with_flags (head_of (rec_of r)) flags) (each (λ i. F) 0 (kids_of (rec_of r)) a.names.id_counter)
    each_is =
        ap (λ (n : ℕ). wrap (with_flags (head_of (rec_of r)) flags) (each (λ i. F) 0 (recs_of k) n)) (keeps-counter g.front)
        ∙ ap (λ (ks : Recs). wrap (with_flags (head_of (rec_of r)) flags) (each (λ i. F) 0 ks a.names.id_counter)) g.kids.are

  pub members_kept : {c : Output} → KeepsAll b c (each (λ i. enum_member) 0 (recs_of k) b.names.id_counter).0 → Keeps a c (members_of flags (rec_of r) a.names.id_counter).0
  members_kept w = keeps-as (keeps_front g (each (λ i. enum_member) 0 (recs_of k) b.names.id_counter).0 (each_many enum_member) w) (ap (λ (y : Out Rec). y.0) (each_is enum_member))

  pub vars_made : (scope : Scope) {c : Output} → MakesAll b c (each (λ i. declarator (typing_in scope)) 0 (recs_of k) b.names.id_counter) → Makes a c (declarators_in scope flags (rec_of r) a.names.id_counter)
  vars_made scope w = makes-as (done_framed g (record { made = w; many = sym (each_many (declarator (typing_in scope))) })) (each_is (declarator (typing_in scope)))

-- ---- the body of a function goes

module _ {a b c d e f : Output} {r : Record} {k k1 k2 k3 : Records} (g : Begun a b r (head_of (rec_of r)) k) where
  pub body_kept : 3 ≤ count (kids_of (rec_of r)) → Kept b c k k1 (λ r. r) → Kept c d k1 k2 (λ r. r) → Kept d e k2 k3 gone → KeepsAll e f (recs_of k3) → Keeps a f (without_body (rec_of r) a.names.id_counter).0
  unfolding without_body each
  body_kept m u v w z =
      let h = head_of (rec_of r) in
      let n : ℕ = a.names.id_counter in
      let ks : kids_of (rec_of r) ≡ cons (rec_of u.first) (cons (rec_of v.first) (cons (rec_of w.first) (recs_of k3))) =
      kids-one g (omega (arith, m, g.kids.many)) u.is u.rest
      ∙ (ap (cons (rec_of u.first)) (recs_step (omega (arith, m, g.kids.many, u.rest.many)) v.is v.rest)
      ∙ ap (λ (ks : Recs). cons (rec_of u.first) (cons (rec_of v.first) ks)) (recs_step (omega (arith, m, g.kids.many, u.rest.many, v.rest.many)) w.is w.rest)) in
      keeps-as
      (keeps_front g (cons (rec_of u.first) (cons (rec_of v.first) (cons (gone (rec_of w.first)) (recs_of k3)))) (ap count (sym ks) ∙ sym g.kids.many)
      (keeps_more _ _ u.put (keeps_more _ _ v.put (keeps_more _ _ w.put z))))
      (ap (λ (ks : Recs). rec h (cons (rec_of u.first) (cons (rec_of v.first) (cons (gone (rec_of w.first)) ks))))
      (ap (λ (o : Out Recs). o.0) (sym (each-behind pure body_part (λ i. suc (suc (suc i))) (λ i. refl) (λ i r n. refl) 0 0 (recs_of k3) n ∙ each_pure 0 (recs_of k3) n)))
      ∙ ap (λ (ks : Recs). rec h (each body_part 0 ks n).0) (sym ks))
