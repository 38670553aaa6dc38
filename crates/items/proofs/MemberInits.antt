-- The members of an En, as records.
use mathlib.Core.Path.{◌≡◌, ap, ◌∙◌}
use mathlib.Core.Bool.{true, false}
use Prim.Native.Nat.{ℕ, ◌≤◌}
use Rattle.definition.specs.Tree.{Rec, Recs, cons, count}
use Rattle.definition.specs.Grammar.{mark}
use Rattle.definition.specs.Record.{kids_of, mark_of, is, Out, second, each}
use Rattle.definition.specs.Enums.{enum_init, enum_member}
use Rattle.records.specs.declared.tree.Record.{Record}
use Rattle.records.specs.Views.{rec_of}
use Rattle.records.proofs.Records.{enough}
use Rattle.output.proofs.Each.{each_anywhere}
use Rattle.items.proofs.Inits.{member-silent}

-- an Em has a name and an init
pub em_two : (r : Record) → mark_of (rec_of r) ≡ mark "Em" → 2 ≤ count (kids_of (rec_of r))
em_two r e = enough r e

module _ (r : Rec) (n : ℕ) where
  pub em_other : is "Em" r ≡ false → r ≡ (enum_member r n).0
  unfolding enum_member
  em_other e = rw e

  pub em_is : is "Em" r ≡ true → (second enum_init r n).0 ≡ (enum_member r n).0
  unfolding enum_member
  em_is e = rw e

-- what they become
abbrev pub each_member : ℕ → Recs → Recs
each_member n ks = (each (λ i. enum_member) 0 ks n).0

-- the first of them, behind the counter m
pub first_member : {m n : ℕ} → m ≡ n → (r : Rec) (rs : Recs) → each_member n (cons r rs) ≡ cons (enum_member r m).0 (each_member n rs)
unfolding each
first_member {n = n} e r rs =
    rw e
    (ap (λ (m : ℕ). cons (enum_member r n).0 (each (λ i. enum_member) 1 rs m).0) (ap (λ (o : Out Rec). o.2) (member-silent r n))
    ∙ ap (λ (o : Out Recs). cons (enum_member r n).0 o.0) (each_anywhere enum_member 1 0 rs n))
