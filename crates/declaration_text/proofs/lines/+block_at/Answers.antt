-- `block_at` meets its contract: an Ed leads to its first child, an Ns or an Nd to its second, each with a level less. The measure is the levels left.
use mathlib.Core.Path.{◌≡◌, ap, sym, ◌∙◌}
use mathlib.Core.Logic.{◌⊎◌, inl, inr, ⊎_elim}
use Prim.Native.Nat.{ℕ}
use Rattle.records.specs.declared.marks.Mark.{Mark}
use Rattle.records.specs.declared.marks.Mark.TheVariants.{Nb, Ed, Ns, Nd}
use Rattle.records.specs.Marks.{number_of}
use Rattle.records.proofs.SameMarks.{marked, not_marked}
use Rattle.declaration_text.proofs.Blocks.{block_here, block_none, first-none, first_found, second_none, second-found}
use Rattle.declaration_text.proofs.lines.+block_at.Goals as goal

-- the number of a mark that is one of two
numbered : {m a b : Mark} {n : ℕ} → number_of m ≡ n → (m ≡ a) ⊎ (m ≡ b) → (n ≡ number_of a) ⊎ (n ≡ number_of b)
numbered e k = ⊎_elim (λ q. inl (sym e ∙ ap number_of q)) (λ q. inr (sym e ∙ ap number_of q)) k

pub returns-in-Nb : goal.returns-in-Nb
returns-in-Nb t c = block_here _ (marked _ c.mark.ensures c.in-Nb.is)

pub returns-in_err-child_at-in-Ed : goal.returns-in_err-child_at-in-Ed
returns-in_err-child_at-in-Ed t c = rw c.from_residual.ensures (first-none _ (marked _ c.mark.ensures c.in-Ed.is) c.in_err-child_at-in-Ed.ensures)

pub returns-in_ok-child_at-in-Ed : goal.returns-in_ok-child_at-in-Ed
returns-in_ok-child_at-in-Ed t c = first_found _ (marked _ c.mark.ensures c.in-Ed.is) c.in_ok-child_at-in-Ed.ensures c.block_at.result c.block_at.ensures

pub returns-in_err-child_at-in-Ns : goal.returns-in_err-child_at-in-Ns
returns-in_err-child_at-in-Ns t c = rw c.from_residual-in_err-child_at-in-Ns.ensures (second_none _ (numbered c.mark.ensures c.in-Ns.is) c.in_err-child_at-in-Ns.ensures)

pub returns-in_ok-child_at-in-Ns : goal.returns-in_ok-child_at-in-Ns
returns-in_ok-child_at-in-Ns t c = second-found _ (numbered c.mark.ensures c.in-Ns.is) c.in_ok-child_at-in-Ns.ensures c.block_at-in-Ns.result c.block_at-in-Ns.ensures

pub returns-in_default : goal.returns-in_default
returns-in_default t c =
    block_none _ (not_marked _ c.mark.ensures Nb c.in_default.not-Nb) (not_marked _ c.mark.ensures Ed c.in_default.not-Ed)
    (not_marked _ c.mark.ensures Ns c.in_default.not-Ns) (not_marked _ c.mark.ensures Nd c.in_default.not-Nd)
