-- The records of an accepted tree, as the code meets them: by their offset and the levels that are left.
use Rattle.std.specs.Prelude.{ℕ, ◌-◌, ◌≡◌, List, [], ◌∷◌, Bool, true, false}
use Rattle.definition.specs.Tree.{body_at, end_of_all, end_at}
use Rattle.definition.specs.Grammar.{Part, many}
use Rattle.definition.specs.Check.{Checked, Checked.fine, Checked.refused, check_all, check_at}

-- the record at `at` was accepted at its slots, with `levels` levels left
pub record AcceptedAt (levels : ℕ) (s : List ℕ) (at : ℕ) : Type 0 where
  pub slots : List Part
  pub past : ℕ
  pub checked : check_at levels s at slots ≡ fine past

-- n records that stand one after the other from `at` on were accepted, with `levels` levels left for each
pub record AllAccepted (levels : ℕ) (s : List ℕ) (n at : ℕ) : Type 0 where
  pub slots : List Part
  pub past : ℕ
  pub checked : check_all (check_at levels s) s n at slots ≡ fine past

-- where the child with the number i begins, of the record at `at` with `levels` levels left
abbrev pub child_at : ℕ → List ℕ → ℕ → ℕ → ℕ
child_at levels s at i = end_of_all (end_at (levels - 1) s) i (body_at s at)

-- ---- the same as facts that have one proof at most, which a struct can hold

-- the slots at which records of every mark may stand, in any number: a record that is accepted at some slots is accepted here
-- (`is_accepted` of proofs/Anywhere.antt)
-- printed by tools/grammar-tables: anywhere

unfoldable pub anywhere : List Part
anywhere = many "Mo Op No Im St Ed Xd Xe Fd Cd Vd Us En Ns In Ty Vr Em Nb Nd Fu Pa Pp Cl Co Me Cp Dm Ix Ps Om Pb Po Bd Ag Rs Pe Pi Ki Kc Ss Nu Bi Bl Nl Re Jt Id Ar Ob Fx Cx Aw Te Mi Ca Ne Mb Bn Oc Tc Nn Pr As Ts Ta Oe Sp Kv Sh Pq Qu Tm Kw Tl Rf Tf Li Ay Tu Rt Ro Ft Ct Ot" ∷ []

-- end of what is printed

unfoldable pub is_fine : Checked → Bool
is_fine (fine e) = true
is_fine (refused n p) = false

-- the record at `at` is accepted, with `levels` levels left
abbrev pub IsAcceptedAt : ℕ → List ℕ → ℕ → Type 0
IsAcceptedAt levels s at = is_fine (check_at levels s at anywhere) ≡ true

-- so are the n records that stand one after the other from `at` on
abbrev pub AreAcceptedAt : ℕ → List ℕ → ℕ → ℕ → Type 0
AreAcceptedAt levels s n at = is_fine (check_all (check_at levels s) s n at anywhere) ≡ true
