-- What the C functions return and the two numbers of their `answer`, in the terms of document 01.
use Rattle.std.specs.Prelude.{ℕ, List, [], ◌∷◌}
use Rattle.definition.specs.Check.{Checked, fine, refused as rejected}
use Rattle.definition.specs.Transform.{Answer, done, refused}

-- `dts_check`: 0 with (the tree's length, 0), or the refusal's number with (place, 0)
abbrev pub check_code : Checked → ℕ
check_code (fine e) = 0
check_code (rejected n p) = n

abbrev pub check_pair : Checked → List ℕ
check_pair (fine e) = e ∷ 0 ∷ []
check_pair (rejected n p) = p ∷ 0 ∷ []

-- the transform: 0 with (bytes written, diagnostics), or the refusal's number with (place, 0)
abbrev pub code_of : Answer → ℕ
code_of (done n k) = 0
code_of (refused n p) = n

abbrev pub pair_of : Answer → List ℕ
pair_of (done n k) = n ∷ k ∷ []
pair_of (refused n p) = p ∷ 0 ∷ []
