-- What the programs print of bytes, of a refusal and of an answer.
use Rattle.std.specs.Prelude.{ℕ, ◌/◌, ◌%◌, false, List, [], ◌∷◌, ◌++◌, Option, Some, Result, Ok, Err, codes, decimal}
use Rattle.std.specs.Fmt.{digit_glyph}
use Rattle.grammar.specs.Answers.{number}
use Rattle.grammar.specs.declared.Refused.{Refused}

-- a refusal's line: its number and its place
abbrev pub refusal_text : Refused → List ℕ
refusal_text r = codes "refused " ++ (decimal (number r.refusal) ++ (codes " at " ++ decimal r.place))

-- an answer's: what is given, as it is shown, or the refusal
abbrev pub answer_text : {T : Type 0} → (T → Option (List ℕ)) → Result T Refused → Option (List ℕ)
answer_text shown (Ok x) = shown x
answer_text shown (Err r) = Some (refusal_text r)

-- two digits for a byte
abbrev pub two_digits : ℕ → List ℕ
two_digits b = digit_glyph false (b / 16) ∷ digit_glyph false (b % 16) ∷ []
