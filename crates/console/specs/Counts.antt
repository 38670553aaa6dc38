-- What a read promises of the number of bytes that it put at the start of a buffer.
use Rattle.std.specs.Prelude.{◌≡◌, ℕ, ◌≤◌, List, length, take, Result, Ok, Err}
use Rattle.console.specs.declared.Unfit.{Unfit}

-- the buffer has so many bytes; the second part follows from the first
abbrev pub IsPrefixLen : ℕ → List ℕ → Type 0
IsPrefixLen n xs = (n ≤ length xs) × (n ≡ length (take n xs))

-- how many bytes a read put there, whether they are what was asked for or not
abbrev pub length_read : Result ℕ Unfit → ℕ
length_read (Ok n) = n
length_read (Err unfit) = unfit.length
