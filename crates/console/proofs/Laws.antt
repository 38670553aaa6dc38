-- What is printed of bytes, byte by byte; and what an accepted tree is.
use mathlib.Core.Path.{◌≡◌, sym}
use mathlib.Core.Bool.{true}
use mathlib.Core.List.{List, []}
use lib.ListN.{length, take, get_or}
use Prim.Native.Nat.{ℕ, ◌+◌, ◌<◌, ◌≤◌}
use Rattle.std.specs.Prelude.{Result, Ok, Err, ◌++◌}
use Rattle.std.specs.List.{flat_map}
use Rattle.std.specs.Result.{is_ok}
use Rattle.std.proofs.lemmas.List.{take_more, flat_map_more}
use Rattle.definition.specs.Check.{check_tree, deepest, longest_tree}
use Rattle.definition.specs.Children.{AcceptedAt}
use Rattle.definition.proofs.Accepted.{accepted-tree}
use Rattle.definition.proofs.Children.{root-accepted}
use Rattle.grammar.specs.Answers.{checked}
use Rattle.grammar.specs.declared.Refused.{Refused}
use Rattle.console.specs.Shown.{two_digits}

-- what is written of one byte more
pub more_digits : (xs : List ℕ) (i : ℕ) → i < length xs → flat_map two_digits (take i xs) ++ two_digits (get_or xs i 0) ≡ flat_map two_digits (take (i + 1) xs)
more_digits xs i there = rw (take_more xs i 0 there) (flat_map_more two_digits [] (take i xs) (get_or xs i 0))

-- a tree whose check is no refusal is accepted, and not too long
pub accepted : {tree : List ℕ} (r : Result ℕ Refused) → checked r ≡ check_tree tree [] → is_ok r ≡ true → AcceptedAt deepest tree 0 × (length tree ≤ longest_tree)
accepted (Ok e) fine o = (root-accepted _ _ _ (sym fine), (accepted-tree _ _ _ (sym fine)).0.short)
accepted (Err r) fine o = absurd cc
