-- `text_tokens::numerals::halve` meets its contract. The loop's invariant: what is left to halve has the same halves.
use Rattle.std.proofs.Common.{◌≡◌, ◌-◌}
use Rattle.definition.specs.Numerals.{halved}
use Rattle.text_tokens.proofs.numerals.halve.Given as goal

abbrev pub invariant-loop : goal.invariant-loop
invariant-loop l = halved (l.k - l.counter) l.n ≡ halved l.k l.m
