-- The code's answers in the terms of document 01: each refusal's number in its table.
use Rattle.std.specs.Prelude.{ℕ, Ok, Err}
use Rattle.std.specs.declared.result.Result.{Result}
use Rattle.definition.specs.Check.{Opening.opened, Opening.stopped, Checked.fine, Checked.refused}
use Rattle.definition.specs.Check as Check
use Rattle.grammar.specs.Slots.{parts_from}
use Rattle.grammar.specs.declared.Refusal.{Refusal}
use Rattle.grammar.specs.declared.Refusal.TheVariants.{TreeTooLong, BadOverloads, CutShort, UnknownMark, Misplaced, BackwardRange, TooDeep, TrailingBytes, OutputFull, DiagnosticsFull, NumberOutside}
use Rattle.grammar.specs.declared.Refused.{Refused}
use Rattle.grammar.specs.declared.record.Opened.{Opened}

-- the column "No." of document 01's table. "Each new number, here and later, joins demand 1's ten and 01's table" (document 02, §3)
abbrev pub number : Refusal → ℕ
number TreeTooLong = 1
number BadOverloads = 2
number CutShort = 3
number UnknownMark = 4
number Misplaced = 5
number BackwardRange = 6
number TooDeep = 7
number TrailingBytes = 8
number OutputFull = 9
number DiagnosticsFull = 10
number NumberOutside = 11

-- what a check found
abbrev pub checked : Result ℕ Refused → Check.Checked
checked (Ok e) = fine e
checked (Err r) = refused (number r.refusal) r.place

-- what the tests of a record by itself found; a slot of the code is a place in the table of slots
abbrev pub opening : Result Opened Refusal → Check.Opening
opening (Ok o) = opened o.body o.count (parts_from o.slot)
opening (Err n) = stopped (number n)
