-- `Mark::known` meets its contract: what stands at the slot of each mark's number is that mark, by one computation over all of them.
use Rattle.std.proofs.Common.{◌≡◌, ℕ, ◌*◌, ◌/◌, ◌%◌, true, get_or, refl}
use Rattle.definition.specs.Grammar.{grammar, known}
use Rattle.records.specs.declared.marks.Mark.TheVariants.{Mo}
use Rattle.records.specs.declared.marks.TheConstants.{BY_SLOT, SLOTS, FACTOR, DIVISOR}
use Rattle.records.specs.Marks.{number_of}
use Rattle.records.proofs.Known.{gives_each, gives_itself}
use Rattle.records.proofs.marks.Mark.known.Goals as goal

-- the number of what stands at the slot of a number
abbrev read : ℕ → ℕ
read m = number_of (get_or BY_SLOT (m * FACTOR / DIVISOR % SLOTS) Mo)

all_read : gives_each read known ≡ true
unfolding grammar known gives_each
all_read = refl

pub returns : goal.returns
returns c = rw c.from.ensures (gives_itself read known c.args.number all_read c.requires)
