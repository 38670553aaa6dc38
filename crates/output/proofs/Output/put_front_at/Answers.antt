-- `output::Output::put_front_at` meets its contract.
use Rattle.std.proofs.Common.{refl}
use Rattle.definition.specs.Record.{head_of}
use Rattle.records.specs.Views.{rec_of}
use Rattle.output.proofs.Kept.{front_in_room}
use Rattle.output.proofs.Output.put_front_at.Goals as goal

pub returns-clause-front : goal.returns-clause-front
returns-clause-front c =
    record { same = refl; fronts = front_in_room (head_of (rec_of c.args.r)) c.head.ensures c.args.count c.text.ensures.text c.put_front_at.ensures; diagnostics = refl; names = refl; fits = refl }

pub returns-clause-short : goal.returns-clause-short
returns-clause-short c = c.text.ensures.short
