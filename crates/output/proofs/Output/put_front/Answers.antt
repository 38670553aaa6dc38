-- `output::Output::put_front` meets its contract.
use Rattle.std.proofs.Common.{refl}
use Rattle.definition.specs.Record.{head_of}
use Rattle.records.specs.Views.{rec_of}
use Rattle.output.proofs.Kept.{puts, front_written}
use Rattle.output.proofs.Output.put_front.Goals as goal

pub returns-clause-front : goal.returns-clause-front
returns-clause-front c =
    puts (front_written (head_of (rec_of c.args.r)) c.head.ensures c.args.flags c.args.count c.text.ensures.text c.put_head.ensures c.put.ensures) refl refl refl refl

pub returns-clause-short : goal.returns-clause-short
returns-clause-short c = c.text.ensures.short
