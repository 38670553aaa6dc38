-- `output::Output::put_flagged` meets its contract.
use Rattle.std.proofs.Common.{inl, refl, sym}
use Rattle.records.specs.Views.{recs_of}
use Rattle.output.proofs.Steps.{keeps-as}
use Rattle.output.proofs.Kept.{keeps_front, kids_counted, flagged_is}
use Rattle.output.proofs.Output.put_flagged.Goals as goal

pub with_flag-requires : goal.with_flag-requires
with_flag-requires c = inl refl

pub returns : goal.returns
returns c =
    keeps-as (keeps_front c.begin_with-kids.ensures (recs_of c.begin_with-kids.result) (kids_counted c.begin_with-kids.ensures.kids) c.keep_all.ensures)
    (flagged_is c.args.r c.begin_with-kids.result c.begin_with-kids.ensures.kids c.flags.ensures c.with_flag.ensures)
