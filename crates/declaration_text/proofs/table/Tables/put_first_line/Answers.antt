-- `put_first_line` meets its contract: a dry run says whether the line is written.
use Rattle.declaration_text.proofs.LinesWritten.{lines-as}
use Rattle.declaration_text.proofs.Calls.{started, first_at, first_some, first-none}
use Rattle.declaration_text.proofs.table.Tables.put_first_line.Goals as goal

pub returns-then-dry : goal.returns-then-dry
returns-then-dry c = lines-as (first_some (started _ c.default-s.ensures) c.write-dry.ensures c.if-dry.true c.put_line.ensures) (first_at c.args.root c.requires.place)

pub returns : goal.returns
returns c = lines-as (first-none (started _ c.default-s.ensures) c.write-dry.ensures c.if-dry.false _) (first_at c.args.root c.requires.place)
