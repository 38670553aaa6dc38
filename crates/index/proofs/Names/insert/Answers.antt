-- `index::Names::insert` meets its contract.
use mathlib.Core.Path.{sym, refl}
use Rattle.std.specs.Prelude.{Ok, Err}
use Rattle.index.proofs.Laws.{found_front, joins, new-enters}
use Rattle.index.proofs.Names.insert.Goals as goal

pub returns-in-Ok-clause-enters : goal.returns-in-Ok-clause-enters
returns-in-Ok-clause-enters c =
    let f = found_front c.requires.sorted _ (Ok c.in-Ok.p) (rw c.entries.ensures at c.in-Ok.ensures) in
    rw (c.join_at.ensures.from, c.join_at.ensures.count, sym c.text_at.ensures)
    (joins c.requires.sorted f.0 _ _ _ f.1 c.args.self.now.from c.args.self.now.table.now _ refl c.join_at.ensures.table)

pub returns-in-Err-clause-enters : goal.returns-in-Err-clause-enters
returns-in-Err-clause-enters c =
    let f = found_front c.requires.sorted _ (Err c.in-Err.p) (rw c.entries.ensures at c.in-Err.ensures) in
    rw (c.insert_at.ensures.count, sym c.text_at.ensures)
    (new-enters c.requires.sorted f.0 _ _ _ f.1 c.args.id c.text_at.ensures c.requires.id_in_bounds (rw c.entry.ensures at c.insert_at.ensures.inserted))
