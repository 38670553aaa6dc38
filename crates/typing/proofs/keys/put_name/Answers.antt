-- `keys::put_name` meets its contract.
use Rattle.std.proofs.Common.{refl}
use Rattle.records.specs.Views.{rec_of}
use Rattle.typing.proofs.KeyFronts.{short-name-kept, long-name-kept}
use Rattle.typing.proofs.keys.put_name.Goals as goal

pub returns-then-name-gt-LONGEST_SYMBOL : goal.returns-then-name-gt-LONGEST_SYMBOL
returns-then-name-gt-LONGEST_SYMBOL c = long-name-kept (rec_of c.args.key) c.range.ensures c.text-name.ensures.text c.put_ident.ensures refl refl refl c.if-name-gt-LONGEST_SYMBOL.true refl

pub returns-else-name-gt-LONGEST_SYMBOL : goal.returns-else-name-gt-LONGEST_SYMBOL
returns-else-name-gt-LONGEST_SYMBOL c = short-name-kept (rec_of c.args.key) c.range.ensures c.text-name.ensures.text c.put_ident.ensures refl refl refl c.if-name-gt-LONGEST_SYMBOL.false refl
