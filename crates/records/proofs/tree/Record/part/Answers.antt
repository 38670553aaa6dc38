use mathlib.Core.Path.{ap, ◌∙◌, sym}
use Rattle.definition.specs.Tree.{encode}
use Rattle.definition.specs.Transform.{texts_fit}
use Rattle.records.proofs.Views.{accepted, rec_is}
use Rattle.records.proofs.tree.Record.part.Goals as goal

pub encoded_at-requires : goal.encoded_at-requires
encoded_at-requires c = accepted c.args.self

pub returns-clause-part : goal.returns-clause-part
returns-clause-part c = c.encoded_at.ensures.part ∙ sym (ap encode (rec_is c.args.self))

pub returns-clause-fits : goal.returns-clause-fits
returns-clause-fits c = ap texts_fit (rec_is c.args.self) ∙ c.encoded_at.ensures.fits
