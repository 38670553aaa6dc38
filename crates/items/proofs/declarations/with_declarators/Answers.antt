-- `declarations::with_declarators` meets its contract.
use Rattle.items.proofs.Framed.{kids_ready}
use Rattle.items.proofs.DeclParts.{vars_made}
use Rattle.items.proofs.declarations.with_declarators.Goals as goal

pub declarators-requires : goal.declarators-requires
declarators-requires c = kids_ready c.begin_with-vars.ensures c.requires

pub returns : goal.returns
returns c = vars_made c.begin_with-vars.ensures c.args.scope c.declarators.ensures
