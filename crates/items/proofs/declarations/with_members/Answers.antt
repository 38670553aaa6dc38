-- `declarations::with_members` meets its contract.
use Rattle.items.proofs.DeclParts.{members_kept}
use Rattle.items.proofs.declarations.with_members.Goals as goal

pub returns : goal.returns
returns c = members_kept c.begin_with-members.ensures c.enum_members.ensures
