-- `class_body::put_prop_name` meets its contract.
use Rattle.std.proofs.Common.{refl}
use Rattle.classes.proofs.MemberLaws.{key_computed}
use Rattle.classes.proofs.class_body.put_prop_name.Goals as goal

pub returns-in-Computed : goal.returns-in-Computed
returns-in-Computed c = key_computed c.in-Computed.is c.range.ensures c.put_made_front.ensures refl refl refl refl c.keep-in-Computed.ensures
