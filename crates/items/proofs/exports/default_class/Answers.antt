-- `exports::default_class` meets its contract.
use Rattle.std.proofs.Common.{arith, ap, inr, ◌∙◌}
use Rattle.definition.specs.Record.{mark_of}
use Rattle.items.proofs.Framed.{some_left, first_child, first_ready}
use Rattle.items.proofs.DefaultParts.{xd_one, class_made}
use Rattle.items.proofs.exports.default_class.Goals as goal

pub first-class-requires : goal.first-class-requires
first-class-requires c = omega (arith, some_left c.begin-kids.ensures (xd_one c.args.export c.requires.ready.1))

pub with_class-requires : goal.with_class-requires
with_class-requires c =
    let m = some_left c.begin-kids.ensures (xd_one c.args.export c.requires.ready.1) in
    record {
      ready = first_ready c.begin-kids.ensures c.requires.ready.0 (omega (arith, m)) c.first-class.ensures;
      fact = inr (ap mark_of (first_child c.begin-kids.ensures (omega (arith, m)) c.first-class.ensures).is ∙ c.requires.class);
    }

pub rest-requires : goal.rest-requires
rest-requires c = omega (arith, some_left c.begin-kids.ensures (xd_one c.args.export c.requires.ready.1))

pub returns : goal.returns
returns c =
    class_made c.args.list.now c.args.scope c.begin-kids.ensures (omega (arith, some_left c.begin-kids.ensures (xd_one c.args.export c.requires.ready.1))) c.first-class.ensures c.rest.ensures c.flags.ensures c.with_class.ensures
    c.keep_all.ensures
