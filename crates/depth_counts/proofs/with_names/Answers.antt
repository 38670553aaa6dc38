-- `depth_counts::with_names` meets its contract: the items of the module stand in no Ns.
use Rattle.std.proofs.Common.{refl, sym, ◌∙◌, ap}
use Rattle.definition.proofs.Anywhere.{is_accepted}
use Rattle.definition.specs.Depths.{table_of}
use Rattle.depth_counts.proofs.Whole.{table_is, blank-cells, blank-small, module_ready, module_placed, module_holds}
use Rattle.depth_counts.proofs.with_names.Goals as goal

pub invariant_of-mo : goal.invariant_of-mo
invariant_of-mo c = record { accepted = is_accepted c.requires.accepted_at.0 }

pub count_items-requires : goal.count_items-requires
count_items-requires c = record {
  ready = module_ready _ refl refl refl c.children.ensures refl refl;
  small = blank-small;
  holds = module_holds _ refl refl refl c.children.ensures c.args.list.now c.requires.accepted_at.1;
}

pub returns : goal.returns
returns c = table_is _ blank-cells c.count_items.ensures.adds ∙ ap table_of (sym (module_placed _ refl refl refl c.children.ensures c.args.list.now))
