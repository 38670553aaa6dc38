-- `transform_module` meets its contract.
use Rattle.std.proofs.Common.{ap, ◌∙◌}
use Rattle.definition.specs.Transform.{transform}
use Rattle.records.specs.Views.{rec_of}
use Rattle.output.specs.Outputs.{Makes}
use Rattle.transform_dts.proofs.Module.{items_ready, module_made, from_start}
use Rattle.transform_dts.proofs.transform_module.Goals as goal

pub transform_module_items-count-requires : goal.transform_module_items-count-requires
transform_module_items-count-requires c = items_ready c.requires.0 (ap (λ x. x.id_counter) c.skip_front.ensures.names ∙ c.requires.1) c.children.ensures

made : (c : goal.After-put_front_at) → Makes c.args.o.now c.put_front_at.new.self (transform c.args.list.now c.args.scope.unresolved (rec_of c.args.mo))
made c =
    module_made c.requires.0 c.args.list.now c.requires.1 c.children.ensures c.skip_front.ensures (ap (λ x. x.id_counter) c.skip_front.ensures.names ∙ c.requires.1)
    c.transform_module_items-count.ensures (from_start c.args.o.now c.start-start.ensures c.put_front_at.ensures.front) c.put_front_at.ensures.short

pub returns-clause-made : goal.returns-clause-made
returns-clause-made c = made c

pub returns-clause-out : goal.returns-clause-out
returns-clause-out c = (made c).step.writers.out

pub returns-clause-out_buffer : goal.returns-clause-out_buffer
returns-clause-out_buffer c = (made c).step.out.buffer

pub returns-clause-diagnostics : goal.returns-clause-diagnostics
returns-clause-diagnostics c = (made c).step.writers.diagnostics

pub returns-clause-diagnostics_buffer : goal.returns-clause-diagnostics_buffer
returns-clause-diagnostics_buffer c = (made c).step.diagnostics.buffer
