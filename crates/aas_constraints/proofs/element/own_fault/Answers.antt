use Rattle.std.proofs.Common.{ap₂, sym, ◌∙◌}
use Rattle.aas_reference.specs.Faults.{least}
use Rattle.aas_constraint_rules.specs.Sites.{own_of}
use Rattle.aas_constraints.proofs.Attributes.{by_attributes}
use Rattle.aas_constraints.proofs.element.own_fault.Goals as goal

pub returns : goal.returns
returns c = c.least.ensures ∙ ap₂ least c.in_ok-common_fault.ensures c.payload_fault.ensures ∙ sym (by_attributes (own_of c.args.e.now))
