use Rattle.std.proofs.Common.{subst}
use Rattle.aas_model.specs.declared.element.Role.TheVariants as role
use Rattle.aas_json_spelling.specs.Lists.{Each}
use Rattle.aas_json_mapping.specs.Shape.{IsShaped}
use Rattle.aas_json_read.proofs.KidsRead.{added}
use Rattle.aas_json_read.proofs.Places.{members_shaped}
use Rattle.aas_json_read.proofs.elements.members_in.Goals as goal

pub returns-clause-shape : goal.returns-clause-shape
returns-clause-shape c =
    let all = c.in_ok-children_after in
    subst (Each IsShaped) (added role.Member c.new-none.result all.field-0 _ all.ensures c.new-none.ensures) (members_shaped all.ensures.more all.ensures.places)
