use Rattle.std.proofs.Common.{ap}
use Rattle.aas_model.specs.declared.element.Element.{Element}
use Rattle.aas_path_trees.specs.Children.{with_role}
use Rattle.aas_repo_elements.proofs.placing.in_role.Goals as goal

pub returns : goal.returns
returns c = ap (λ (e : Element). with_role e c.args.role) c.in_ok-copy.ensures
