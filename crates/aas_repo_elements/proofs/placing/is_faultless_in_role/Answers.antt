use Rattle.std.proofs.Common.{◌≡◌, rules, sym, ap, ◌∙◌, subst}
use Rattle.std.specs.Option.{option_copied}
use Rattle.aas_model.specs.declared.element.Element.{Element, out-Element, roll-Element, roll-out-Element}
use Rattle.aas_model.specs.declared.element.Role.{Role}
use Rattle.aas_path_trees.specs.Children.{role_of, with_role}
use Rattle.aas_repo_elements.specs.Placing.{IsFaultless}
use Rattle.aas_repo_elements.proofs.placing.is_faultless_in_role.Goals as goal

-- an element in the role that it has
own_role : (e : Element) (r : Role) → role_of e ≡ r → e ≡ with_role e r
own_role e r is = sym (roll-out-Element e) ∙ ap (λ x. roll-Element (record (out-Element e) { role = x })) is

pub returns-then-eq : goal.returns-then-eq
returns-then-eq c = λ is.
    subst (IsFaultless c.args.parent.now (option_copied c.args.lead))
    (own_role c.args.element.now c.args.role (search rules)) (c.in_ok-is_faultless.ensures is)
