use Rattle.std.proofs.Common.{◌≡◌, [], ◌∷◌, List, false, subst, ◌++◌, ◌∙◌}
use Rattle.std.specs.Prelude.{IfSome}
use Rattle.aas_model.specs.declared.path.PathStep.{PathStep}
use Rattle.aas_model.specs.declared.reference.Key.{Key}
use Rattle.aas_form.specs.ReferenceTo.{keys_in, submodel_key}
use Rattle.aas_form.proofs.Keys.{made_reference}
use Rattle.aas_form.proofs.reference_form.reference.Goals as goal

pub returns : goal.returns
returns c =
    let d = c.args.submodel.now in
    let first : c.push.new.self ≡ submodel_key d ∷ [] =
    c.in_ok-push.ensures.ok ∙ (λ i. c.new-keys.ensures i ++ c.in_ok-submodel_key.ensures i ∷ []) in
    made_reference (submodel_key d) (keys_in false c.args.path.now.steps d.kids) c.push.new.self c.add_keys.new.keys _ c.model_reference.ensures first
    (subst (λ (p : List PathStep). IfSome (keys_in false p d.kids) (λ (more : List Key). c.add_keys.new.keys ≡ c.push.new.self ++ more))
    c.as_slice.ensures c.in_ok-add_keys.ensures)
