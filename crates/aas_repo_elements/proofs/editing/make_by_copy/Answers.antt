use Rattle.std.proofs.Common.{refl, sym, subst, ap, ◌∙◌}
use Rattle.std.specs.FinMap as map
use Rattle.aas_constraint_rules.specs.Faults.{submodel}
use Rattle.aas_model.specs.declared.documents.Submodel.{Submodel}
use Rattle.aas_repo_documents.proofs.Edited.{is_missing, is_refused, makes_one}
use Rattle.aas_repo_elements.proofs.editing.make_by_copy.Goals as goal
use Rattle.aas_repo_documents.specs.Decisions.{IsDecision, Makes}
use Rattle.aas_repo_documents.specs.declared.decision.Decision.{Decision}

pub returns-in-Ok-None : goal.returns-in-Ok-None
returns-in-Ok-None g c =
    let d = g.S.Store.documents c.args.store.now in
    let there =
    sym (c.in-Ok-None.ensures ∙ ap (map.get d.submodels) c.as_str.ensures.bytes) ∙ c.in-Ok-None.field-0-is in
    is_missing d _ c.args.id _ _ (g.met.E.Edit.edits c.args.edit c.args.id d) _ d there refl

pub put-requires : goal.put-requires
put-requires g c =
    let d = g.S.Store.documents c.args.store.now in
    let there =
    sym (c.in-Ok-Some.ensures ∙ ap (map.get d.submodels) c.as_str.ensures.bytes) ∙ c.in-Ok-Some.field-0-is in
    c.in-Ok.ensures.whole (c.requires.valid.submodels _ _ there).valid.whole

pub returns-in-Ok : goal.returns-in-Ok
returns-in-Ok g c =
    let d = g.S.Store.documents c.args.store.now in
    let command = g.E.Edit.command c.args.edit c.args.id in
    let there =
    sym (c.in-Ok-Some.ensures ∙ ap (map.get d.submodels) c.as_str.ensures.bytes) ∙ c.in-Ok-Some.field-0-is in
    c.put.ensures command
    (subst (λ (s : Submodel). Makes d command (submodel s)) (sym c.in-Ok.ensures.ok.1)
    (makes_one d command c.args.id _ _ (g.met.E.Edit.edits c.args.edit c.args.id d) _ there c.in-Ok.ensures.ok.0))

pub returns : goal.returns
returns g c =
    let d = g.S.Store.documents c.args.store.now in
    let command = g.E.Edit.command c.args.edit c.args.id in
    let there =
    sym (c.in-Ok-Some.ensures ∙ ap (map.get d.submodels) c.as_str.ensures.bytes) ∙ c.in-Ok-Some.field-0-is in
    subst (λ (o : Decision). IsDecision c.args.has_room d command d o) (sym c.decision_of.ensures)
    (is_refused d command c.args.id _ _
    (g.met.E.Edit.edits c.args.edit c.args.id d) _ d _ c.in-Err-make.refusal there c.in-Err-make.ensures.err refl)
