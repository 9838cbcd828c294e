use Rattle.std.proofs.Common.{List, map, refl, sym, ap, ◌∙◌, Some, None}
use Rattle.aas_model.specs.declared.documents.Concept.{Concept}
use Rattle.aas_model.specs.declared.documents.Shell.{Shell}
use Rattle.aas_model.specs.declared.documents.Submodel.{Submodel}
use Rattle.aas_step.specs.Causes.{first_repeated}
use Rattle.aas_repo.proofs.Imported.{places}
use Rattle.aas_repo.proofs.importing.first_repeated.Goals as goal

pub returns-in-Some-2 : goal.returns-in-Some-2
returns-in-Some-2 c =
    places c.args.environment.now None (Some c.in-Some-2.place) _
    (sym c.in_default.is ∙ c.in_ok-place.ensures
    ∙ ap (λ (ss : List Shell). first_repeated (map (λ s. s.head.id) ss)) c.as_slice.ensures)
    (sym c.in-Some-2.is ∙ c.in_ok-place-2.ensures
    ∙ ap (λ (ss : List Submodel). first_repeated (map (λ s. s.head.id) ss)) c.as_slice-2.ensures)
    refl

pub returns-in-Some-3 : goal.returns-in-Some-3
returns-in-Some-3 c =
    places c.args.environment.now None None (Some c.in-Some-3.place)
    (sym c.in_default.is ∙ c.in_ok-place.ensures
    ∙ ap (λ (ss : List Shell). first_repeated (map (λ s. s.head.id) ss)) c.as_slice.ensures)
    (sym c.in_default-2.is ∙ c.in_ok-place-2.ensures
    ∙ ap (λ (ss : List Submodel). first_repeated (map (λ s. s.head.id) ss)) c.as_slice-2.ensures)
    (sym c.in-Some-3.is ∙ c.in_ok-place-3.ensures
    ∙ ap (λ (cs : List Concept). first_repeated (map (λ c. c.head.id) cs)) c.as_slice-3.ensures)
