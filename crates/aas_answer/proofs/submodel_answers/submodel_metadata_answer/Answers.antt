use Rattle.std.proofs.Common.{List, ℕ, Ok, Err, inr, ap, ◌∙◌}
use Rattle.std.specs.FinMap as map
use Rattle.aas_command.specs.declared.refusal.Absent.TheVariants as absent
use Rattle.aas_command.specs.declared.refusal.Refusal.TheVariants.{NotFound}
use Rattle.aas_model.specs.declared.documents.Submodel.{Submodel}
use Rattle.aas_answer.proofs.Pages.{told_of_head}
use Rattle.aas_answer.proofs.submodel_answers.submodel_metadata_answer.Goals as goal
use Rattle.aas_answer.specs.Answers.{Answer, submodel_metadata_text}
use Rattle.std.specs.Option.{option_map_or}

tell : Submodel → Answer
tell s = Ok (submodel_metadata_text s)

pub returns : goal.returns
unfolding tell
returns g c =
    let m = (g.S.Store.documents c.args.store.now).submodels in
    let none = Err (NotFound absent.Submodel) in
    inr
    (ap (λ t. Ok t)
    (c.from.ensures ∙ c.in_ok-metadata_text.ensures)
    ∙ told_of_head tell none (map.get m c.as_str.result.now) c.in-Some.head.now c.in-Some.ensures
    ∙ ap (λ (id : List ℕ). option_map_or tell (map.get m id) none) c.as_str.ensures.bytes)
