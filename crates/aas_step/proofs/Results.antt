-- In valid documents a command makes the same documents each time, and so comes to one result.
use Rattle.std.proofs.Common.{◌≡◌, Bool, List, [], ◌∷◌, Some, None, sym, ap, ◌∙◌, subst}
use Rattle.std.specs.Prelude.{length}
use Rattle.std.specs.Str.{encode_utf8_all}
use Rattle.std.proofs.lemmas.Option.{same_Some}
use Rattle.aas_model.specs.declared.documents.Submodel.{Submodel}
use Rattle.aas_constraint_rules.specs.Faults.{Document, submodel}
use Rattle.aas_command.specs.Commands.{payload_of}
use Rattle.aas_command.specs.declared.command.Command.{Command}
use Rattle.aas_command.specs.declared.command.Command.TheVariants.{CreateShell, CreateSubmodel, CreateConcept}
use Rattle.aas_command.specs.declared.command.Command.TheVariants.{ReplaceShell, ReplaceSubmodel, ReplaceConcept}
use Rattle.aas_command.specs.declared.command.Command.TheVariants.{DeleteShell, DeleteSubmodel, DeleteConcept, SetAsset}
use Rattle.aas_command.specs.declared.command.Command.TheVariants.{AddReference, DropReference, InsertElement}
use Rattle.aas_command.specs.declared.command.Command.TheVariants.{ReplaceElement, DeleteElement, UpdateValue, Import}
use Rattle.aas_store.specs.Documents.{Documents}
use Rattle.aas_step.specs.Causes.{Cause, causes, first_of}
use Rattle.aas_step.specs.Laws.{OneResult}
use Rattle.aas_step.specs.Made.{IsMade, left, with_documents}
use Rattle.aas_step.specs.Valid.{AreValid}
use Rattle.aas_value_update.specs.Update.{IsValueUpdate}
use Rattle.aas_value_update.proofs.OneUpdate.{one_value_update}
use Rattle.aas_step.specs.Step.{Result, result_of, later_causes, ComesBy, ComesTo, Steps}

made_once : (d : Documents) (c : Command) (a b : List Document) → AreValid d → IsMade d c a → IsMade d c b → a ≡ b
made_once d (CreateShell s) a b valid first second = first ∙ sym second
made_once d (CreateSubmodel s) a b valid first second = first ∙ sym second
made_once d (CreateConcept s) a b valid first second = first ∙ sym second
made_once d (ReplaceShell s) a b valid first second = first ∙ sym second
made_once d (ReplaceSubmodel s) a b valid first second = first ∙ sym second
made_once d (ReplaceConcept s) a b valid first second = first ∙ sym second
made_once d (DeleteShell id) a b valid first second = first ∙ sym second
made_once d (DeleteSubmodel id) a b valid first second = first ∙ sym second
made_once d (DeleteConcept id) a b valid first second = first ∙ sym second
made_once d (SetAsset id asset) a b valid first second = first ∙ sym second
made_once d (AddReference id r) a b valid first second = first ∙ sym second
made_once d (DropReference id submodel_id) a b valid first second = first ∙ sym second
made_once d (InsertElement id p e) a b valid first second = first ∙ sym second
made_once d (ReplaceElement id p e) a b valid first second = first ∙ sym second
made_once d (DeleteElement id p) a b valid first second = first ∙ sym second
made_once d (UpdateValue id p v) a b valid first second =
    let olds = same_Some first.old second.old (sym first.there ∙ second.there) in
    let other = subst (λ (s : Submodel). IsValueUpdate s p.steps v second.updated) (sym olds) second.update in
    let news = one_value_update first.old first.updated second.updated p.steps v
    (valid.submodels (encode_utf8_all id) first.old first.there).valid first.update other in
    first.made ∙ ap (λ (s : Submodel). submodel s ∷ []) news ∙ sym second.made
made_once d (Import e) a b valid first second = first ∙ sym second

one_by : (o : Cause) (has_room : Bool) (d : Documents) (c : Command) (x y : Result)
    → AreValid d → ComesBy o has_room d c x → ComesBy o has_room d c y → x ≡ y
one_by (Some why) has_room d c x y valid first second = first ∙ sym second
one_by None has_room d c x y valid first second =
    first.2
    ∙ ap (λ (new : List Document). result_of (first_of (later_causes has_room new)) (with_documents (left d c) new))
    (made_once d c first.0 second.0 valid first.1 second.1)
    ∙ sym second.2

pub one_result : OneResult
unfolding Steps ComesTo
one_result room r c x y valid first second =
    one_by (first_of (causes r.documents c))
    (room r.records (length (payload_of c))) r.documents c x y valid first second
