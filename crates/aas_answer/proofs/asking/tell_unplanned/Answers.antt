use Rattle.std.proofs.Common.{◌≡◌, ◌⊎◌, Err, sym, subst}
use Rattle.aas_command.specs.declared.refusal.Refusal.TheVariants.{NoMemory}
use Rattle.aas_page.specs.declared.filter.Selection.{Selection}
use Rattle.aas_question.specs.declared.question.Question.{Question}
use Rattle.aas_question.specs.declared.question.Question.TheVariants.{SubmodelsValue}
use Rattle.aas_store.specs.Documents.{Documents}
use Rattle.aas_answer.proofs.asking.tell_unplanned.Goals as goal
use Rattle.aas_answer.specs.Answers.{Answer, answer_of}

-- what answers a question answers what was asked, which is the same
told : (d : Documents) (found : Answer) (asked is : Question)
    → asked ≡ is → (found ≡ Err NoMemory) ⊎ (found ≡ answer_of d is)
    → (found ≡ Err NoMemory) ⊎ (found ≡ answer_of d asked)
told d found asked is same = subst (λ q. (found ≡ Err NoMemory) ⊎ (found ≡ answer_of d q)) (sym same)

pub returns-in-ReferencesOf : goal.returns-in-ReferencesOf
unfolding answer_of
returns-in-ReferencesOf g c =
    told (g.S.Store.documents c.args.store.now) _ _ _ c.in-ReferencesOf.is c.references_answer.ensures

pub returns-in-SubmodelsValue : goal.returns-in-SubmodelsValue
unfolding answer_of
returns-in-SubmodelsValue g c =
    let d : Documents = g.S.Store.documents c.args.store.now in
    let found : Answer = c.documents_answer-in-SubmodelsValue.result in
    let Told : Selection → Type 0 = λ s.
    (found ≡ Err NoMemory)
    ⊎ (found ≡ answer_of d (SubmodelsValue s c.in-SubmodelsValue.level c.in-SubmodelsValue.extent)) in
    told d found _ _ c.in-SubmodelsValue.is
    (subst Told c.get-in-SubmodelsValue.ensures c.documents_answer-in-SubmodelsValue.ensures)

pub returns-in-Elements : goal.returns-in-Elements
unfolding answer_of
returns-in-Elements g c = told (g.S.Store.documents c.args.store.now) _ _ _ c.in-Elements.is c.children_answer.ensures

pub returns-in-ElementsMetadata : goal.returns-in-ElementsMetadata
unfolding answer_of
returns-in-ElementsMetadata g c =
    told (g.S.Store.documents c.args.store.now) _ _ _
    c.in-ElementsMetadata.is c.children_answer-in-ElementsMetadata.ensures

pub returns-in-ElementsReference : goal.returns-in-ElementsReference
unfolding answer_of
returns-in-ElementsReference g c =
    told (g.S.Store.documents c.args.store.now) _ _ _
    c.in-ElementsReference.is c.children_answer-in-ElementsReference.ensures

pub returns-in-SubmodelValue : goal.returns-in-SubmodelValue
unfolding answer_of
returns-in-SubmodelValue g c =
    told (g.S.Store.documents c.args.store.now) _ _ _ c.in-SubmodelValue.is c.submodel_value_answer.ensures

pub returns-in-SubmodelPaths : goal.returns-in-SubmodelPaths
unfolding answer_of
returns-in-SubmodelPaths g c =
    told (g.S.Store.documents c.args.store.now) _ _ _ c.in-SubmodelPaths.is c.submodel_paths_answer.ensures

pub returns-in-Element : goal.returns-in-Element
unfolding answer_of
returns-in-Element g c = told (g.S.Store.documents c.args.store.now) _ _ _ c.in-Element.is c.element_answer.ensures

pub returns-in-ElementValue : goal.returns-in-ElementValue
unfolding answer_of
returns-in-ElementValue g c =
    told (g.S.Store.documents c.args.store.now) _ _ _ c.in-ElementValue.is c.element_value_answer.ensures

pub returns-in-ElementReference : goal.returns-in-ElementReference
unfolding answer_of
returns-in-ElementReference g c =
    told (g.S.Store.documents c.args.store.now) _ _ _ c.in-ElementReference.is c.reference_answer.ensures

pub returns-in-ElementPaths : goal.returns-in-ElementPaths
unfolding answer_of
returns-in-ElementPaths g c =
    told (g.S.Store.documents c.args.store.now) _ _ _ c.in-ElementPaths.is c.element_paths_answer.ensures
