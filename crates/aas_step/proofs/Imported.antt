-- An environment's documents put in one after another.
use Rattle.std.proofs.Common.{◌≡◌, List, [], ◌∷◌, ◌++◌, refl, ◌∙◌}
use Rattle.std.specs.List.{fold}
use Rattle.std.specs.Prelude.{map as each}
use Rattle.aas_model.specs.declared.documents.Environment.{Environment}
use Rattle.aas_constraint_rules.specs.Faults.{Document, shell, submodel, concept}
use Rattle.aas_step.specs.Made.{documents_in, with_document, with_documents}
use Rattle.aas_store.specs.Documents.{Documents, with_all, with_shell, with_submodel}

put_first : {X : Type 0} (wrap : X → Document) (xs : List X) (d : Documents) (more : List Document)
    → with_documents d (each wrap xs ++ more) ≡ with_documents (fold (λ d x. with_document d (wrap x)) d xs) more
put_first wrap [] d more = refl
put_first wrap (x ∷ xs) d more = put_first wrap xs (with_document d (wrap x)) more

put_last : {X : Type 0} (wrap : X → Document) (xs : List X) (d : Documents)
    → with_documents d (each wrap xs) ≡ fold (λ d x. with_document d (wrap x)) d xs
put_last wrap [] d = refl
put_last wrap (x ∷ xs) d = put_last wrap xs (with_document d (wrap x))

-- one after another, or list by list
pub with_all_documents : (d : Documents) (e : Environment) → with_documents d (documents_in e) ≡ with_all d e
with_all_documents d e =
    put_first shell e.shells d (each submodel e.submodels ++ each concept e.concepts)
    ∙ put_first submodel e.submodels (fold with_shell d e.shells) (each concept e.concepts)
    ∙ put_last concept e.concepts (fold with_submodel (fold with_shell d e.shells) e.submodels)
