-- What is chosen, or what is missing first.
use Rattle.std.proofs.Common.{◌≡◌, ◌⊎◌, inl, inr, ℕ, Bool, List, Option, Some, None, Result, Ok, Err, ap, ap₂, ◌∙◌}
use Rattle.aas_model.specs.declared.documents.Environment.{Environment}
use Rattle.aas_store.specs.Documents.{Documents}
use Rattle.aas_serialization.specs.Chosen.{chosen, chosen_environment, choice_of, fault_of, gathered, set_of, concepts_along, unless}
use Rattle.aas_serialization.specs.Reaches.{Set}
use Rattle.aas_serialization.specs.declared.choice.Chosen.{Chosen}
use Rattle.aas_serialization.specs.declared.fault.GatherFault.{GatherFault}
use Rattle.aas_serialization.specs.declared.fault.GatherFault.TheVariants.{NoMemory}

module _ (m : Documents) (shells submodels : List (List ℕ)) (concepts : Bool) where
  pub missing : (fault : GatherFault) → Some fault ≡ fault_of m shells submodels → Err fault ≡ chosen m shells submodels concepts
  missing fault is = ap (λ o. unless o (choice_of m shells submodels concepts)) is

  pub all_there : (s t u : Set) → None ≡ fault_of m shells submodels → s ≡ set_of shells → t ≡ set_of submodels → u ≡ concepts_along m concepts s t
      → Ok (record { shells = s; submodels = t; concepts = u }) ≡ chosen m shells submodels concepts
  all_there s t u none is_s is_t is_u =
      ap (λ u. Ok (record { shells = s; submodels = t; concepts = u })) is_u
      ∙ ap₂ (λ (s t : Set). Ok (record { shells = s; submodels = t; concepts = concepts_along m concepts s t })) is_s is_t
      ∙ ap (λ o. unless o (choice_of m shells submodels concepts)) none

  -- ---- the environment

  pub environment_gathered : (c : Chosen) (e : Environment) → (Ok c ≡ Err NoMemory) ⊎ (Ok c ≡ chosen m shells submodels concepts) → e ≡ chosen_environment m c
      → Ok e ≡ gathered m shells submodels concepts
  environment_gathered c e (inl none) is = absurd (cc)
  environment_gathered c e (inr chose) is = ap (λ e. Ok e) is ∙ by (fault_of m shells submodels) chose
    where
      by : (o : Option GatherFault) → Ok c ≡ unless o (choice_of m shells submodels concepts) → Ok (chosen_environment m c) ≡ unless o (chosen_environment m (choice_of m shells submodels concepts))
      by None same = let is : c ≡ choice_of m shells submodels concepts = cc in ap (λ c. Ok (chosen_environment m c)) is
      by (Some fault) same = absurd (cc)

  pub fault_gathered : (f : GatherFault) → ◌≡◌ {A = Result Chosen GatherFault} (Err f) (Err NoMemory) ⊎ (Err f ≡ chosen m shells submodels concepts)
      → ◌≡◌ {A = Result Environment GatherFault} (Err f) (Err NoMemory) ⊎ (Err f ≡ gathered m shells submodels concepts)
  fault_gathered f (inl none) = let same : f ≡ NoMemory = cc in inl (ap (λ f. Err f) same)
  fault_gathered f (inr chose) = inr (by (fault_of m shells submodels) chose)
    where
      by : (o : Option GatherFault) → Err f ≡ unless o (choice_of m shells submodels concepts) → Err f ≡ unless o (chosen_environment m (choice_of m shells submodels concepts))
      by None same = absurd (cc)
      by (Some fault) same = let is : f ≡ fault = cc in ap (λ f. Err f) is
