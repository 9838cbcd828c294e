-- The environment of some chosen documents is planned, or refused.
use Rattle.std.proofs.Common.{◌≡◌, ◌⊎◌, inl, inr, ℕ, Bool, List, Result, Ok, Err, refl, sym, ap}
use Rattle.aas_command.specs.declared.refusal.Refusal.TheVariants as refused
use Rattle.aas_json_mapping.specs.Trees.{environments}
use Rattle.aas_json_spelling.specs.Spells.{canonical_text}
use Rattle.aas_model.specs.declared.documents.Environment.{Environment}
use Rattle.aas_serialization.specs.Chosen.{chosen, chosen_environment, gathered}
use Rattle.aas_serialization.specs.declared.choice.Chosen.{Chosen}
use Rattle.aas_serialization.specs.declared.fault.GatherFault.{GatherFault}
use Rattle.aas_serialization.specs.declared.fault.GatherFault.TheVariants as gather
use Rattle.aas_serialization.proofs.Choices.{environment_gathered, fault_gathered}
use Rattle.aas_store.specs.Documents.{Documents}
use Rattle.aas_answer.specs.Answers.{of_gathered, refusal_of_gather}

module _ (d : Documents) (shells submodels : List (List ℕ)) (concepts : Bool) where
  pub environment_planned : (c : Chosen) → (Ok c ≡ Err gather.NoMemory) ⊎ (Ok c ≡ chosen d shells submodels concepts)
      → of_gathered (gathered d shells submodels concepts) ≡ Ok (canonical_text environments (chosen_environment d c))
  environment_planned c chose =
      sym (ap of_gathered (environment_gathered d shells submodels concepts c (chosen_environment d c) chose refl))

  pub environment_refused : (f : GatherFault)
      → ◌≡◌ {A = Result Chosen GatherFault} (Err f) (Err gather.NoMemory) ⊎ (Err f ≡ chosen d shells submodels concepts)
      → (refusal_of_gather f ≡ refused.NoMemory)
      ⊎ (of_gathered (gathered d shells submodels concepts) ≡ Err (refusal_of_gather f))
  environment_refused f chose = by (fault_gathered d shells submodels concepts f chose)
    where
      by : ◌≡◌ {A = Result Environment GatherFault} (Err f) (Err gather.NoMemory)
          ⊎ (Err f ≡ gathered d shells submodels concepts)
          → (refusal_of_gather f ≡ refused.NoMemory)
          ⊎ (of_gathered (gathered d shells submodels concepts) ≡ Err (refusal_of_gather f))
      by (inl none) = let is : f ≡ gather.NoMemory = cc in inl (ap refusal_of_gather is)
      by (inr is) = inr (sym (ap of_gathered is))
