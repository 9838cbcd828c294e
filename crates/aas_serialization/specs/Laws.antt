-- Laws of what is taken along.
use Rattle.std.specs.Prelude.{◌≡◌, List}
use Rattle.aas_model.specs.declared.reference.Reference.{Reference}
use Rattle.aas_store.specs.Documents.{Documents}
use Rattle.aas_serialization.specs.Closure.{IsClosure, concept_closure}
use Rattle.aas_serialization.specs.Reaches.{Set}

-- there is exactly one set of what is taken along
abbrev pub ClosuresAreOne : Type 0
ClosuresAreOne = (m : Documents) (roots : List Reference) → IsClosure m roots (concept_closure m roots)
    × ((s : Set) → IsClosure m roots s → s ≡ concept_closure m roots)
