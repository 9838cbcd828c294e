-- What a walk over references has taken.
use Rattle.std.specs.Prelude.{List, map}
use Rattle.std.specs.Str.{encode_utf8_all}
use Rattle.aas_model.specs.declared.reference.Reference.{Reference}
use Rattle.aas_model_names.specs.declared.collection.Collection.TheVariants.{Concepts}
use Rattle.aas_store.specs.Documents.{Documents, Identifier, ids}
use Rattle.aas_serialization.specs.Closure.{cases_named, concepts_named}
use Rattle.aas_serialization.specs.Reached.{Closing, Takes}
use Rattle.aas_serialization.specs.declared.taken.Taken.{Taken}

-- the identifiers that wait
abbrev pub waiting_in : Taken → List Identifier
waiting_in t = map (λ id. encode_utf8_all id.now) t.waiting.items

-- some identifiers of concept descriptions are taken
abbrev pub TakesIds : Documents → Taken → Taken → List Identifier → Type 0
TakesIds m old new found =
    Takes (cases_named m) (ids Concepts m) old.ids (waiting_in old) new.ids (waiting_in new) found

-- what some references name is taken
abbrev pub TakesAlong : Documents → Taken → Taken → List Reference → Type 0
TakesAlong m old new references = TakesIds m old new (concepts_named m references)

-- so far all that is taken is taken along by some references, of which none is left
abbrev pub IsClosing : Documents → List Reference → Taken → Type 0
IsClosing m roots t = Closing (cases_named m) (concepts_named m roots) t.ids (waiting_in t)
