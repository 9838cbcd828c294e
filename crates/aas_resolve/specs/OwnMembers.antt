-- The references of the members that one kind of element has for itself, by where their names stand in byte order among
-- those that every element has: extensions, qualifiers, semanticId, supplementalSemanticIds.
use Rattle.std.specs.Prelude.{List, [], ◌++◌, flat_map}
use Rattle.aas_model.specs.declared.payload.Payload.{Payload}
use Rattle.aas_model.specs.declared.payload.Payload.TheVariants as p
use Rattle.aas_model.specs.declared.reference.Reference.{Reference}
use Rattle.aas_constraint_rules.specs.Texts.{as_list}
use Rattle.aas_resolve.specs.Held.{held_by_asset_id}

-- first; messageBroker and observed
abbrev pub before_qualifiers : Payload → List Reference
before_qualifiers (p.RelationshipElement first second) = as_list first
before_qualifiers (p.AnnotatedRelationshipElement first second) = as_list first
before_qualifiers (p.BasicEventElement observed d s topic broker last min max) = as_list broker ++ as_list observed
before_qualifiers _ = []

-- second
abbrev pub before_semantic_id : Payload → List Reference
before_semantic_id (p.RelationshipElement first second) = as_list second
before_semantic_id (p.AnnotatedRelationshipElement first second) = as_list second
before_semantic_id _ = []

-- semanticIdListElement; specificAssetIds
abbrev pub behind_semantic_id : Payload → List Reference
behind_semantic_id (p.Entity t g ids) = flat_map held_by_asset_id ids
behind_semantic_id (p.SubmodelElementList o s t v) = as_list s
behind_semantic_id _ = []

-- value; valueId
abbrev pub behind_all : Payload → List Reference
behind_all (p.Property t v i) = as_list i
behind_all (p.MultiLanguageProperty v i) = as_list i
behind_all (p.ReferenceElement v) = as_list v
behind_all _ = []
