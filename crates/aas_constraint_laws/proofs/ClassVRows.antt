-- What is left without values is of class M, kind by kind.
use Rattle.std.proofs.Common.{refl}
use Rattle.aas_model.specs.declared.payload.Payload.{Payload}
use Rattle.aas_model.specs.declared.payload.Payload.TheVariants as p
use Rattle.aas_constraint_laws.specs.ClassV.{IsWithoutValues}
use Rattle.aas_constraint_laws.specs.Values.{without_values}

pub values_are_of_class_v : (x : Payload) → IsWithoutValues (without_values x) x
values_are_of_class_v (p.Property t v i) = record { kind = refl; attributes = (refl, (refl, (refl, tt))) }
values_are_of_class_v (p.MultiLanguageProperty v i) = record { kind = refl; attributes = (refl, (refl, tt)) }
values_are_of_class_v (p.Range t min max) = record { kind = refl; attributes = (refl, (refl, (refl, tt))) }
values_are_of_class_v (p.File t v) = record { kind = refl; attributes = (refl, (refl, tt)) }
values_are_of_class_v (p.Blob t v) = record { kind = refl; attributes = (refl, (refl, tt)) }
values_are_of_class_v (p.ReferenceElement v) = record { kind = refl; attributes = (refl, tt) }
values_are_of_class_v (p.RelationshipElement first second) = record { kind = refl; attributes = (refl, (refl, tt)) }
values_are_of_class_v (p.AnnotatedRelationshipElement first second) = record { kind = refl; attributes = (refl, (refl, (refl, tt))) }
values_are_of_class_v (p.Entity t g ids) = record { kind = refl; attributes = (refl, (refl, (refl, (refl, tt)))) }
values_are_of_class_v (p.BasicEventElement observed d s topic broker last min max) = record { kind = refl; attributes = (refl, (refl, (refl, (refl, (refl, (refl, (refl, (refl, tt)))))))) }
values_are_of_class_v p.Capability = record { kind = refl; attributes = tt }
values_are_of_class_v p.Operation = record { kind = refl; attributes = (refl, (refl, (refl, tt))) }
values_are_of_class_v p.SubmodelElementCollection = record { kind = refl; attributes = (refl, tt) }
values_are_of_class_v (p.SubmodelElementList o s t v) = record { kind = refl; attributes = (refl, (refl, (refl, (refl, (refl, tt))))) }
