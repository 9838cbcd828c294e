-- What an accepted update of metadata leaves (IDTA-01002-3-0, operations PatchSubmodel and PatchSubmodelElementByPath,
-- Metadata): the metadata form is the one that was sent, each value form is as before, and at every other path nothing
-- is another.
use Rattle.std.specs.Prelude.{◌≡◌, ℕ, List, Option, Some, Ok}
use Rattle.std.specs.FinMap as map
use Rattle.std.specs.Str.{encode_utf8_all}
use Rattle.aas_model_names.specs.declared.modifiers.Extent.{Extent}
use Rattle.aas_model.specs.declared.documents.Submodel.{Submodel}
use Rattle.aas_model.specs.declared.element.Element.{Element}
use Rattle.aas_model.specs.declared.element.Role.TheVariants.{Member}
use Rattle.aas_model.specs.declared.path.Path.{Path}
use Rattle.aas_json_mapping.specs.Metadata.{metadata_form, submodel_metadata}
use Rattle.aas_path_trees.specs.Children.{with_role}
use Rattle.aas_path_trees.specs.ElementAt.{element_at}
use Rattle.aas_path_trees.specs.WithElement.{with_element}
use Rattle.aas_value.specs.ValueForm.{submodel_value, value_form}
use Rattle.aas_http.specs.FirstRequest.{Message}
use Rattle.aas_http.specs.declared.replies.Reply.{Reply}
use Rattle.aas_meta_update.specs.Laws.{OnlyThere}
use Rattle.aas_meta_update.specs.WithMetadata.{with_metadata, with_submodel_metadata}
use Rattle.aas_rule.specs.Rule.{Repository, Room, Outcome}
use Rattle.aas_store.specs.Documents.{Documents, with_submodel}
use Rattle.aas_step.specs.Valid.{AreValid}
use Rattle.aas_api.specs.Asked.{IsAsked}
use Rattle.aas_api.specs.declared.ask.Ask.TheVariants.{Describe}
use Rattle.aas_api.specs.declared.ask.Call.{Call}
use Rattle.aas_api.specs.declared.ask.Metadata.{Metadata}
use Rattle.aas_api.specs.declared.ask.Metadata.TheVariants as metadata
use Rattle.aas_api_service.specs.Turns.{Turns}

-- the call that asks for metadata to be put, through a shell or not
abbrev pub describing : Option (List ℕ) → Metadata → Call
describing through m = record { through = through; ask = Describe m }

-- the documents of an outcome are those of before, but for the
-- metadata of the element to which a path leads in a submodel
pub record PutsAtElement (d new : Documents) (id : List ℕ) (p : Path) (m : Element) : Type 0 where
  pub submodel : Submodel
  pub there : map.get d.submodels (encode_utf8_all id) ≡ Some submodel
  pub element : Element
  pub found : element_at submodel p.steps ≡ Some element
  pub documents : new ≡ with_submodel d (with_element submodel p.steps (with_metadata element m))
  pub form : with_role (metadata_form (with_metadata element m)) Member ≡ m
  pub value : (x : Extent) → value_form x (with_metadata element m) ≡ value_form x element
  pub only : OnlyThere submodel
      (with_element submodel p.steps (with_metadata element m)) p.steps (with_metadata element m)

-- but for the metadata of a submodel
pub record PutsAtSubmodel (d new : Documents) (m : Submodel) : Type 0 where
  pub submodel : Submodel
  pub there : map.get d.submodels (encode_utf8_all m.head.id) ≡ Some submodel
  pub documents : new ≡ with_submodel d (with_submodel_metadata submodel m)
  pub form : submodel_metadata (with_submodel_metadata submodel m) ≡ m
  pub value : (x : Extent) → submodel_value x (with_submodel_metadata submodel m) ≡ submodel_value x submodel

-- A request that asks for metadata to be put, and that is answered 204, does so.
pub record UpdatesPutMetadata : Type 0 where
  pub element : (room : Room) (r : Repository Documents) (message : Message)
      (through : Option (List ℕ)) (id : List ℕ) (p : Path) (m : Element)
      (outcome : Outcome Documents Reply) → AreValid r.documents
      → IsAsked message (Ok (describing through (metadata.Element id p m))) → Turns room r message outcome
      → outcome.reply.status ≡ 204 → PutsAtElement r.documents outcome.documents id p m
  pub submodel : (room : Room) (r : Repository Documents) (message : Message)
      (through : Option (List ℕ)) (m : Submodel) (outcome : Outcome Documents Reply)
      → AreValid r.documents → IsAsked message (Ok (describing through (metadata.Submodel m)))
      → Turns room r message outcome → outcome.reply.status ≡ 204
      → PutsAtSubmodel r.documents outcome.documents m
