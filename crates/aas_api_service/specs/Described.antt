-- The command by which metadata is put in the place of what there is, or why there is none (IDTA-01002-3-0, operations
-- PatchSubmodel and PatchSubmodelElementByPath, Metadata). Causes are tried in this order: what it is for isn't there;
-- it is of another kind or value type. This profile's own rule.
use Rattle.std.specs.Prelude.{◌≡◌, ◌⊎◌, ℕ, List, take, Option, Some, None, Result, Ok, Err}
use Rattle.std.specs.FinMap as map
use Rattle.std.specs.Str.{encode_utf8_all}
use Rattle.aas_model.specs.declared.documents.Submodel.{Submodel}
use Rattle.aas_model.specs.declared.element.Element.{Element}
use Rattle.aas_model.specs.declared.element.Role.TheVariants.{Member}
use Rattle.aas_model.specs.declared.path.Path.{Path}
use Rattle.aas_path_trees.specs.Children.{with_role}
use Rattle.aas_path_trees.specs.ElementAt.{depth_found, element_at}
use Rattle.aas_command.specs.declared.command.Command.{Command}
use Rattle.aas_command.specs.declared.command.Command.TheVariants.{ReplaceElement, ReplaceSubmodel}
use Rattle.aas_command.specs.declared.refusal.Absent.TheVariants as absent
use Rattle.aas_command.specs.declared.refusal.Refusal.{Refusal}
use Rattle.aas_command.specs.declared.refusal.Refusal.TheVariants.{NotFound, Shape}
use Rattle.aas_meta_update.specs.WithMetadata.{IsAlike, with_metadata, with_submodel_metadata}
use Rattle.aas_store.specs.Documents.{Documents}
use Rattle.aas_api.specs.declared.ask.Metadata.{Metadata}
use Rattle.aas_api.specs.declared.ask.Metadata.TheVariants as metadata

abbrev pub Described : Type 0
Described = Result Command Refusal

-- by what is found, or the refusal where nothing is
abbrev pub ByFound : {A : Type 0} → Option A → Refusal → (A → Described → Type 0) → Described → Type 0
ByFound None why Asks command = command ≡ Err why
ByFound (Some found) why Asks command = Asks found command

-- the element with the metadata of m, in the place of itself, if m is of its kind and value type
abbrev pub PutsElement : List ℕ → Path → Element → Element → Described → Type 0
PutsElement id p m e command =
    (IsAlike e m × (command ≡ Ok (ReplaceElement id p (with_role (with_metadata e m) Member))))
    ⊎ ((¬ IsAlike e m) × (command ≡ Err (Shape p)))

-- the path leads to none of its elements
abbrev pub no_element : Submodel → Path → Refusal
no_element s p = NotFound (absent.Element (record { steps = take (depth_found s p.steps) p.steps }))

abbrev pub InSubmodel : Documents → List ℕ → (Submodel → Described → Type 0) → Described → Type 0
InSubmodel d id = ByFound (map.get d.submodels (encode_utf8_all id)) (NotFound absent.Submodel)

abbrev pub IsDescribed : Documents → Metadata → Described → Type 0
IsDescribed d (metadata.Submodel m) =
    InSubmodel d m.head.id (λ s command. command ≡ Ok (ReplaceSubmodel (with_submodel_metadata s m)))
IsDescribed d (metadata.Element id p m) =
    InSubmodel d id (λ s. ByFound (element_at s p.steps) (no_element s p) (PutsElement id p m))
