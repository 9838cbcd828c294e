-- What the calls of a store on elements want of a submodel, and what they make of it: the operations
-- PostSubmodelElementByPath, PutSubmodelElementByPath, DeleteSubmodelElementByPath and their kin of IDTA-01002-3-0, and
-- this profile's value update.
use Rattle.std.specs.Prelude.{◌≡◌, true, List, [], ◌∷◌, None, MatchOption}
use Rattle.std.specs.FinMap as map
use Rattle.std.specs.Option.{option_map_or}
use Rattle.aas_model.specs.declared.documents.Submodel.{Submodel}
use Rattle.aas_model.specs.declared.element.Element.{Element}
use Rattle.aas_model.specs.declared.patch.PatchRow.{PatchRow}
use Rattle.aas_model.specs.declared.path.Missing.{Missing}
use Rattle.aas_model.specs.declared.path.PathStep.{PathStep}
use Rattle.aas_path_trees.specs.Children.{role_of}
use Rattle.aas_path_trees.specs.Edits.{fits_role}
use Rattle.aas_path_trees.specs.ElementAt.{element_at, depth_found}
use Rattle.aas_path_trees.specs.Patched.{Fits, kinds, kinds_of_all, patched, patched_submodel}
use Rattle.aas_path_trees.specs.WithElement.{with_element}
use Rattle.aas_store.specs.Documents.{Documents, Identifier}

-- the submodel of the identifier is there, and P holds of it
abbrev pub Holds : Documents → Identifier → (Submodel → Type 0) → Type 0
Holds d id P = MatchOption (map.get d.submodels id) ⊥ P

-- d with f of the submodel of the identifier in its place; d where there is none
abbrev pub with_changed : Documents → Identifier → (Submodel → Submodel) → Documents
with_changed d id f = option_map_or (λ s. record d { submodels = map.insert d.submodels id (f s) }) (map.get d.submodels id) d

-- the path leads to no element, and m says how far it leads
abbrev pub LeadsNowhere : Submodel → List PathStep → Missing → Type 0
LeadsNowhere s p m = (element_at s p ≡ None) × (m.steps ≡ depth_found s p)

-- the path leads to an element, in the place of which e can stand
abbrev pub CanReplace : Submodel → List PathStep → Element → Type 0
CanReplace s p e = MatchOption (element_at s p) ⊥ (λ old. fits_role e (role_of old) ≡ true)

-- ---- value updates; the empty path leads to the submodel itself

-- the rows of a patch fit what a path leads to
abbrev pub FitsAt : Submodel → List PathStep → List PatchRow → Type 0
FitsAt s [] rows = Fits (kinds_of_all s.kids) rows
FitsAt s (t ∷ p) rows = MatchOption (element_at s (t ∷ p)) ⊥ (λ e. Fits (kinds e) rows)

-- s with what a path leads to patched
abbrev pub patched_at : Submodel → List PathStep → List PatchRow → Submodel
patched_at s [] rows = patched_submodel rows s
patched_at s (t ∷ p) rows = option_map_or (λ e. with_element s (t ∷ p) (patched rows e 0).0) (element_at s (t ∷ p)) s
