-- Laws of updates of values.
use Rattle.std.specs.Prelude.{◌≡◌, ◌↔◌, ℕ, true, false, List, [], map, Some, None, IsTrue}
use Rattle.serde_json.specs.Data.{Data, object, Members, no_members}
use Rattle.aas_model_names.specs.declared.modifiers.Extent.TheVariants as extent
use Rattle.aas_model_names.specs.declared.kind.Kind.TheVariants as kind
use Rattle.aas_model.specs.Element.{kind_of}
use Rattle.aas_model.specs.declared.documents.Submodel.{Submodel}
use Rattle.aas_model.specs.declared.element.Element.{Element, out-Element}
use Rattle.aas_model.specs.declared.path.PathStep.{PathStep}
use Rattle.aas_json_table.specs.Canonical.{canonical}
use Rattle.aas_json_table.specs.Table.{Sort, one}
use Rattle.aas_json_spelling.specs.Values.{IsOrdered}
use Rattle.aas_json_mapping.specs.Whole.{is_placed}
use Rattle.aas_constraint_rules.specs.Faults.{faults, submodel, HasNoFault}
use Rattle.aas_path_trees.specs.Children.{kids_of, is_list}
use Rattle.aas_path_trees.specs.Places.{element_in, Differ}
use Rattle.aas_constraint_laws.specs.Law.{behind, local_faults}
use Rattle.aas_constraint_laws.specs.Valid.{IsValid, is_whole}
use Rattle.aas_constraint_laws.specs.Values.{DifferInValues}
use Rattle.aas_value.specs.ValueForm.{value_form, shows_children}
use Rattle.aas_value.specs.Json.{is_part}
use Rattle.aas_value_update.specs.Forms.{lay}
use Rattle.aas_value_update.specs.LeftAlone.{unshown}
use Rattle.aas_value_update.specs.Shape.{HasShape, IsFirstMisfit, first_misshapen}
use Rattle.aas_value_update.specs.Update.{IsElementUpdate, IsValueUpdate, body, valued_at}

-- the walk finds nothing exactly where a value may be sent
abbrev pub ShapeIsJudged : Type 0
ShapeIsJudged = (e : Element) (v : Data) → HasShape e v ↔ (first_misshapen e v ≡ None)

-- else it finds just the first element for which the value has something that doesn't fit
abbrev pub FirstMisfitIsFound : Type 0
FirstMisfitIsFound = (e : Element) (v : Data) (q : List PathStep) → IsFirstMisfit e v q ↔ (first_misshapen e v ≡ Some q)

-- in an element and below it siblings that a value form shows differ, everywhere but in lists
abbrev pub NamesDiffer : Element → Type 0
NamesDiffer e = (q : List ℕ) (k : Element) → element_in q e ≡ Some k → shows_children (out-Element k).payload ≡ true
    → is_list k ≡ false → Differ (kids_of k)

-- as an element of a valid submodel is: siblings differ, and children
-- stand only where their parent's kind has a place for them
pub record IsInOrder (e : Element) : Type 0 where
  pub names : NamesDiffer e
  pub placed : is_placed e ≡ true

-- elements with the same value form are the same, if they differ
-- in values alone and have the same Operations and Capabilities
abbrev pub OneForm : Type 0
OneForm = (e u : Element) → IsInOrder e → DifferInValues e u → unshown u ≡ unshown e
    → value_form extent.WithBlobValue u ≡ value_form extent.WithBlobValue e → u ≡ e

-- an element has at most one update by a value
abbrev pub OneElementUpdate : Type 0
OneElementUpdate = (e u w : Element) (v : Data) → IsInOrder e → IsElementUpdate e v u → IsElementUpdate e v w → u ≡ w

-- and so has a valid submodel
abbrev pub OneValueUpdate : Type 0
OneValueUpdate = (d u w : Submodel) (p : List PathStep) (v : Data) → IsValid (submodel d)
    → IsValueUpdate d p v u → IsValueUpdate d p v w → u ≡ w

-- A valid submodel stays whole: what is sent is within the limits where it fits. The names of what is sent rise.
abbrev pub UpdateStaysWhole : Type 0
UpdateStaysWhole = (d u : Submodel) (p : List PathStep) (v : Data) → IsValid (submodel d) → IsOrdered v
    → IsValueUpdate d p v u → IsTrue (is_whole (submodel u))

-- The law of place for a whole submodel: let it be without faults, and let its children be changed in their values
-- alone: then it has the faults that they have by themselves, and no others.
abbrev pub LawOfWholeSubmodel : Type 0
LawOfWholeSubmodel = (d u : Submodel) → HasNoFault (submodel d) → u ≡ record d { kids = u.kids }
    → DifferInValues (body d) (body u) → faults u ≡ local_faults (body u)

-- so a valid submodel has after an update the faults that what the path leads to has by itself, and no others
abbrev pub FaultsAfterUpdate : Type 0
FaultsAfterUpdate = (d u : Submodel) (p : List PathStep) (v : Data) (e : Element) → IsValid (submodel d)
    → IsValueUpdate d p v u → valued_at u p ≡ Some e → faults u ≡ map (behind p) (local_faults e)

-- and stays valid where there are none
abbrev pub ValidAfterUpdate : Type 0
ValidAfterUpdate = (d u : Submodel) (p : List PathStep) (v : Data) (e : Element) → IsValid (submodel d) → IsOrdered v
    → IsValueUpdate d p v u → valued_at u p ≡ Some e → local_faults e ≡ [] → IsValid (submodel u)

-- an element that is updated by its own value form stays as it is
abbrev pub OwnFormStays : Type 0
OwnFormStays = (e u : Element) (v : Data) → IsInOrder e → value_form extent.WithBlobValue e ≡ Some v
    → IsElementUpdate e v u → u ≡ e

-- a value form laid over that of an element that differs in values alone is itself: each member is there
abbrev pub WholeFormReplaces : Type 0
WholeFormReplaces = (e u : Element) (w v : Data) → IsInOrder e → DifferInValues e u
    → value_form extent.WithBlobValue e ≡ Some w → value_form extent.WithBlobValue u ≡ Some v → lay e w v ≡ v

-- so an update by the value form of an element that has the same Operations and Capabilities makes just this element
abbrev pub WholeFormMakesElement : Type 0
WholeFormMakesElement = (e u w : Element) (v : Data) → IsInOrder e → DifferInValues e u → unshown u ≡ unshown e
    → value_form extent.WithBlobValue u ≡ Some v → IsElementUpdate e v w ↔ (HasShape e v × (w ≡ u))

-- an object without members changes nothing, but where it would be a whole reference
abbrev pub NoMembersChangeNothing : Type 0
NoMembersChangeNothing = (e u : Element) (ms : Members) → IsInOrder e → ¬ (kind_of e ≡ kind.ReferenceElement)
    → value_form extent.WithBlobValue e ≡ Some (object ms) → IsElementUpdate e (object no_members) u → u ≡ e

-- ---- one update after another; the names of what is sent rise

-- an update by w, of what an update by v has made, is one by w laid over v, where w fits
abbrev pub UpdatesCompose : Type 0
UpdatesCompose = (e u x : Element) (v w : Data) → IsInOrder e → IsOrdered v → IsOrdered w
    → IsElementUpdate e v u → IsElementUpdate u w x ↔ (HasShape e w × IsElementUpdate e (lay e v w) x)

-- so it is with updates at one path of a valid submodel
abbrev pub ValueUpdatesCompose : Type 0
ValueUpdatesCompose =
    (d u x : Submodel) (p : List PathStep) (e : Element) (v w : Data) → IsValid (submodel d) → IsOrdered v → IsOrdered w
    → valued_at d p ≡ Some e → IsValueUpdate d p v u
    → IsValueUpdate u p w x ↔ (HasShape e w × IsValueUpdate d p (lay e v w) x)

-- what fits laid over what fits fits
abbrev pub LaidValuesFit : Type 0
LaidValuesFit = (e : Element) (v w : Data)
    → IsInOrder e → IsOrdered v → IsOrdered w → HasShape e v → HasShape e w → HasShape e (lay e v w)

-- and its names rise
abbrev pub LaidNamesRise : Type 0
LaidNamesRise = (e : Element) (v w : Data) → IsInOrder e → IsOrdered v → IsOrdered w → IsOrdered (lay e v w)

-- what may be sent of a sort is canonical JSON: it says itself by the attribute table
abbrev pub SentIsCanonical : Type 0
SentIsCanonical = (s : Sort) (d : Data) → is_part s d ≡ true → IsOrdered d → canonical (one s) d ≡ Some d
