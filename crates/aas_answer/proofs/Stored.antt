-- What a store tells of a submodel by its head and its rows.
use Rattle.std.proofs.Common.{◌≡◌, ℕ, List, [], Option, Some, None, refl, sym, ap, ◌∙◌, subst}
use Rattle.std.specs.Prelude.{MatchOption, option_map}
use Rattle.std.specs.FinMap as map
use Rattle.std.specs.Option.{option_map_or}
use Rattle.aas_constraint_laws.specs.Values.{without_values}
use Rattle.aas_form.specs.MetadataForm.{metadata_form}
use Rattle.aas_model.specs.declared.documents.Submodel.{Submodel}
use Rattle.aas_model.specs.declared.element.Element.{Element, roll-Element}
use Rattle.aas_model_names.specs.declared.modifiers.Extent.{Extent}
use Rattle.aas_model_names.specs.declared.modifiers.Level.{Level}
use Rattle.aas_json_write_rows.specs.Poured.{AreLow}
use Rattle.aas_json_write_rows.specs.Submodels.{with_elements}
use Rattle.aas_rows.specs.Rows.{Line, line_at, rows_of_all}
use Rattle.aas_step.specs.Laws.{ValidIsStorable}
use Rattle.aas_step.specs.Valid.{AreValid}
use Rattle.aas_store.specs.Documents.{Documents, Identifier, without_children}
use Rattle.aas_store.specs.Storable.{IsStorable}
use Rattle.aas_answer.specs.Answers.{submodel_shown}
use Rattle.aas_answer.proofs.Low.{rows_are_low}

-- these rows are those of the submodel that is found
abbrev pub HasLines : Option Submodel → List Line → Type 0
HasLines found lines = MatchOption found ⊥ (λ s. lines ≡ rows_of_all s.kids 1)

pub has_lines : (found : Option Submodel) (s : Submodel) (lines : List Line)
    → Some s ≡ found → lines ≡ rows_of_all s.kids 1
    → HasLines found lines
has_lines found s lines is rows = subst (λ (o : Option Submodel). HasLines o lines) is rows

-- valid submodels
abbrev pub HasValid : Option Submodel → Type 0
HasValid found = (s : Submodel) → found ≡ Some s → IsStorable s

pub storable : (d : Documents) (id : Identifier) → ValidIsStorable → AreValid d → HasValid (map.get d.submodels id)
storable d id law valid s is = let there = valid.submodels id s is in law s there.valid there.few

pub low_lines : (found : Option Submodel) (lines : List Line) → HasValid found → HasLines found lines → AreLow lines
low_lines None lines valid has = absurd has
low_lines (Some s) lines valid has = subst AreLow (sym has) (rows_are_low s.kids (valid s refl).shallow)

-- what is shown of a stored submodel by its head, with its children
pub shown_by_head : (level : Level) (extent : Extent) (found : Option Submodel) (h s : Submodel)
    → Some s ≡ found → without_children h ≡ without_children s
    → submodel_shown level extent (with_elements h s.kids) ≡ option_map_or (submodel_shown level extent) found []
shown_by_head level extent found h s is head =
    ap (λ h. submodel_shown level extent (with_elements h s.kids)) head
    ∙ ap (λ o. option_map_or (submodel_shown level extent) o []) is

-- a submodel that isn't told of by its head isn't there
pub no_head : (found : Option Submodel) → None ≡ option_map without_children found → found ≡ None
no_head None is = refl
no_head (Some s) is = absurd (cc)

-- the metadata of an element is told by its row
metadata_of : Line → Element
metadata_of r =
    roll-Element (record { common = r.common; payload = without_values r.payload; role = r.role; kids = [] })

pub same_metadata : (k : ℕ) (a e : Element) → line_at k a ≡ line_at k e → metadata_form a ≡ metadata_form e
unfolding metadata_of
same_metadata k a e same = ap metadata_of same
