-- Which submodels a store takes. The limits are this profile's own.
use Rattle.std.specs.Prelude.{◌≡◌, ℕ, ◌≤◌, List, length, slice_get, Some}
use Rattle.aas_model.specs.declared.documents.Submodel.{Submodel}
use Rattle.aas_model.specs.declared.element.Element.{Element}
use Rattle.aas_path_trees.specs.Children.{kids_of, id_short_of}
use Rattle.aas_path_trees.specs.Patched.{element_count}
use Rattle.aas_path_trees.specs.Places.{element_in_all}

-- no two have the same idShort (IDTA-01001-3-0, AASd-022)
abbrev pub HaveOwnNames : List Element → Type 0
HaveOwnNames es = (i j : ℕ) (e f : Element) (n : List ℕ) → slice_get es i ≡ Some e → slice_get es j ≡ Some f → id_short_of e ≡ Some n → id_short_of f ≡ Some n → i ≡ j

-- at most 65,536 elements, none at a level above 30, and no two children of one parent with the same idShort; an
-- element's level is the length of its place
pub record IsStorable (d : Submodel) : Type 0 where
  pub few : element_count d ≤ 65536
  pub shallow : (q : List ℕ) (e : Element) → element_in_all q d.kids ≡ Some e → length q ≤ 30
  pub own_names : HaveOwnNames d.kids
  pub own_names_below : (q : List ℕ) (e : Element) → element_in_all q d.kids ≡ Some e → HaveOwnNames (kids_of e)
