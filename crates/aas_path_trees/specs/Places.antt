-- The places of elements: from the submodel down, the number of each child among its siblings, counted from 0. What the
-- paths of IDTA-01002-3-0 (idShortPath) say by names, places say by numbers alone.
use Rattle.std.specs.Prelude.{◌≡◌, ℕ, ◌≤◌, ◌^◌, true, false, List, [], ◌∷◌, length, slice_get, Option, Some, None, IsSome, option_and_then, option_map}
use Rattle.aas_model.specs.declared.documents.Submodel.{Submodel}
use Rattle.aas_model.specs.declared.element.Element.{Element}
use Rattle.aas_model.specs.declared.path.PathStep.{PathStep}
use Rattle.aas_path_trees.specs.Children.{kids_of, id_short_of, is_list}
use Rattle.aas_path_trees.specs.ElementAt.{child_by}
use Rattle.aas_lexical.specs.Names.{id_short}

-- the element in a place, counted from e
unfoldable pub element_in : List ℕ → Element → Option Element
element_in [] e = Some e
element_in (i ∷ q) e = option_and_then (element_in q) (slice_get (kids_of e) i)

abbrev pub element_in_all : List ℕ → List Element → Option Element
element_in_all [] ks = None
element_in_all (i ∷ q) ks = option_and_then (element_in q) (slice_get ks i)

-- the place to which a path leads from e
unfoldable pub place_below : List PathStep → Element → Option (List ℕ)
place_below [] e = Some []
place_below (s ∷ p) e = option_and_then (λ c. option_map (λ q. c.0 ∷ q) (place_below p c.1)) (child_by (is_list e) s (kids_of e))

-- the place to which a path leads in a submodel
abbrev pub place_at : Submodel → List PathStep → Option (List ℕ)
place_at d [] = None
place_at d (s ∷ p) = option_and_then (λ c. option_map (λ q. c.0 ∷ q) (place_below p c.1)) (child_by false s d.kids)

-- each child has an idShort, and no two have the same
pub record Differ (ks : List Element) : Type 0 where
  pub named : (i : ℕ) (k : Element) → slice_get ks i ≡ Some k → IsSome (id_short_of k)
  pub apart : (i j : ℕ) (k m : Element) → slice_get ks i ≡ Some k → slice_get ks j ≡ Some m → id_short_of k ≡ id_short_of m → i ≡ j

-- siblings differ everywhere but in lists (IDTA-01001-3-0, AASd-022 and AASd-117)
pub record SiblingsDiffer (d : Submodel) : Type 0 where
  pub first : Differ d.kids
  pub below : (q : List ℕ) (e : Element) → element_in_all q d.kids ≡ Some e → is_list e ≡ false → Differ (kids_of e)

-- each idShort can be written in a path
abbrev pub AreNamed : List Element → Type 0
AreNamed ks = (i : ℕ) (k : Element) (n : List ℕ) → slice_get ks i ≡ Some k → id_short_of k ≡ Some n → id_short n

-- each place in a list can be written in a path
abbrev pub PlacesKeepRule : Submodel → Type 0
PlacesKeepRule d = (q : List ℕ) (e : Element) → element_in_all q d.kids ≡ Some e → is_list e ≡ true → length (kids_of e) ≤ 10 ^ 9

-- each idShort outside lists, and each place in a list, can be written in a path
pub record StepsKeepRule (d : Submodel) : Type 0 where
  pub first : AreNamed d.kids
  pub below : (q : List ℕ) (e : Element) → element_in_all q d.kids ≡ Some e → is_list e ≡ false → AreNamed (kids_of e)
  pub lists : PlacesKeepRule d
