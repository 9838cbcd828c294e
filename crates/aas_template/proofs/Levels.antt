-- Differences, one level at a time.
use Rattle.std.proofs.Common.{◌≡◌, ℕ, ◌+◌, Bool, true, false, List, [], ◌∷◌, ◌++◌, map, Option, Some, option_map, if◌then◌else◌, refl, sym, ap, ap₂, ◌∙◌}
use Rattle.aas_json_table.specs.Rows.{first_of}
use Rattle.aas_model.specs.declared.element.Element.{Element, fold_out-Element}
use Rattle.aas_model.specs.declared.path.PathStep.TheVariants.{Name, Place}
use Rattle.aas_reference.specs.Rules.{first}
use Rattle.aas_path_trees.specs.Children.{kids_of}
use Rattle.aas_constraint_rules.specs.Sites.{own_of, is_list}
use Rattle.aas_template.specs.Belonging.{belongs, id_short}
use Rattle.aas_template.specs.Differences.{Compared, belonging, compared, compared_over, difference, differences, differences_among, differences_below, differences_beside, differences_in_list, list_differences, means_the_same, named_differences, same_kind, same_types, under, unless}
use Rattle.aas_template.specs.declared.difference.Difference.{Difference}
use Rattle.aas_template.specs.declared.difference.Reason.TheVariants.{KindDiffers, TypeDiffers, SemanticDiffers}
use Rattle.aas_constraints.proofs.Lists.{first-append, first-map}

-- ---- one element

pub compared_out : (t : Element) → compared t ≡ record { own = own_of t; differences_of = differences_beside (own_of t) (map compared (kids_of t)) }
unfolding compared
compared_out t = fold_out-Element Compared compared_over t

pub differences_out : (t k : Element) → differences t k ≡ differences_beside (own_of t) (map compared (kids_of t)) k
differences_out t k = ap (λ c. c.differences_of k) (compared_out t)

pub own_compared : (t : Element) → (compared t).own ≡ own_of t
own_compared t = ap (λ c. c.own) (compared_out t)

pub owns_compared : (ts : List Element) → map (λ u. u.own) (map compared ts) ≡ map own_of ts
owns_compared [] = refl
owns_compared (t ∷ ts) = ap₂ (λ o os. o ∷ os) (own_compared t) (owns_compared ts)

below : Element → Element → List Difference
below t k = differences_below (own_of t).payload (map compared (kids_of t)) (kids_of k)

meaning : Element → Element → Bool
meaning t k = means_the_same (own_of t).common.semantics.semantic_id (own_of k).common.semantics.semantic_id

at_level : Bool → Bool → Bool → List Difference → Option Difference
at_level kinds types meaning rest = first (if kinds then unless types (difference [] TypeDiffers) ++ unless meaning (difference [] SemanticDiffers) ++ rest else difference [] KindDiffers ∷ [])

level : (t k : Element) → first (differences t k) ≡ at_level (same_kind (own_of t).payload (own_of k).payload) (same_types (own_of t).payload (own_of k).payload) (meaning t k) (below t k)
unfolding at_level meaning below
level t k = ap first (differences_out t k)

pub kind_differs : (t k : Element) → same_kind (own_of t).payload (own_of k).payload ≡ false → Some (difference [] KindDiffers) ≡ first (differences t k)
unfolding at_level
kind_differs t k h = sym (level t k ∙ ap (λ b. at_level b (same_types (own_of t).payload (own_of k).payload) (meaning t k) (below t k)) h)

pub type_differs : (t k : Element) → same_kind (own_of t).payload (own_of k).payload ≡ true → same_types (own_of t).payload (own_of k).payload ≡ false
    → Some (difference [] TypeDiffers) ≡ first (differences t k)
unfolding at_level
type_differs t k h g = sym (level t k ∙ ap₂ (λ b c. at_level b c (meaning t k) (below t k)) h g)

pub meaning_differs : (t k : Element) → same_kind (own_of t).payload (own_of k).payload ≡ true → same_types (own_of t).payload (own_of k).payload ≡ true
    → means_the_same (own_of t).common.semantics.semantic_id (own_of k).common.semantics.semantic_id ≡ false → Some (difference [] SemanticDiffers) ≡ first (differences t k)
unfolding at_level meaning
meaning_differs t k h g f = sym (level t k ∙ ap₂ (λ b c. at_level b c (meaning t k) (below t k)) h g ∙ ap (λ b. at_level true true b (below t k)) f)

-- nothing differs at the element itself
alike : (t k : Element) → same_kind (own_of t).payload (own_of k).payload ≡ true → same_types (own_of t).payload (own_of k).payload ≡ true
    → means_the_same (own_of t).common.semantics.semantic_id (own_of k).common.semantics.semantic_id ≡ true → first (below t k) ≡ first (differences t k)
unfolding at_level meaning
alike t k h g f = sym (level t k ∙ ap₂ (λ b c. at_level b c (meaning t k) (below t k)) h g ∙ ap (λ b. at_level true true b (below t k)) f)

-- so it is the first difference among the children, those of a list or those by names
pub alike_kids : (b : Bool) (t k : Element) → same_kind (own_of t).payload (own_of k).payload ≡ true
    → same_types (own_of t).payload (own_of k).payload ≡ true
    → means_the_same (own_of t).common.semantics.semantic_id (own_of k).common.semantics.semantic_id ≡ true
    → is_list (own_of t).payload ≡ b
    → first (if b then differences_in_list (map compared (kids_of t)) (kids_of k)
    else differences_among (map compared (kids_of t)) (kids_of k))
    ≡ first (differences t k)
unfolding below
alike_kids b t k h g f l =
    sym (ap (λ b. first (if b then differences_in_list (map compared (kids_of t)) (kids_of k)
    else differences_among (map compared (kids_of t)) (kids_of k))) l)
    ∙ alike t k h g f

-- ---- the children of a list

pub listed_out : (t : Compared) (n : ℕ) (k : Element) (ks : List Element)
    → first (list_differences t n (k ∷ ks)) ≡ first_of (option_map (under (Place n)) (first (t.differences_of k))) (first (list_differences t (n + 1) ks))
listed_out t n k ks =
    first-append (map (under (Place n)) (t.differences_of k)) (list_differences t (n + 1) ks)
    ∙ ap (λ o. first_of o (first (list_differences t (n + 1) ks))) (first-map (under (Place n)) (t.differences_of k))

-- ---- children by names

pub named_first : (t : Compared) (k : Element) → first (named_differences t k) ≡ option_map (under (Name (id_short (own_of k)))) (first (t.differences_of k))
named_first t k = first-map (under (Name (id_short (own_of k)))) (t.differences_of k)

-- the test of belonging to t, one of ts
abbrev pub Is : List Element → Element → Element → Bool
Is ts t k = belongs (map own_of ts) (own_of t) (own_of k)

pub own_belonging : (ts : List Element) (t : Element) (ks : List Element) → belonging (map (λ u. u.own) (map compared ts)) (compared t).own ks ≡ belonging (map own_of ts) (own_of t) ks
own_belonging ts t ks = ap₂ (λ os o. belonging os o ks) (owns_compared ts) (own_compared t)
