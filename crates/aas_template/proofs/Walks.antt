-- One turn of each walk.
use Rattle.std.proofs.Common.{◌≡◌, ℕ, ◌+◌, ◌<◌, ◌≤◌, true, false, List, [], ◌∷◌, ◌++◌, length, drop, flat_map, get_or, map, slice_get, Option, Some, None, option_map, refl, sym, ap, ◌∙◌, subst, arith, length-drop}
use Rattle.std.specs.List.{All}
use Rattle.std.proofs.lemmas.List.{nil_from_length}
use Rattle.std.proofs.lemmas.Option.{slice_get-get_or}
use Rattle.aas_json_table.specs.Rows.{first_of}
use Rattle.aas_lemmas.proofs.Lists.{drop_at}
use Rattle.aas_model.specs.declared.element.Element.{Element}
use Rattle.aas_model.specs.declared.path.PathStep.TheVariants.{Name, Place}
use Rattle.aas_reference.specs.Rules.{first}
use Rattle.aas_path_trees.specs.Children.{kids_of}
use Rattle.aas_path_trees.specs.Places.{Differ, element_in}
use Rattle.aas_constraint_rules.specs.Sites as sites
use Rattle.aas_constraint_rules.specs.Sites.{own_of}
use Rattle.aas_template.specs.Belonging.{id_short}
use Rattle.aas_template.specs.Cardinality.{allows, cardinality}
use Rattle.aas_template.specs.Differences.{Compared, belonging, compared, difference, differences_from_one, differences_in_list, group_differences, list_differences, named_differences, under, unless}
use Rattle.aas_template.specs.declared.cardinality.Cardinality.TheVariants.{One, ZeroToMany}
use Rattle.aas_template.specs.declared.difference.Difference.{Difference}
use Rattle.aas_template.specs.declared.difference.Reason.TheVariants.{CountDiffers}
use Rattle.aas_template.specs.Laws.{DifferBelow}
use Rattle.aas_template.proofs.Gathered.{mine}
use Rattle.aas_template.proofs.Levels.{listed_out, named_first, own_belonging, own_compared}
use Rattle.aas_constraints.proofs.Lists.{first-append}
use Rattle.aas_template.proofs.Themselves.{child_differs, list_tests}

-- ---- here, or later

pub found : (all here rest : Option Difference) (f : Difference) → all ≡ first_of here rest → here ≡ Some f → Some f ≡ all
found all here rest f e h = sym (e ∙ ap (λ o. first_of o rest) h)

pub passed : (all here rest : Option Difference) → all ≡ first_of here rest → here ≡ None → all ≡ rest
passed all here rest e h = e ∙ ap (λ o. first_of o rest) h

-- ---- the children of a list

pub list_turn : (t : Compared) (all : Option Difference) (ks : List Element) (i : ℕ) (k : Element) → i < length ks → k ≡ get_or ks i k
    → all ≡ first (list_differences t i (drop i ks))
    → all ≡ first_of (option_map (under (Place i)) (first (t.differences_of k))) (first (list_differences t (i + 1) (drop (i + 1) ks)))
list_turn t all ks i k lt at so_far = so_far ∙ ap (λ l. first (list_differences t i l)) (drop_at ks i k lt at) ∙ listed_out t i k (drop (i + 1) ks)

pub list_ended : (t : Compared) (all : Option Difference) (ks : List Element) (i : ℕ) → length ks ≤ i → all ≡ first (list_differences t i (drop i ks)) → None ≡ all
list_ended t all ks i le so_far =
    let none_left : drop i ks ≡ [] = nil_from_length (drop i ks) (omega (arith, length-drop i ks)) in
    sym (so_far ∙ ap (λ l. first (list_differences t i l)) none_left)

list_count : (w : Element) (n : ℕ) → allows (cardinality ZeroToMany (compared w).own.common.qualifiers) n ≡ allows (cardinality ZeroToMany (own_of w).common.qualifiers) n
list_count w n = ap (λ o. allows (cardinality ZeroToMany o.common.qualifiers) n) (own_compared w)

pub list_count_differs : (w : Element) (ks : List Element) → allows (cardinality ZeroToMany (own_of w).common.qualifiers) (length ks) ≡ false
    → Some (difference [] CountDiffers) ≡ first (differences_from_one (compared w) ks)
list_count_differs w ks h = sym (ap (λ b. first (unless b (difference [] CountDiffers) ++ list_differences (compared w) 0 ks)) (list_count w (length ks) ∙ h))

pub list_count_allowed : (w : Element) (ks : List Element) → allows (cardinality ZeroToMany (own_of w).common.qualifiers) (length ks) ≡ true
    → first (list_differences (compared w) 0 ks) ≡ first (differences_from_one (compared w) ks)
list_count_allowed w ks h = sym (ap (λ b. first (unless b (difference [] CountDiffers) ++ list_differences (compared w) 0 ks)) (list_count w (length ks) ∙ h))

-- by the first child of the template's list, if there is one
pub without_wanted : (ts ks : List Element) → length ts ≡ 0 → None ≡ first (differences_in_list (map compared ts) ks)
without_wanted [] ks none = refl
without_wanted (t ∷ ts) ks none = absurd (omega (arith, none))

pub with_wanted : (ts ks : List Element) (w : Element) → slice_get ts 0 ≡ Some w → first (differences_from_one (compared w) ks) ≡ first (differences_in_list (map compared ts) ks)
with_wanted [] ks w is = absurd (cc)
with_wanted (t ∷ ts) ks w is = let same : w ≡ t = cc in ap (λ x. first (differences_from_one (compared x) ks)) same

-- ---- the elements that belong to one of a template

pub named_turn : (t : Compared) (all : Option Difference) (ks : List Element) (i : ℕ) (k : Element) → i < length ks → k ≡ get_or ks i k
    → all ≡ first (flat_map (named_differences t) (drop i ks))
    → all ≡ first_of (option_map (under (Name (id_short (own_of k)))) (first (t.differences_of k))) (first (flat_map (named_differences t) (drop (i + 1) ks)))
named_turn t all ks i k lt at so_far =
    so_far ∙ ap (λ l. first (flat_map (named_differences t) l)) (drop_at ks i k lt at)
    ∙ first-append (named_differences t k) (flat_map (named_differences t) (drop (i + 1) ks))
    ∙ ap (λ o. first_of o (first (flat_map (named_differences t) (drop (i + 1) ks)))) (named_first t k)

pub named_ended : (t : Compared) (all : Option Difference) (ks : List Element) (i : ℕ) → length ks ≤ i → all ≡ first (flat_map (named_differences t) (drop i ks)) → None ≡ all
named_ended t all ks i le so_far =
    let none_left : drop i ks ≡ [] = nil_from_length (drop i ks) (omega (arith, length-drop i ks)) in
    sym (so_far ∙ ap (λ l. first (flat_map (named_differences t) l)) none_left)

pub count_differs : (t : Element) (ks : List Element) → allows (cardinality One (own_of t).common.qualifiers) (length ks) ≡ false
    → Some (difference (Name (id_short (own_of t)) ∷ []) CountDiffers) ≡ first (group_differences (compared t) ks)
count_differs t ks h =
    sym (ap (λ o. first (unless (allows (cardinality One o.common.qualifiers) (length ks)) (difference (Name (id_short o) ∷ []) CountDiffers) ++ flat_map (named_differences (compared t)) ks)) (own_compared t)
    ∙ ap (λ b. first (unless b (difference (Name (id_short (own_of t)) ∷ []) CountDiffers) ++ flat_map (named_differences (compared t)) ks)) h)

pub count_allowed : (t : Element) (ks : List Element) → allows (cardinality One (own_of t).common.qualifiers) (length ks) ≡ true
    → first (flat_map (named_differences (compared t)) ks) ≡ first (group_differences (compared t) ks)
count_allowed t ks h =
    sym (ap (λ o. first (unless (allows (cardinality One o.common.qualifiers) (length ks)) (difference (Name (id_short o) ∷ []) CountDiffers) ++ flat_map (named_differences (compared t)) ks)) (own_compared t)
    ∙ ap (λ b. first (unless b (difference (Name (id_short (own_of t)) ∷ []) CountDiffers) ++ flat_map (named_differences (compared t)) ks)) h)

-- ---- the children of a template, with what belongs to each

-- the first difference of those of ks that belong to the children that are left
abbrev pub left : List Element → List Element → List Element → Option Difference
left ts ks rest = first (flat_map (λ t. group_differences t (belonging (map (λ u. u.own) (map compared ts)) t.own ks)) (map compared rest))

pub group_turn : (ts ks : List Element) (i : ℕ) (t : Element) (all : Option Difference) → i < length ts → t ≡ get_or ts i t → all ≡ left ts ks (drop i ts)
    → all ≡ first_of (first (group_differences (compared t) (mine ts t ks))) (left ts ks (drop (i + 1) ts))
group_turn ts ks i t all lt at so_far =
    so_far ∙ ap (left ts ks) (drop_at ts i t lt at)
    ∙ first-append (group_differences (compared t) (belonging (map (λ u. u.own) (map compared ts)) (compared t).own ks))
    (flat_map (λ u. group_differences u (belonging (map (λ v. v.own) (map compared ts)) u.own ks)) (map compared (drop (i + 1) ts)))
    ∙ ap (λ l. first_of (first (group_differences (compared t) l)) (left ts ks (drop (i + 1) ts))) (own_belonging ts t ks)

pub groups_ended : (ts ks : List Element) (i : ℕ) (all : Option Difference) → length ts ≤ i → all ≡ left ts ks (drop i ts) → None ≡ all
groups_ended ts ks i all le so_far =
    let none_left : drop i ts ≡ [] = nil_from_length (drop i ts) (omega (arith, length-drop i ts)) in
    sym (so_far ∙ ap (left ts ks) none_left)

-- ---- what is wanted of the children of a template

pub kids_differ : (e : Element) → DifferBelow e → sites.is_list (own_of e).payload ≡ false → Differ (kids_of e)
unfolding element_in
kids_differ e h not_so = h [] e refl (sym (list_tests e) ∙ not_so)

pub kids_below : (e : Element) → DifferBelow e → All DifferBelow (kids_of e)
kids_below e h = λ k d lt. child_differs e k (get_or (kids_of e) k d) (slice_get-get_or (kids_of e) k d lt) h

pub all_at : {X : Type 0} (P : X → Type 0) (xs : List X) (i : ℕ) (x : X) → All P xs → i < length xs → x ≡ get_or xs i x → P x
all_at P xs i x h lt at = subst P (sym at) (h i x lt)
