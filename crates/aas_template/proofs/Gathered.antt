-- The elements of an instance, gathered by the children of a template, one more at a time.
use Rattle.std.proofs.Common.{◌≡◌, ℕ, ◌+◌, ◌<◌, ◌==◌, false, List, [], ◌∷◌, ◌++◌, length, take, get_or, map, slice_get, Some, Vec, option_map, refl, sym, ap, ◌∙◌, arith}
use Rattle.std.specs.List.{slice_set}
use Rattle.std.proofs.lemmas.Bool.{eq-eqb, ne_eqb}
use Rattle.std.proofs.lemmas.List.{length-map, map-set}
use Rattle.std.proofs.lemmas.Option.{slice_get-get_or, slice_get-map, slice_get_read}
use denote.Ref.{Bor}
use Rattle.aas_model.specs.declared.element.Element.{Element}
use Rattle.aas_constraint_rules.specs.Sites.{own_of}
use Rattle.aas_template.specs.Belonging.{belongs}
use Rattle.aas_template.specs.Differences.{belonging}
use Rattle.aas_template.specs.Walk.{elements, gathered, groups_of}
use Rattle.aas_template.proofs.Levels.{Is}
use Rattle.aas_template.proofs.Lists.{filter_with, filter_without, maps_but_one, same_maps}

-- those of ks that belong to t
abbrev pub mine : List Element → Element → List Element → List Element
mine ts t ks = belonging (map own_of ts) (own_of t) ks

-- one more element, which belongs to none
pub groups_stay : (ts ks : List Element) (i : ℕ) (k : Element) → i < length ks → k ≡ get_or ks i k → ((j : ℕ) (t : Element) → slice_get ts j ≡ Some t → Is ts t k ≡ false)
    → groups_of ts (take i ks) ≡ groups_of ts (take (i + 1) ks)
groups_stay ts ks i k lt at none =
    sym (same_maps (λ t. mine ts t (take i ks)) (λ t. mine ts t (take (i + 1) ks)) ts
    (λ j t is. filter_without (λ x. belongs (map own_of ts) (own_of t) (own_of x)) ks i k lt at (none j t is)))

-- or to u
groups_grow : (ts ks : List Element) (i : ℕ) (k : Element) (j : ℕ) (u : Element) → i < length ks → k ≡ get_or ks i k → slice_get ts j ≡ Some u
    → ((l : ℕ) (t : Element) → slice_get ts l ≡ Some t → Is ts t k ≡ (l == j))
    → slice_set (groups_of ts (take i ks)) j (mine ts u (take i ks) ++ k ∷ []) ≡ groups_of ts (take (i + 1) ks)
groups_grow ts ks i k j u lt at there is =
    let before : Element → List Element = λ t. mine ts t (take i ks) in
    let after : Element → List Element = λ t. mine ts t (take (i + 1) ks) in
    let one_more : after u ≡ before u ++ k ∷ [] =
    filter_with (λ x. belongs (map own_of ts) (own_of u) (own_of x)) ks i k lt at (is j u there ∙ eq-eqb j j refl) in
    ap (slice_set (groups_of ts (take i ks)) j) (sym one_more)
    ∙ sym (maps_but_one before after ts j u there
    (λ l t at_l apart. filter_without (λ x. belongs (map own_of ts) (own_of t) (own_of x)) ks i k lt at (is l t at_l ∙ ne_eqb l j apart)))

-- an element is put to those at its place
pub groups_grown : (old new : List (List Element)) (ts ks : List Element) (i : ℕ) (k : Element) (j : ℕ) → i < length ks → k ≡ get_or ks i k → j < length ts
    → ((l : ℕ) (t : Element) → slice_get ts l ≡ Some t → Is ts t k ≡ (l == j)) → old ≡ groups_of ts (take i ks)
    → ((before : List Element) → slice_get old j ≡ Some before → new ≡ slice_set old j (before ++ k ∷ [])) → new ≡ groups_of ts (take (i + 1) ks)
groups_grown old new ts ks i k j lt at within is are added =
    let u : Element = get_or ts j k in
    let there : slice_get ts j ≡ Some u = slice_get-get_or ts j k within in
    let of : Element → List Element = λ t. mine ts t (take i ks) in
    let before : slice_get old j ≡ Some (of u) = ap (λ l. slice_get l j) are ∙ slice_get-map of ts j ∙ ap (option_map of) there in
    added (of u) before ∙ ap (λ l. slice_set l j (of u ++ k ∷ [])) are ∙ groups_grow ts ks i k j u lt at there is

-- more elements are put to one group
pub gathered_more : {Z : Type 0} (groups : List (Vec (Bor Element) Z)) (i : ℕ) (g h : Vec (Bor Element) Z) (before more : List Element) → i < length groups → g ≡ get_or groups i g
    → elements h.items ≡ elements g.items ++ more → slice_get (gathered groups) i ≡ Some before → gathered (slice_set groups i h) ≡ slice_set (gathered groups) i (before ++ more)
gathered_more {Z} groups i g h before more within there put is =
    let of : Vec (Bor Element) Z → List Element = λ v. elements v.items in
    let in_groups : slice_get groups i ≡ Some g = slice_get_read groups (length groups) i g refl within there in
    let both : Some before ≡ Some (of g) = sym is ∙ slice_get-map of groups i ∙ ap (option_map of) in_groups in
    let same : of g ≡ before = cc in
    map-set of groups i h ∙ ap (slice_set (gathered groups) i) (put ∙ ap (λ l. l ++ more) same)

-- there is a group for each child of the template
pub groups_long : {Z : Type 0} (groups : List (Vec (Bor Element) Z)) (ts ks : List Element) → gathered groups ≡ groups_of ts ks → length groups ≡ length ts
groups_long groups ts ks are =
    sym (length-map groups (λ g. elements g.items)) ∙ ap length are ∙ length-map ts (λ t. mine ts t ks)

-- which is of those that belong to it
pub group_there : {Z : Type 0} (groups : List (Vec (Bor Element) Z)) (ts ks : List Element) (i : ℕ) (t : Element) (g : Vec (Bor Element) Z) → gathered groups ≡ groups_of ts ks
    → i < length ts → t ≡ get_or ts i t → g ≡ get_or groups i g → elements g.items ≡ mine ts t ks
group_there groups ts ks i t g are lt at there =
    let of : Element → List Element = λ u. mine ts u ks in
    let long : length groups ≡ length ts = groups_long groups ts ks are in
    let in_groups : slice_get groups i ≡ Some g = slice_get_read groups (length groups) i g refl (omega (arith, long, lt)) there in
    let in_ts : slice_get ts i ≡ Some t = slice_get_read ts (length ts) i t refl lt at in
    let both : Some (elements g.items) ≡ Some (of t) =
    sym (slice_get-map (λ v. elements v.items) groups i ∙ ap (option_map (λ v. elements v.items)) in_groups)
    ∙ ap (λ l. slice_get l i) are ∙ slice_get-map of ts i ∙ ap (option_map of) in_ts in
    cc
