-- The submodel of a demo is valid.
use Rattle.std.proofs.Common.{◌≡◌, ℕ, zero, suc, ◌+◌, ◌<◌, ◌≤◌, ◌^◌, ◌||◌, ◌&&◌, Bool, true, false, not, cond, List, [], ◌∷◌, ◌++◌, length, map, filter, filter_map, flat_map, bytes_eq, nat_le, decimal, Some, None, refl, ap, ap₂, ◌∙◌, arith}
use Rattle.std.specs.List.{AllByRecursion, list_all, range_with_len}
use Rattle.std.proofs.lemmas.Bool.{and_from}
use Rattle.std.proofs.lemmas.List.Elements.{filter_map-append}
use Rattle.std.proofs.lemmas.List.Folds.{list_any-append}
use Rattle.std.proofs.lemmas.List.FromFn.{length-range_with_len}
use Rattle.aas_constraint_rules.proofs.Elements.{tree_out}
use Rattle.aas_constraint_rules.specs.Decided.{has_form, is_name, is_string}
use Rattle.aas_constraint_rules.specs.Faults.{broken, fault, faults_at}
use Rattle.aas_constraint_rules.specs.Rules.{holds, name_of, rules}
use Rattle.aas_constraint_rules.specs.Sites.{Own, Site, Trees, none, first, node, sites, sites_among, step_to, tree_of, trees}
use Rattle.aas_constraint_rules.specs.Texts.{is_among}
use Rattle.aas_json_mapping.proofs.Elements.{levels_at, parts_at, seen_at}
use Rattle.aas_json_mapping.specs.Whole.{Placed, element_levels, has_whole_parts, is_member, is_placed, is_whole_element}
use Rattle.aas_json_table.specs.TooDeep.{limits}
use Rattle.aas_model.specs.Payload.{kind_of}
use Rattle.aas_model.specs.declared.element.Element.{out-Element, out-roll-Element}
use Rattle.aas_model.specs.declared.element.Role.TheVariants.{Member}
use Rattle.aas_model.specs.declared.path.PathStep.{PathStep}
use Rattle.aas_model.specs.declared.payload.Payload.{Payload}
use Rattle.aas_model.specs.declared.payload.Payload.TheVariants.{Property}
use Rattle.aas_model_names.specs.declared.kind.Kind.TheVariants as kind
use Rattle.aas_model_names.specs.declared.value_type.ValueType.TheVariants.{Int}
use Rattle.aas_path_trees.proofs.Patches.{kinds_out}
use Rattle.aas_path_trees.specs.Patched.{kinds, kinds_of_all}
use Rattle.aas_reference.specs.Rules.{Rule, failing}
use Rattle.aas_demo.proofs.Forms.{int_has_form, int_is_string, name_is_name, name_is_short, name_is_string, names_differ}
use Rattle.aas_demo.specs.Demo.{common_with, number_of, property_at}
use Rattle.aas_demo.specs.Laws.{DemosAreValid, DemosHaveSoMany}

-- ---- one property

abbrev payload_at : ℕ → Payload
payload_at place = Property Int (Some (decimal (number_of place))) None

-- with this idShort and this value
abbrev own_with : List ℕ → List ℕ → Own
own_with name text = record { common = common_with name; payload = Property Int (Some text) None; role = Member }

abbrev own_at : ℕ → Own
own_at place = own_with (80 ∷ decimal place) (decimal (number_of place))

small_number : (place : ℕ) → number_of place < 2 ^ 31
small_number place = omega arith

property_tree : (place : ℕ) → tree_of (property_at place) ≡ node (own_at place) none
property_tree place =
    tree_out (property_at place)
    ∙ ap (λ f. node (record { common = f.common; payload = f.payload; role = f.role }) (trees (map tree_of f.kids))) (out-roll-Element _)

-- ---- it is whole

whole_property : (place : ℕ) → is_whole_element limits (property_at place) ≡ true
whole_property place =
    let e = property_at place in
    let common = common_with (80 ∷ decimal place) in
    let role : is_member (out-Element e).role ≡ true = ap (λ f. is_member f.role) (out-roll-Element _) in
    let parts : has_whole_parts limits e ≡ true = parts_at limits Member common (payload_at place) [] in
    let placed : is_placed e ≡ true = ap (λ (x : Placed). x.placed) (seen_at Member common (payload_at place) []) in
    let levels : nat_le (element_levels e) limits.elements ≡ true =
    ap (λ n. nat_le n limits.elements) (levels_at Member common (payload_at place) []) in
    and_from _ _ role (and_from _ _ (and_from _ _ parts placed) levels)

whole_properties : (places : List ℕ) → list_all (is_whole_element limits) (map property_at places) ≡ true
whole_properties [] = refl
whole_properties (place ∷ places) =
    and_from (is_whole_element limits (property_at place)) (list_all (is_whole_element limits) (map property_at places))
    (whole_property place) (whole_properties places)

-- ---- it keeps the constraints

none_fails : {S : Type 0} (test : S → Bool) (rs : List (Rule S)) → AllByRecursion (λ r. test r.sentence ≡ true) rs → failing test rs ≡ []
none_fails test [] passes = refl
none_fails test (r ∷ rs) passes =
    ap (λ b. map (λ r. r.number) (cond (not b) (r ∷ filter (λ r. not (test r.sentence)) rs) (filter (λ r. not (test r.sentence)) rs))) passes.0
    ∙ none_fails test rs passes.1

abbrev site_at : List PathStep → List Own → Own → Site
site_at path before own = record { in_template = false; path = path; above = None; before = before; own = own }

-- by the tests of its texts, and where no earlier sibling has its name
keeps_rules : (path : List PathStep) (before : List Own) (name text : List ℕ) → nat_le (length name) 128 ≡ true → has_form Int text ≡ true
    → is_name name ≡ true → is_string name ≡ true → is_string text ≡ true → is_among name (filter_map name_of before) ≡ false
    → broken (site_at path before (own_with name text)) ≡ []
keeps_rules path before name text short form named string text_string new =
    none_fails (λ s. holds s (site_at path before (own_with name text))) rules (
      ap₂ (λ a b. (((((a && true) && true) && true) && true) && b) && true) short form,
      (
        ap (λ a. a && true) named,
        (
          refl,
          (
            refl,
            (
              refl,
              (
                ap not new,
                (
                  refl,
                  (
                    refl,
                    (
                      refl,
                      (
                        refl,
                        (
                          refl,
                          (
                            refl,
                            (
                              refl,
                              (
                                refl,
                                (
                                  refl,
                                  (
                                    refl,
                                    (
                                      refl,
                                      (
                                        refl,
                                        (
                                          refl,
                                          (
                                            refl,
                                            (
                                              refl,
                                              (
                                                refl,
                                                (
                                                  refl,
                                                  (
                                                    ap₂ (λ a b. (a && (b && true)) && true) string text_string,
                                                    (refl, (refl, tt)),
                                                  ),
                                                ),
                                              ),
                                            ),
                                          ),
                                        ),
                                      ),
                                    ),
                                  ),
                                ),
                              ),
                            ),
                          ),
                        ),
                      ),
                    ),
                  ),
                ),
              ),
            ),
          ),
        ),
      ),
    )

-- no earlier sibling has the name of a property from a place on
AreBelow : ℕ → List Own → Type 0
AreBelow least before = (place : ℕ) → least ≤ place → place < 2 ^ 64 → is_among (80 ∷ decimal place) (filter_map name_of before) ≡ false

one_more_below : (least : ℕ) (before : List Own) → AreBelow least before → AreBelow (least + 1) (before ++ own_at least ∷ [])
unfolding AreBelow
one_more_below least before below place above small =
    let name = 80 ∷ decimal place in
    ap (is_among name) (filter_map-append name_of before (own_at least ∷ []))
    ∙ list_any-append (bytes_eq name) (filter_map name_of before) ((80 ∷ decimal least) ∷ [])
    ∙ ap₂ (λ a b. a || (b || false)) (below place (omega (arith, above)) small) (names_differ least place (omega (arith, above)) small)

trees_at : List ℕ → Trees
trees_at [] = none
trees_at (place ∷ places) = first (node (own_at place) none) (trees_at places)

as_trees : (places : List ℕ) → trees (map tree_of (map property_at places)) ≡ trees_at places
unfolding trees_at
as_trees [] = refl
as_trees (place ∷ places) = ap₂ first (property_tree place) (as_trees places)

none_broken : (count least : ℕ) (before : List Own) → least + count ≤ 2 ^ 32 → AreBelow least before
    → flat_map faults_at (sites_among false None before (trees_at (range_with_len least count))) ≡ []
unfolding sites sites_among trees_at AreBelow
none_broken zero least before within below = refl
none_broken (suc count) least before within below =
    let path = step_to None (length before) (own_at least) ∷ [] in
    let small : least < 2 ^ 32 = omega (arith, within) in
    let wide : least < 2 ^ 64 = omega (arith, small) in
    ap₂ (λ a b. map (fault path) a ++ b)
    (keeps_rules path before (80 ∷ decimal least) (decimal (number_of least)) (name_is_short least small)
    (int_has_form (number_of least) (small_number least)) (name_is_name least wide) (name_is_string least wide)
    (int_is_string (number_of least) (omega (arith, small_number least))) (below least (omega arith) wide))
    (none_broken count (least + 1) (before ++ own_at least ∷ []) (omega (arith, within)) (one_more_below least before below))

pub valid : DemosAreValid
unfolding AreBelow
valid count within = record {
  whole = whole_properties (range_with_len 0 count);
  faultless =
      ap (λ ts. flat_map faults_at (sites_among false None [] ts)) (as_trees (range_with_len 0 count))
      ∙ none_broken count 0 [] (omega (arith, within)) (λ place above small. refl);
}

-- ---- how many there are

one_kind : (place : ℕ) → kinds (property_at place) ≡ kind.Property ∷ []
one_kind place =
    kinds_out (property_at place) ∙ ap (λ f. kind_of f.payload ∷ kinds_of_all f.kids) (out-roll-Element _)

so_many : (places : List ℕ) → length (kinds_of_all (map property_at places)) ≡ length places
so_many [] = refl
so_many (place ∷ places) = ap (λ ks. length (ks ++ kinds_of_all (map property_at places))) (one_kind place) ∙ ap suc (so_many places)

pub have_so_many : DemosHaveSoMany
have_so_many count = so_many (range_with_len 0 count) ∙ length-range_with_len 0 count
