use Rattle.std.proofs.Common.{◌≡◌, ◌+◌, ◌<◌, ◌≤◌, ◌∙◌, length, get_or, map, drop, flat_map, Some, None, option_map, false, true, sym, ap, ap₂, arith}
use Rattle.std.proofs.Math.ListN.{get_or-map}
use Rattle.std.proofs.lemmas.List.{length-map}
use denote.Ref.{Bor}
use Rattle.aas_model.specs.declared.element.Element.{Element}
use Rattle.aas_model.specs.declared.path.PathStep.TheVariants.{Name, Place}
use Rattle.aas_reference.specs.Rules.{first}
use Rattle.aas_constraint_rules.specs.Sites.{own_of}
use Rattle.aas_template.specs.Belonging.{id_short}
use Rattle.aas_template.specs.Cardinality.{allows, cardinality}
use Rattle.aas_template.specs.Differences.{compared, differences, differences_among, group_differences, list_differences, named_differences, under}
use Rattle.aas_template.specs.declared.cardinality.Cardinality.TheVariants.{One, ZeroToMany}
use Rattle.aas_template.specs.Walk.{elements, gathered, groups_of}
use Rattle.aas_template.proofs.Gathered.{group_there, mine}
use Rattle.aas_template.proofs.Levels.{alike_kids, kind_differs, meaning_differs, type_differs}
use Rattle.aas_template.proofs.Walks.{count_allowed, count_differs, found, group_turn, left, list_count_allowed, list_count_differs, list_ended, list_turn, named_ended, named_turn, passed}
use Rattle.aas_template.proofs.walk.+compare.Goals as goal

-- ---- an element

pub difference_beside-returns-then-not-same_kind : goal.difference_beside-returns-then-not-same_kind
difference_beside-returns-then-not-same_kind t c =
    ap Some c.here.ensures ∙ kind_differs c.args.template.now c.args.instance.now (sym c.same_kind.ensures ∙ c.if-not-same_kind.true)

pub difference_beside-returns-then-not-same_types : goal.difference_beside-returns-then-not-same_types
difference_beside-returns-then-not-same_types t c =
    ap Some c.here-then-not-same_types.ensures
    ∙ type_differs c.args.template.now c.args.instance.now (sym c.same_kind.ensures ∙ c.if-not-same_kind.false) (sym c.same_types.ensures ∙ c.if-not-same_types.true)

pub difference_beside-returns-then-not-means_the_same : goal.difference_beside-returns-then-not-means_the_same
difference_beside-returns-then-not-means_the_same t c =
    ap Some c.here-then-not-means_the_same.ensures
    ∙ meaning_differs c.args.template.now c.args.instance.now (sym c.same_kind.ensures ∙ c.if-not-same_kind.false) (sym c.same_types.ensures ∙ c.if-not-same_types.false)
    (sym c.means_the_same.ensures ∙ c.if-not-means_the_same.true)

pub difference_beside-returns-in_ok-difference_in_list : goal.difference_beside-returns-in_ok-difference_in_list
difference_beside-returns-in_ok-difference_in_list t c =
    c.in_ok-difference_in_list.ensures
    ∙ alike_kids true c.args.template.now c.args.instance.now (sym c.same_kind.ensures ∙ c.if-not-same_kind.false) (sym c.same_types.ensures ∙ c.if-not-same_types.false)
    (sym c.means_the_same.ensures ∙ c.if-not-means_the_same.false) (sym c.is_list.ensures ∙ c.if-is_list.true)

pub difference_beside-returns-in_ok-difference_among : goal.difference_beside-returns-in_ok-difference_among
difference_beside-returns-in_ok-difference_among t c =
    c.in_ok-difference_among.ensures
    ∙ alike_kids false c.args.template.now c.args.instance.now (sym c.same_kind.ensures ∙ c.if-not-same_kind.false) (sym c.same_types.ensures ∙ c.if-not-same_types.false)
    (sym c.means_the_same.ensures ∙ c.if-not-means_the_same.false) (sym c.is_list.ensures ∙ c.if-is_list.false)

-- ---- the children of a list

pub difference_from_one-returns-then-not-allows : goal.difference_from_one-returns-then-not-allows
difference_from_one-returns-then-not-allows t c =
    let w = c.args.wanted.now in
    let ks = c.args.instances.now in
    let count : allows (cardinality ZeroToMany (own_of w).common.qualifiers) (length ks) ≡ false =
    ap₂ allows (ap (cardinality ZeroToMany) (sym c.as_slice.ensures) ∙ sym c.cardinality_of.ensures) (sym c.len.ensures) ∙ sym c.allows.ensures ∙ c.if-not-allows.true in
    ap Some c.here.ensures ∙ list_count_differs w ks count

pub difference_from_one-returns-in-Some : goal.difference_from_one-returns-in-Some
difference_from_one-returns-in-Some t c =
    let w = c.args.wanted.now in
    let ks = c.as_slice-instance-items.result.now in
    let i = c.loop-place.place in
    let k : Element = c.instance-item.result in
    let lt : i < length ks = omega arith in
    let at : k ≡ get_or ks i k = ap (λ (x : Element). x) c.instance-item.is in
    let count : allows (cardinality ZeroToMany (own_of w).common.qualifiers) (length c.args.instances.now) ≡ true =
    ap₂ allows (ap (cardinality ZeroToMany) (sym c.as_slice.ensures) ∙ sym c.cardinality_of.ensures) (sym c.len.ensures) ∙ sym c.allows.ensures ∙ c.if-not-allows.false in
    let all = first (list_differences (compared w) 0 ks) in
    ap Some c.in_ok-under.ensures
    ∙ found all (option_map (under (Place i)) (first (differences w k))) (first (list_differences (compared w) (i + 1) (drop (i + 1) ks))) (under (Place i) c.in-Some.found)
    (list_turn (compared w) all ks i k lt at c.loop-place.invariant)
    (ap (option_map (under (Place i))) (sym c.in_ok-found.ensures ∙ c.in-Some.is))
    ∙ ap (λ l. first (list_differences (compared w) 0 l)) c.as_slice-instance-items.ensures
    ∙ list_count_allowed w c.args.instances.now count

pub difference_from_one-returns : goal.difference_from_one-returns
difference_from_one-returns t c =
    let w = c.args.wanted.now in
    let ks = c.as_slice-instance-items.result.now in
    let count : allows (cardinality ZeroToMany (own_of w).common.qualifiers) (length c.args.instances.now) ≡ true =
    ap₂ allows (ap (cardinality ZeroToMany) (sym c.as_slice.ensures) ∙ sym c.cardinality_of.ensures) (sym c.len.ensures) ∙ sym c.allows.ensures ∙ c.if-not-allows.false in
    list_ended (compared w) (first (list_differences (compared w) 0 ks)) ks c.loop-place.place c.loop-place-test.false c.loop-place.invariant
    ∙ ap (λ l. first (list_differences (compared w) 0 l)) c.as_slice-instance-items.ensures
    ∙ list_count_allowed w c.args.instances.now count

-- ---- the children by names

pub difference_among-returns-in-Some : goal.difference_among-returns-in-Some
difference_among-returns-in-Some t c =
    let ts = c.as_slice-templates.result.now in
    let ks = c.args.instance_kids.now in
    let i = c.loop-place.place in
    let u : Element = c.index-templates-place.result in
    let lt : i < length ts = omega arith in
    let at : u ≡ get_or ts i u = ap (λ (x : Element). x) c.index-templates-place.is in
    let groups_are : gathered c.in_ok-groups.groups.items ≡ groups_of ts ks = c.in_ok-groups.ensures ∙ ap (groups_of ts) c.as_slice.ensures in
    let mine_are : elements c.deref.result.now ≡ mine ts u ks =
    ap elements c.deref.ensures.value ∙ group_there c.in_ok-groups.groups.items ts ks i u c.index.result.now groups_are lt at c.index.ensures in
    let here = first (group_differences (compared u) (mine ts u ks)) in
    let is : here ≡ Some c.in-Some.found = sym (c.in_ok-found.ensures ∙ ap (λ l. first (group_differences (compared u) l)) mine_are) ∙ c.in-Some.is in
    let all = first (differences_among (map compared ts) ks) in
    found all here (left ts ks (drop (i + 1) ts)) c.in-Some.found (group_turn ts ks i u all lt at c.loop-place.invariant) is
    ∙ ap (λ l. first (differences_among (map compared l) ks)) c.as_slice-templates.ensures

pub difference_among-loop-place-preserved : goal.difference_among-loop-place-preserved
difference_among-loop-place-preserved t c =
    let ts = c.as_slice-templates.result.now in
    let ks = c.args.instance_kids.now in
    let i = c.loop-place.place in
    let u : Element = c.index-templates-place.result in
    let lt : i < length ts = omega arith in
    let at : u ≡ get_or ts i u = ap (λ (x : Element). x) c.index-templates-place.is in
    let groups_are : gathered c.in_ok-groups.groups.items ≡ groups_of ts ks = c.in_ok-groups.ensures ∙ ap (groups_of ts) c.as_slice.ensures in
    let mine_are : elements c.deref.result.now ≡ mine ts u ks =
    ap elements c.deref.ensures.value ∙ group_there c.in_ok-groups.groups.items ts ks i u c.index.result.now groups_are lt at c.index.ensures in
    let here = first (group_differences (compared u) (mine ts u ks)) in
    let is : here ≡ None = sym (c.in_ok-found.ensures ∙ ap (λ l. first (group_differences (compared u) l)) mine_are) ∙ c.in_default.is in
    let all = first (differences_among (map compared ts) ks) in
    passed all here (left ts ks (drop (i + 1) ts)) (group_turn ts ks i u all lt at c.loop-place.invariant) is

-- ---- the elements that belong to one of a template

pub difference_of_group-returns-then-not-allows : goal.difference_of_group-returns-then-not-allows
difference_of_group-returns-then-not-allows t c =
    let w = c.args.template.now in
    let es = elements c.args.group.now in
    let count : allows (cardinality One (own_of w).common.qualifiers) (length es) ≡ false =
    ap₂ allows (ap (cardinality One) (sym c.as_slice.ensures) ∙ sym c.cardinality_of.ensures) (length-map c.args.group.now (λ r. r.now)) ∙ sym c.allows.ensures ∙ c.if-not-allows.true in
    ap Some (c.in_ok-under.ensures ∙ ap₂ under c.in_ok-step_to.ensures c.here.ensures) ∙ count_differs w es count

pub difference_of_group-returns-in-Some : goal.difference_of_group-returns-in-Some
difference_of_group-returns-in-Some t c =
    let w = c.args.template.now in
    let es = elements c.args.group.now in
    let i = c.loop-instance.instance-index in
    let r : Bor Element = c.instance-item.result in
    let k = r.now in
    let long : length es ≡ length c.args.group.now = length-map c.args.group.now (λ x. x.now) in
    let lt : i < length es = omega (arith, long) in
    let at_r : r ≡ get_or c.args.group.now i r = ap (λ (x : Bor Element). x) c.instance-item.is in
    let at : k ≡ get_or es i k = ap (λ (x : Bor Element). x.now) at_r ∙ sym (get_or-map (λ (x : Bor Element). x.now) c.args.group.now i r) in
    let count : allows (cardinality One (own_of w).common.qualifiers) (length es) ≡ true =
    ap₂ allows (ap (cardinality One) (sym c.as_slice.ensures) ∙ sym c.cardinality_of.ensures) long ∙ sym c.allows.ensures ∙ c.if-not-allows.false in
    let all = first (flat_map (named_differences (compared w)) es) in
    let rest = first (flat_map (named_differences (compared w)) (drop (i + 1) es)) in
    let step = Name (id_short (own_of k)) in
    ap Some (c.in_ok-under-2.ensures ∙ ap (λ s. under s c.in-Some.found) c.in_ok-step_to-2.ensures)
    ∙ found all (option_map (under step) (first (differences w k))) rest (under step c.in-Some.found)
    (named_turn (compared w) all es i k lt at c.loop-instance.invariant)
    (ap (option_map (under step)) (sym c.in_ok-found.ensures ∙ c.in-Some.is))
    ∙ count_allowed w es count

pub difference_of_group-loop-instance-preserved : goal.difference_of_group-loop-instance-preserved
difference_of_group-loop-instance-preserved t c =
    let w = c.args.template.now in
    let es = elements c.args.group.now in
    let i = c.loop-instance.instance-index in
    let r : Bor Element = c.instance-item.result in
    let k = r.now in
    let long : length es ≡ length c.args.group.now = length-map c.args.group.now (λ x. x.now) in
    let lt : i < length es = omega (arith, long) in
    let at_r : r ≡ get_or c.args.group.now i r = ap (λ (x : Bor Element). x) c.instance-item.is in
    let at : k ≡ get_or es i k = ap (λ (x : Bor Element). x.now) at_r ∙ sym (get_or-map (λ (x : Bor Element). x.now) c.args.group.now i r) in
    let all = first (flat_map (named_differences (compared w)) es) in
    let rest = first (flat_map (named_differences (compared w)) (drop (i + 1) es)) in
    let step = Name (id_short (own_of k)) in
    passed all (option_map (under step) (first (differences w k))) rest (named_turn (compared w) all es i k lt at c.loop-instance.invariant)
    (ap (option_map (under step)) (sym c.in_ok-found.ensures ∙ c.in_default.is))

pub difference_of_group-returns : goal.difference_of_group-returns
difference_of_group-returns t c =
    let w = c.args.template.now in
    let es = elements c.args.group.now in
    let long : length es ≡ length c.args.group.now = length-map c.args.group.now (λ x. x.now) in
    let le : length es ≤ c.loop-instance.instance-index = omega (arith, long) in
    let count : allows (cardinality One (own_of w).common.qualifiers) (length es) ≡ true =
    ap₂ allows (ap (cardinality One) (sym c.as_slice.ensures) ∙ sym c.cardinality_of.ensures) long ∙ sym c.allows.ensures ∙ c.if-not-allows.false in
    named_ended (compared w) (first (flat_map (named_differences (compared w)) es)) es c.loop-instance.instance-index le c.loop-instance.invariant
    ∙ count_allowed w es count
