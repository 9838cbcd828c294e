-- A whole submodel stays whole where an element of it is changed in its values alone, and has whole parts.
use Rattle.std.proofs.Common.{◌≡◌, ℕ, zero, suc, ◌&&◌, Bool, true, false, List, [], ◌∷◌, map, slice_get, slice_set, Option, Some, None, option_and_then, refl, sym, ap, ◌∙◌}
use Rattle.std.specs.Prelude.{nat_le}
use Rattle.std.specs.List.{list_all}
use Rattle.std.proofs.lemmas.Bool.{and_parts}
use Rattle.aas_json_table.specs.TooDeep.{limits}
use Rattle.aas_json_spelling.specs.Lists.{most}
use Rattle.aas_json_mapping.specs.Whole.{whole_common, whole_payload, has_whole_parts, Placed, placed_over, is_placed, element_levels, is_member, is_whole_child, is_whole_element, whole_head, whole_semantics, whole_qualifier, is_whole_submodel}
use Rattle.aas_model.specs.declared.common.Common.{Common}
use Rattle.aas_model.specs.declared.documents.Submodel.{Submodel}
use Rattle.aas_model.specs.declared.element.Element.{Element, out-Element, roll-Element, out-roll-Element, fold-Element, fold_out-Element, ind-Element}
use Rattle.aas_model.specs.declared.element.Element.TheOpen.{Element-F}
use Rattle.aas_model.specs.declared.element.Role.{Role}
use Rattle.aas_model.specs.declared.path.PathStep.{PathStep}
use Rattle.aas_model.specs.declared.payload.Payload.{Payload}
use Rattle.aas_model.specs.declared.payload.Payload.TheVariants as p
use Rattle.aas_constraint_rules.specs.Sites.{Own, own_of}
use Rattle.aas_path_trees.specs.Children.{kids_of, is_list}
use Rattle.aas_path_trees.specs.ElementAt.{child_by, element_below, element_at}
use Rattle.aas_path_trees.specs.WithElement.{with_child, with_below, with_element}
use Rattle.aas_path_trees.proofs.Paths.{child_by-there}
use Rattle.aas_constraint_laws.specs.Law.{behind, ValidAfterChange}
use Rattle.aas_constraint_laws.specs.Values.{without_values, bare, DifferInValues}
use Rattle.aas_constraint_laws.proofs.Bare.{made, bare_own, bare_out}
use Rattle.aas_constraint_laws.proofs.Bridge.{law}

abbrev pub Child : Type 0
Child = ℕ × Element

-- ---- lists with another item in a place

pub all_at : {X : Type 0} (test : X → Bool) (xs : List X) (i : ℕ) (x : X) → list_all test xs ≡ true → slice_get xs i ≡ Some x → test x ≡ true
all_at test [] i x all at = absurd (cc)
all_at test (y ∷ xs) zero x all at = let same : y ≡ x = cc in ap test (sym same) ∙ (and_parts (test y) (list_all test xs) all).0
all_at test (y ∷ xs) (suc i) x all at = all_at test xs i x (and_parts (test y) (list_all test xs) all).1 at

all_set : {X : Type 0} (test : X → Bool) (xs : List X) (i : ℕ) (x w : X) → slice_get xs i ≡ Some x → test w ≡ test x → list_all test (slice_set xs i w) ≡ list_all test xs
all_set test [] i x w at same = absurd (cc)
all_set test (y ∷ xs) zero x w at same = let is : y ≡ x = cc in ap (λ b. b && list_all test xs) (same ∙ ap test (sym is))
all_set test (y ∷ xs) (suc i) x w at same = ap (λ b. test y && b) (all_set test xs i x w at same)

map_set : {X Y : Type 0} (f : X → Y) (xs : List X) (i : ℕ) (x w : X) → slice_get xs i ≡ Some x → f w ≡ f x → map f (slice_set xs i w) ≡ map f xs
map_set f [] i x w at same = absurd (cc)
map_set f (y ∷ xs) zero x w at same = let is : y ≡ x = cc in ap (λ z. z ∷ map f xs) (same ∙ ap f (sym is))
map_set f (y ∷ xs) (suc i) x w at same = ap (λ l. f y ∷ l) (map_set f xs i x w at same)

-- ---- what is said of an element and of all below it

module _ {T : Type 0} (f : Element-F T → T) where
  abbrev pub of : Element → T
  of = fold-Element T f

  abbrev pub over : Own → List T → T
  over o ts = f (record { common = o.common; payload = o.payload; role = o.role; kids = ts })

  of_out : (e : Element) → of e ≡ over (own_of e) (map of (kids_of e))
  of_out e = fold_out-Element T f e

  of_made : (o : Own) (ks : List Element) → of (made o ks) ≡ over o (map of ks)
  of_made o ks =
      of_out (made o ks)
      ∙ ap (λ x. f (record { common = x.common; payload = x.payload; role = x.role; kids = map of x.kids })) (out-roll-Element (record { common = o.common; payload = o.payload; role = o.role; kids = ks }))

  -- it is the same with an element of which the same is said in another's place
  pub same_with_child : (p : List PathStep) (ks : List Element) (k w : Element) → ((e : Element) → element_below p e ≡ Some k → of (with_below p e w) ≡ of e)
      → (o : Option Child) → ((c : Child) → o ≡ Some c → slice_get ks c.0 ≡ Some c.1) → option_and_then (λ c. element_below p c.1) o ≡ Some k
      → map of (with_child (λ x. with_below p x w) ks o) ≡ map of ks
  same_with_child p ks k w h None at there = absurd (cc)
  same_with_child p ks k w h (Some c) at there = map_set of ks c.0 c.1 (with_below p c.1 w) (at c refl) (h c.1 there)

  pub same_with : (p : List PathStep) (e k w : Element) → of w ≡ of k → element_below p e ≡ Some k → of (with_below p e w) ≡ of e
  unfolding element_below with_below
  same_with [] e k w same there = let is : e ≡ k = cc in same ∙ ap of (sym is)
  same_with (s ∷ p) e k w same there =
      let o = child_by (is_list e) s (kids_of e) in
      of_made (own_of e) (with_child (λ x. with_below p x w) (kids_of e) o)
      ∙ ap (over (own_of e)) (same_with_child p (kids_of e) k w (λ x. same_with p x k w same) o (λ c is. (child_by-there (is_list e) s (kids_of e) c is).1) there)
      ∙ sym (of_out e)

  -- and with the same element without its values, where they are no matter
  abbrev pub AreNoMatter : Type 0
  AreNoMatter = (o : Own) (ts : List T) → over (bare_own o) ts ≡ over o ts

  abbrev Known : Type 0
  Known = (e : Element) × (of (bare e) ≡ of e)

  all_known : (ks : List Known) → map of (map bare (map (λ k. k.0) ks)) ≡ map of (map (λ k. k.0) ks)
  all_known [] = refl
  all_known (k ∷ ks) = λ i. k.1 i ∷ all_known ks i

  level : AreNoMatter → (e : Element) (ks : List Known) → kids_of e ≡ map (λ k. k.0) ks → of (bare e) ≡ of e
  level no_matter e ks is =
      ap of (bare_out e) ∙ of_made (bare_own (own_of e)) (map bare (kids_of e)) ∙ no_matter (own_of e) (map of (map bare (kids_of e)))
      ∙ ap (over (own_of e)) (ap (λ l. map of (map bare l)) is ∙ all_known ks ∙ sym (ap (map of) is)) ∙ sym (of_out e)

  same_bare : AreNoMatter → (e : Element) → of (bare e) ≡ of e
  same_bare no_matter = ind-Element (λ e. of (bare e) ≡ of e) (λ x y is. level no_matter (roll-Element x) y.kids (ap (λ z. z.kids) (out-roll-Element x ∙ sym is)))

  pub same_changed : AreNoMatter → (e u : Element) → DifferInValues e u → of u ≡ of e
  same_changed no_matter e u same = sym (same_bare no_matter u) ∙ ap of (sym same) ∙ same_bare no_matter e

-- ---- places and levels

abbrev pub levels_over : Element-F ℕ → ℕ
levels_over e = suc (most e.kids)

abbrev parts_over : Element-F Bool → Bool
parts_over e = whole_common limits e.common && whole_payload limits e.payload && list_all (λ b. b) e.kids

pub placed_alike : (c : Common) (x : Payload) (r : Role) (ks : List Placed)
    → placed_over (record { common = c; payload = without_values x; role = r; kids = ks }) ≡ placed_over (record { common = c; payload = x; role = r; kids = ks })
placed_alike c p.Capability r ks = refl
placed_alike c _ r ks = refl

pub role_out : (e : Element) → (of placed_over e).role ≡ (out-Element e).role
role_out e = ap (λ (z : Placed). z.role) (of_out placed_over e)

-- ---- parts

pub all_parts : (ks : List Element) → list_all (λ b. b) (map (has_whole_parts limits) ks) ≡ list_all (has_whole_parts limits) ks
all_parts [] = refl
all_parts (k ∷ ks) = ap (λ b. has_whole_parts limits k && b) (all_parts ks)

pub parts_of_kids : (e : Element) → has_whole_parts limits e ≡ true → list_all (has_whole_parts limits) (kids_of e) ≡ true
parts_of_kids e whole =
    let own : Bool = whole_common limits (out-Element e).common && whole_payload limits (out-Element e).payload in
    sym (all_parts (kids_of e)) ∙ (and_parts own (list_all (λ b. b) (map (has_whole_parts limits) (kids_of e))) (sym (of_out parts_over e) ∙ whole)).1

pub parts_below_child : (p : List PathStep) (ks : List Element) (k : Element) → ((e : Element) → has_whole_parts limits e ≡ true → element_below p e ≡ Some k → has_whole_parts limits k ≡ true)
    → list_all (has_whole_parts limits) ks ≡ true → (o : Option Child) → ((c : Child) → o ≡ Some c → slice_get ks c.0 ≡ Some c.1) → option_and_then (λ c. element_below p c.1) o ≡ Some k
    → has_whole_parts limits k ≡ true
parts_below_child p ks k h whole None at there = absurd (cc)
parts_below_child p ks k h whole (Some c) at there = h c.1 (all_at (has_whole_parts limits) ks c.0 c.1 whole (at c refl)) there

pub parts_below : (p : List PathStep) (e k : Element) → has_whole_parts limits e ≡ true → element_below p e ≡ Some k → has_whole_parts limits k ≡ true
unfolding element_below
parts_below [] e k whole there = let is : e ≡ k = cc in ap (has_whole_parts limits) (sym is) ∙ whole
parts_below (s ∷ p) e k whole there =
    parts_below_child p (kids_of e) k (λ x. parts_below p x k) (parts_of_kids e whole) (child_by (is_list e) s (kids_of e)) (λ c is. (child_by-there (is_list e) s (kids_of e) c is).1) there

-- ---- a whole child, and the submodel

pub child_whole : (p : List PathStep) (k e u : Element) → is_whole_element limits k ≡ true → element_below p k ≡ Some e → DifferInValues e u → has_whole_parts limits u ≡ true
    → is_whole_element limits (with_below p k u) ≡ is_whole_element limits k
child_whole p k e u whole there same parts =
    let child = (and_parts (is_member (out-Element k).role) (is_whole_child limits k) whole).1 in
    let own = (and_parts (has_whole_parts limits k) (is_placed k) (and_parts (has_whole_parts limits k && is_placed k) (nat_le (element_levels k) limits.elements) child).0).0 in
    let same_parts : has_whole_parts limits (with_below p k u) ≡ has_whole_parts limits k = same_with parts_over p k e u (parts ∙ sym (parts_below p k e own there)) there in
    let same_place = same_with placed_over p k e u (same_changed placed_over (λ o ts. placed_alike o.common o.payload o.role ts) e u same) there in
    let same_levels = same_with levels_over p k e u (same_changed levels_over (λ o ts. refl) e u same) there in
    let same_role : (out-Element (with_below p k u)).role ≡ (out-Element k).role = sym (role_out (with_below p k u)) ∙ ap (λ (z : Placed). z.role) same_place ∙ role_out k in
    λ i. is_member (same_role i) && (same_parts i && (same_place i).placed && nat_le (same_levels i) limits.elements)

kids_whole : (p : List PathStep) (ks : List Element) (e u : Element) → list_all (is_whole_element limits) ks ≡ true → DifferInValues e u → has_whole_parts limits u ≡ true
    → (o : Option Child) → ((c : Child) → o ≡ Some c → slice_get ks c.0 ≡ Some c.1) → option_and_then (λ c. element_below p c.1) o ≡ Some e
    → list_all (is_whole_element limits) (with_child (λ k. with_below p k u) ks o) ≡ list_all (is_whole_element limits) ks
kids_whole p ks e u whole same parts None at there = absurd (cc)
kids_whole p ks e u whole same parts (Some c) at there =
    all_set (is_whole_element limits) ks c.0 c.1 (with_below p c.1 u) (at c refl) (child_whole p c.1 e u (all_at (is_whole_element limits) ks c.0 c.1 whole (at c refl)) there same parts)

pub stays_whole : (d : Submodel) (p : List PathStep) (e u : Element) → is_whole_submodel limits d ≡ true → element_at d p ≡ Some e → DifferInValues e u → has_whole_parts limits u ≡ true
    → is_whole_submodel limits (with_element d p u) ≡ true
stays_whole d [] e u whole there same parts = absurd (cc)
stays_whole d (s ∷ p) e u whole there same parts =
    let own : Bool = whole_head limits d.head && whole_semantics limits d.semantics && list_all (whole_qualifier limits) d.qualifiers in
    let kids = (and_parts own (list_all (is_whole_element limits) d.kids) whole).1 in
    ap (λ b. own && b) (kids_whole p d.kids e u kids same parts (child_by false s d.kids) (λ c is. (child_by-there false s d.kids c is).1) there) ∙ whole

pub valid_after_change : ValidAfterChange
valid_after_change d p e u valid there same parts none = record {
  whole = stays_whole d p e u valid.whole there same parts;
  faultless = law d p e u valid.faultless there same ∙ ap (map (behind p)) none;
}
