-- Of the idShort of what takes the place of an element, by the rule on lists,
-- AASd-120, and the name with which its path ends.
use Rattle.std.proofs.Common.{◌≡◌, ℕ, zero, suc, Bool, true, false, cond, if◌then◌else◌, nat_lt, List, [], ◌∷◌, ◌++◌}
use Rattle.std.proofs.Common.{length, get_or, slice_get, slice_set, Option, Some, None, option_and_then, refl, sym, ap}
use Rattle.std.proofs.Common.{◌∙◌, subst}
use Rattle.std.specs.Prelude.{find}
use Rattle.std.specs.List.{last_or, position_or_len}
use Rattle.std.proofs.lemmas.Bool.{ltb-false}
use Rattle.std.proofs.lemmas.List.Folds.{find_at}
use Rattle.std.proofs.lemmas.List.Quantifiers.{position-Some}
use Rattle.std.proofs.lemmas.Option.{get_or_from_slice_get, slice_get_past}
use Rattle.std.proofs.lemmas.Slice.Eq.{bytes_eq-Decides}
use Rattle.aas_constraint_rules.specs.Faults.{submodel, HasNoFault}
use Rattle.aas_model.specs.declared.documents.Submodel.{Submodel}
use Rattle.aas_model.specs.declared.element.Element.{Element, Element-F, out-Element, out-roll-Element}
use Rattle.aas_model.specs.declared.path.PathStep.{PathStep}
use Rattle.aas_model.specs.declared.path.PathStep.TheVariants.{Name, Place}
use Rattle.aas_path_trees.specs.Children.{kids_of, id_short_of, is_list, is_list_payload, with_kids}
use Rattle.aas_path_trees.specs.ElementAt.{child_by, element_among, element_at, element_below, is_text}
use Rattle.aas_path_trees.specs.ElementAt.{place_named, place_of}
use Rattle.aas_path_trees.specs.WithElement.{with_below, with_child, with_element}
use Rattle.aas_path_trees.proofs.OnePath.{text_is}
use Rattle.aas_path_trees.proofs.Paths.{child_by-there, element_among-append, element_below-cons, with_among-append}
use Rattle.aas_edit_laws.proofs.Others.{kids_named, there_among, there_below}
use Rattle.aas_edit_faults.specs.Laws.{IsNewName, ListsHaveNoNames}

abbrev Child : Type 0
Child = ℕ × Element

-- ---- a step, and the child to which it leads

named_by : (n : List ℕ) (l : Bool) (ks : List Element) (c : Child)
    → place_of l (Name n) ks ≡ Some c.0 → slice_get ks c.0 ≡ Some c.1 → id_short_of c.1 ≡ Some n
unfolding place_of
named_by n true ks c is there = absurd (cc)
named_by n false ks c is there =
    let found = position-Some (λ k. is_text n (id_short_of k)) ks c.0 c.1 is in
    let here : get_or ks c.0 c.1 ≡ c.1 = get_or_from_slice_get ks c.0 c.1 c.1 there in
    text_is n (id_short_of c.1) (ap (λ k. is_text n (id_short_of k)) (sym here) ∙ found.1)

-- a name leads to the child that has it, ...
led_by_name : (n : List ℕ) (l : Bool) (ks : List Element) (c : Child)
    → child_by l (Name n) ks ≡ Some c → id_short_of c.1 ≡ Some n
led_by_name n l ks c is = let there = child_by-there l (Name n) ks c is in named_by n l ks c there.0 there.1

placed_in : (i : ℕ) (l : Bool) (ks : List Element) (j : ℕ) → place_of l (Place i) ks ≡ Some j → l ≡ true
unfolding place_of
placed_in i true ks j is = refl
placed_in i false ks j is = absurd (cc)

-- ... and a place into a list
led_by_place : (i : ℕ) (l : Bool) (ks : List Element) (c : Child) → child_by l (Place i) ks ≡ Some c → l ≡ true
led_by_place i l ks c is = placed_in i l ks c.0 (child_by-there l (Place i) ks c is).0

one_step : (o : Option Child) (e : Element)
    → option_and_then (λ (c : Child). element_below [] c.1) o ≡ Some e → (i : ℕ) × (o ≡ Some (i, e))
unfolding element_below
one_step None e is = absurd (cc)
one_step (Some c) e is = let same : c.1 ≡ e = cc in (c.0, ap (λ (k : Element). Some (c.0, k)) same)

-- ---- the children of a list

not_first : (p : Element → Bool) (x : Element) (more : Option Element) (b : Bool)
    → p x ≡ b → cond b (Some x) more ≡ None → (p x ≡ false) × (more ≡ None)
not_first p x more true is none = absurd (cc)
not_first p x more false is none = (is, none)

not_found : (p : Element → Bool) (ks : List Element) (i : ℕ) (k : Element)
    → find p ks ≡ None → slice_get ks i ≡ Some k → p k ≡ true → ⊥
not_found p [] i k none there passes = absurd (cc)
not_found p (x ∷ ks) zero k none there passes =
    let fails : p x ≡ false = (not_first p x (find p ks) (p x) refl none).0 in
    let same : x ≡ k = cc in
    let wrong : false ≡ true = sym fails ∙ ap p same ∙ passes in absurd (cc)
not_found p (x ∷ ks) (suc i) k none there passes =
    not_found p ks i k (not_first p x (find p ks) (p x) refl none).1 there passes

past : (x : Bool) (i : ℕ) → (if x then Some i else None) ≡ None → x ≡ false
past true i e = absurd (cc)
past false i e = refl

-- a name that no child has
not_named : (n : List ℕ) (ks : List Element) (i : ℕ) (k : Element)
    → place_named n ks ≡ None → slice_get ks i ≡ Some k → id_short_of k ≡ Some n → ⊥
not_named n ks i k none there name =
    let is_named : Element → Bool = λ e. is_text n (id_short_of e) in
    let j = position_or_len is_named ks in
    let nowhere : find is_named ks ≡ None =
    find_at is_named ks ∙ slice_get_past ks j (ltb-false j (length ks) (past (nat_lt j (length ks)) j none)) in
    not_found is_named ks i k nowhere there (ap (is_text n) name ∙ (bytes_eq-Decides n n).1 refl)

-- where no name is theirs, they have none
unnamed : (ks : List Element) (i : ℕ) (k : Element)
    → ((n : Option (List ℕ)) → IsNewName ks n) → slice_get ks i ≡ Some k → id_short_of k ≡ None
unnamed ks i k new there = by_name (id_short_of k) refl
  where
    by_name : (o : Option (List ℕ)) → id_short_of k ≡ o → id_short_of k ≡ None
    by_name None is = is
    by_name (Some n) is = absurd (not_named n ks i k (new (Some n)) there is)

got_set : (ks : List Element) (i : ℕ) (k w : Element)
    → slice_get ks i ≡ Some k → slice_get (slice_set ks i w) i ≡ Some w
got_set [] i k w there = absurd (cc)
got_set (x ∷ ks) zero k w there = refl
got_set (x ∷ ks) (suc i) k w there = got_set ks i k w there

-- ---- in the place of a child

with_one : (t : PathStep) (k w : Element) (c : Child)
    → child_by (is_list k) t (kids_of k) ≡ Some c → with_below (t ∷ []) k w ≡ with_kids k (slice_set (kids_of k) c.0 w)
unfolding with_below
with_one t k w c is = ap (λ o. with_kids k (with_child (λ x. w) (kids_of k) o)) is

module _ (lists_have_no_names : ListsHaveNoNames) where
  unnamed_in : (d : Submodel) (s : PathStep) (q : List PathStep) (k : Element) (i : ℕ) (e : Element)
      → HasNoFault (submodel d) → element_at d (s ∷ q) ≡ Some k
      → is_list k ≡ true → slice_get (kids_of k) i ≡ Some e → id_short_of e ≡ None
  unnamed_in d s q k i e none found lists there =
      unnamed (kids_of k) i e (λ n. lists_have_no_names d (s ∷ q) k n none found lists) there

  -- in a list neither an element nor what takes its place has an idShort
  in_list : (d : Submodel) (s : PathStep) (q : List PathStep) (t : PathStep) (k e w : Element) (i : ℕ)
      → HasNoFault (submodel d)
      → HasNoFault (submodel (with_element d (s ∷ (q ++ t ∷ [])) w)) → element_at d (s ∷ q) ≡ Some k → is_list k ≡ true
      → child_by (is_list k) t (kids_of k) ≡ Some (i, e) → id_short_of w ≡ id_short_of e
  in_list d s q t k e w i none new_none found lists is =
      let ks = slice_set (kids_of k) i w in
      let new = with_below (t ∷ []) k w in
      let new_is : new ≡ with_kids k ks = with_one t k w (i, e) is in
      let out = out-roll-Element (record (out-Element k) { kids = ks }) in
      let new_name : id_short_of new ≡ id_short_of k = ap id_short_of new_is ∙ kids_named k ks in
      let new_lists : is_list new ≡ true =
      ap is_list new_is ∙ ap (λ (y : Element-F Element). is_list_payload y.payload) out ∙ lists in
      let new_kids : kids_of new ≡ ks = ap kids_of new_is ∙ ap (λ (y : Element-F Element). y.kids) out in
      let there = (child_by-there (is_list k) t (kids_of k) (i, e) is).1 in
      let whole =
      ap (λ (all : List Element). record d { kids = all }) (with_among-append false s q (t ∷ []) k w d.kids found) in
      let leads : element_at (with_element d (s ∷ q) new) (s ∷ q) ≡ Some new =
      there_among new k new_name false s q d.kids (child_by false s d.kids) (there_below new k new_name q) refl found in
      let old_unnamed = unnamed_in d s q k i e none found lists there in
      let new_unnamed =
      unnamed_in (with_element d (s ∷ q) new) s q new i w
      (subst (λ (u : Submodel). HasNoFault (submodel u)) whole new_none) leads new_lists
      (ap (λ (all : List Element). slice_get all i) new_kids ∙ got_set (kids_of k) i e w there) in
      new_unnamed ∙ sym old_unnamed

  -- ---- by the last step of a path

  by_last : (a : List PathStep) (t : PathStep) (d : Submodel) (e w : Element)
      → HasNoFault (submodel d) → HasNoFault (submodel (with_element d (a ++ t ∷ []) w))
      → element_at d (a ++ t ∷ []) ≡ Some e → ((n : List ℕ) → t ≡ Name n → id_short_of w ≡ Some n)
      → id_short_of w ≡ id_short_of e
  by_last [] (Name n) d e w none new_none found name =
      let child = one_step (child_by false (Name n) d.kids) e found in
      name n refl ∙ sym (led_by_name n false d.kids (child.0, e) child.1)
  by_last [] (Place i) d e w none new_none found name =
      let child = one_step (child_by false (Place i) d.kids) e found in
      let wrong : false ≡ true = led_by_place i false d.kids (child.0, e) child.1 in absurd (cc)
  by_last (s ∷ q) t d e w none new_none found name =
      below (element_among false s q d.kids) refl (sym (element_among-append false s q (t ∷ []) d.kids) ∙ found)
    where
      by_step : (k : Element) (u : PathStep) → t ≡ u → element_at d (s ∷ q) ≡ Some k → (i : ℕ)
          → child_by (is_list k) u (kids_of k) ≡ Some (i, e)
          → id_short_of w ≡ id_short_of e
      by_step k (Name n) same there i is = name n same ∙ sym (led_by_name n (is_list k) (kids_of k) (i, e) is)
      by_step k (Place j) same there i is =
          let lists = led_by_place j (is_list k) (kids_of k) (i, e) is in
          in_list d s q t k e w i none new_none there lists
          (ap (λ (u : PathStep). child_by (is_list k) u (kids_of k)) same ∙ is)

      below : (parent : Option Element) → element_at d (s ∷ q) ≡ parent
          → option_and_then (element_below (t ∷ [])) parent ≡ Some e → id_short_of w ≡ id_short_of e
      below None there leads = absurd (cc)
      below (Some k) there leads =
          let child = one_step (child_by (is_list k) t (kids_of k)) e (sym (element_below-cons t [] k) ∙ leads) in
          by_step k t refl there child.0 child.1

  -- the steps before the last one, and it
  split : (s : PathStep) (q : List PathStep)
      → (a : List PathStep) × (t : PathStep) × (s ∷ q ≡ a ++ t ∷ []) × (last_or None (s ∷ q) ≡ Some t)
  split s [] = ([], s, refl, refl)
  split s (u ∷ q) = let r = split u q in (s ∷ r.0, r.1, ap (λ (p : List PathStep). s ∷ p) r.2, r.3)

  -- What takes the place of an element, by which no fault comes, has its idShort,
  -- if it has the name with which the path ends.
  pub same_name : (d : Submodel) (p : List PathStep) (e w : Element)
      → HasNoFault (submodel d) → HasNoFault (submodel (with_element d p w)) → element_at d p ≡ Some e
      → ((n : List ℕ) → last_or None p ≡ Some (Name n) → id_short_of w ≡ Some n) → id_short_of w ≡ id_short_of e
  same_name d [] e w none new_none found name = absurd (cc)
  same_name d (s ∷ q) e w none new_none found name =
      let r = split s q in
      by_last r.0 r.1 d e w none
      (subst (λ (p : List PathStep). HasNoFault (submodel (with_element d p w))) r.2 new_none)
      (ap (element_at d) (sym r.2) ∙ found)
      (λ n is. name n (r.3 ∙ ap (λ (t : PathStep). Some t) is))
