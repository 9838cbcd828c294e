-- Where two paths part, an edit at one changes nothing at the other.
use Rattle.std.proofs.Common.{◌≡◌, ◌≢◌, ℕ, Bool, false, List, [], ◌∷◌, ◌++◌, Option, Some, None, IsSome, slice_set, option_and_then, refl, sym, ap, ◌∙◌, subst}
use Rattle.std.specs.Prelude.{remove}
use Rattle.std.specs.Option.{option_map_or}
use Rattle.aas_model.specs.declared.documents.Submodel.{Submodel}
use Rattle.aas_model.specs.declared.element.Element.{Element, out-Element, out-roll-Element}
use Rattle.aas_model.specs.declared.element.Element.TheOpen.{Element-F}
use Rattle.aas_model.specs.declared.element.Role.{Role}
use Rattle.aas_model.specs.declared.path.PathStep.{PathStep}
use Rattle.aas_path_trees.specs.Children.{kids_of, id_short_of, role_of, is_list, is_list_payload, with_kids, with_role}
use Rattle.aas_path_trees.specs.Edits.{role_under, role_under_found, role_at, with_last, with_last_at, inserted, removed, without_child, removed_among}
use Rattle.aas_path_trees.specs.ElementAt.{child_by, element_below, element_among, element_at}
use Rattle.aas_path_trees.specs.WithElement.{with_child, with_below, with_among, with_element}
use Rattle.aas_path_trees.proofs.Paths.{element_among-append}
use Rattle.aas_edit_laws.specs.Others.{InsertLeavesOthers, ReplaceLeavesOthers, RemoveLeavesOthers, moved_up}
use Rattle.aas_edit_laws.proofs.Steps.{child_at, by_child, set_here, set_aside, without_aside, more_aside}

abbrev Child : Type 0
Child = ℕ × Element

-- ---- one step

-- an element with other children
kids_there : (e : Element) (ks : List Element) (s : PathStep) (p : List PathStep) → element_below (s ∷ p) (with_kids e ks) ≡ element_among (is_list e) s p ks
unfolding element_below
kids_there e ks s p =
    let out = out-roll-Element (record (out-Element e) { kids = ks }) in
    ap (λ (y : Element-F Element). element_among (is_list_payload y.payload) s p y.kids) out

pub kids_named : (e : Element) (ks : List Element) → id_short_of (with_kids e ks) ≡ id_short_of e
kids_named e ks = ap (λ (y : Element-F Element). y.common.id_short) (out-roll-Element (record (out-Element e) { kids = ks }))

-- the child to which a step leads is as good as changed, where what stands below it is found there again
through_same : (l : Bool) (s : PathStep) (p q : List PathStep) (ks : List Element) (f : Element → Element) (o : Option Child) → child_by l s ks ≡ o
    → ((c : Child) → child_by l s ks ≡ Some c → id_short_of (f c.1) ≡ id_short_of c.1)
    → ((c : Child) → child_by l s ks ≡ Some c → element_below p (f c.1) ≡ element_below q c.1)
    → element_among l s p (with_child f ks o) ≡ element_among l s q ks
through_same l s p q ks f None is names same =
    ap (option_and_then (λ (c : Child). element_below p c.1)) is ∙ sym (ap (option_and_then (λ (c : Child). element_below q c.1)) is)
through_same l s p q ks f (Some c) is names same =
    by_child l s p (slice_set ks c.0 (f c.1)) ∙ ap (option_and_then (element_below p)) (set_here l s ks c (f c.1) is (names c is)) ∙ same c is
    ∙ sym (ap (option_and_then (λ (c : Child). element_below q c.1)) is)

aside_same : (l : Bool) (s t : PathStep) (p : List PathStep) (ks : List Element) (f : Element → Element) (o : Option Child) → s ≢ t → child_by l s ks ≡ o
    → ((c : Child) → child_by l s ks ≡ Some c → id_short_of (f c.1) ≡ id_short_of c.1) → element_among l t p (with_child f ks o) ≡ element_among l t p ks
aside_same l s t p ks f None apart is names = refl
aside_same l s t p ks f (Some c) apart is names =
    by_child l t p (slice_set ks c.0 (f c.1)) ∙ ap (option_and_then (element_below p)) (set_aside l s t ks c (f c.1) apart is (names c is))
    ∙ sym (by_child l t p ks)

-- ---- along a path

-- what a path leads to among the children of a list or of something else
abbrev found : Bool → List PathStep → List Element → Option Element
found l [] ks = None
found l (s ∷ p) ks = element_among l s p ks

found_below : (a c : List PathStep) (t : PathStep) (e : Element) → element_below (a ++ t ∷ c) e ≡ found (is_list e) (a ++ t ∷ c) (kids_of e)
unfolding element_below
found_below [] c t e = refl
found_below (v ∷ a) c t e = refl

found_kids : (a c : List PathStep) (t : PathStep) (e : Element) (ks : List Element)
    → element_below (a ++ t ∷ c) (with_kids e ks) ≡ found (is_list e) (a ++ t ∷ c) ks
found_kids [] c t e ks = kids_there e ks t c
found_kids (v ∷ a) c t e ks = kids_there e ks v (a ++ t ∷ c)

-- an edit at a path from an element, and at one among children, where something is known of what the path leads to
record Edit : Type 1 where
  below : List PathStep → Element → Element
  among : Bool → List PathStep → List Element → List Element
  Ready : Option Element → Type 0
  inside : (s : PathStep) (p : List PathStep) (e : Element) → below (s ∷ p) e ≡ with_kids e (among (is_list e) (s ∷ p) (kids_of e))
  further : (l : Bool) (v s : PathStep) (p : List PathStep) (ks : List Element) → among l (v ∷ s ∷ p) ks ≡ with_child (below (s ∷ p)) ks (child_by l v ks)
  named : (p : List PathStep) (e : Element) → Ready (element_below p e) → id_short_of (below p e) ≡ id_short_of e

module _ (edit : Edit) where
  inside_at : (a p : List PathStep) (s : PathStep) (e : Element) → edit.below (a ++ s ∷ p) e ≡ with_kids e (edit.among (is_list e) (a ++ s ∷ p) (kids_of e))
  inside_at [] p s e = edit.inside s p e
  inside_at (v ∷ a) p s e = edit.inside v (a ++ s ∷ p) e

  further_at : (l : Bool) (v : PathStep) (a p : List PathStep) (s : PathStep) (ks : List Element)
      → edit.among l (v ∷ a ++ s ∷ p) ks ≡ with_child (edit.below (a ++ s ∷ p)) ks (child_by l v ks)
  further_at l v [] p s ks = edit.further l v s p ks
  further_at l v (u ∷ a) p s ks = edit.further l v u (a ++ s ∷ p) ks

  -- what holds where the paths part holds from where they begin
  along : (a p c : List PathStep) (s t u : PathStep)
      → ((l : Bool) (ks : List Element) → edit.Ready (element_among l s p ks) → element_among l t c (edit.among l (s ∷ p) ks) ≡ element_among l u c ks)
      → (l : Bool) (ks : List Element) → edit.Ready (found l (a ++ s ∷ p) ks) → found l (a ++ t ∷ c) (edit.among l (a ++ s ∷ p) ks) ≡ found l (a ++ u ∷ c) ks
  along [] p c s t u part l ks ready = part l ks ready
  along (v ∷ a) p c s t u part l ks ready =
      let q = a ++ s ∷ p in
      let leads : (k : Child) → child_by l v ks ≡ Some k → element_among l v q ks ≡ element_below q k.1 =
      λ k is. ap (option_and_then (λ (c : Child). element_below q c.1)) is in
      let ready_at : (k : Child) → child_by l v ks ≡ Some k → edit.Ready (element_below q k.1) = λ k is. subst edit.Ready (leads k is) ready in
      ap (element_among l v (a ++ t ∷ c)) (further_at l v a p s ks)
      ∙ through_same l v (a ++ t ∷ c) (a ++ u ∷ c) ks (edit.below q) (child_by l v ks) refl (λ k is. edit.named q k.1 (ready_at k is))
      (λ k is. ap (element_below (a ++ t ∷ c)) (inside_at a p s k.1) ∙ found_kids a c t k.1 (edit.among (is_list k.1) q (kids_of k.1))
      ∙ along a p c s t u part (is_list k.1) (kids_of k.1) (subst edit.Ready (found_below a p s k.1) (ready_at k is)) ∙ sym (found_below a c u k.1))

-- ---- in a submodel

at_found : (d : Submodel) (p : List PathStep) → element_at d p ≡ found false p d.kids
at_found d [] = refl
at_found d (s ∷ p) = refl

-- ---- removing

abbrev removed_below : List PathStep → Element → Element
removed_below [] e = e
removed_below (s ∷ p) e = with_kids e (removed_among (is_list e) s p (kids_of e))

abbrev removed_path : Bool → List PathStep → List Element → List Element
removed_path l [] ks = ks
removed_path l (s ∷ p) ks = removed_among l s p ks

removed_named : (p : List PathStep) (e : Element) → id_short_of (removed_below p e) ≡ id_short_of e
removed_named [] e = refl
removed_named (s ∷ p) e = kids_named e (removed_among (is_list e) s p (kids_of e))

abbrev removing : (Option Element → Type 0) → Edit
unfolding removed_among
removing Ready = record {
  below = removed_below;
  among = removed_path;
  Ready = Ready;
  inside = λ s p e. refl;
  further = λ l v s p ks. refl;
  named = λ p e ready. removed_named p e;
}

removed_kids : (d : Submodel) (p : List PathStep) → (removed d p).kids ≡ removed_path false p d.kids
removed_kids d [] = refl
removed_kids d (s ∷ p) = refl

found_without : (d : Submodel) (p q : List PathStep) → element_at (removed d p) q ≡ found false q (removed_path false p d.kids)
found_without d p q = at_found (removed d p) q ∙ ap (found false q) (removed_kids d p)

without_same : (l : Bool) (s t : PathStep) (c : List PathStep) (ks : List Element) (o : Option Child) → s ≢ t → child_by l s ks ≡ o
    → IsSome (option_and_then (λ (k : Child). element_below [] k.1) o) → element_among l (moved_up s t) c (without_child ks o) ≡ element_among l t c ks
without_same l s t c ks None apart is some = absurd (cc)
without_same l s t c ks (Some k) apart is some =
    by_child l (moved_up s t) c (remove ks k.0) ∙ ap (option_and_then (element_below c)) (without_aside l s t ks k apart is) ∙ sym (by_child l t c ks)

pub remove_leaves_others : RemoveLeavesOthers
unfolding removed_among
remove_leaves_others = record {
  beside = λ d a c s t apart some. found_without d (a ++ s ∷ []) (a ++ moved_up s t ∷ c)
      ∙ along (removing IsSome) a [] c s (moved_up s t) t (λ l ks ready. without_same l s t c ks (child_by l s ks) apart refl ready) false d.kids
      (subst IsSome (at_found d (a ++ s ∷ [])) some) ∙ sym (at_found d (a ++ t ∷ c));
  aside = λ d a b c s t u apart. found_without d (a ++ s ∷ u ∷ b) (a ++ t ∷ c)
      ∙ along (removing (λ o. Unit {0})) a (u ∷ b) c s t t
      (λ l ks ready. aside_same l s t c ks (removed_below (u ∷ b)) (child_by l s ks) apart refl (λ k is. removed_named (u ∷ b) k.1)) false d.kids tt
      ∙ sym (at_found d (a ++ t ∷ c));
}

-- ---- changing

module _ (w o : Element) (same_name : id_short_of w ≡ id_short_of o) where
  abbrev with_path : Bool → List PathStep → List Element → List Element
  with_path l [] ks = ks
  with_path l (s ∷ p) ks = with_among l s p ks w

  pub changed_named : (p : List PathStep) (e : Element) → element_below p e ≡ Some o → id_short_of (with_below p e w) ≡ id_short_of e
  unfolding element_below with_below
  changed_named [] e is = let same : o ≡ e = cc in same_name ∙ ap id_short_of same
  changed_named (s ∷ p) e is = kids_named e (with_among (is_list e) s p (kids_of e) w)

  abbrev changing : Edit
  unfolding with_below
  changing = record {
    below = λ p e. with_below p e w;
    among = with_path;
    Ready = λ x. x ≡ Some o;
    inside = λ s p e. refl;
    further = λ l v s p ks. refl;
    named = changed_named;
  }

  changed_kids : (d : Submodel) (p : List PathStep) → (with_element d p w).kids ≡ with_path false p d.kids
  changed_kids d [] = refl
  changed_kids d (s ∷ p) = refl

  pub change_aside : (d : Submodel) (a b c : List PathStep) (s t : PathStep) → element_at d (a ++ s ∷ b) ≡ Some o → s ≢ t
      → element_at (with_element d (a ++ s ∷ b) w) (a ++ t ∷ c) ≡ element_at d (a ++ t ∷ c)
  unfolding changing
  change_aside d a b c s t there apart =
      at_found (with_element d (a ++ s ∷ b) w) (a ++ t ∷ c) ∙ ap (found false (a ++ t ∷ c)) (changed_kids d (a ++ s ∷ b))
      ∙ along changing a b c s t t
      (λ l ks ready. aside_same l s t c ks (λ k. with_below b k w) (child_by l s ks) apart refl
      (λ k is. changed_named b k.1 (sym (ap (option_and_then (λ (x : Child). element_below b x.1)) is) ∙ ready))) false d.kids
      (sym (at_found d (a ++ s ∷ b)) ∙ there) ∙ sym (at_found d (a ++ t ∷ c))

  -- and the path leads to what is put there
  pub IsThere : List PathStep → Element → Type 0
  IsThere p e = element_below p e ≡ Some o → element_below p (with_below p e w) ≡ Some w

  pub there_among : (l : Bool) (s : PathStep) (p : List PathStep) (ks : List Element) (x : Option Child) → ((e : Element) → IsThere p e) → child_by l s ks ≡ x
      → option_and_then (λ (c : Child). element_below p c.1) x ≡ Some o → element_among l s p (with_child (λ k. with_below p k w) ks x) ≡ Some w
  unfolding IsThere
  there_among l s p ks None below is there = absurd (cc)
  there_among l s p ks (Some c) below is there =
      by_child l s p (slice_set ks c.0 (with_below p c.1 w))
      ∙ ap (option_and_then (element_below p)) (set_here l s ks c (with_below p c.1 w) is (changed_named p c.1 there)) ∙ below c.1 there

  pub there_below : (p : List PathStep) (e : Element) → IsThere p e
  unfolding IsThere element_below with_below
  there_below [] e is = refl
  there_below (s ∷ p) e is =
      kids_there e (with_among (is_list e) s p (kids_of e) w) s p
      ∙ there_among (is_list e) s p (kids_of e) (child_by (is_list e) s (kids_of e)) (there_below p) refl is

-- ---- replacing

pub replace_leaves_others : ReplaceLeavesOthers
replace_leaves_others d e o a b c s t apart there same_name =
    let p = a ++ s ∷ b in
    let w = with_role e (role_of o) in
    let name = ap (λ (y : Element-F Element). y.common.id_short) (out-roll-Element (record (out-Element e) { role = role_of o })) in
    ap (λ x. element_at (option_map_or (λ k. with_element d p (with_role e (role_of k))) x d) (a ++ t ∷ c)) there
    ∙ change_aside w o (name ∙ same_name) d a b c s t there apart

-- ---- inserting

more_found : (l : Bool) (t : PathStep) (c : List PathStep) (ks js : List Element) (k : Element) → element_among l t c ks ≡ Some k
    → element_among l t c (ks ++ js) ≡ Some k
more_found l t c ks js k there = by_at (child_at l t ks) refl (sym (by_child l t c ks) ∙ there)
  where
    by_at : (o : Option Element) → child_at l t ks ≡ o → option_and_then (element_below c) o ≡ Some k → element_among l t c (ks ++ js) ≡ Some k
    by_at None is there = absurd (cc)
    by_at (Some x) is there = by_child l t c (ks ++ js) ∙ ap (option_and_then (element_below c)) (more_aside l t ks js x is) ∙ there

module _ (d : Submodel) (e : Element) where
  role_below : (a b : List PathStep) (s : PathStep) → role_at d (a ++ s ∷ b) e ≡ role_under_found (element_at d (a ++ s ∷ b)) e
  role_below [] b s = refl
  role_below (v ∷ a) b s = refl

  insert_aside : (a b c : List PathStep) (s t : PathStep) → s ≢ t → element_at (inserted d (a ++ s ∷ b) e) (a ++ t ∷ c) ≡ element_at d (a ++ t ∷ c)
  insert_aside a b c s t apart =
      ap (λ r. element_at (option_map_or (with_last_at d (a ++ s ∷ b) e (element_at d (a ++ s ∷ b))) r d) (a ++ t ∷ c)) (role_below a b s)
      ∙ by_found (element_at d (a ++ s ∷ b)) refl
    where
      by_found : (x : Option Element) → element_at d (a ++ s ∷ b) ≡ x
          → element_at (option_map_or (with_last_at d (a ++ s ∷ b) e x) (role_under_found x e) d) (a ++ t ∷ c) ≡ element_at d (a ++ t ∷ c)
      by_found None is = refl
      by_found (Some o) is = by_role (role_under o e)
        where
          by_role : (r : Option Role) → element_at (option_map_or (with_last_at d (a ++ s ∷ b) e (Some o)) r d) (a ++ t ∷ c) ≡ element_at d (a ++ t ∷ c)
          by_role None = refl
          by_role (Some r) = change_aside (with_last o e r) o (kids_named o (kids_of o ++ with_role e r ∷ [])) d a b c s t is apart

  insert_beside : (p c : List PathStep) (t : PathStep) (k : Element) → element_at d (p ++ t ∷ c) ≡ Some k → element_at (inserted d p e) (p ++ t ∷ c) ≡ Some k
  insert_beside [] c t k there = more_found false t c d.kids _ k there
  insert_beside (v ∷ q) c t k there = by_found (element_at d (v ∷ q)) refl
    where
      by_found : (x : Option Element) → element_at d (v ∷ q) ≡ x
          → element_at (option_map_or (with_last_at d (v ∷ q) e x) (role_under_found x e) d) (v ∷ q ++ t ∷ c) ≡ Some k
      by_found None is = there
      by_found (Some o) is = by_role (role_under o e)
        where
          old : element_among (is_list o) t c (kids_of o) ≡ Some k
          old = sym (element_among-append false v q (t ∷ c) d.kids ∙ ap (option_and_then (element_below (t ∷ c))) is ∙ found_below [] c t o) ∙ there

          by_role : (r : Option Role) → element_at (option_map_or (with_last_at d (v ∷ q) e (Some o)) r d) (v ∷ q ++ t ∷ c) ≡ Some k
          by_role None = there
          by_role (Some r) =
              let w = with_last o e r in
              let kids = kids_of o ++ with_role e r ∷ [] in
              let there = there_among w o (kids_named o kids) false v q d.kids (child_by false v d.kids) (there_below w o (kids_named o kids) q) refl is in
              element_among-append false v q (t ∷ c) (with_among false v q d.kids w) ∙ ap (option_and_then (element_below (t ∷ c))) there
              ∙ kids_there o kids t c ∙ more_found (is_list o) t c (kids_of o) (with_role e r ∷ []) k old

pub insert_leaves_others : InsertLeavesOthers
insert_leaves_others = record { aside = insert_aside; beside = insert_beside }
