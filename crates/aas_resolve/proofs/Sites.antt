-- The dangling references at the places of a tree, one child after another.
use Rattle.std.proofs.Common.{◌≡◌, ℕ, ◌+◌, ◌<◌, ◌≤◌, Bool, List, [], ◌∷◌, ◌++◌, length, take, drop, get_or}
use Rattle.std.proofs.Common.{map, flat_map}
use Rattle.std.proofs.Common.{Option, Some, Result, Ok, Err, refl, sym, ap, ap₂, ◌∙◌, subst, append_assoc}
use Rattle.std.proofs.Common.{length-append, length-drop, arith, ◌-◌}
use Rattle.std.specs.Prelude.{OnOk}
use Rattle.std.specs.List.{remove}
use Rattle.std.proofs.lemmas.List.Edits.{remove-append_right}
use Rattle.std.proofs.lemmas.Grind.{flat_map-append}
use Rattle.std.proofs.lemmas.List.{append-nil, length-map, length-take, nil_from_length}
use Rattle.aas_lemmas.proofs.Lists.{append_one, drop_at}
use Rattle.aas_model.specs.declared.element.Element.{Element}
use Rattle.aas_model.specs.declared.path.PathStep.{PathStep}
use Rattle.aas_model_names.specs.declared.collection.Collection.TheVariants.{Submodels}
use Rattle.aas_constraint_rules.specs.Sites.{Own, own_of, Site, under, step_to, root, sites, sites_among}
use Rattle.aas_constraint_rules.specs.Sites.{trees, tree_of}
use Rattle.aas_constraint_rules.proofs.Elements.{tree_out}
use Rattle.aas_constraints.proofs.Lists.{taken_map}
use Rattle.aas_path_trees.specs.Children.{kids_of}
use Rattle.aas_store.specs.Documents.{Documents, Identifier}
use Rattle.aas_resolve.specs.Dangling.{dangling_at, dangling_at_site}
use Rattle.aas_resolve.specs.Held.{held_by_element}
use Rattle.aas_resolve.specs.declared.report.Dangling.{Dangling}

-- the last item taken off again
last_removed : {X : Type 0} (xs ys : List X) (x : X) (n : ℕ) → ys ≡ xs ++ x ∷ [] → n ≡ length ys - 1 → remove ys n ≡ xs
last_removed xs ys x n is last =
    let long : length ys ≡ length xs + 1 = ap length is ∙ length-append xs (x ∷ []) in
    let place : n ≡ length xs = omega (arith, long, last) in
    let first : length xs - length xs ≡ 0 = omega arith in
    ap₂ remove is place ∙ remove-append_right xs (x ∷ []) (length xs) (length xs) refl (omega arith)
    ∙ ap (λ k. xs ++ remove (x ∷ []) k) first ∙ append-nil xs

module _ (m : Documents) (id : Identifier) where
  -- those at an element, which stands at a path, and below it
  abbrev pub in_element : List PathStep → Bool → Option Own → List Own → Element → List Dangling
  in_element p t a b e = flat_map (dangling_at_site m id p) (sites t a b (tree_of e))

  -- those at and below the elements ks that come after the siblings b
  abbrev pub among : List PathStep → Bool → Option Own → List Own → List Element → List Dangling
  among p t a b ks = flat_map (dangling_at_site m id p) (sites_among t a b (trees (map tree_of ks)))

  pub element_out : (p : List PathStep) (t : Bool) (a : Option Own) (b : List Own) (e : Element)
      → in_element p t a b e
      ≡ dangling_at m Submodels id p (held_by_element (own_of e)) ++ among p t (Some (own_of e)) [] (kids_of e)
  unfolding sites
  element_out p t a b e =
      ap (λ k. flat_map (dangling_at_site m id p) (sites t a b k)) (tree_out e)
      ∙ ap (λ q.
      dangling_at m Submodels id q (held_by_element (own_of e)) ++ among p t (Some (own_of e)) [] (kids_of e))
      (append-nil p)

  -- those at an element were found, and then those below it
  pub element_done : {A E : Type 0} (r : Result A E) (old now new : List Dangling) (p : List PathStep) (e : Element)
      → now ≡ old ++ dangling_at m Submodels id p (held_by_element (own_of e))
      → OnOk r ((t : Bool) → new ≡ now ++ among p t (Some (own_of e)) [] (kids_of e))
      → OnOk r ((t : Bool) (a : Option Own) (b : List Own) → new ≡ old ++ in_element p t a b e)
  element_done (Err x) old now new p e at below = tt
  element_done (Ok x) old now new p e at below = λ t a b.
      let here = dangling_at m Submodels id p (held_by_element (own_of e)) in
      let rest = among p t (Some (own_of e)) [] (kids_of e) in
      below t ∙ ap (λ l. l ++ rest) at ∙ append_assoc old here rest ∙ ap (λ l. old ++ l) (sym (element_out p t a b e))

  behind_under : (p : List PathStep) (s : PathStep) (xs : List Site)
      → flat_map (dangling_at_site m id p) (map (under s) xs) ≡ flat_map (dangling_at_site m id (p ++ s ∷ [])) xs
  behind_under p s [] = refl
  behind_under p s (x ∷ xs) =
      ap₂ (λ q ds. dangling_at m Submodels id q (held_by_element x.own) ++ ds)
      (sym (append_one p s x.path)) (behind_under p s xs)

  among_cons : (p : List PathStep) (t : Bool) (a : Option Own) (b : List Own) (k : Element) (ks : List Element)
      → among p t a b (k ∷ ks)
      ≡ in_element (p ++ step_to a (length b) (own_of k) ∷ []) t a b k ++ among p t a (b ++ own_of k ∷ []) ks
  unfolding sites_among
  among_cons p t a b k ks =
      let step = step_to a (length b) (own_of k) in
      let more : List Own → List Site = λ bs. sites_among t a bs (trees (map tree_of ks)) in
      (λ i. flat_map (dangling_at_site m id p)
      (map (under (step_to a (length b) (root (tree_out k i)))) (sites t a b (tree_of k))
      ++ more (b ++ root (tree_out k i) ∷ [])))
      ∙ flat_map-append (dangling_at_site m id p)
      (map (under step) (sites t a b (tree_of k))) (more (b ++ own_of k ∷ []))
      ∙ ap (λ l. l ++ flat_map (dangling_at_site m id p) (more (b ++ own_of k ∷ [])))
      (behind_under p step (sites t a b (tree_of k)))

  -- a loop over the elements ks, to which what was found at first got what those before place i give
  abbrev pub Reached : List Dangling → List Dangling → List PathStep → Bool → Option Own → List Element → ℕ → Type 0
  Reached start now p t a ks i = start ++ among p t a [] ks ≡ now ++ among p t a (map own_of (take i ks)) (drop i ks)

  turn : (start now new : List Dangling) (p q : List PathStep)
      (t : Bool) (a : Option Own) (ks : List Element) (i : ℕ) (k : Element)
      → i < length ks → k ≡ get_or ks i k → q ≡ p ++ step_to a i (own_of k) ∷ []
      → new ≡ now ++ in_element q t a (map own_of (take i ks)) k
      → Reached start now p t a ks i → Reached start new p t a ks (i + 1)
  turn start now new p q t a ks i k lt at is added so_far =
      let b = map own_of (take i ks) in
      let long : length b ≡ i = length-map (take i ks) own_of ∙ omega (arith, length-take i ks) in
      let here : List PathStep → List Dangling = λ q. in_element q t a b k in
      so_far ∙ ap (λ l. now ++ among p t a b l) (drop_at ks i k lt at)
      ∙ ap (λ l. now ++ l) (among_cons p t a b k (drop (i + 1) ks))
      ∙ ap (λ n. now ++ (here (p ++ step_to a n (own_of k) ∷ []) ++ among p t a (b ++ own_of k ∷ []) (drop (i + 1) ks)))
      long
      ∙ sym
      (append_assoc now (here (p ++ step_to a i (own_of k) ∷ [])) (among p t a (b ++ own_of k ∷ []) (drop (i + 1) ks)))
      ∙ ap (λ q. (now ++ here q) ++ among p t a (b ++ own_of k ∷ []) (drop (i + 1) ks)) (sym is)
      ∙ ap₂ (λ l bs. l ++ among p t a bs (drop (i + 1) ks)) (sym added) (sym (taken_map own_of ks i k lt at))

  -- the same with the path, to which the step was pushed before and taken off behind
  pub turn_of_path : (start now new : List Dangling) (begun p pushed came left : List PathStep)
      (n : ℕ) (a : Option Own) (ks : List Element) (i : ℕ) (k : Element)
      → p ≡ begun → i < length ks → k ≡ get_or ks i k → pushed ≡ p ++ step_to a i (own_of k) ∷ []
      → came ≡ pushed → n ≡ length came → left ≡ remove came (n - 1)
      → ((t : Bool) (a : Option Own) (b : List Own) → new ≡ now ++ in_element pushed t a b k)
      → ((t : Bool) → Reached start now p t a ks i)
      → (left ≡ begun) × ((t : Bool) → Reached start new left t a ks (i + 1))
  turn_of_path start now new begun p pushed came left n a ks i k same lt at longer kept long shorter added so_far =
      let back : left ≡ p =
      shorter ∙ last_removed p came (step_to a i (own_of k)) (n - 1) (kept ∙ longer) (ap (λ n. n - 1) long) in (
        back ∙ same,
        λ t. subst (λ q. Reached start new q t a ks (i + 1)) (sym back)
            (turn start now new p pushed t a ks i k lt at longer (added t a (map own_of (take i ks))) (so_far t)),
      )

  -- all of them were looked at
  pub ended : (start now : List Dangling) (begun p : List PathStep) (a : Option Own) (kids ks : List Element) (i : ℕ)
      → p ≡ begun → ks ≡ kids → length ks ≤ i
      → ((t : Bool) → Reached start now p t a ks i) → (t : Bool) → now ≡ start ++ among begun t a [] kids
  unfolding sites_among
  ended start now begun p a kids ks i same all le so_far t =
      let none_left : drop i ks ≡ [] = nil_from_length (drop i ks) (omega (arith, length-drop i ks)) in
      sym (so_far t ∙ ap (λ l. now ++ among p t a (map own_of (take i ks)) l) none_left ∙ append-nil now)
      ∙ ap₂ (λ p ks. start ++ among p t a [] ks) same all
