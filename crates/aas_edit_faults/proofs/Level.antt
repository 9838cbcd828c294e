-- The faults of elements among their siblings, one level at a time.
use Rattle.std.proofs.Common.{◌≡◌, ℕ, Bool, List, [], ◌∷◌, ◌++◌, length, map, flat_map, Option, Some, refl, sym, ap, ap₂, ◌∙◌}
use Rattle.std.proofs.lemmas.Grind.{flat_map-append}
use Rattle.std.proofs.lemmas.List.{append-nil, map-append}
use Rattle.std.proofs.lemmas.Simd.{map-map}
use Rattle.std.proofs.Common.{append_assoc}
use Rattle.aas_lemmas.proofs.Lists.{no_first, no_second, no_map, append_one}
use Rattle.aas_model.specs.declared.element.Element.{Element}
use Rattle.aas_model.specs.declared.path.Fault.{Fault}
use Rattle.aas_model.specs.declared.path.PathStep.{PathStep}
use Rattle.aas_constraint_rules.specs.Faults.{fault, broken, faults_at}
use Rattle.aas_constraint_rules.specs.Sites.{Own, own_of, Site, Tree, node, root, sites, sites_among, step_to, under, trees, tree_of}
use Rattle.aas_constraint_rules.proofs.Elements.{tree_out, under_fault}
use Rattle.aas_path_trees.specs.Children.{kids_of}

abbrev pub at_root : Bool → Option Own → List Own → Own → Site
at_root t a b o = record { in_template = t; path = []; above = a; before = b; own = o }

-- the numbers that fail at the place of an element
unfoldable pub broken_at : Bool → Option Own → List Own → Own → List ℕ
broken_at t a b o = broken (at_root t a b o)

-- the faults of ks, which come after the siblings b under the parent a, and of all below them
unfoldable pub faults_among : Bool → Option Own → List Own → List Element → List Fault
faults_among t a b ks = flat_map faults_at (sites_among t a b (trees (map tree_of ks)))

abbrev pub faults_below : Bool → Element → List Fault
faults_below t e = faults_among t (Some (own_of e)) [] (kids_of e)

-- the faults of e and of all below it
abbrev pub faults_in : Bool → Option Own → List Own → Element → List Fault
faults_in t a b e = map (fault []) (broken_at t a b (own_of e)) ++ faults_below t e

-- ---- one more sibling

under_faults : (s : PathStep) (xs : List Site) → flat_map faults_at (map (under s) xs) ≡ map (under_fault s) (flat_map faults_at xs)
under_faults s [] = refl
under_faults s (x ∷ xs) =
    ap₂ (λ u v. u ++ v) (sym (map-map (under_fault s) (fault x.path) (broken x))) (under_faults s xs)
    ∙ sym (map-append (under_fault s) (faults_at x) (flat_map faults_at xs))

module _ (t : Bool) (a : Option Own) where
  pub among_none : (b : List Own) → faults_among t a b [] ≡ []
  unfolding faults_among sites_among
  among_none b = refl

  pub among_cons : (b : List Own) (k : Element) (ks : List Element)
      → faults_among t a b (k ∷ ks) ≡ map (under_fault (step_to a (length b) (own_of k))) (faults_in t a b k) ++ faults_among t a (b ++ own_of k ∷ []) ks
  unfolding faults_among broken_at sites sites_among
  among_cons b k ks =
      let step : Own → PathStep = step_to a (length b) in
      let more : Own → List Site = λ o. sites_among t a (b ++ o ∷ []) (trees (map tree_of ks)) in
      let by_tree : Tree → List Fault = λ u. flat_map faults_at (map (under (step (root u))) (sites t a b u)) ++ flat_map faults_at (more (root u)) in
      flat_map-append faults_at (map (under (step (root (tree_of k)))) (sites t a b (tree_of k))) (more (root (tree_of k)))
      ∙ ap by_tree (tree_out k)
      ∙ ap (λ l. l ++ flat_map faults_at (more (own_of k))) (under_faults (step (own_of k)) (sites t a b (node (own_of k) (trees (map tree_of (kids_of k))))))

  pub among_append : (b : List Own) (ks ls : List Element)
      → faults_among t a b (ks ++ ls) ≡ faults_among t a b ks ++ faults_among t a (b ++ map own_of ks) ls
  among_append b [] ls = ap₂ (λ l c. l ++ faults_among t a c ls) (sym (among_none b)) (sym (append-nil b))
  among_append b (k ∷ ks) ls =
      let here = map (under_fault (step_to a (length b) (own_of k))) (faults_in t a b k) in
      among_cons b k (ks ++ ls)
      ∙ ap (λ l. here ++ l) (among_append (b ++ own_of k ∷ []) ks ls)
      ∙ sym (append_assoc here (faults_among t a (b ++ own_of k ∷ []) ks) (faults_among t a ((b ++ own_of k ∷ []) ++ map own_of ks) ls))
      ∙ ap₂ (λ l c. l ++ faults_among t a c ls) (sym (among_cons b k ks)) (append_one b (own_of k) (map own_of ks))

  -- ---- where there are none

  pub none_own : (b : List Own) (k : Element) → faults_in t a b k ≡ [] → broken_at t a b (own_of k) ≡ []
  none_own b k e = no_map (fault []) (broken_at t a b (own_of k)) (no_first (map (fault []) (broken_at t a b (own_of k))) (faults_below t k) e)

  pub none_below : (b : List Own) (k : Element) → faults_in t a b k ≡ [] → faults_below t k ≡ []
  none_below b k e = no_second (map (fault []) (broken_at t a b (own_of k))) (faults_below t k) e

  pub none_in : (b : List Own) (k : Element) → broken_at t a b (own_of k) ≡ [] → faults_below t k ≡ [] → faults_in t a b k ≡ []
  none_in b k own below = ap₂ (λ (ns : List ℕ) l. map (fault []) ns ++ l) own below

  pub none_first : (b : List Own) (k : Element) (ks : List Element) → faults_among t a b (k ∷ ks) ≡ [] → faults_in t a b k ≡ []
  none_first b k ks e =
      let step = step_to a (length b) (own_of k) in
      no_map (under_fault step) (faults_in t a b k)
      (no_first (map (under_fault step) (faults_in t a b k)) (faults_among t a (b ++ own_of k ∷ []) ks) (sym (among_cons b k ks) ∙ e))

  pub none_later : (b : List Own) (k : Element) (ks : List Element) → faults_among t a b (k ∷ ks) ≡ [] → faults_among t a (b ++ own_of k ∷ []) ks ≡ []
  none_later b k ks e =
      no_second (map (under_fault (step_to a (length b) (own_of k))) (faults_in t a b k)) (faults_among t a (b ++ own_of k ∷ []) ks)
      (sym (among_cons b k ks) ∙ e)

  pub none_among : (b : List Own) (k : Element) (ks : List Element) → faults_in t a b k ≡ [] → faults_among t a (b ++ own_of k ∷ []) ks ≡ []
      → faults_among t a b (k ∷ ks) ≡ []
  none_among b k ks here later = among_cons b k ks ∙ ap₂ (λ (fs : List Fault) l. map (under_fault (step_to a (length b) (own_of k))) fs ++ l) here later
