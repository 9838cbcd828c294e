-- The law of place on trees, whose places are given by the numbers of the children that lead to them.
use Rattle.std.proofs.Common.{◌≡◌, ℕ, zero, suc, ◌+◌, Bool, List, [], ◌∷◌, ◌++◌, length, map, flat_map, Option, Some, None, option_map, option_and_then, refl, sym, ap, ap₂, ◌∙◌, arith, map-id}
use Rattle.std.proofs.lemmas.List.{append-nil, map-append}
use Rattle.std.proofs.lemmas.Grind.{flat_map-append}
use Rattle.std.proofs.lemmas.Simd.{map-map}
use Rattle.aas_model.specs.declared.path.Fault.{Fault}
use Rattle.aas_model.specs.declared.path.PathStep.{PathStep}
use Rattle.aas_constraint_rules.specs.Faults.{fault, faults_at}
use Rattle.aas_constraint_rules.specs.Sites.{Own, Site, Tree, Trees, node, none, first, root, sites, sites_among, step_to, under}
use Rattle.aas_constraint_laws.specs.Law.{local_faults_at, behind}
use Rattle.aas_constraint_laws.proofs.Bare.{bare_own, bare_tree, bare_trees, step_bare, root_bare}
use Rattle.aas_lemmas.proofs.Lists.{no_first, no_second, no_map}
use Rattle.aas_constraint_rules.proofs.Elements.{under_fault}
use Rattle.aas_constraint_laws.proofs.Places.{locally_broken, all_none_placed, all_none_local, all_local, same_placed}

-- ---- places by numbers

abbrev pub child : ℕ → Trees → Option Tree
child i none = None
child zero (first t ts) = Some t
child (suc i) (first t ts) = child i ts

abbrev pub with_child : (Tree → Tree) → ℕ → Trees → Trees
with_child f i none = none
with_child f zero (first t ts) = first (f t) ts
with_child f (suc i) (first t ts) = first t (with_child f i ts)

unfoldable pub tree_at : List ℕ → Tree → Option Tree
tree_at [] t = Some t
tree_at (i ∷ q) (node o ts) = option_and_then (tree_at q) (child i ts)

-- the tree with u at the place
unfoldable pub with_tree : List ℕ → Tree → Tree → Tree
with_tree [] u t = u
with_tree (i ∷ q) u (node o ts) = node o (with_child (with_tree q u) i ts)

abbrev pub path_by : (Tree → List PathStep) → Option Tree → List PathStep
path_by f None = []
path_by f (Some k) = f k

-- the path that a fault at the place shows
unfoldable pub path_to : List ℕ → Tree → List PathStep
path_to [] t = []
path_to (i ∷ q) (node o ts) = path_by (λ k. step_to (Some o) i (root k) ∷ path_to q k) (child i ts)

-- ---- local faults, by trees alone

unfoldable mutual
  pub local_here : Tree → List Fault
  local_here (node o ts) = map (fault []) (locally_broken o) ++ local_among (Some o) 0 ts

  pub local_among : Option Own → ℕ → Trees → List Fault
  local_among a n none = []
  local_among a n (first t ts) = map (under_fault (step_to a n (root t))) (local_here t) ++ local_among a (suc n) ts

local_under : (s : PathStep) (xs : List Site) → flat_map local_faults_at (map (under s) xs) ≡ map (under_fault s) (flat_map local_faults_at xs)
local_under s [] = refl
local_under s (x ∷ xs) =
    ap₂ (λ a b. a ++ b) (sym (map-map (under_fault s) (fault x.path) (locally_broken x.own))) (local_under s xs) ∙ sym (map-append (under_fault s) (local_faults_at x) (flat_map local_faults_at xs))

one_longer : (b : List Own) (o : Own) → length (b ++ o ∷ []) ≡ suc (length b)
one_longer [] o = refl
one_longer (x ∷ b) o = ap suc (one_longer b o)

mutual
  unfolding sites local_here

  pub free : (c : Bool) (a : Option Own) (b : List Own) (t : Tree) → flat_map local_faults_at (sites c a b t) ≡ local_here t
  free c a b (node o ts) = ap (λ l. map (fault []) (locally_broken o) ++ l) (free_among c (Some o) [] ts)

  pub free_among : (c : Bool) (a : Option Own) (b : List Own) (ts : Trees) → flat_map local_faults_at (sites_among c a b ts) ≡ local_among a (length b) ts
  free_among c a b none = refl
  free_among c a b (first t ts) =
      let s = step_to a (length b) (root t) in
      flat_map-append local_faults_at (map (under s) (sites c a b t)) (sites_among c a (b ++ root t ∷ []) ts)
      ∙ ap₂ (λ u v. u ++ v) (local_under s (sites c a b t) ∙ ap (map (under_fault s)) (free c a b t)) (free_among c a (b ++ root t ∷ []) ts ∙ ap (λ n. local_among a n ts) (one_longer b (root t)))

-- ---- a tree changed at a place

bare_child : (f : Tree → Tree) (i : ℕ) (ts : Trees) → ((k : Tree) → child i ts ≡ Some k → bare_tree (f k) ≡ bare_tree k) → bare_trees (with_child f i ts) ≡ bare_trees ts
unfolding bare_tree
bare_child f i none h = refl
bare_child f zero (first t ts) h = ap (λ u. first u (bare_trees ts)) (h t refl)
bare_child f (suc i) (first t ts) h = ap (first (bare_tree t)) (bare_child f i ts h)

at_child : (q : List ℕ) (o : Option Tree) (e k : Tree) → option_and_then (tree_at q) o ≡ Some e → o ≡ Some k → tree_at q k ≡ Some e
at_child q o e k at is = sym (ap (option_and_then (tree_at q)) is) ∙ at

bare_with : (q : List ℕ) (e u t : Tree) → bare_tree u ≡ bare_tree e → tree_at q t ≡ Some e → bare_tree (with_tree q u t) ≡ bare_tree t
unfolding bare_tree tree_at with_tree
bare_with [] e u t same at = let is : t ≡ e = cc in same ∙ sym (ap bare_tree is)
bare_with (i ∷ q) e u (node o ts) same at = ap (node (bare_own o)) (bare_child (with_tree q u) i ts (λ k is. bare_with q e u k same (at_child q (child i ts) e k at is)))

step_same : (a : Option Own) (n : ℕ) (t u : Tree) → bare_tree t ≡ bare_tree u → step_to a n (root t) ≡ step_to a n (root u)
step_same a n t u e = let own : bare_own (root t) ≡ bare_own (root u) = root_bare t ∙ ap root e ∙ sym (root_bare u) in
    step_bare a n (root t) ∙ ap (step_to (option_map bare_own a) n) own ∙ sym (step_bare a n (root u))

changed_child : (a : Option Own) (n m i : ℕ) (q : List ℕ) (ts : Trees) (e u : Tree) → bare_tree u ≡ bare_tree e
    → ((t : Tree) → tree_at q t ≡ Some e → local_here t ≡ [] → local_here (with_tree q u t) ≡ map (behind (path_to q t)) (local_here u))
    → option_and_then (tree_at q) (child i ts) ≡ Some e → m ≡ n + i → local_among a n ts ≡ []
    → local_among a n (with_child (with_tree q u) i ts) ≡ map (behind (path_by (λ k. step_to a m (root k) ∷ path_to q k) (child i ts))) (local_here u)
unfolding local_here
changed_child a n m i q none e u same ih at is clean = absurd (cc)
changed_child a n m zero q (first t ts) e u same ih at is clean =
    let s = step_to a n (root t) in
    let t' = with_tree q u t in
    let here : local_here t ≡ [] = no_map (under_fault s) (local_here t) (no_first (map (under_fault s) (local_here t)) (local_among a (suc n) ts) clean) in
    let rest : local_among a (suc n) ts ≡ [] = no_second (map (under_fault s) (local_here t)) (local_among a (suc n) ts) clean in
    let at_n : n ≡ m = omega arith in
    ap (λ l. map (under_fault (step_to a n (root t'))) (local_here t') ++ l) rest ∙ append-nil _
    ∙ ap₂ (λ k l. map (under_fault k) l) (step_same a n t' t (bare_with q e u t same at) ∙ ap (λ k. step_to a k (root t)) at_n) (ih t at here)
    ∙ map-map (under_fault (step_to a m (root t))) (behind (path_to q t)) (local_here u)
changed_child a n m (suc i) q (first t ts) e u same ih at is clean =
    let s = step_to a n (root t) in
    let here : map (under_fault s) (local_here t) ≡ [] = no_first (map (under_fault s) (local_here t)) (local_among a (suc n) ts) clean in
    let rest : local_among a (suc n) ts ≡ [] = no_second (map (under_fault s) (local_here t)) (local_among a (suc n) ts) clean in
    ap (λ l. l ++ local_among a (suc n) (with_child (with_tree q u) i ts)) here ∙ changed_child a (suc n) m i q ts e u same ih at (omega arith) rest

changed : (q : List ℕ) (e u t : Tree) → bare_tree u ≡ bare_tree e → tree_at q t ≡ Some e → local_here t ≡ [] → local_here (with_tree q u t) ≡ map (behind (path_to q t)) (local_here u)
unfolding local_here tree_at with_tree path_to
changed [] e u t same at clean = sym (map-id (local_here u))
changed (i ∷ q) e u (node o ts) same at clean =
    ap (λ l. l ++ local_among (Some o) 0 (with_child (with_tree q u) i ts)) (no_first (map (fault []) (locally_broken o)) (local_among (Some o) 0 ts) clean)
    ∙ changed_child (Some o) 0 i i q ts e u same (λ k. changed q e u k same) at (omega arith) (no_second (map (fault []) (locally_broken o)) (local_among (Some o) 0 ts) clean)

-- the law of place, for the trees of a valid submodel
pub place_law : (c : Bool) (ts : Trees) (i : ℕ) (q : List ℕ) (e u : Tree) → option_and_then (tree_at q) (child i ts) ≡ Some e → bare_tree u ≡ bare_tree e
    → flat_map faults_at (sites_among c None [] ts) ≡ []
    → flat_map faults_at (sites_among c None [] (with_child (with_tree q u) i ts)) ≡ map (behind (path_by (λ k. step_to None i (root k) ∷ path_to q k) (child i ts))) (local_here u)
place_law c ts i q e u at same valid =
    let us = with_child (with_tree q u) i ts in
    let alike : bare_trees us ≡ bare_trees ts = bare_child (with_tree q u) i ts (λ k is. bare_with q e u k same (at_child q (child i ts) e k at is)) in
    let clean : local_among None 0 ts ≡ [] = sym (free_among c None [] ts) ∙ all_none_local (sites_among c None [] ts) valid in
    all_local (sites_among c None [] us) (same_placed c us ts alike ∙ all_none_placed (sites_among c None [] ts) valid)
    ∙ free_among c None [] us
    ∙ changed_child None 0 i i q ts e u same (λ k. changed q e u k same) at (omega arith) clean
