-- The paths of places, one child after another.
use Rattle.std.proofs.Common.{◌≡◌, ℕ, ◌+◌, ◌<◌, ◌≤◌, Bool, List, [], ◌∷◌, ◌++◌, length, take, drop, get_or, map}
use Rattle.std.proofs.Common.{Option, Some, refl, sym, ap, ap₂, ◌∙◌, append_assoc, length-drop, arith}
use Rattle.std.proofs.lemmas.List.{append-nil, length-map, length-take, map-append, nil_from_length}
use Rattle.aas_lemmas.proofs.Lists.{append_one, drop_at}
use Rattle.aas_model.specs.declared.element.Element.{Element}
use Rattle.aas_model.specs.declared.path.Path.{Path}
use Rattle.aas_model.specs.declared.path.PathStep.{PathStep}
use Rattle.aas_constraint_rules.specs.Sites.{Own, own_of, Site, under, step_to, root, sites, sites_among, trees, tree_of}
use Rattle.aas_constraint_rules.proofs.Elements.{tree_out}
use Rattle.aas_constraints.proofs.Lists.{taken_map}
use Rattle.aas_path_trees.specs.Children.{kids_of}
use Rattle.aas_form.specs.PathsFrom.{path_behind}

-- the paths of the elements ks that come after the siblings b
abbrev pub paths_among : List PathStep → Bool → Option Own → List Own → List Element → List Path
paths_among p t a b ks = map (path_behind p) (sites_among t a b (trees (map tree_of ks)))

pub paths_out : (p : List PathStep) (t : Bool) (a : Option Own) (b : List Own) (e : Element)
    → map (path_behind p) (sites t a b (tree_of e)) ≡ record { steps = p } ∷ paths_among p t (Some (own_of e)) [] (kids_of e)
unfolding sites
paths_out p t a b e =
    ap (λ k. map (path_behind p) (sites t a b k)) (tree_out e)
    ∙ ap (λ q. record { steps = q } ∷ paths_among p t (Some (own_of e)) [] (kids_of e)) (append-nil p)

behind_under : (p : List PathStep) (s : PathStep) (xs : List Site) → map (path_behind p) (map (under s) xs) ≡ map (path_behind (p ++ s ∷ [])) xs
behind_under p s [] = refl
behind_under p s (x ∷ xs) = ap₂ (λ q qs. record { steps = q } ∷ qs) (sym (append_one p s x.path)) (behind_under p s xs)

paths_among_cons : (p : List PathStep) (t : Bool) (a : Option Own) (b : List Own) (k : Element) (ks : List Element)
    → paths_among p t a b (k ∷ ks)
    ≡ map (path_behind (p ++ step_to a (length b) (own_of k) ∷ [])) (sites t a b (tree_of k)) ++ paths_among p t a (b ++ own_of k ∷ []) ks
unfolding sites_among
paths_among_cons p t a b k ks =
    let step = step_to a (length b) (own_of k) in
    let more : List Own → List Site = λ bs. sites_among t a bs (trees (map tree_of ks)) in
    (λ i. map (path_behind p) (map (under (step_to a (length b) (root (tree_out k i)))) (sites t a b (tree_of k)) ++ more (b ++ root (tree_out k i) ∷ [])))
    ∙ map-append (path_behind p) (map (under step) (sites t a b (tree_of k))) (more (b ++ own_of k ∷ []))
    ∙ ap (λ l. l ++ map (path_behind p) (more (b ++ own_of k ∷ []))) (behind_under p step (sites t a b (tree_of k)))

-- a loop over the elements ks, to which paths start was added what those before place i give
abbrev pub Reached : List Path → List Path → List PathStep → Bool → Option Own → List Element → ℕ → Type 0
Reached start now p t a ks i = start ++ paths_among p t a [] ks ≡ now ++ paths_among p t a (map own_of (take i ks)) (drop i ks)

pub turn : (start now new : List Path) (p q : List PathStep) (t : Bool) (a : Option Own) (ks : List Element) (i : ℕ) (k : Element)
    → i < length ks → k ≡ get_or ks i k → q ≡ p ++ step_to a i (own_of k) ∷ [] → new ≡ now ++ map (path_behind q) (sites t a (map own_of (take i ks)) (tree_of k))
    → Reached start now p t a ks i → Reached start new p t a ks (i + 1)
turn start now new p q t a ks i k lt at is added so_far =
    let b = map own_of (take i ks) in
    let long : length b ≡ i = length-map (take i ks) own_of ∙ omega (arith, length-take i ks) in
    let here : List PathStep → List Path = λ q. map (path_behind q) (sites t a b (tree_of k)) in
    so_far ∙ ap (λ l. now ++ paths_among p t a b l) (drop_at ks i k lt at) ∙ ap (λ l. now ++ l) (paths_among_cons p t a b k (drop (i + 1) ks))
    ∙ ap (λ n. now ++ (here (p ++ step_to a n (own_of k) ∷ []) ++ paths_among p t a (b ++ own_of k ∷ []) (drop (i + 1) ks))) long
    ∙ sym (append_assoc now (here (p ++ step_to a i (own_of k) ∷ [])) (paths_among p t a (b ++ own_of k ∷ []) (drop (i + 1) ks)))
    ∙ ap (λ q. (now ++ here q) ++ paths_among p t a (b ++ own_of k ∷ []) (drop (i + 1) ks)) (sym is)
    ∙ ap₂ (λ l bs. l ++ paths_among p t a bs (drop (i + 1) ks)) (sym added) (sym (taken_map own_of ks i k lt at))

pub ended : (start now : List Path) (p : List PathStep) (t : Bool) (a : Option Own) (ks : List Element) (i : ℕ)
    → length ks ≤ i → Reached start now p t a ks i → now ≡ start ++ paths_among p t a [] ks
unfolding sites_among
ended start now p t a ks i le so_far =
    let none_left : drop i ks ≡ [] = nil_from_length (drop i ks) (omega (arith, length-drop i ks)) in
    sym (so_far ∙ ap (λ l. now ++ paths_among p t a (map own_of (take i ks)) l) none_left ∙ append-nil now)
