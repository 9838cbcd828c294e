-- Trees and places without the members of class V.
use Rattle.std.proofs.Common.{◌≡◌, ℕ, Bool, List, [], ◌∷◌, ◌++◌, length, map, Option, Some, None, option_map, refl, sym, ap, ap₂, ◌∙◌}
use Rattle.std.specs.Prelude.{if◌then◌else◌}
use Rattle.std.proofs.lemmas.List.{map-append, length-map}
use Rattle.std.proofs.lemmas.Simd.{map-map}
use Rattle.aas_model.specs.declared.element.Element.{Element, roll-Element, out-roll-Element, fold_out-Element, ind-Element}
use Rattle.aas_model.specs.declared.payload.Payload.{Payload}
use Rattle.aas_model.specs.declared.payload.Payload.TheVariants as p
use Rattle.aas_model.specs.declared.path.PathStep.TheVariants.{Place}
use Rattle.aas_constraint_rules.specs.Sites.{Own, own_of, Site, Tree, Trees, node, none, first, root, sites, sites_among, step_to, named_or, stands_in_list, is_list, under, trees, tree_of}
use Rattle.aas_constraint_rules.proofs.Elements.{tree_out}
use Rattle.aas_path_trees.specs.Children.{kids_of}
use Rattle.aas_constraint_laws.specs.Values.{without_values, bare_over, bare, DifferInValues}

abbrev pub bare_own : Own → Own
bare_own o = record o { payload = without_values o.payload }

abbrev pub bare_site : Site → Site
bare_site x = record x { above = option_map bare_own x.above; before = map bare_own x.before; own = bare_own x.own }

unfoldable mutual
  pub bare_tree : Tree → Tree
  bare_tree (node o ts) = node (bare_own o) (bare_trees ts)

  pub bare_trees : Trees → Trees
  bare_trees none = none
  bare_trees (first t ts) = first (bare_tree t) (bare_trees ts)

-- ---- the places of a bare tree

pub list_bare : (o : Payload) → is_list (without_values o) ≡ is_list o
list_bare p.Capability = refl
list_bare _ = refl

pub in_list_bare : (a : Option Own) → stands_in_list (option_map bare_own a) ≡ stands_in_list a
in_list_bare None = refl
in_list_bare (Some o) = list_bare o.payload

pub step_bare : (a : Option Own) (n : ℕ) (o : Own) → step_to a n o ≡ step_to (option_map bare_own a) n (bare_own o)
step_bare a n o = ap (λ (c : Bool). if c then Place n else named_or o.common.id_short n) (sym (in_list_bare a))

pub root_bare : (t : Tree) → bare_own (root t) ≡ root (bare_tree t)
unfolding bare_tree
root_bare (node o ts) = refl

length_bare : (b : List Own) → length b ≡ length (map bare_own b)
length_bare b = sym (length-map b bare_own)

mutual
  unfolding sites bare_tree

  sites_bare : (in_template : Bool) (a : Option Own) (b : List Own) (t : Tree) → map bare_site (sites in_template a b t) ≡ sites in_template (option_map bare_own a) (map bare_own b) (bare_tree t)
  sites_bare c a b (node o ts) =
      ap (λ l. record { in_template = c; path = []; above = option_map bare_own a; before = map bare_own b; own = bare_own o } ∷ l) (among_bare c (Some o) [] ts)

  pub among_bare : (in_template : Bool) (a : Option Own) (b : List Own) (ts : Trees)
      → map bare_site (sites_among in_template a b ts) ≡ sites_among in_template (option_map bare_own a) (map bare_own b) (bare_trees ts)
  among_bare c a b none = refl
  among_bare c a b (first t ts) =
      let s = step_to a (length b) (root t) in
      let step : s ≡ step_to (option_map bare_own a) (length (map bare_own b)) (root (bare_tree t)) =
      step_bare a (length b) (root t) ∙ ap₂ (λ n o. step_to (option_map bare_own a) n o) (length_bare b) (root_bare t) in
      map-append bare_site (map (under s) (sites c a b t)) (sites_among c a (b ++ root t ∷ []) ts)
      ∙ ap₂ (λ u v. u ++ v)
      (map-map bare_site (under s) (sites c a b t) ∙ sym (map-map (under s) bare_site (sites c a b t)) ∙ ap₂ (λ k l. map (under k) l) step (sites_bare c a b t))
      (among_bare c a (b ++ root t ∷ []) ts
      ∙ ap (λ l. sites_among c (option_map bare_own a) l (bare_trees ts)) (map-append bare_own b (root t ∷ []) ∙ ap (λ o. map bare_own b ++ o ∷ []) (root_bare t)))

-- ---- elements as trees

-- an element of these attributes and children
abbrev pub made : Own → List Element → Element
made o ks = roll-Element (record { common = o.common; payload = o.payload; role = o.role; kids = ks })

pub tree_made : (o : Own) (ks : List Element) → tree_of (made o ks) ≡ node o (trees (map tree_of ks))
tree_made o ks =
    tree_out (made o ks)
    ∙ ap (λ f. node (record { common = f.common; payload = f.payload; role = f.role }) (trees (map tree_of f.kids))) (out-roll-Element (record { common = o.common; payload = o.payload; role = o.role; kids = ks }))

pub bare_out : (e : Element) → bare e ≡ made (bare_own (own_of e)) (map bare (kids_of e))
unfolding bare
bare_out e = fold_out-Element Element bare_over e

abbrev Alike : Element → Type 0
Alike e = tree_of (bare e) ≡ bare_tree (tree_of e)

abbrev Known : Type 0
Known = (e : Element) × Alike e

alike_among : (ks : List Known) → trees (map tree_of (map bare (map (λ k. k.0) ks))) ≡ bare_trees (trees (map tree_of (map (λ k. k.0) ks)))
unfolding bare_tree
alike_among [] = refl
alike_among (k ∷ ks) = ap₂ (λ t ts. first t ts) k.1 (alike_among ks)

level : (e : Element) (ks : List Known) → kids_of e ≡ map (λ k. k.0) ks → Alike e
unfolding bare_tree
level e ks is =
    ap tree_of (bare_out e) ∙ tree_made (bare_own (own_of e)) (map bare (kids_of e))
    ∙ ap (node (bare_own (own_of e)))
    (ap (λ l. trees (map tree_of (map bare l))) is ∙ alike_among ks ∙ sym (ap (λ l. bare_trees (trees (map tree_of l))) is))
    ∙ sym (ap bare_tree (tree_out e))

pub tree_bare : (e : Element) → tree_of (bare e) ≡ bare_tree (tree_of e)
tree_bare = ind-Element Alike (λ x y is. level (roll-Element x) y.kids (ap (λ f. f.kids) (out-roll-Element x ∙ sym is)))

-- elements that differ in values alone are the same bare tree
pub same_bare : (e u : Element) → DifferInValues e u → bare_tree (tree_of u) ≡ bare_tree (tree_of e)
same_bare e u same = sym (tree_bare u) ∙ ap tree_of (sym same) ∙ tree_bare e
