-- What the walk over a tree knows and finds.
use Rattle.std.specs.Prelude.{◌≡◌, ℕ, Bool, List, [], map, flat_map, Option, Some, None}
use denote.Ref.{Bor}
use Rattle.aas_model.specs.declared.element.Element.{Element}
use Rattle.aas_model.specs.declared.path.Fault.{Fault}
use Rattle.aas_model.specs.declared.reference.Reference.{Reference}
use Rattle.aas_constraint_rules.specs.Sites.{Own, own_of, Site, sites, sites_among, tree_of, trees}
use Rattle.aas_constraint_rules.specs.Rules.{holds_locally, rules, semantics_of, first_some, is_repeat}
use Rattle.aas_constraints.specs.declared.place.Scope.{Scope}
use Rattle.aas_constraints.specs.declared.place.Scope.TheVariants.{Everything, Local}
use Rattle.aas_reference.specs.Rules.{failing, first}
use Rattle.aas_constraint_rules.specs.Faults.{broken, fault}

abbrev pub above_of : Option (Bor Element) → Option Own
above_of None = None
above_of (Some e) = Some (own_of e.now)

-- what is known of the earlier siblings b of an element with a name: whether one has the name, and the first semanticId among them
pub record Knows (b : List Own) (name : Option (List ℕ)) (again : Bool) (lead : Option Reference) : Type 0 where
  pub names : again ≡ is_repeat b name
  pub semantics : lead ≡ first_some (map semantics_of b)

-- a place, whatever its path
abbrev pub place : Bool → Option Own → List Own → Own → Site
place t a b o = record { in_template = t; path = []; above = a; before = b; own = o }

-- the numbers of the sentences that count and don't hold at a place
abbrev pub counted : Scope → Site → List ℕ
counted Everything x = broken x
counted Local x = failing (λ s. holds_locally s x.own) rules

-- the least of them
abbrev pub first_broken : Scope → Bool → Option Own → List Own → Own → Option ℕ
first_broken c t a b o = first (counted c (place t a b o))

abbrev pub counted_at : Scope → Site → List Fault
counted_at c x = map (fault x.path) (counted c x)

-- the first fault that counts in an element, and among the elements that come after the siblings b
unfoldable pub found_in : Scope → Bool → Option Own → List Own → Element → Option Fault
found_in c t a b e = first (flat_map (counted_at c) (sites t a b (tree_of e)))

unfoldable pub found_among : Scope → Bool → Option Own → List Own → List Element → Option Fault
found_among c t a b ks = first (flat_map (counted_at c) (sites_among t a b (trees (map tree_of ks))))
