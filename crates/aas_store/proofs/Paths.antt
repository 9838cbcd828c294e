-- What the rank of a path says of where the path leads.
use Rattle.std.proofs.Common.{◌≡◌, ◌↔◌, ℕ, ◌+◌, Bool, false, List, [], ◌∷◌, length, take, Option, Some, None, option_and_then, option_map, slice_get, Result, Err, refl, sym, ap, ◌∙◌, subst, arith}
use Rattle.aas_model.specs.declared.documents.Submodel.{Submodel}
use Rattle.aas_model.specs.declared.element.Element.{Element}
use Rattle.aas_model.specs.declared.path.Missing.{Missing}
use Rattle.aas_model.specs.declared.path.PathStep.{PathStep}
use Rattle.aas_path_trees.specs.Children.{kids_of, is_list}
use Rattle.aas_path_trees.specs.ElementAt.{child_by, depth_found, element_among, element_at, place_of}
use Rattle.aas_rows.specs.Edits.{count, rank_among, rank_below}
use Rattle.aas_rows.proofs.Edited.{no_rank_among}
use Rattle.aas_rows.specs.Rows.{rows_of_all}
use Rattle.aas_rows.proofs.Ranked.{StandsAt, stands_at_path}
use Rattle.aas_store.specs.Edited.{LeadsNowhere}
use Rattle.aas_store.specs.Spots.{rank_at}
use Rattle.aas_store.specs.declared.lack.Lack.{Lack}
use Rattle.aas_store.specs.declared.lack.Lack.TheVariants.{NoElement}

abbrev Child : Type 0
Child = ℕ × Element

-- ---- the child to which a step leads

pub child_there : (l : Bool) (s : PathStep) (ks : List Element) (i : ℕ) (k : Element) → Some i ≡ place_of l s ks → Some k ≡ slice_get ks i → child_by l s ks ≡ Some (i, k)
unfolding child_by
child_there l s ks i k place there =
    sym (ap (option_map {U = Child} (λ k. (i, k))) there ∙ ap (option_and_then {U = Child} (λ i. option_map (λ k. (i, k)) (slice_get ks i))) place)

-- ---- from children, the first of which has a rank

from_child : ℕ → List Element → List PathStep → Option Child → Option ℕ
from_child first ks p o = option_map (λ r. first + r) (option_and_then (λ c. option_map (λ r. count (take c.0 ks) + r) (rank_below p c.1)) o)

pub no_steps : (p : List PathStep) → length p ≡ 0 → p ≡ []
no_steps [] none = refl
no_steps (s ∷ p) none = absurd (omega (arith, none))

-- a path of one step leads to the child
pub rank_ends : (l : Bool) (s : PathStep) (p : List PathStep) (ks : List Element) (c : Child) (first rank : ℕ) → child_by l s ks ≡ Some c → rank ≡ first + count (take c.0 ks) → p ≡ []
    → Some rank ≡ option_map (λ r. first + r) (rank_among l s p ks)
unfolding from_child rank_below
rank_ends l s p ks c first rank child at end =
    let here : rank ≡ first + (count (take c.0 ks) + 0) = omega (arith, at) in
    ap (λ n. Some n) here ∙ sym (ap (λ p. from_child first ks p (Some c)) end) ∙ sym (ap (from_child first ks p) child)

moved : (first n rank : ℕ) (o : Option ℕ) → rank ≡ first + n → option_map (λ r. rank + 1 + r) o ≡ option_map (λ r. first + r) (option_map (λ r. n + r) (option_map (λ r. 1 + r) o))
moved first n rank None e = refl
moved first n rank (Some r) e = ap (λ n. Some n) (omega arith)

-- a longer one leads on from there
pub rank_goes_on : (l : Bool) (s t : PathStep) (p q : List PathStep) (ks : List Element) (c : Child) (first rank : ℕ) → child_by l s ks ≡ Some c → rank ≡ first + count (take c.0 ks) → p ≡ t ∷ q
    → option_map (λ r. rank + 1 + r) (rank_among (is_list c.1) t q (kids_of c.1)) ≡ option_map (λ r. first + r) (rank_among l s p ks)
unfolding from_child rank_below
rank_goes_on l s t p q ks c first rank child at path =
    moved first (count (take c.0 ks)) rank (rank_among (is_list c.1) t q (kids_of c.1)) at ∙ sym (ap (λ p. from_child first ks p (Some c)) path) ∙ sym (ap (from_child first ks p) child)

pub rank_lost : (l : Bool) (s : PathStep) (p : List PathStep) (ks : List Element) (first : ℕ) → child_by l s ks ≡ None → None ≡ option_map (λ r. first + r) (rank_among l s p ks)
unfolding from_child
rank_lost l s p ks first none = sym (ap (from_child first ks p) none)

pub from_zero : (o : Option ℕ) → option_map (λ r. 0 + r) o ≡ o
from_zero None = refl
from_zero (Some r) = ap (λ n. Some n) (omega arith)

-- ---- where a path leads in a submodel

-- where there is no rank, there is no element
pub no_element : (d : Submodel) (p : List PathStep) → None ≡ rank_at d p → element_at d p ≡ None
no_element d [] none = refl
no_element d (s ∷ p) none = by (element_among false s p d.kids) refl
  where
    by : (o : Option Element) → element_among false s p d.kids ≡ o → o ≡ None
    by None is = refl
    by (Some e) is =
        let there = stands_at_path false s p d.kids 1 e is in
        let lost : None ≡ Some there.0 = none ∙ there.1 in absurd (cc)

pub no_rank : (d : Submodel) (p : List PathStep) → element_at d p ≡ None → rank_at d p ≡ None
no_rank d [] none = refl
no_rank d (s ∷ p) none = no_rank_among false s p d.kids none

-- where there is a rank, an element stands at it
pub record AtRank (d : Submodel) (p : List PathStep) (n : ℕ) : Type 0 where
  pub element : Element
  pub found : element_at d p ≡ Some element
  pub stands : StandsAt (rows_of_all d.kids 1) 1 n element

pub at_rank : (d : Submodel) (p : List PathStep) (n : ℕ) → rank_at d p ≡ Some n → AtRank d p n
at_rank d [] n is = absurd (cc)
at_rank d (s ∷ p) n is = by (element_among false s p d.kids) refl
  where
    by : (o : Option Element) → element_among false s p d.kids ≡ o → AtRank d (s ∷ p) n
    by None none = let lost : None ≡ Some n = sym (no_rank_among false s p d.kids none) ∙ is in absurd (cc)
    by (Some e) found =
        let there = stands_at_path false s p d.kids 1 e found in
        let same : Some there.0 ≡ Some n = sym there.1 ∙ is in
        let at : there.0 ≡ n = cc in
        record { element = e; found = found; stands = subst (λ n. StandsAt (rows_of_all d.kids 1) 1 n e) at there.2 }

-- where a path leads to no element, its depth says how far it leads
pub leads_nowhere : {A : Type 0} (d : Submodel) (p : List PathStep) (n : ℕ) (m : Missing) → element_at d p ≡ None → n ≡ depth_found d p
    → (◌≡◌ {A = Result A Lack} (Err (NoElement (record { steps = n }))) (Err (NoElement m))) ↔ LeadsNowhere d p m
leads_nowhere d p n m none depth = (
  λ same. let is : n ≡ m.steps = cc in (none, sym is ∙ depth),
  λ lost. let is : n ≡ m.steps = depth ∙ sym lost.1 in ap (λ (k : ℕ). Err (NoElement (record { steps = k }))) is,
)

-- where there is a rank, it leads somewhere
leads_somewhere : (d : Submodel) (p : List PathStep) (rank : ℕ) (m : Missing) → Some rank ≡ rank_at d p → LeadsNowhere d p m → ⊥
leads_somewhere d p rank m is lost = let none : Some rank ≡ None = is ∙ no_rank d p lost.0 in absurd (cc)

-- so an answer of another kind is right there
pub is_not_missing : {A : Type 0} (d : Submodel) (p : List PathStep) (rank : ℕ) (m : Missing) (r : Result A Lack) → Some rank ≡ rank_at d p → (r ≡ Err (NoElement m) → ⊥) → (r ≡ Err (NoElement m)) ↔ LeadsNowhere d p m
is_not_missing d p rank m r is other = (λ e. absurd (other e), λ lost. absurd (leads_somewhere d p rank m is lost))
