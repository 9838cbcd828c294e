-- A place that 64 bits don't hold leads nowhere, as the greatest that they hold does.
use Rattle.std.proofs.Common.{◌≡◌, inl, inr, ◌⊎◌, ℕ, ◌+◌, ◌-◌, ◌<◌, ◌≤◌, ◌^◌, Bool, true, false, cond}
use Rattle.std.proofs.Common.{List, length, take, get_or, slice_get, Option, Some, None, option_map, option_and_then}
use Rattle.std.proofs.Common.{refl, sym, ap, ◌∙◌, subst, arith}
use Rattle.std.specs.Prelude.{IfSome, ltb, min}
use Rattle.std.proofs.Math.Nat.{min-eq_left, min-eq_right}
use Rattle.std.proofs.lemmas.Bool.{le-ltb, lt-ltb, ltb-false, ltb-true}
use Rattle.std.proofs.lemmas.List.{length-take-le}
use Rattle.std.proofs.lemmas.Option.{slice_get_cases}
use Rattle.aas_model.specs.Element.{kind_of}
use Rattle.aas_model.specs.declared.documents.Submodel.{Submodel}
use Rattle.aas_model.specs.declared.element.Element.{Element}
use Rattle.aas_model.specs.declared.path.PathStep.{PathStep}
use Rattle.aas_model.specs.declared.path.PathStep.TheVariants.{Name, Place}
use Rattle.aas_model.specs.declared.reference.Key.{Key}
use Rattle.aas_path_trees.specs.Children.{kids_of, is_list}
use Rattle.aas_path_trees.specs.ElementAt.{child_by, place_of}
use Rattle.aas_store.proofs.Listed.{as_many_of_all}
use Rattle.aas_store.specs.Spots.{elements_of_all, spot_among, spot_below}
use Rattle.aas_store.specs.declared.spot.Spot.{Spot}
use Rattle.aas_resolve.specs.Resolved.{capped, child_named, if_admitted, is_list_at, rank_of, step_spelled}
use Rattle.aas_resolve.proofs.Preorder.{few_first}

-- the greatest place of 64 bits
abbrev last_place : ℕ
last_place = 2 ^ 64 - 1

-- a child's rank has 64 bits
abbrev HasRank : Option Spot → Type 0
HasRank o = IfSome o (λ s. s.rank < 2 ^ 64)

-- ---- among children

within : List Element → ℕ → Bool → Option (ℕ × Element)
within ks n b = option_and_then (λ i. option_map (λ k. (i, k)) (slice_get ks i)) (cond b (Some n) None)

none_past : (ks : List Element) (n : ℕ) → length ks ≤ n → child_by true (Place n) ks ≡ None
unfolding child_by place_of within
none_past ks n past = ap (within ks n) (le-ltb n (length ks) past)

one_within : (ks : List Element) (n : ℕ) (k : Element) → n < length ks → slice_get ks n ≡ Some k
    → child_by true (Place n) ks ≡ Some (n, k)
unfolding child_by place_of within
one_within ks n k lt at = ap (within ks n) (lt-ltb n (length ks) lt) ∙ ap (option_map (λ k. (n, k))) at

abbrev spot_from : List Element → ℕ → ℕ × Element → Spot
spot_from ks first c = record { rank = first + length (elements_of_all (take c.0 ks)); kind = kind_of c.1 }

-- at least as many elements stand before a child as children
stand_before : (ks : List Element) (n : ℕ) → n < length ks → n ≤ length (elements_of_all (take n ks))
stand_before ks n lt =
    let fewer = few_first (take n ks) in
    let same = as_many_of_all (take n ks) in
    let taken = length-take-le n ks (omega (arith, lt)) in
    omega (arith, fewer, same, taken)

among : (l : Bool) (ks : List Element) (first m n : ℕ) → m ≤ n → 2 ^ 64 ≤ first + m
    → HasRank (spot_among l ks first (Place m)) → spot_among l ks first (Place m) ≡ spot_among l ks first (Place n)
unfolding child_by place_of
among false ks first m n le far ranked = refl
among true ks first m n le far ranked = by (slice_get_cases ks m).1
  where
    by : ((x : Element) × (m < length ks) × (slice_get ks m ≡ Some x) × (get_or ks m x ≡ x))
        ⊎ ((length ks ≤ m) × (slice_get ks m ≡ None))
        → spot_among true ks first (Place m) ≡ spot_among true ks first (Place n)
    by (inl here) =
        let found = one_within ks m here.0 here.1 here.2 in
        let rank = subst (λ o. HasRank (option_map (spot_from ks first) o)) found ranked in
        let before = stand_before ks m here.1 in
        absurd (omega (arith, rank, before, far))
    by (inr past) =
        let none = none_past ks n (omega (arith, past.0, le)) in
        ap (option_map (spot_from ks first)) (none_past ks m past.0 ∙ sym none)

-- ---- in a submodel

-- the child in a place below an element of a rank
abbrev spot_in : ℕ → ℕ → Option Element → Option Spot
spot_in i n o = option_and_then (λ e. spot_among (is_list e) (kids_of e) (i + 1) (Place n)) o

below_one : (i n : ℕ) → last_place ≤ n → (o : Option Element) → HasRank (spot_in i last_place o)
    → spot_in i last_place o ≡ spot_in i n o
below_one i n far None ranked = refl
below_one i n far (Some e) ranked = among (is_list e) (kids_of e) (i + 1) last_place n far (omega arith) ranked

below : (d : Submodel) (from : Option ℕ) (n : ℕ) → last_place ≤ n → HasRank (spot_below d from (Place last_place))
    → spot_below d from (Place last_place) ≡ spot_below d from (Place n)
unfolding child_by place_of
below d None n far ranked = refl
below d (Some i) n far ranked = below_one i n far (slice_get (elements_of_all d.kids) i) ranked

-- the capped step leads to the child to which the step leads
capped_child : (d : Submodel) (from : Option ℕ) (s : PathStep) → HasRank (spot_below d from (capped s))
    → spot_below d from (capped s) ≡ spot_below d from s
capped_child d from (Name name) ranked = refl
capped_child d from (Place n) ranked = by (ltb n last_place) refl
  where
    by : (b : Bool) → ltb n last_place ≡ b → spot_below d from (capped (Place n)) ≡ spot_below d from (Place n)
    by true is =
        let lt = ltb-true n last_place is in
        ap (λ n. spot_below d from (Place n)) (min-eq_right (omega (arith, lt)))
    by false is =
        let far = ltb-false n last_place is in
        let last : min last_place n ≡ last_place = min-eq_left far in
        ap (λ n. spot_below d from (Place n)) last
        ∙ below d from n far (subst (λ n. HasRank (spot_below d from (Place n))) last ranked)

-- ---- the child that a key names

named_in : (d : Submodel) (at : Option Spot) (k : Key) (s : PathStep) (spelled : Option PathStep)
    → step_spelled (is_list_at at) k.value ≡ spelled → Some s ≡ option_map capped spelled
    → HasRank (spot_below d (rank_of at) s)
    → option_and_then (if_admitted k.key_type) (spot_below d (rank_of at) s) ≡ child_named d at k
named_in d at k s None is sought ranked = absurd (cc)
named_in d at k s (Some t) is sought ranked =
    let from = rank_of at in
    let same : s ≡ capped t = cc in
    let found : spot_below d from s ≡ spot_below d from t =
    ap (spot_below d from) same ∙ capped_child d from t (subst (λ s. HasRank (spot_below d from s)) same ranked) in
    ap (option_and_then (if_admitted k.key_type)) found
    ∙ ap (option_and_then (λ s. option_and_then (if_admitted k.key_type) (spot_below d from s))) (sym is)

-- what is found by the capped step is the child that the key names, where its kind is admitted
pub named_by : (o : Option Submodel) (at : Option Spot) (k : Key) (l : Bool) (s : PathStep) (from : Option ℕ)
    (found r : Option Spot) → l ≡ is_list_at at → from ≡ rank_of at
    → Some s ≡ option_map capped (step_spelled l k.value)
    → found ≡ option_and_then (λ d. spot_below d from s) o → HasRank found
    → r ≡ option_and_then (if_admitted k.key_type) found → r ≡ option_and_then (λ d. child_named d at k) o
named_by None at k l s from found r list parent sought is ranked end =
    end ∙ ap (option_and_then (if_admitted k.key_type)) is
named_by (Some d) at k l s from found r list parent sought is ranked end =
    let there : found ≡ spot_below d (rank_of at) s = is ∙ ap (λ from. spot_below d from s) parent in
    let spelled : Some s ≡ option_map capped (step_spelled (is_list_at at) k.value) =
    sought ∙ ap (λ l. option_map capped (step_spelled l k.value)) list in
    end ∙ ap (option_and_then (if_admitted k.key_type)) there
    ∙ named_in d at k s (step_spelled (is_list_at at) k.value) refl spelled (subst HasRank there ranked)
