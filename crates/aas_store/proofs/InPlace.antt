-- The rank of the child in a place.
use Rattle.std.proofs.Common.{◌≡◌, inl, inr, ℕ, ◌+◌, ◌<◌, ◌≤◌, Bool, true, false, nat_lt, List, length, take, Option, Some, None, MatchOption, option_and_then, option_map, slice_get, refl, sym, ap, ◌∙◌, arith, if◌then◌else◌}
use Rattle.std.proofs.lemmas.Bool.{ltb-false}
use Rattle.std.proofs.lemmas.Option.{slice_get_cases, slice_get_past}
use Rattle.aas_model.specs.declared.element.Element.{Element}
use Rattle.aas_model.specs.declared.path.PathStep.TheVariants.{Place}
use Rattle.aas_path_trees.specs.ElementAt.{child_by, place_of}
use Rattle.aas_rows.specs.Children.{is_at, nth_where}
use Rattle.aas_rows.specs.Edits.{count}
use Rattle.aas_rows.specs.Rows.{rows_of_all}
use Rattle.aas_rows.proofs.Stepping.{have_child_rows, map_twice}
use Rattle.aas_store.specs.Spots.{elements_of_all}
use Rattle.aas_store.proofs.Listed.{as_many_of_all, size_front}

abbrev Child : Type 0
Child = ℕ × Element

-- a step by place from a list
by_place : (i : ℕ) (ks : List Element) → child_by true (Place i) ks ≡ option_map (λ e. (i, e)) (slice_get ks i)
unfolding child_by place_of
by_place i ks = by (nat_lt i (length ks)) refl
  where
    by : (b : Bool) → nat_lt i (length ks) ≡ b → option_and_then {U = Child} (λ (i : ℕ). option_map (λ (k : Element). (i, k)) (slice_get ks i)) (if b then Some i else None) ≡ option_map (λ e. (i, e)) (slice_get ks i)
    by true e = refl
    by false e = sym (ap (option_map (λ (e : Element). (i, e))) (slice_get_past ks i (ltb-false i (length ks) e)))

pub rank_in_place : (ks : List Element) (k i : ℕ) → nth_where (is_at k) i (rows_of_all ks k) ≡ option_map (λ (e : Element). count (take i ks)) (slice_get ks i)
rank_in_place ks k i =
    have_child_rows true (Place i) ks k ∙ ap (option_map (λ (c : Child). count (take c.0 ks))) (by_place i ks)
    ∙ map_twice (λ (c : Child). count (take c.0 ks)) (λ (e : Element). (i, e)) (slice_get ks i)

pub no_rank : (ks : List Element) (i : ℕ) → length ks ≤ i → None ≡ nth_where (is_at 1) i (rows_of_all ks 1)
no_rank ks i past = sym (rank_in_place ks 1 i ∙ ap (option_map (λ (e : Element). count (take i ks))) (slice_get_past ks i past))

-- the rank is how many elements stand before
pub ranked : (r : Option ℕ) (ks : List Element) (i : ℕ) → i < length ks → count ks ≤ 65536
    → MatchOption r (65536 < 0 + length (elements_of_all (take i ks))) (λ n. n ≡ 0 + length (elements_of_all (take i ks))) → r ≡ nth_where (is_at 1) i (rows_of_all ks 1)
ranked None ks i within few more = let front = size_front ks i in let all = as_many_of_all ks in absurd (omega (arith, front, all, few, more))
ranked (Some n) ks i within few is =
    let before = as_many_of_all (take i ks) in
    let at : n ≡ count (take i ks) = omega (arith, before, is) in
    elim (slice_get_cases ks i).1 [
      | inl here ↦ ap (λ n. Some n) at ∙ sym (rank_in_place ks 1 i ∙ ap (option_map (λ (e : Element). count (take i ks))) here.2)
      | inr past ↦ let beyond = past.0 in absurd (omega (arith, beyond, within))
    ]
