-- Names that rise, so that no two are alike.
use Rattle.std.proofs.Common.{◌≡◌, ℕ, Bool, true, false, ◌||◌, List, [], ◌∷◌, ◌++◌, length, get_or, map, filter_map, bytes_eq, Option, Some, None, ◌+◌, ◌<◌, subst, refl, sym, ap, ap₂, ◌∙◌, arith}
use Rattle.std.specs.Bool.{MatchBool, OnTrue}
use Rattle.std.specs.Cmp.{IsTotalOrder}
use Rattle.std.specs.Cmp.Lexicographic.{slice_cmp}
use Rattle.std.specs.List.{AllAdjacentBelow, AllByRecursion, IsDistinct, cons_option}
use Rattle.std.specs.Option.{option_map, unwrap_or}
use Rattle.std.specs.Ordering.{nat_cmp, eq_by_cmp, is_lt}
use Rattle.std.specs.Str.{encode_utf8_all}
use Rattle.std.specs.declared.cmp.Ordering.{Ordering}
use Rattle.std.specs.declared.cmp.Ordering.TheVariants.{Less}
use Rattle.std.proofs.lemmas.Bool.{both_ways, false_from_ne_true}
use Rattle.std.proofs.lemmas.Cmp.{lists_total, nat_cmp_total, on_total}
use Rattle.std.proofs.Math.ListN.{get_or-map}
use Rattle.std.proofs.lemmas.List.{length-map}
use Rattle.std.proofs.lemmas.Map.Keys.{IsDistinct-from_sorted, IsDistinct-head, IsDistinct-tail, sorted_from_all_adjacent}
use Rattle.std.proofs.lemmas.Map.Text.{is_eq-slice_cmp}
use Rattle.std.proofs.lemmas.Slice.Eq.{bytes_eq-Decides}
use Rattle.aas_lemmas.proofs.Truth.{Less-from_is_lt}
use Rattle.aas_model.specs.declared.element.Element.{Element}
use Rattle.aas_constraint_rules.specs.Rules.{is_repeat, name_of}
use Rattle.aas_constraint_rules.specs.Sites.{Own, own_of}
use Rattle.aas_constraint_rules.specs.Texts.{is_among}
use Rattle.aas_constraint_parts.specs.Repeats.{NoRepeats}

-- by what a name is compared: none counts as the empty text
abbrev key : Option (List ℕ) → List ℕ
key name = let text = unwrap_or (option_map encode_utf8_all name) [] in length text ∷ text

abbrev pub by_name : Own → Own → Ordering
by_name p o = slice_cmp nat_cmp (key (name_of p)) (key (name_of o))

by_name_total : IsTotalOrder by_name
by_name_total = on_total (λ o. key (name_of o)) (lists_total nat_cmp_total)

abbrev are_same : Own → Own → Bool
are_same = eq_by_cmp by_name

-- names whose keys differ aren't alike
unlike : (p o : Own) (m n : List ℕ) → name_of p ≡ Some m → name_of o ≡ Some n → are_same p o ≡ false → bytes_eq n m ≡ false
unlike p o m n is_m is_n apart = false_from_ne_true (bytes_eq n m) (λ e.
    let names : name_of p ≡ name_of o = is_m ∙ ap Some (sym ((bytes_eq-Decides n m).0 e)) ∙ sym is_n in
    both_ways (are_same p o) apart (is_eq-slice_cmp (key (name_of p)) (key (name_of o)) ∙ (bytes_eq-Decides _ _).1 (ap key names)))

middle : (P : Own → Type 0) (b : List Own) (o : Own) (rest : List Own) → AllByRecursion P (b ++ o ∷ rest) → P o
middle P [] o rest all = all.0
middle P (p ∷ b) o rest all = middle P b o rest all.1

either_false : (b c : Bool) → b ≡ false → c ≡ false → b || c ≡ false
either_false b c e f = cc

none_before : (b : List Own) (o : Own) (rest : List Own) (name : Option (List ℕ)) → name_of o ≡ name
    → IsDistinct are_same (b ++ o ∷ rest) → is_repeat b name ≡ false
none_before b o rest None e d = refl
none_before [] o rest (Some n) e d = refl
none_before (p ∷ b) o rest (Some n) e d = by (name_of p) refl (none_before b o rest (Some n) e (IsDistinct-tail _ p _ d))
  where
    by : (m : Option (List ℕ)) → name_of p ≡ m → is_among n (filter_map name_of b) ≡ false
        → is_among n (cons_option m (filter_map name_of b)) ≡ false
    by None at more = more
    by (Some m) at more = either_false _ _ (unlike p o m n at e (middle _ b o rest (IsDistinct-head _ p _ d))) more

-- each name is less than the next
abbrev pub Rise : List Element → Type 0
Rise es = AllAdjacentBelow (λ x y. true ≡ is_lt (by_name (own_of x) (own_of y))) es (length es)

distinct : (es : List Element) → Rise es → IsDistinct are_same (map own_of es)
unfolding IsDistinct
distinct [] each = tt
distinct (e ∷ es) each = IsDistinct-from_sorted by_name os (sorted_from_all_adjacent by_name_total os (own_of e) rising)
  where
    os : List Own
    os = map own_of (e ∷ es)

    rising : (k : ℕ) → k + 1 < length os → by_name (get_or os k (own_of e)) (get_or os (k + 1) (own_of e)) ≡ Less
    rising k lt =
        ap₂ by_name (get_or-map own_of (e ∷ es) k e) (get_or-map own_of (e ∷ es) (k + 1) e)
        ∙ Less-from_is_lt _ (sym (each k e (omega (arith, length-map (e ∷ es) own_of))))

pub no_repeats : (es : List Element) (b : Bool) (Other : Type 0) → MatchBool b (Rise es) Other → OnTrue b (NoRepeats (map own_of es))
no_repeats es true Other each = λ b o rest e. none_before b o rest (name_of o) refl (subst (IsDistinct are_same) e (distinct es each))
no_repeats es false Other some = tt
