-- A valid submodel with few elements is one that a store takes.
use Rattle.std.proofs.Common.{◌≡◌, ℕ, zero, suc, ◌≤◌, Bool, true, List, [], ◌∷◌, map, length, slice_get, Option, Some}
use Rattle.std.proofs.Common.{None, option_and_then, refl, subst, arith, ltb-false}
use Rattle.std.specs.Prelude.{◌&&◌, nat_le}
use Rattle.std.specs.List.{list_all}
use Rattle.std.proofs.lemmas.Bool.{and_parts}
use Rattle.std.proofs.lemmas.Bool.Decides.{nat_tests}
use Rattle.aas_json_table.specs.TooDeep.{limits}
use Rattle.aas_json_spelling.specs.Lists.{most}
use Rattle.aas_json_mapping.specs.Whole.{element_levels, has_whole_parts, is_member, is_placed, is_whole_element}
use Rattle.aas_json_mapping.specs.Whole.{whole_head, whole_qualifier, whole_semantics}
use Rattle.aas_model.specs.declared.documents.Submodel.{Submodel}
use Rattle.aas_model.specs.declared.element.Element.{Element, fold_out-Element, out-Element}
use Rattle.aas_path_trees.specs.Children.{kids_of}
use Rattle.aas_path_trees.specs.Places.{element_in, element_in_all}
use Rattle.aas_constraint_laws.proofs.Siblings.{own_names, own_names_below}
use Rattle.aas_constraint_laws.proofs.StaysWhole.{all_at}
use Rattle.aas_constraint_laws.specs.Valid.{IsValid}
use Rattle.aas_constraint_rules.specs.Faults.{submodel}
use Rattle.aas_path_trees.specs.Patched.{element_count}
use Rattle.aas_step.specs.Laws.{ValidIsStorable}

-- ---- levels

at_most : {A : Type 0} (f : A → ℕ) (xs : List A) (i : ℕ) (x : A) → slice_get xs i ≡ Some x → f x ≤ most (map f xs)
at_most f [] i x at = absurd (cc)
at_most f (y ∷ ys) zero x at = let same : y ≡ x = cc in subst (λ z. f z ≤ most (map f (y ∷ ys))) same (omega arith)
at_most f (y ∷ ys) (suc i) x at = let more = at_most f ys i x at in omega (arith, more)

levels_out : (e : Element) → element_levels e ≡ suc (most (map element_levels (kids_of e)))
levels_out e = fold_out-Element ℕ (λ x. suc (most x.kids)) e

in_child : (q : List ℕ) (ks : List Element) (i : ℕ) (e : Element) (found : Option Element)
    → slice_get ks i ≡ found → option_and_then (element_in q) found ≡ Some e
    → ((k : Element) → element_in q k ≡ Some e → suc (length q) ≤ element_levels k)
    → suc (length q) ≤ most (map element_levels ks)
in_child q ks i e None is there below = absurd (cc)
in_child q ks i e (Some k) is there below =
    let low = below k there in
    let high = at_most element_levels ks i k is in
    omega (arith, low, high)

-- a place within an element is shorter than the element has levels
within : (q : List ℕ) (o e : Element) → element_in q o ≡ Some e → suc (length q) ≤ element_levels o
unfolding element_in
within [] o e there = let is = levels_out o in omega (arith, is)
within (i ∷ q) o e there =
    let low = in_child q (kids_of o) i e (slice_get (kids_of o) i) refl there (λ k. within q k e) in
    let is = levels_out o in
    omega (arith, low, is)

kids_whole : (d : Submodel) → IsValid (submodel d) → list_all (is_whole_element limits) d.kids ≡ true
kids_whole d valid =
    (and_parts
    (whole_head limits d.head && whole_semantics limits d.semantics && list_all (whole_qualifier limits) d.qualifiers)
    (list_all (is_whole_element limits) d.kids) valid.whole).1

at_limit : (n : ℕ) → nat_le n 30 ≡ true → n ≤ 30
at_limit n e = grind (arith, nat_tests)

levels_few : (e : Element) → is_whole_element limits e ≡ true → element_levels e ≤ 30
levels_few e whole =
    let few : Bool = nat_le (element_levels e) 30 in
    let child = (and_parts (is_member (out-Element e).role) (has_whole_parts limits e && is_placed e && few) whole).1 in
    at_limit (element_levels e) (and_parts (has_whole_parts limits e && is_placed e) few child).1

place_short : (d : Submodel) (q : List ℕ) (e : Element)
    → IsValid (submodel d) → element_in_all q d.kids ≡ Some e → length q ≤ 30
place_short d [] e valid there = omega arith
place_short d (i ∷ q) e valid there = under (slice_get d.kids i) refl there
  where
    under : (found : Option Element)
        → slice_get d.kids i ≡ found → option_and_then (element_in q) found ≡ Some e → suc (length q) ≤ 30
    under None is below = absurd (cc)
    under (Some k) is below =
        let low = within q k e below in
        let few = levels_few k (all_at (is_whole_element limits) d.kids i k (kids_whole d valid) is) in
        omega (arith, low, few)

-- ---- the law

pub valid_is_storable : ValidIsStorable
valid_is_storable d valid few = record {
  few = ltb-false 65536 (element_count d) few;
  shallow = λ q e there. place_short d q e valid there;
  own_names = λ i j k m n at_i at_j first second. own_names d i j k m n valid.faultless at_i at_j first second;
  own_names_below = λ q e there i j k m n at_i at_j first second.
      own_names_below d q e i j k m n valid.faultless there at_i at_j first second;
}
