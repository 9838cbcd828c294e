-- A name to which no child leads repeats none of theirs.
use Rattle.std.proofs.Common.{◌≡◌, ℕ, ◌||◌, Bool, true, false, cond, if◌then◌else◌, nat_lt, List, [], ◌∷◌, length, map, filter_map, bytes_eq, Option, Some, None, refl, ap, ◌∙◌, get_or}
use Rattle.std.specs.Prelude.{find, is_none}
use Rattle.std.specs.List.{cons_option, position_or_len}
use Rattle.std.proofs.lemmas.Bool.{ltb-false}
use Rattle.std.proofs.lemmas.List.Folds.{find_at}
use Rattle.std.proofs.lemmas.List.Quantifiers.{position-Some}
use Rattle.std.proofs.lemmas.Option.{slice_get_past, slice_get-get_or}
use Rattle.aas_lemmas.proofs.Truth.{bytes_eq-unlike}
use Rattle.aas_model.specs.declared.element.Element.{Element}
use Rattle.aas_constraint_rules.specs.Rules.{holds, is_repeat, name_of, rules}
use Rattle.aas_constraint_rules.specs.Sites.{Own, own_of, stands_in_list}
use Rattle.aas_constraint_rules.specs.Texts.{is_among}
use Rattle.aas_path_trees.specs.Children.{id_short_of}
use Rattle.aas_path_trees.specs.ElementAt.{is_text, place_named}
use Rattle.aas_constraint_laws.proofs.Places.{each_passes}
use Rattle.aas_edit_faults.specs.Laws.{IsNewName}
use Rattle.aas_edit_faults.proofs.Earlier.{if_then}
use Rattle.aas_edit_faults.proofs.Level.{at_root, broken_at, faults_among, none_own}
use Rattle.aas_edit_faults.proofs.Siblings.{before, none_at}

abbrev is_named : List ℕ → Element → Bool
is_named n k = is_text n (id_short_of k)

names_of : List Element → List (List ℕ)
names_of ks = filter_map name_of (map own_of ks)

found_none : (n : List ℕ) (ks : List Element) → find (is_named n) ks ≡ None → is_among n (names_of ks) ≡ false
unfolding names_of
found_none n [] e = refl
found_none n (k ∷ ks) e = by_name (id_short_of k) (found_none n ks) e
  where
    by_text : (m : List ℕ) (x : Bool) → bytes_eq m n ≡ x → (find (is_named n) ks ≡ None → is_among n (names_of ks) ≡ false)
        → cond x (Some k) (find (is_named n) ks) ≡ None → is_among n (m ∷ names_of ks) ≡ false
    by_text m true same more e = absurd (cc)
    by_text m false other more e = ap (λ x. x || is_among n (names_of ks)) (bytes_eq-unlike m n other) ∙ more e

    by_name : (o : Option (List ℕ)) → (find (is_named n) ks ≡ None → is_among n (names_of ks) ≡ false)
        → cond (is_text n o) (Some k) (find (is_named n) ks) ≡ None → is_among n (cons_option o (names_of ks)) ≡ false
    by_name None more e = more e
    by_name (Some m) more e = by_text m (bytes_eq m n) refl more e

past : (x : Bool) (i : ℕ) → (if x then Some i else None) ≡ None → x ≡ false
past true i e = absurd (cc)
past false i e = refl

pub new_name : (ks : List Element) (n : Option (List ℕ)) → IsNewName ks n → is_repeat (map own_of ks) n ≡ false
unfolding names_of
new_name ks None new = refl
new_name ks (Some n) new =
    let i = position_or_len (is_named n) ks in
    found_none n ks (find_at (is_named n) ks ∙ slice_get_past ks i (ltb-false i (length ks) (past (nat_lt i (length ks)) i new)))

-- ---- in a list

no_text : (n : List ℕ) (o : Option (List ℕ)) → is_none o ≡ true → is_text n o ≡ true → ⊥
no_text n None e f = absurd (cc)
no_text n (Some m) e f = absurd (cc)

unnamed : (t : Bool) (a : Option Own) (b : List Own) (o : Own) → stands_in_list a ≡ true → broken_at t a b o ≡ [] → is_none (name_of o) ≡ true
unfolding broken_at
unnamed t a b o in_list e =
    if_then (stands_in_list a) (is_none (name_of o)) (each_passes (λ s. holds s (at_root t a b o)) rules e).1.1.1.1.1.1.1.1.1.1.1.1.1.0 in_list

-- the children of a list without faults have no names
pub names_in_list : (t : Bool) (a : Option Own) (ks : List Element) (n : Option (List ℕ)) → stands_in_list a ≡ true → faults_among t a [] ks ≡ [] → IsNewName ks n
names_in_list t a ks None in_list none = tt
names_in_list t a [] (Some n) in_list none = refl
names_in_list t a (x ∷ ks) (Some n) in_list none = by_place (place_named n (x ∷ ks)) refl
  where
    named_at : (i : ℕ) → place_named n (x ∷ ks) ≡ Some i → ⊥
    named_at i is =
        let found = position-Some (is_named n) (x ∷ ks) i x is in
        let k = get_or (x ∷ ks) i x in
        let clean = none_at t a [] (x ∷ ks) i k none (slice_get-get_or (x ∷ ks) i x found.0) in
        let b = before [] (x ∷ ks) i in
        no_text n (id_short_of k) (unnamed t a b (own_of k) in_list (none_own t a b k clean)) found.1

    by_place : (place : Option ℕ) → place_named n (x ∷ ks) ≡ place → place_named n (x ∷ ks) ≡ None
    by_place None is = is
    by_place (Some i) is = absurd (named_at i is)
