-- The rows of an object are those of its class, or what the metadata form shows of them.
use Rattle.std.proofs.Common.{◌≡◌, ℕ, List, [], ◌∷◌, map, filter, Option, Some, None, option_map, option_and_then, codes, bytes_eq, Bool, true, false, if◌then◌else◌, refl, sym, ap}
use Rattle.serde_json.specs.Data.{Members}
use Rattle.serde_json.specs.Find.{get_member, as_str}
use Rattle.aas_json_table.specs.Rows.{find, sorted, rows_of}
use Rattle.aas_json_table.specs.Seen.{counts, class_sort, is_metadata}
use Rattle.aas_json_table.specs.Table.{Sort, submodel, element, submodel_metadata, element_metadata, Row, metadata_of, shown, model_types}

all_count : (rows : List Row) → filter (counts false) rows ≡ rows
all_count [] = refl
all_count (r ∷ rs) = ap (λ xs. r ∷ xs) (all_count rs)

same : (o : Option (List Row)) → o ≡ option_map (filter (counts false)) o
same None = refl
same (Some rows) = ap Some (sym (all_count rows))

-- what is shown of some rows is sorted as they are
abbrev SortAlike : List (List ℕ × List Row) → Type 0
SortAlike [] = Unit {0}
SortAlike (k ∷ ks) = (sorted (shown k.1) ≡ shown (sorted k.1)) × SortAlike ks

by_name : (ks : List (List ℕ × List Row)) → SortAlike ks → (n : List ℕ) → option_map sorted (find n (map metadata_of ks)) ≡ option_map shown (option_map sorted (find n ks))
by_name [] alike n = refl
by_name (k ∷ ks) alike n = by_test (bytes_eq n k.0) (by_name ks alike.1 n)
  where
    by_test : (b : Bool) → option_map sorted (find n (map metadata_of ks)) ≡ option_map shown (option_map sorted (find n ks))
        → option_map sorted (if b then Some (shown k.1) else find n (map metadata_of ks)) ≡ option_map shown (option_map sorted (if b then Some k.1 else find n ks))
    by_test true later = ap Some alike.0
    by_test false later = later

by_text : (ks : List (List ℕ × List Row)) → SortAlike ks → (o : Option (List ℕ))
    → option_map sorted (option_and_then (λ n. find n (map metadata_of ks)) o) ≡ option_map shown (option_map sorted (option_and_then (λ n. find n ks) o))
by_text ks alike None = refl
by_text ks alike (Some n) = by_name ks alike n

of_submodels : (ms : Members) → rows_of submodel_metadata ms ≡ option_map shown (rows_of submodel ms)
unfolding rows_of
of_submodels ms = by_text (model_types submodel) (refl, tt) (option_and_then as_str (get_member (codes "modelType") ms))

pub of_elements : (ms : Members) → rows_of element_metadata ms ≡ option_map shown (rows_of element ms)
unfolding rows_of
of_elements ms =
    by_text (model_types element) (refl, (refl, (refl, (refl, (refl, (refl, (refl, (refl, (refl, (refl, (refl, (refl, (refl, (refl, tt)))))))))))))) (option_and_then as_str (get_member (codes "modelType") ms))

-- The rows of an object, by those of its class.
pub rows_by_class : (s : Sort) (ms : Members) → rows_of s ms ≡ option_map (filter (counts (is_metadata s))) (rows_of (class_sort s) ms)
rows_by_class submodel_metadata ms = of_submodels ms
rows_by_class element_metadata ms = of_elements ms
rows_by_class s ms = same (rows_of s ms)
