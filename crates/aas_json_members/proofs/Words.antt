-- The value of an enumeration that a word of the table is the name of.
use Rattle.std.proofs.Common.{◌≡◌, ℕ, List, true, false, Option, Some, None, option_map, if◌then◌else◌, bytes_eq, ◌↔◌, refl, sym, ap, ◌∙◌}
use Rattle.std.specs.List.{find}
use Rattle.serde_json.specs.Data.{string}
use Rattle.aas_model_names.specs.Names.{names_of}
use Rattle.aas_json_table.specs.Names.{has}
use Rattle.aas_json_table.proofs.NameLemmas.{has_found, has_none}

-- what a name finds is spelled by that name
pub word_is : {V : Type 0} (f : V → List ℕ) (all : List V) → ((v : V) → find (λ u. bytes_eq (f u) (f v)) all ≡ Some v)
    → (s : List ℕ) (r : Option V) → ((v : V) → (r ≡ Some v) ↔ (s ≡ f v)) → option_map (λ v. string (f v)) r ≡ (if has (names_of f all) s then Some (string s) else None)
word_is f all found s (Some v) h =
    let same : s ≡ f v = (h v).0 refl in
    let known : has (names_of f all) s ≡ true = ap (has (names_of f all)) same ∙ has_found f (f v) v all (found v) in
    ap (λ t. Some (string t)) (sym same) ∙ ap (λ b. if b then Some (string s) else None) (sym known)
word_is f all found s None h =
    let unknown : has (names_of f all) s ≡ false = has_none f s (λ v e. let no : ◌≡◌ {A = Option _} None (Some v) = (h v).1 e in cc) all in
    ap (λ b. if b then Some (string s) else None) (sym unknown)
