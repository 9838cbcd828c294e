-- The rows of an element, by the kind that its modelType names.
use Rattle.std.proofs.Common.{◌≡◌, ℕ, List, [], ◌∷◌, Bool, true, false, Option, Some, None, option_map, option_and_then, if◌then◌else◌, bytes_eq, codes, refl, sym, ap, ◌∙◌, true≢false}
use Rattle.std.specs.List.{list_all}
use Rattle.std.proofs.lemmas.Slice.Eq.{bytes_eq-Decides}
use Rattle.serde_json.specs.Data.{Data, null, boolean, number, string, array, object, Members}
use Rattle.serde_json.specs.Find.{get_member, as_str}
use Rattle.aas_model_names.specs.KindNames.{name_of, names, is_data_element}
use Rattle.aas_model_names.specs.declared.kind.Kind.{Kind}
use Rattle.aas_model_names.specs.declared.kind.Kind.TheVariants as kind
use Rattle.aas_json_table.specs.Names.{has}
use Rattle.aas_json_table.specs.Table.{element, data_element, word, text, Row, model_types}
use Rattle.aas_json_table.specs.Rows.{find, sorted, choose, rows_of}
use Rattle.aas_json_table.specs.Canonical.{canonical, canonical_member}
use Rattle.aas_lemmas.proofs.Truth.{and_left, and_right}
use Rattle.aas_json_members.proofs.Lookup.{canonical_member_is}
use Rattle.aas_json_mapping.specs.Elements.{rows_for}
use Rattle.aas_model.specs.declared.element.Role.{Role}
use Rattle.aas_model.specs.declared.element.Role.TheVariants as role
use Rattle.aas_json_read.specs.Own.{elements_under, may_have}

-- ---- the value under modelType

word_of : (b : Bool) (s n : List ℕ) → Some (string n) ≡ (if b then Some (string s) else None) → s ≡ n
word_of true s n e = cc
word_of false s n e = cc

named : (d : Option Data) (n : List ℕ) → Some (string n) ≡ option_and_then (canonical (word names)) d → d ≡ Some (string n)
named None n e = cc
named (Some null) n e = cc
named (Some (boolean b)) n e = cc
named (Some (number x)) n e = cc
named (Some (string s)) n e = ap (λ x. Some (string x)) (word_of (has names s) s n e)
named (Some (array ds)) n e = cc
named (Some (object ms)) n e = cc

-- what modelType is, where it is the name of a kind
pub model_type_is : (ms : Members) (k : Kind) → Some (string (name_of k)) ≡ canonical_member ms (codes "modelType") (word names) → get_member (codes "modelType") ms ≡ Some (string (name_of k))
model_type_is ms k e = named (get_member (codes "modelType") ms) (name_of k) (e ∙ canonical_member_is (codes "modelType") (word names) ms)

pub found_name : (ms : Members) (k : Kind) → Some (string (name_of k)) ≡ canonical_member ms (codes "modelType") (word names) → Some (string (name_of k)) ≡ canonical_member ms (codes "modelType") text
found_name ms k e = sym (canonical_member_is (codes "modelType") text ms ∙ ap (option_and_then (canonical text)) (model_type_is ms k e))

-- ---- the name of no kind

no_first : (b : Bool) (s n : List ℕ) (ns : List (List ℕ)) → bytes_eq s n ≡ b → has ns n ≡ true → has ns s ≡ false → b ≡ false
no_first true s n ns is there none = absurd (true≢false (sym there ∙ ap (has ns) (sym ((bytes_eq-Decides s n).0 is)) ∙ none))
no_first false s n ns is there none = refl

-- what is no name finds nothing under names
none_found : (s : List ℕ) (ns : List (List ℕ)) (xs : List (List ℕ × List Row)) → list_all (λ (x : List ℕ × List Row). has ns x.0) xs ≡ true → has ns s ≡ false → find s xs ≡ None
none_found s ns [] there none = refl
none_found s ns (x ∷ xs) there none =
    ap (λ b. if b then Some x.1 else find s xs) (no_first (bytes_eq s x.0) s x.0 ns refl (and_left (has ns x.0) _ there) none)
    ∙ none_found s ns xs (and_right (has ns x.0) _ there) none

no_word : (b : Bool) (s : List ℕ) → None ≡ (if b then Some (string s) else None) → b ≡ false
no_word true s e = cc
no_word false s e = refl

unnamed : (d : Option Data) (xs : List (List ℕ × List Row)) → list_all (λ (x : List ℕ × List Row). has names x.0) xs ≡ true → None ≡ option_and_then (canonical (word names)) d
    → option_and_then (λ n. find n xs) (option_and_then as_str d) ≡ None
unnamed None xs there e = refl
unnamed (Some null) xs there e = refl
unnamed (Some (boolean b)) xs there e = refl
unnamed (Some (number x)) xs there e = refl
unnamed (Some (string s)) xs there e = none_found s names xs there (no_word (has names s) s e)
unnamed (Some (array ds)) xs there e = refl
unnamed (Some (object ms)) xs there e = refl

none_under : (ms : Members) → None ≡ canonical_member ms (codes "modelType") (word names) → None ≡ option_and_then (canonical (word names)) (get_member (codes "modelType") ms)
none_under ms e = e ∙ canonical_member_is (codes "modelType") (word names) ms

-- where modelType names no kind, there are no rows
pub no_rows : (r : Role) (ms : Members) → None ≡ canonical_member ms (codes "modelType") (word names) → None ≡ rows_of (elements_under r) ms
unfolding rows_of
no_rows role.Annotation ms e = sym (ap (option_map sorted) (unnamed (get_member (codes "modelType") ms) (model_types data_element) refl (none_under ms e)))
no_rows r ms e = sym (ap (option_map sorted) (unnamed (get_member (codes "modelType") ms) (model_types element) refl (none_under ms e)))

-- ---- the name of a kind

kind_rows : (k : Kind) → find (name_of k) (model_types element) ≡ Some (rows_for (name_of k))
kind_rows kind.Property = refl
kind_rows k = refl

data_rows : (k : Kind) → is_data_element k ≡ true → find (name_of k) (model_types data_element) ≡ Some (rows_for (name_of k))
data_rows kind.Property e = refl
data_rows kind.MultiLanguageProperty e = refl
data_rows kind.Range e = refl
data_rows kind.File e = refl
data_rows kind.Blob e = refl
data_rows kind.ReferenceElement e = refl
data_rows k e = absurd (true≢false (sym e))

no_data_rows : (k : Kind) → is_data_element k ≡ false → find (name_of k) (model_types data_element) ≡ None
no_data_rows kind.Property e = absurd (true≢false e)
no_data_rows kind.MultiLanguageProperty e = absurd (true≢false e)
no_data_rows kind.Range e = absurd (true≢false e)
no_data_rows kind.File e = absurd (true≢false e)
no_data_rows kind.Blob e = absurd (true≢false e)
no_data_rows kind.ReferenceElement e = absurd (true≢false e)
no_data_rows k e = refl

-- where modelType names a kind that may have the role, its rows are those of the kind
pub rows_are : (r : Role) (ms : Members) (k : Kind) → may_have k r ≡ true → Some (string (name_of k)) ≡ canonical_member ms (codes "modelType") (word names)
    → Some (sorted (rows_for (name_of k))) ≡ rows_of (elements_under r) ms
unfolding rows_of
rows_are role.Annotation ms k may e =
    sym (ap (λ d. option_map sorted (choose (model_types data_element) [] d)) (model_type_is ms k e) ∙ ap (option_map sorted) (data_rows k may))
rows_are r ms k may e =
    sym (ap (λ d. option_map sorted (choose (model_types element) [] d)) (model_type_is ms k e) ∙ ap (option_map sorted) (kind_rows k))

-- where it names another kind, there are none
pub rows_are_none : (r : Role) (ms : Members) (k : Kind) → may_have k r ≡ false → Some (string (name_of k)) ≡ canonical_member ms (codes "modelType") (word names) → None ≡ rows_of (elements_under r) ms
unfolding rows_of
rows_are_none role.Annotation ms k may e =
    sym (ap (λ d. option_map sorted (choose (model_types data_element) [] d)) (model_type_is ms k e) ∙ ap (option_map sorted) (no_data_rows k may))
rows_are_none r ms k may e = absurd (true≢false may)
