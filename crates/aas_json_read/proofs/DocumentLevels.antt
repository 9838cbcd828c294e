-- What a document says, from what was found among its members.
use Rattle.std.proofs.Common.{◌≡◌, ℕ, List, [], ◌∷◌, Bool, true, false, Option, Some, None, option_map, option_and_then, if◌then◌else◌, codes, bytes_eq, refl, sym, ap, ◌∙◌}
use Rattle.std.proofs.lemmas.Slice.Eq.{bytes_eq-Decides}
use Rattle.serde_json.specs.Data.{Data, null, boolean, number, string, array, object, Members}
use Rattle.serde_json.specs.Find.{get_member, as_str}
use Rattle.aas_json_table.specs.Table.{Sort, text, Row, parts, model_types}
use Rattle.aas_json_table.specs.Rows.{sorted, choose, row_named, rows_of}
use Rattle.aas_json_table.specs.Canonical.{canonical, canonical_member, canonical_object}
use Rattle.aas_json_table.specs.Spelled.{Attributes, spelled}
use Rattle.aas_json_members.proofs.Lookup.{canonical_member_is}
use Rattle.aas_json_members.proofs.Objects.{lacks}
use Rattle.aas_json_read.proofs.Rows.{Found, found_says}

-- ---- the rows of a sort with one modelType

text_is : (d : Option Data) (n : List ℕ) → option_and_then (canonical text) d ≡ Some (string n) → option_and_then as_str d ≡ Some n
text_is None n e = cc
text_is (Some null) n e = cc
text_is (Some (boolean b)) n e = cc
text_is (Some (number x)) n e = cc
text_is (Some (string s)) n e = cc
text_is (Some (array ds)) n e = cc
text_is (Some (object ms)) n e = cc

rows_named : (s : Sort) (n : List ℕ) (rows : List Row) → model_types s ≡ (n, rows) ∷ [] → (ms : Members)
    → rows_of s ms ≡ option_map sorted (option_and_then (λ m. if bytes_eq m n then Some rows else None) (option_and_then as_str (get_member (codes "modelType") ms)))
unfolding rows_of
rows_named s n rows models ms = ap (λ ks. option_map sorted (choose ks (parts s) (get_member (codes "modelType") ms))) models

pub named_rows : (s : Sort) (n : List ℕ) (rows : List Row) → model_types s ≡ (n, rows) ∷ [] → (ms : Members) → canonical_member ms (codes "modelType") text ≡ Some (string n) → rows_of s ms ≡ Some (sorted rows)
named_rows s n rows models ms e =
    let chosen : Option (List ℕ) → Option (List Row) = λ o. option_map sorted (option_and_then (λ m. if bytes_eq m n then Some rows else None) o) in
    rows_named s n rows models ms
    ∙ ap chosen (text_is (get_member (codes "modelType") ms) n (sym (canonical_member_is (codes "modelType") text ms) ∙ e))
    ∙ ap (λ b. option_map sorted (if b then Some rows else None)) ((bytes_eq-Decides n n).1 refl)

not_named : (b : Bool) (s n : List ℕ) (rows : List Row) → bytes_eq s n ≡ b → (Some (string s) ≡ Some (string n) → ⊥) → option_map sorted (if b then Some rows else None) ≡ None
not_named true s n rows is h = absurd (h (ap (λ x. Some (string x)) ((bytes_eq-Decides s n).0 is)))
not_named false s n rows is h = refl

not_text : (d : Option Data) (n : List ℕ) (rows : List Row) → (option_and_then (canonical text) d ≡ Some (string n) → ⊥)
    → option_map sorted (option_and_then (λ m. if bytes_eq m n then Some rows else None) (option_and_then as_str d)) ≡ None
not_text None n rows h = refl
not_text (Some null) n rows h = refl
not_text (Some (boolean b)) n rows h = refl
not_text (Some (number x)) n rows h = refl
not_text (Some (string s)) n rows h = not_named (bytes_eq s n) s n rows refl h
not_text (Some (array ds)) n rows h = refl
not_text (Some (object ms)) n rows h = refl

no_rows : (s : Sort) (n : List ℕ) (rows : List Row) → model_types s ≡ (n, rows) ∷ [] → (ms : Members) → (canonical_member ms (codes "modelType") text ≡ Some (string n) → ⊥) → rows_of s ms ≡ None
no_rows s n rows models ms h =
    rows_named s n rows models ms ∙ not_text (get_member (codes "modelType") ms) n rows (λ e. h (canonical_member_is (codes "modelType") text ms ∙ e))

-- ---- documents

-- What is found spells the document.
pub document_is : (s : Sort) (n : List ℕ) (rows : List Row) → model_types s ≡ (n, rows) ∷ [] → (ms : Members) → canonical_member ms (codes "modelType") text ≡ Some (string n)
    → (attributes : Attributes) → Found rows attributes (canonical_member ms) → Some (spelled rows attributes) ≡ canonical_object (rows_of s ms) (canonical_member ms)
document_is s n rows models ms e attributes found =
    found_says rows attributes (canonical_member ms) found ∙ ap (λ o. canonical_object o (canonical_member ms)) (sym (named_rows s n rows models ms e))

-- A document without what a required row names says nothing.
pub document_lacks : (s : Sort) (n : List ℕ) (rows : List Row) → model_types s ≡ (n, rows) ∷ [] → (ms : Members) → canonical_member ms (codes "modelType") text ≡ Some (string n)
    → (r : Row) → row_named r.name (sorted rows) ≡ Some r → r.required ≡ true → canonical_member ms r.name r.member_type ≡ None → None ≡ canonical_object (rows_of s ms) (canonical_member ms)
document_lacks s n rows models ms e r named required none =
    sym (ap (λ o. canonical_object o (canonical_member ms)) (named_rows s n rows models ms e) ∙ lacks (sorted rows) r.name r (canonical_member ms) named required none)

-- An object with another modelType says nothing.
pub no_document : (s : Sort) (n : List ℕ) (rows : List Row) → model_types s ≡ (n, rows) ∷ [] → (ms : Members) → (canonical_member ms (codes "modelType") text ≡ Some (string n) → ⊥)
    → None ≡ canonical_object (rows_of s ms) (canonical_member ms)
no_document s n rows models ms h = sym (ap (λ o. canonical_object o (canonical_member ms)) (no_rows s n rows models ms h))
